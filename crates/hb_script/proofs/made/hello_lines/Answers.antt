use Rattle.std.proofs.Common.{List, [], ◌∷◌, ◌++◌, ◌∙◌, All, ap, arith, map, subst, sym}
use Rattle.std.proofs.lemmas.List.Elements.{All-push}
use Rattle.std.proofs.lemmas.List.FromFn.{map-range_with_len_more}
use Rattle.std.specs.List.{range_with_len}
use Rattle.hb_talk.specs.declared.scripts.ScriptLine.{ScriptLine}
use Rattle.hb_talk.specs.Scripts.{HasConnection}
use Rattle.hb_script.specs.MadeScripts.{hello_line}
use Rattle.hb_script.proofs.made.hello_lines.Goals as goal

pub loop-member-preserved : goal.loop-member-preserved
loop-member-preserved c =
    record {
      is = c.in_ok-push.ensures.ok ∙ ap (λ (l : List ScriptLine). l ++ c.in_ok-hello_line.field-0 ∷ []) c.loop-member.invariant.is
          ∙ ap (λ (x : ScriptLine). map hello_line (range_with_len 0 c.loop-member.member) ++ x ∷ []) c.in_ok-hello_line.ensures.is
          ∙ sym (map-range_with_len_more hello_line 0 c.loop-member.member c.loop-member.member (omega arith));
      conns = subst (λ (l : List ScriptLine). All HasConnection l) (sym c.in_ok-push.ensures.ok)
          (All-push HasConnection c.loop-member.lines c.in_ok-hello_line.field-0 c.loop-member.invariant.conns
          c.in_ok-hello_line.ensures.conn);
    }
