use Rattle.std.proofs.Common.{List, All, refl, subst, sym}
use Rattle.std.proofs.lemmas.List.Elements.{All-nil}
use Rattle.hb_talk.specs.declared.scripts.ScriptLine.{ScriptLine}
use Rattle.hb_talk.specs.Scripts.{HasConnection}
use Rattle.hb_script.proofs.MadePlay.{zeros}
use Rattle.hb_script.proofs.tables.TableLines.new.Goals as goal

pub returns : goal.returns
returns c = record {
  table = refl;
  lines = c.new-lines.ensures;
  conns = subst (λ (l : List ScriptLine). All HasConnection l) (sym c.new-lines.ensures) (All-nil HasConnection);
  members = refl;
  numbers = λ member low. zeros member 6;
}
