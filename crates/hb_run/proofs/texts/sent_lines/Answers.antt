use Rattle.std.proofs.Common.{◌∙◌, ◌++◌, ℕ, List, add-one, ap, sym, take}
use Rattle.std.specs.Prelude.{codes, decimal}
use Rattle.hb_talk.specs.Scripts.{sent}
use Rattle.hb_run.proofs.SentLemmas.{sent-suc}
use Rattle.hb_run.proofs.texts.sent_lines.Goals as goal

pub loop-text-preserved : goal.loop-text-preserved
loop-text-preserved c =
    let i : ℕ = c.loop-text.text-index in
    let texts : List (List ℕ) = c.args.texts.now in
    rw add-one (c.in_ok-write.ensures.bytes
    ∙ (ap (λ (l : List ℕ). l ++ (decimal c.args.conn ++ (codes " " ++ (c.as_str-text.result.now ++ codes "\n")))) c.loop-text.invariant
    ∙ (ap (λ (t : List ℕ). sent c.args.conn (take i texts) ++ (decimal c.args.conn ++ (codes " " ++ (t ++ codes "\n"))))
    (c.as_str-text.ensures ∙ c.text-item.is)
    ∙ sym (sent-suc c.args.conn i texts c.text-item.result c.loop-text-test.true))))
