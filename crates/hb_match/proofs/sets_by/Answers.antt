use Rattle.std.proofs.Common.{subst}
use Rattle.hb_match.specs.declared.Verdict.{Verdict}
use Rattle.hb_match.specs.declared.Verdict.TheVariants.{Blocked}
use Rattle.hb_match.specs.Verdict.{Decides}
use Rattle.hb_match.proofs.SetsLemmas.{all_empty}
use Rattle.hb_match.proofs.sets_by.Goals as goal

pub returns-in-Blocked-clause-sets : goal.returns-in-Blocked-clause-sets
returns-in-Blocked-clause-sets c =
    let d : Decides c.args.masks.now c.args.left.now (Blocked c.in-Blocked.cards c.in-Blocked.ids) =
    let P : Verdict → Type 0 = λ v. Decides c.args.masks.now c.args.left.now v in subst P c.in-Blocked.is c.requires.found in
    all_empty c.args.masks.now c.args.left.now c.empty_sets.result.items c.empty_sets.ensures.empty d.1
