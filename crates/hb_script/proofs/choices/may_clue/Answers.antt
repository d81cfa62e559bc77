use Rattle.std.proofs.Common.{◌≡◌, arith, false, is_some, length, refl}
use Rattle.hb_rules.specs.Result.{ended, turns}
use Rattle.hb_script.proofs.MadeLegality.{turns-all}
use Rattle.hb_script.proofs.choices.may_clue.Goals as goal

pub returns-then-tokens-gt0 : goal.returns-then-tokens-gt0
returns-then-tokens-gt0 c =
    let g = c.args.game.now in
    let e = c.requires in
    let running : is_some (ended g.setup g.past) ≡ false = rw e refl in
    let t : length g.past ≡ turns g.past = turns-all g.setup g.past c.act_count.ensures.played.legal running in
    let n = rw t at c.act_count.ensures.count in
    grind (arith, n)

pub returns-else-tokens-gt0 : goal.returns-else-tokens-gt0
returns-else-tokens-gt0 c =
    let g = c.args.game.now in
    let e = c.requires in
    let running : is_some (ended g.setup g.past) ≡ false = rw e refl in
    let t : length g.past ≡ turns g.past = turns-all g.setup g.past c.act_count.ensures.played.legal running in
    let n = rw t at c.act_count.ensures.count in
    grind (arith, n)
