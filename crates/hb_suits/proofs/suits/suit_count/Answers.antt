use Rattle.std.proofs.Common.{◌≡◌, arith, rules}
use Rattle.hb_rules.specs.Cards.{suit_count}
use Rattle.hb_rules.proofs.SuitCount.{suit_count-many}
use Rattle.hb_suits.proofs.suits.suit_count.Goals as goal

pub returns-clause-many : goal.returns-clause-many
returns-clause-many c =
    let count : c.count.result ≡ suit_count c.args.variant.now = search rules in
    omega (arith, count, suit_count-many c.args.variant.now)
