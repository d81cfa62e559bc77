-- Which times does a game have that may start?
use Rattle.std.proofs.Common.{◌≡◌, ℕ, ◌≤◌, true}
use Rattle.std.specs.Prelude.{◌&&◌, not, nat_le, nat_lt}
use Rattle.std.proofs.lemmas.Bool.{and_parts, leb-true}
use Rattle.hb_rules.specs.declared.acts.Options.{Options}
use Rattle.hb_rules.specs.declared.limits.TheConstants.{MOST_SECONDS}
use Rattle.hb_rules.specs.Start.{are_options}

-- times that are in range
pub are_options-times : (n : ℕ) (o : Options) → are_options n o ≡ true → (o.base_s ≤ MOST_SECONDS) × (o.per_turn_s ≤ MOST_SECONDS)
are_options-times n o is =
    let all : ((nat_lt o.starting n && not (o.extra_card && o.less_card) && nat_le o.base_s MOST_SECONDS) ≡ true)
    × (nat_le o.per_turn_s MOST_SECONDS ≡ true) =
    and_parts (nat_lt o.starting n && not (o.extra_card && o.less_card) && nat_le o.base_s MOST_SECONDS)
    (nat_le o.per_turn_s MOST_SECONDS) is in
    let base : ((nat_lt o.starting n && not (o.extra_card && o.less_card)) ≡ true) × (nat_le o.base_s MOST_SECONDS ≡ true) =
    and_parts (nat_lt o.starting n && not (o.extra_card && o.less_card)) (nat_le o.base_s MOST_SECONDS) all.0 in
    (leb-true o.base_s MOST_SECONDS base.1, leb-true o.per_turn_s MOST_SECONDS all.1)
