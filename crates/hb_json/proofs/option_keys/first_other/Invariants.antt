use Rattle.std.proofs.Common.{◌≡◌}
use Rattle.serde_json.specs.View.{members_view}
use Rattle.hb_json.specs.OptionKey.{first_other}
use Rattle.hb_json.proofs.option_keys.first_other.Given as goal

abbrev pub invariant-loop-name : goal.invariant-loop-name
invariant-loop-name l = first_other (members_view l.name-iterator) ≡ first_other (members_view l.initial.name-iterator)
