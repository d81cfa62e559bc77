use Rattle.std.proofs.Common.{◌≡◌, map, take}
use Rattle.hb_json.specs.Values.{whole}
use Rattle.serde_json.specs.View.{view}
use Rattle.hb_wire.proofs.stream.numbers_value.Given as goal

abbrev pub invariant-loop-n : goal.invariant-loop-n
invariant-loop-n l = map view l.items.items ≡ map whole (take l.n-index l.numbers)
