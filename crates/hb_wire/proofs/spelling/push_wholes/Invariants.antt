use Rattle.std.proofs.Common.{◌≡◌, ◌++◌, map, take}
use Rattle.std.specs.Prelude.{string_bytes}
use Rattle.serde_json.specs.Written.{comma_if}
use Rattle.hb_json.specs.Values.{whole}
use Rattle.hb_wire.proofs.ItemsLemmas.{between, has_item}
use Rattle.hb_wire.proofs.spelling.push_wholes.Given as goal

abbrev pub invariant-loop-n : goal.invariant-loop-n
invariant-loop-n l = record {
  text : string_bytes l.text ≡ string_bytes l.initial.text ++ between (map whole (take l.n-index l.numbers));
  comma : l.comma ≡ comma_if (has_item (map whole (take l.n-index l.numbers)));
}
