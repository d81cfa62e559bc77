use Rattle.std.proofs.Common.{◌≡◌, ◌++◌, map, take}
use Rattle.std.specs.Prelude.{string_bytes}
use Rattle.serde_json.specs.Written.{comma_if}
use Rattle.hb_wire.specs.Lines.{listed, set_data}
use Rattle.hb_wire.proofs.ItemsLemmas.{between, has_item}
use Rattle.hb_wire.proofs.hand.push_sets.Given as goal

abbrev pub invariant-loop-card : goal.invariant-loop-card
invariant-loop-card l = record {
  text : string_bytes l.text
      ≡ string_bytes l.initial.text ++ between (map set_data (map listed (take l.card-index l.cards)));
  comma : l.comma ≡ comma_if (has_item (map set_data (map listed (take l.card-index l.cards))));
}
