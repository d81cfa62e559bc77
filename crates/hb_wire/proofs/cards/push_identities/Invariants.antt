use Rattle.std.proofs.Common.{◌≡◌, ◌++◌, take}
use Rattle.std.specs.Prelude.{string_bytes}
use Rattle.hb_wire.specs.Lines.{identities_text}
use Rattle.hb_wire.proofs.cards.push_identities.Given as goal

abbrev pub invariant-loop-id : goal.invariant-loop-id
invariant-loop-id l = string_bytes l.text ≡ string_bytes l.initial.text ++ identities_text (take l.id-index l.ids)
