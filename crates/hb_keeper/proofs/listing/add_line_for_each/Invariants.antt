use Rattle.std.proofs.Common.{take}
use Rattle.std.specs.Prelude.{bytes_eq}
use Rattle.std.specs.List.{list_any}
use Rattle.hb_keeper.specs.Listing.{ListedFor}
use Rattle.hb_keeper.proofs.listing.add_line_for_each.Given as goal

abbrev pub invariant-loop-name : goal.invariant-loop-name
invariant-loop-name l =
    ListedFor (λ name. list_any (bytes_eq name) (take l.name-index l.names)) l.initial.lists l.lists l.line
