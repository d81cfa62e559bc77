use Rattle.std.proofs.Common.{◌≡◌, take, ℕ, Option, List}
use Rattle.std.specs.List.{list_any}
use Rattle.std.specs.Prelude.{bytes_eq}
use Rattle.hb_table.proofs.lists.watches.Given as goal

abbrev pub invariant-loop-w : goal.invariant-loop-w
invariant-loop-w l = l.found ≡ list_any (λ (w : List ℕ × Option ℕ). bytes_eq l.name w.0) (take l.w-index l.watchers)
