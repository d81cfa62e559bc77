use Rattle.std.proofs.Common.{◌≡◌, ℕ, List, Option, take}
use Rattle.std.specs.Prelude.{filter_map}
use Rattle.hb_view.proofs.started.names_of.Given as goal

abbrev pub invariant-loop-name : goal.invariant-loop-name
invariant-loop-name l = l.texts ≡ filter_map (λ (name : Option (List ℕ)). name) (take l.name-index l.names)
