use Rattle.std.proofs.Common.{◌≡◌, drop}
use Rattle.hb_club.specs.Seating.{shadow_of}
use Rattle.hb_table.proofs.lists.shadow.Given as goal

abbrev pub invariant-loop-w : goal.invariant-loop-w
invariant-loop-w l = shadow_of l.name l.watchers ≡ shadow_of l.name (drop l.w-index l.watchers)
