use Rattle.std.proofs.Common.{◌≡◌, ◌≤◌, Some, drop}
use Rattle.hb_club.specs.Seating.{place_from, some_names}
use Rattle.hb_playing.proofs.seats.place.Given as goal

abbrev pub invariant-loop-name : goal.invariant-loop-name
invariant-loop-name l =
    (place_from 0 l.member (some_names (Some l.names)) ≡ place_from l.seat l.member (some_names (Some (drop l.name-index l.names))))
    × (l.seat ≤ l.name-index)
