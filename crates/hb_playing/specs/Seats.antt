-- Which seat has a member, by the names of the players?
use Rattle.std.specs.Prelude.{ℕ, List, [], Option, Some, None, if◌then◌else◌, length, nat_lt, slice_index_or, unwrap_or}
use Rattle.hb_rules.specs.declared.limits.TheConstants.{MOST_PLAYERS}
use Rattle.hb_club.specs.Seating.{place_from, some_names}

-- the seat of a player; of anybody else a number that is no seat
abbrev pub seat_in : Option (List (Option (List ℕ))) → List ℕ → ℕ
seat_in names member = unwrap_or (place_from 0 member (some_names names)) MOST_PLAYERS

-- the name at a place, if there is one
abbrev pub nth_name : List (List ℕ) → ℕ → Option (List ℕ)
nth_name names i = if nat_lt i (length names) then Some (slice_index_or names i []) else None
