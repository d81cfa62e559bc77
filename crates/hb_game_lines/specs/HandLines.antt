-- What are the lines of hands for a viewer, as functions of what the viewer has observed? A line
-- shows of each card what the viewer's blind set together with the seat of the hand can tell.
use Rattle.std.specs.Prelude.{ℕ, List, ◌++◌, codes, flat_map, map}
use Rattle.std.specs.List.{range_with_len}
use Rattle.hb_rules.specs.Deals.{possible}
use Rattle.hb_rules.specs.Observed.{Observed, with_seat}
use Rattle.hb_rules.specs.Positions.{hand}
use Rattle.hb_sight.specs.Seen.{seen_position}
use Rattle.hb_wire.specs.Lines.{hand_line}

-- the orders, each with the numbers of the identities that are possible for it
abbrev pub with_possible : Observed → List ℕ → List (ℕ × List ℕ)
with_possible seen orders = map (λ order. (order, possible seen order)) orders

-- the line of a seat's hand: each of its cards with the possible identities
unfoldable pub hand_line_of : Observed → ℕ → List ℕ
hand_line_of seen seat =
    hand_line seat (with_possible (with_seat seen seat) (hand (seen_position seen) seat))

-- the lines of the hands of the seats below a number, in order of seats
abbrev pub hand_lines_below : Observed → ℕ → List ℕ
hand_lines_below seen count =
    flat_map (λ seat. hand_line_of seen seat ++ codes "\n") (range_with_len 0 count)

-- the lines of all hands
abbrev pub hand_lines_of : Observed → List ℕ
hand_lines_of seen = hand_lines_below seen seen.players
