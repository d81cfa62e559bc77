-- Internal: no public clause cites this.
-- Which texts tell the newest piece of a game, and how it then stands?
use Rattle.std.specs.Prelude.{ℕ, List, ◌++◌, map}
use Rattle.hb_rules.specs.Observed.{observed}
use Rattle.hb_rules.specs.Setup.{Position}
use Rattle.hb_seen.specs.Pieces.{pieces}
use Rattle.hb_wire.specs.Lines.{event_line}
use Rattle.hb_talk.specs.Streams.{newest_piece, standing_lines}

-- of the deal, or of the newest act, for a blind set; with the lines of a clock
abbrev pub piece_lines : ℕ → Position → List (List ℕ) → List (List ℕ)
piece_lines blind p clock =
    map event_line (newest_piece (pieces blind p.setup p.past))
    ++ standing_lines (observed blind p) clock
