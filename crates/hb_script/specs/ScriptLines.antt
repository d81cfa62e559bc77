-- Which lines has a text, and what does a line of a script say, behind those of its seed and deck?
use Rattle.std.specs.Prelude.{ℕ, ◌+◌, ◌-◌, ◌*◌, Bool, true, false, ◌&&◌, ◌==◌, List, [], ◌∷◌, Option, Some, None, codes, if◌then◌else◌, nat_le, option_map, bytes_eq}
use Rattle.std.specs.Char.{is_ascii_digit}
use Rattle.std.specs.Str.{is_utf8}
use Rattle.hb_timer.specs.declared.timing.TheConstants.{MOMENT_LIMIT}
use Rattle.hb_io.specs.declared.got.Got.{Got}
use Rattle.hb_io.specs.declared.got.Got.TheVariants as got
use Rattle.hb_talk.specs.declared.scripts.TheConstants.{MOST_CONNECTION}
use Rattle.hb_talk.specs.declared.scripts.ScriptLine.{ScriptLine}
use Rattle.hb_talk.specs.declared.scripts.ScriptLine.TheVariants as line

-- the lines of a text: each ends with a line feed, which the last may lack

abbrev pub with_byte : Bool → ℕ → List (List ℕ) → List (List ℕ)
with_byte true feed lines = [] ∷ lines
with_byte false b [] = (b ∷ []) ∷ []
with_byte false b (line ∷ lines) = (b ∷ line) ∷ lines

abbrev pub lines_of : List ℕ → List (List ℕ)
lines_of [] = []
lines_of (b ∷ bytes) = with_byte (b == 10) b (lines_of bytes)

-- the bytes before the first space, and those behind it; none without a space

abbrev pub with_front : Bool → ℕ → List ℕ → Option (List ℕ × List ℕ) → Option (List ℕ × List ℕ)
with_front true space bytes parts = Some ([], bytes)
with_front false b bytes None = None
with_front false b bytes (Some parts) = Some (b ∷ parts.0, parts.1)

abbrev pub at_space : List ℕ → Option (List ℕ × List ℕ)
at_space [] = None
at_space (b ∷ bytes) = with_front (b == 32) b bytes (at_space bytes)

-- numbers: decimal digits without leading zeros

-- the number that digits write behind those of another number; none if a byte is no digit
abbrev pub digits : ℕ → List ℕ → Option ℕ
digits value [] = Some value
digits value (b ∷ bytes) = if is_ascii_digit b then digits (value * 10 + (b - 48)) bytes else None

-- the word is empty, or begins with a zero that is not the whole of it
abbrev pub is_padded : List ℕ → Bool
is_padded [] = true
is_padded (b ∷ []) = false
is_padded (b ∷ c ∷ bytes) = b == 48

abbrev pub number_of : List ℕ → Option ℕ
number_of word = if is_padded word then None else digits 0 word

-- a number from the least to the most that may stand there
abbrev pub within : ℕ → ℕ → Option ℕ → Option ℕ
within least most None = None
within least most (Some n) = if nat_le least n && nat_le n most then Some n else None

abbrev pub moment_of : List ℕ → Option ℕ
moment_of word = within 0 MOMENT_LIMIT (number_of word)

abbrev pub conn_of : List ℕ → Option ℕ
conn_of word = within 1 MOST_CONNECTION (number_of word)

-- the lines: `MOMENT clerk`, `MOMENT CONN ~`, which is a tick, and `MOMENT CONN MESSAGE`

-- what a connection gives: nothing at a tick, else a message, which is text and not empty
abbrev pub got_of : List ℕ → Option Got
got_of [] = None
got_of (b ∷ bytes) =
    if bytes_eq (b ∷ bytes) (codes "~") then Some got.Idle
    else (if is_utf8 (b ∷ bytes) then Some (got.Text (b ∷ bytes)) else None)

abbrev pub said_by : ℕ → Option ℕ → List ℕ → Option ScriptLine
said_by moment None message = None
said_by moment (Some conn) message = option_map (line.Says moment conn) (got_of message)

abbrev pub said_in : ℕ → Option (List ℕ × List ℕ) → Option ScriptLine
said_in moment None = None
said_in moment (Some parts) = said_by moment (conn_of parts.0) parts.1

abbrev pub line_at : Option ℕ → List ℕ → Option ScriptLine
line_at None rest = None
line_at (Some moment) rest =
    if bytes_eq rest (codes "clerk") then Some (line.Clerk moment)
    else said_in moment (at_space rest)

abbrev pub line_in : Option (List ℕ × List ℕ) → Option ScriptLine
line_in None = None
line_in (Some parts) = line_at (moment_of parts.0) parts.1

-- what a line says; none if it is outside the grammar
unfoldable pub line_of : List ℕ → Option ScriptLine
line_of text = line_in (at_space text)
