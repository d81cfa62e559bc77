-- Which script is a text, and which line of it is the first outside the grammar?
use Rattle.std.specs.Prelude.{◌≡◌, ℕ, ◌+◌, ◌-◌, ◌*◌, ◌&&◌, ◌==◌, ⊤, List, [], ◌∷◌, Option, Some, None, Result, Ok, Err, bytes_eq, codes, drop, if◌then◌else◌, length, nat_le, take}
use Rattle.hb_rules.specs.declared.limits.TheConstants.{FEWEST_CARDS, HIGHEST_RANK, MOST_CARDS, MOST_SUITS}
use Rattle.hb_rules.specs.declared.suits.Identity.{Identity}
use Rattle.hb_talk.specs.declared.scripts.ScriptLine.{ScriptLine}
use Rattle.hb_script.specs.declared.scripts.Script.{Script}
use Rattle.hb_script.specs.declared.scripts.ScriptError.{ScriptError}
use Rattle.hb_script.specs.declared.scripts.ScriptError.TheVariants.{Line, NoMemory}
use Rattle.hb_script.specs.ScriptLines.{line_of, lines_of}

-- what stands behind a word with which a text begins; none if it does not begin so
abbrev pub behind : List ℕ → List ℕ → Option (List ℕ)
behind word text =
    if bytes_eq (take (length word) text) word then Some (drop (length word) text) else None

-- the items that pairs of bytes write; none if a pair writes none, or if the last byte is alone

abbrev pub with_item : {A : Type 0} → Option A → Option (List A) → Option (List A)
with_item (Some item) (Some items) = Some (item ∷ items)
with_item (Some item) None = None
with_item None items = None

abbrev pub by_pairs : {A : Type 0} → (ℕ → ℕ → Option A) → List ℕ → Option (List A)
by_pairs item [] = Some []
by_pairs item (a ∷ []) = None
by_pairs item (a ∷ b ∷ text) = with_item (item a b) (by_pairs item text)

-- the seed

-- the value of a hexadecimal digit in lower case
abbrev pub hex_digit : ℕ → Option ℕ
hex_digit b =
    if nat_le 48 b && nat_le b 57 then Some (b - 48)
    else (if nat_le 97 b && nat_le b 102 then Some (b - 87) else None)

abbrev pub hex_byte_of : Option ℕ → Option ℕ → Option ℕ
hex_byte_of (Some high) (Some low) = Some (16 * high + low)
hex_byte_of (Some high) None = None
hex_byte_of None low = None

-- the byte that two digits write, the higher one first
abbrev pub hex_byte : ℕ → ℕ → Option ℕ
hex_byte a b = hex_byte_of (hex_digit a) (hex_digit b)

-- the seed of a line `seed ` and 64 hexadecimal digits

abbrev pub seed_in : Option (List ℕ) → Option (List ℕ)
seed_in None = None
seed_in (Some digits) = if length digits == 64 then by_pairs hex_byte digits else None

abbrev pub seed_of : List ℕ → Option (List ℕ)
seed_of text = seed_in (behind (codes "seed ") text)

-- the deck

-- the identity of a letter and a digit: a to f for the suits, 1 to 5 for the ranks
abbrev pub identity_of : ℕ → ℕ → Option Identity
identity_of letter digit =
    if nat_le 97 letter && nat_le letter (96 + MOST_SUITS) && nat_le 49 digit
    && nat_le digit (48 + HIGHEST_RANK)
    then Some (record { suit = letter - 97; rank = digit - 48 }) else None

-- the deck of a line `deck ` and 25 to 60 identities

abbrev pub if_sized : Option (List Identity) → Option (List Identity)
if_sized None = None
if_sized (Some cards) =
    if nat_le FEWEST_CARDS (length cards) && nat_le (length cards) MOST_CARDS then Some cards
    else None

abbrev pub deck_in : Option (List ℕ) → Option (List Identity)
deck_in None = None
deck_in (Some letters) = if_sized (by_pairs identity_of letters)

abbrev pub deck_of : List ℕ → Option (List Identity)
deck_of text = deck_in (behind (codes "deck ") text)

-- the script

-- what lines say, of which the first has this number; or the number of the first that is outside
-- the grammar

abbrev pub with_line : ℕ → Option ScriptLine → Result (List ScriptLine) ℕ
    → Result (List ScriptLine) ℕ
with_line number None rest = Err number
with_line number (Some line) (Ok lines) = Ok (line ∷ lines)
with_line number (Some line) (Err bad) = Err bad

abbrev pub read_lines : ℕ → List (List ℕ) → Result (List ScriptLine) ℕ
read_lines number [] = Ok []
read_lines number (text ∷ texts) = with_line number (line_of text) (read_lines (number + 1) texts)

abbrev pub script_with : List ℕ → Option (List Identity) → Result (List ScriptLine) ℕ
    → Result Script ℕ
script_with seed written (Ok lines) =
    Ok (record { shoe = record { seed = seed; written = written }; lines = lines })
script_with seed written (Err bad) = Err bad

-- line 2 is the deck's, or else a further line
abbrev pub behind_deck : List ℕ → Option (List Identity) → List ℕ → List (List ℕ)
    → Result Script ℕ
behind_deck seed (Some cards) second more = script_with seed (Some cards) (read_lines 3 more)
behind_deck seed None second more = script_with seed None (read_lines 2 (second ∷ more))

abbrev pub behind_seed : Option (List ℕ) → List (List ℕ) → Result Script ℕ
behind_seed None texts = Err 1
behind_seed (Some seed) [] = script_with seed None (Ok [])
behind_seed (Some seed) (text ∷ texts) = behind_deck seed (deck_of text) text texts

abbrev pub script_in : List (List ℕ) → Result Script ℕ
script_in [] = Err 1
script_in (text ∷ texts) = behind_seed (seed_of text) texts

-- the script that a text is: a line with a seed, one with a deck or none, and further lines; or the
-- number of its first line outside the grammar
unfoldable pub script_of : List ℕ → Result Script ℕ
script_of text = script_in (lines_of text)

-- why a text is not read
abbrev pub IsUnread : List ℕ → ScriptError → Type 0
IsUnread text (Line number) = script_of text ≡ Err number
IsUnread text NoMemory = ⊤
