-- Internal: no public clause cites this.
-- How far has a script been read?
use Rattle.std.specs.Prelude.{◌≡◌, ℕ, suc, Bool, true, false, ◌==◌, ⊤, List, [], ◌∷◌, ◌++◌, Option, Some, None, Result, Ok, Err}
use Rattle.hb_talk.specs.declared.scripts.ScriptLine.{ScriptLine}
use Rattle.hb_script.specs.declared.scripts.Script.{Script}
use Rattle.hb_script.specs.declared.scripts.ScriptError.{ScriptError}
use Rattle.hb_script.specs.declared.scripts.ScriptError.TheVariants.{Line, NoMemory}
use Rattle.hb_script.specs.ScriptGrammar.{read_lines}
use Rattle.hb_script.specs.ScriptLines.{lines_of}

-- the place of the first byte of a kind, or the number of bytes if there is none

abbrev pub place_by : Bool → ℕ → ℕ
place_by true behind = 0
place_by false behind = suc behind

abbrev pub place_of : ℕ → List ℕ → ℕ
place_of wanted [] = 0
place_of wanted (b ∷ bytes) = place_by (b == wanted) (place_of wanted bytes)

abbrev pub feed_at : List ℕ → ℕ
feed_at = place_of 10

-- what was read stands before what is read of the rest

abbrev pub items_behind : {A : Type 0} → List A → Option (List A) → Option (List A)
items_behind before (Some items) = Some (before ++ items)
items_behind before None = None

abbrev pub lines_behind : List ScriptLine → Result (List ScriptLine) ℕ
    → Result (List ScriptLine) ℕ
lines_behind before (Ok lines) = Ok (before ++ lines)
lines_behind before (Err bad) = Err bad

-- why a reading has no script, and why further lines are not read

abbrev pub IsUnreadAs : Result Script ℕ → ScriptError → Type 0
IsUnreadAs reading (Line number) = reading ≡ Err number
IsUnreadAs reading NoMemory = ⊤

abbrev pub IsUnreadFrom : ℕ → List ℕ → ScriptError → Type 0
IsUnreadFrom first text (Line number) = read_lines first (lines_of text) ≡ Err number
IsUnreadFrom first text NoMemory = ⊤
