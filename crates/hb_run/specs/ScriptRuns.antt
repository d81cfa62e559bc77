-- What do the lines of a script do and write, one after the other, and what was done and written if
-- a run stops? Lines stand in their order.
use Rattle.std.specs.Prelude.{◌≡◌, ◌≤◌, ◌⊎◌, ℕ, Bool, List, [], ◌∷◌, ◌++◌, Option, Some, length, slice_get, take}
use Rattle.std.specs.Io.KnownBytes.{Appends}
use Rattle.hb_io.specs.declared.got.Got.{Got}
use Rattle.hb_club.specs.Fronts.{AllGoOn, House}
use Rattle.hb_house.specs.declared.reports.ClerkError.{ClerkError}
use Rattle.hb_house.specs.declared.reports.ClerkError.TheVariants as clerk
use Rattle.hb_talk.specs.declared.scripts.ScriptLine.{ScriptLine}
use Rattle.hb_talk.specs.declared.scripts.ScriptLine.TheVariants as line
use Rattle.hb_run.specs.declared.ends.RunEnd.{RunEnd}
use Rattle.hb_run.specs.declared.ends.RunEnd.TheVariants.{KeyDiffers, NoMemory, UsedUp, WriteFault, Worn}
use Rattle.hb_run.specs.RunLines.{ClerkHalts, LineRuns, RunState}
use Rattle.hb_run.specs.WrittenFronts.{AppendsFront, IsWriteEnd}

-- lines in order

-- a line, and then others
pub record LineAndOthers (IsLine : RunState → List ℕ → Type 0)
    (AreOthers : RunState → RunState → List ℕ → Type 0) (after : RunState) (text : List ℕ)
    : Type 0 where
  pub between : RunState
  pub first : List ℕ
  pub line : IsLine between first
  pub rest : List ℕ
  pub others : AreOthers between after rest
  pub joined : text ≡ first ++ rest

-- the lines lead from one state to another, and write this text
abbrev pub Runs : House → ℕ → Bool → List ScriptLine → RunState → RunState → List ℕ → Type 0
Runs h count alone [] before after text = (after ≡ before) × (text ≡ [])
Runs h count alone (l ∷ lines) before after text =
    LineAndOthers (LineRuns h count alone l before) (Runs h count alone lines) after text

-- all lines were run, and their text was written; `Left` says what holds of the state that is left
pub record RunsAll (Left : RunState → Type 0) (h : House) (count : ℕ) (alone : Bool)
    (lines : List ScriptLine) (begin : RunState) (before after : Option (List ℕ)) : Type 0 where
  pub state : RunState
  pub text : List ℕ
  pub runs : Runs h count alone lines begin state text
  pub left : Left state
  pub written : Appends before after text

-- a run that stops

-- the next line is the clerk's, and the clerk stopped for this cause
pub record ClerkEnds (h : House) (count : ℕ) (alone : Bool) (why : ClerkError)
    (next : Option ScriptLine) (before left : RunState) : Type 0 where
  pub moment : ℕ
  pub is : next ≡ Some (line.Clerk moment)
  pub halts : ClerkHalts h count alone moment why before left
  pub faulted : left.faulted ≡ before.faulted

-- the next line is a connection's, and wrote nothing: its own call may have come to the lists, and
-- events of others
pub record TurnEnds (next : Option ScriptLine) (before left : RunState) : Type 0 where
  pub moment : ℕ
  pub conn : ℕ
  pub got : Got
  pub is : next ≡ Some (line.Says moment conn got)
  pub on : AllGoOn before.fronts left.fronts
  pub rest : left ≡ record before { fronts = left.fronts }

-- why a run stopped at its next line, of which nothing was written; the states are those before it
-- and behind it
abbrev pub HaltsBy : House → ℕ → Bool → RunEnd → Option ScriptLine → RunState → RunState → Type 0
HaltsBy h count alone WriteFault next before left = ⊥
HaltsBy h count alone (KeyDiffers id) next before left =
    ClerkEnds h count alone (clerk.KeyDiffers id) next before left
HaltsBy h count alone UsedUp next before left =
    ClerkEnds h count alone clerk.UsedUp next before left
HaltsBy h count alone Worn next before left =
    TurnEnds next before left ⊎ ClerkEnds h count alone clerk.Worn next before left
HaltsBy h count alone NoMemory next before left =
    TurnEnds next before left ⊎ ClerkEnds h count alone clerk.NoMemory next before left

-- the next line stopped behind lines whose whole text was written
pub record Halted (h : House) (count : ℕ) (alone : Bool) (why : RunEnd)
    (next : Option ScriptLine) (state rest : RunState) (before after : Option (List ℕ))
    (text : List ℕ) : Type 0 where
  pub halts : HaltsBy h count alone why next state rest
  pub written : Appends before after text

-- writing stopped within the text of lines
pub record CutOff (why : RunEnd) (state rest : RunState) (before after : Option (List ℕ))
    (text : List ℕ) : Type 0 where
  pub writing : IsWriteEnd why
  pub same : rest ≡ state
  pub written : AppendsFront before after text

-- the first lines were run, and then the run stopped for this cause; `Left` says what holds of the
-- state that is left
pub record RunsSome (Left : RunState → Type 0) (h : House) (count : ℕ) (alone : Bool)
    (lines : List ScriptLine) (begin : RunState) (before after : Option (List ℕ)) (why : RunEnd)
    : Type 0 where
  pub done : ℕ
  pub within : done ≤ length lines
  pub state : RunState
  pub text : List ℕ
  pub runs : Runs h count alone (take done lines) begin state text
  pub rest : RunState
  pub left : Left rest
  pub ends : Halted h count alone why (slice_get lines done) state rest before after text
      ⊎ CutOff why state rest before after text
