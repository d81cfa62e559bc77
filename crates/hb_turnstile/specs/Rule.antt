-- Internal: no public clause cites this.
-- What holds of a turnstile's table between any two atomic steps, and what does each step tell the
-- pass that takes it? Word 0 is the ticket that is given next, word 1 the ticket that is served.
-- The one slot has the machine, and is out with the pass that has found its turn, if there is one.
-- The number of a pass is that of its seat.
use Rattle.std.specs.Prelude.{◌≡◌, ◌≢◌, ℕ, ◌<◌, ◌≤◌, Bool, true, false, List, [], ◌∷◌, ◌++◌, length, Option, Some}
use mathlib.Core.Option.{some}
use mathlib.Core.List.{IsPrefix}
use lib.ListN.{get_elem?}
use Rattle.atomic_table.specs.Table.{State, Me, Step}
use Rattle.atomic_table.specs.Seated.{TableId}
use Rattle.hb_turnstile.specs.declared.turnstile.TheConstants.{MOST_TICKETS}
use Rattle.hb_turnstile.specs.declared.view.Entry.{Entry}
use Rattle.hb_turnstile.specs.declared.view.Stage.{Stage}
use Rattle.hb_turnstile.specs.declared.view.Stage.TheVariants.{Spent, New, Idle, Waiting, Inside}
use Rattle.hb_turnstile.specs.declared.view.View.{View}
use Rattle.hb_turnstile.specs.History.{entry, calls_by, Leads, IsLegal}
use Rattle.hb_turnstile.specs.Known.{Known, longer}

-- the ticket that a pass waits for, or that is served to it
abbrev pub ticket_of : Stage → ℕ
ticket_of (Waiting t) = t
ticket_of (Inside t) = t
ticket_of _ = 0

-- a seat at this table, which has the two words of a turnstile
abbrev pub IsSeated : TableId → TableId → Type 0
IsSeated seat table = (seat ≡ table) × (table.words ≡ 2)

-- the seat of a pass: what the pass knows, and the slots that it has
abbrev pub PassSeat : Type 0 → Type 0 → Type 0 → Type 0
PassSeat M C R = Me (Option M) (View C R)

-- Views, and what changes in them
module _ {C R : Type 0} where
  -- what the pass at a seat of this table knows
  abbrev pub known_of : TableId → View C R → Known C R
  known_of table v = record { table = table; number = v.number; seen = v.seen; worn = v.worn }

  -- the first pass: it has seen nothing
  abbrev pub first_view : View C R
  first_view = record { stage = Idle; number = 0; seen = []; joined = []; worn = false }

  -- a pass that was joined into another
  abbrev pub spent : View C R
  spent = record { stage = Spent; number = 0; seen = []; joined = []; worn = false }

  -- a new pass, which has no number yet
  abbrev pub newcomer : View C R → View C R
  newcomer v = record v { stage = New; joined = [] }

  -- the new pass, with its number
  abbrev pub with_number : ℕ → View C R → View C R
  with_number n v = record v { stage = Idle; number = n }

  -- the pass, at this stage of a call
  abbrev pub at_stage : Stage → View C R → View C R
  at_stage stage v = record v { stage = stage }

  -- the pass, with the mark worn
  abbrev pub marked : View C R → View C R
  marked v = record v { worn = true }

  -- the pass, at this stage of a call, which has seen this history
  abbrev pub with_seen : Stage → List (Entry C R) → View C R → View C R
  with_seen stage es v = record v { stage = stage; seen = es }

  -- the pass, and beside what it has seen what another had seen
  abbrev pub informed : View C R → View C R → View C R
  informed v other = record v { joined = other.seen }

  -- the pass, which has seen the longer of the two
  abbrev pub met : View C R → View C R
  met v = record v { seen = longer v.seen v.joined; joined = [] }

-- What stands between two steps: both words, the calls that were handed on, whether a pass has
-- found its turn and the number of that pass, and the number of the pass that drew each ticket
pub record Now (C R : Type 0) : Type 0 where
  pub ticket : ℕ
  pub serving : ℕ
  pub history : List (Entry C R)
  pub busy : Bool
  pub inside : ℕ
  pub holder : ℕ → ℕ

-- What holds of the pass at a seat, by its number and what it has seen
module _ {C R : Type 0} (now : Now C R) (seat number : ℕ) (seen : List (Entry C R)) where
  -- it has its seat's number, and has seen all its own calls
  abbrev pub SeesOwn : Type 0
  SeesOwn = (number ≡ seat) × (calls_by seat now.history ≡ calls_by seat seen)

  -- What holds at each stage. Who waits for a ticket is the pass that drew it, so no two wait for
  -- one. Who is inside has seen the whole history
  abbrev pub FitsStage : Stage → Type 0
  FitsStage Spent = Unit {0}
  FitsStage New = (number ≢ seat) × (calls_by seat now.history ≡ [])
  FitsStage Idle = SeesOwn
  FitsStage (Waiting t) =
      SeesOwn × (now.serving ≤ t) × (t < now.ticket) × (now.holder t ≡ seat)
      × (now.busy ≡ true → t ≢ now.serving)
  FitsStage (Inside t) =
      SeesOwn × (t ≡ now.serving) × (now.busy ≡ true) × (now.inside ≡ seat)
      × (seen ≡ now.history)

-- What holds of the pass at a seat. What it has seen begins the history, and it has the mark worn
-- only if all tickets were given
pub record Fits {C R : Type 0} (now : Now C R) (seat : ℕ) (v : View C R) : Type 0 where
  pub seen : IsPrefix v.seen now.history
  pub joined : IsPrefix v.joined now.history
  pub worn : v.worn ≡ true → now.ticket ≡ MOST_TICKETS
  pub stage : FitsStage now seat v.number v.seen v.stage

module _ {M C R : Type 0} (turns : M → C → R → M → Type 0) (start : M) where
  -- What holds of the table between two steps. If no pass has found its turn, the slot has the
  -- machine as the history leaves it. The history is legal, and has as many calls as tickets were
  -- served. A seat that is still to come has made no calls.
  pub record IsConsistent (s : State (Option M) (View C R)) : Type 0 where
    pub now : Now C R
    pub words : s.words ≡ now.ticket ∷ now.serving ∷ []
    pub one_slot : length s.homes ≡ 1
    pub machine : now.busy ≡ false
        → (m : M) × (get_elem? s.homes 0 ≡ some (some (Some m))) × Leads turns start now.history m
    pub counted : length now.history ≡ now.serving
    pub ordered : now.serving ≤ now.ticket
    pub drawn : now.busy ≡ true → now.serving < now.ticket
    pub limited : now.ticket ≤ MOST_TICKETS
    pub legal : IsLegal turns start now.history
    pub seats : (j : ℕ) (v : View C R) → get_elem? s.views j ≡ some v → Fits now j v
    pub others : (j : ℕ) → length s.views ≤ j → calls_by j now.history ≡ []

  -- The turn was found: the history so far was seen, which has no further call of the pass, and the
  -- machine is taken as it leaves it
  abbrev pub Finds : PassSeat M C R → PassSeat M C R → Type 0
  Finds m after =
      (others : List (Entry C R)) × (machine : M)
      × (after ≡ (
        with_seen (Inside (ticket_of m.0.stage)) (m.0.seen ++ others) m.0,
        (0, Some machine)
            ∷ m.1,
      ))
      × (calls_by m.0.number others ≡ [])
      × Leads turns start (m.0.seen ++ others) machine

  -- the pass is inside, and has the machine as the history leaves it
  abbrev pub IsInside : PassSeat M C R → Type 0
  IsInside m =
      (t : ℕ) × (machine : M) × (m.0.stage ≡ Inside t) × (m.1 ≡ (0, Some machine) ∷ [])
      × Leads turns start m.0.seen machine

  -- the machine has taken its turn, and is back in the slot that the pass still has
  abbrev pub HasTurned : PassSeat M C R → C → R → Type 0
  HasTurned m c r =
      (t : ℕ) × (machine : M) × (m.0.stage ≡ Inside t) × (m.1 ≡ (0, Some machine) ∷ [])
      × Leads turns start (m.0.seen ++ entry m.0.number c r ∷ []) machine

  -- the pass has seen the longer of the two histories, both of which begin it; it is legal, and has
  -- no further call of the pass
  abbrev pub Meets : PassSeat M C R → PassSeat M C R → Type 0
  Meets m after =
      (after ≡ (met m.0, m.1))
      × IsPrefix m.0.seen (met m.0).seen × IsPrefix m.0.joined (met m.0).seen
      × IsLegal turns start (met m.0).seen
      × (calls_by m.0.number (met m.0).seen ≡ calls_by m.0.number m.0.seen)

-- What the steps tell: of a step, the seat before, the number found, and the seat after
module _ {M C R : Type 0} (turns : M → C → R → M → Type 0) (start : Option M) where
  -- a load of the serving word by a pass that waits: if its ticket is served, the turn is its
  -- own
  abbrev pub Looks : Step (Option M) → PassSeat M C R → ℕ → PassSeat M C R → Type 0
  Looks st m n after =
      (n ≡ ticket_of m.0.stage → (first : M) → start ≡ Some first → Finds turns first m after)
      × (n ≢ ticket_of m.0.stage → after ≡ m)

  -- the load after a join
  abbrev pub SeesJoined : Step (Option M) → PassSeat M C R → ℕ → PassSeat M C R → Type 0
  SeesJoined st m n after = (first : M) → start ≡ Some first → Meets turns first m after

module _ {M C R : Type 0} where
  -- the pass has drawn this ticket
  abbrev pub HasDrawn : ℕ → PassSeat M C R → PassSeat M C R → Type 0
  HasDrawn t m after = after ≡ (at_stage (Waiting t) m.0, m.1)

  -- the pass has the mark worn
  abbrev pub IsMarked : PassSeat M C R → PassSeat M C R → Type 0
  IsMarked m after = after ≡ (marked m.0, m.1)

  -- the pass has given the machine back, and its call stands at the end of the history
  abbrev pub HasHandedOn : PassSeat M C R → C → R → PassSeat M C R → Type 0
  HasHandedOn m c r after = after ≡ (with_seen Idle (m.0.seen ++ entry m.0.number c r ∷ []) m.0, [])

  -- the new pass has a number of its own, of which the history that it has seen has no call
  abbrev pub IsNumbered : PassSeat M C R → PassSeat M C R → Type 0
  IsNumbered m after =
      (number : ℕ) × (after ≡ (with_number number m.0, m.1)) × (number ≢ m.0.number)
      × (calls_by number m.0.seen ≡ [])

  -- a load of the ticket word: if all tickets were given the pass is marked, and a pass with the
  -- mark finds it so again
  abbrev pub SeesTicket : Step (Option M) → PassSeat M C R → ℕ → PassSeat M C R → Type 0
  SeesTicket st m n after =
      (MOST_TICKETS ≤ n → IsMarked m after) × (n < MOST_TICKETS → after ≡ m)
      × (m.0.worn ≡ true → MOST_TICKETS ≤ n)

  -- a draw: the ticket is the pass's if the word was the one expected
  abbrev pub Draws : Step (Option M) → PassSeat M C R → ℕ → PassSeat M C R → Type 0
  Draws st m n after = (n ≡ st.first → HasDrawn n m after) × (n ≢ st.first → after ≡ m)

  -- the hand on of the call and the reply that were told
  abbrev pub HandsOn : Option (C × R) → Step (Option M) → PassSeat M C R → ℕ → PassSeat M C R
      → Type 0
  HandsOn told st m n after = (c : C) (r : R) → told ≡ Some (c, r) → HasHandedOn m c r after

  -- the load by which a new pass gets its number
  abbrev pub TakesNumber : Step (Option M) → PassSeat M C R → ℕ → PassSeat M C R → Type 0
  TakesNumber st m n after = IsNumbered m after
