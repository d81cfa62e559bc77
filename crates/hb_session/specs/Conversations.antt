-- What does a session do over a hall, turn by turn? Lists of turns stand newest first, as lists of
-- events do; what came and what was sent stand in order.
use Rattle.std.specs.Prelude.{◌≡◌, ℕ, ◌+◌, min, Bool, ⊤, List, [], ◌∷◌, ◌++◌, length, Option, IfSome}
use Rattle.hb_io.specs.declared.got.Got.{Got}
use Rattle.hb_timer.specs.declared.timing.TheConstants.{MOMENT_LIMIT}
use Rattle.hb_club.specs.Fronts.{AllGoOn, Fronts, House}
use Rattle.hb_edge.specs.Talk.{Talk}
use Rattle.hb_talk.specs.declared.sessions.Session.{Session}
use Rattle.hb_talk.specs.Errands.{asked}
use Rattle.hb_talk.specs.Sessions.{TurnCalls, new_session}
use Rattle.hb_talk.specs.Turns.{turn}
use Rattle.hb_session.specs.declared.ends.End.{End}
use Rattle.hb_session.specs.Ends.{IfTold, Talked}

-- one turn: what came, the moment at which it was taken, and the lists of the hall behind it
pub record Took : Type 0 where
  pub came : Got
  pub moment : ℕ
  pub after : Fronts

-- what came at the turns, in order
abbrev pub gots_of : List Took → List Got
gots_of [] = []
gots_of (t ∷ turns) = gots_of turns ++ t.came ∷ []

-- the lists that the turns leave, of those before the first
abbrev pub lists_after : Fronts → List Took → Fronts
lists_after first [] = first
lists_after first (t ∷ turns) = t.after

-- the session that the turns leave, over the rooms of a house
abbrev pub left_by : House → ℕ → List Took → Session
left_by h count [] = new_session
left_by h count (t ∷ turns) = (turn h count t.after (left_by h count turns) t.moment t.came).left

-- the texts of the turns, in order
abbrev pub said_by : House → ℕ → List Took → List (List ℕ)
said_by h count [] = []
said_by h count (t ∷ turns) = said_by h count turns
    ++ (turn h count t.after (left_by h count turns) t.moment t.came).texts

-- the lists of each turn are those that the turns before it left, with the turn's own call behind
-- events of others
abbrev pub AreTurns : House → ℕ → Bool → Fronts → List Took → Type 0
AreTurns h count alone first [] = ⊤
AreTurns h count alone first (t ∷ turns) =
    TurnCalls alone count (asked (left_by h count turns) t.moment t.came)
    (lists_after first turns) t.after × AreTurns h count alone first turns

-- turn k, counted from 0, was taken at the clock's answer `place + k`, or at the greatest moment if
-- the answer is above it
abbrev pub AreAtMoments : (ℕ → ℕ) → ℕ → List Took → Type 0
AreAtMoments moments place [] = ⊤
AreAtMoments moments place (t ∷ turns) =
    (t.moment ≡ min (moments (place + length turns)) MOMENT_LIMIT)
    × AreAtMoments moments place turns

-- what a session did over a hall that stood for the lists `first`: its turns, and what was
-- exchanged on its link at them. `clock` is what the clock told that it will answer
pub record Converses {S : Type 0} (stands : S → Fronts → Type 0) (h : House) (count : ℕ)
    (alone : Bool) (hall : S) (first : Fronts) (clock : Option (ℕ → ℕ)) (budget : ℕ)
    (before after : Option Talk) (how : End) : Type 0 where
  pub turns : List Took
  pub in_order : AreTurns h count alone first turns
  pub moments : IfSome clock (λ answers. AreAtMoments answers 0 turns)
  pub talked : IfTold before after (Talked how budget (gots_of turns) (said_by h count turns))
  -- the hall stands for lists that go on from these: a turn that was refused may have left entries
  pub lists : Fronts
  pub stands_for : stands hall lists
  pub further : AllGoOn (lists_after first turns) lists
