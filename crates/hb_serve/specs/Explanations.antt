-- What does the exchange on a link say of the session that was held on it?
use Rattle.std.specs.Prelude.{◌≡◌, ◌⊎◌, ◌<◌, ℕ, Bool, true, false, List, Option, IfSome, length}
use Rattle.std.specs.List.{AllByRecursion}
use mathlib.Core.List.{IsPrefix}
use Rattle.hb_club.specs.Fronts.{AllGoOn, Fronts, House}
use Rattle.hb_edge.specs.Talk.{IsNew, Talk}
use Rattle.hb_session.specs.declared.holds.TheConstants.{SESSION_BUDGET}
use Rattle.hb_session.specs.Conversations.{AreAtMoments, AreTurns, Took, gots_of, lists_after, said_by}
use Rattle.hb_session.specs.Ends.{has_closed}
use Rattle.hb_serve.specs.Comings.{IsFrom}

-- what was exchanged on a link is a session's, over lists that begin these
pub record IsExplained (h : House) (count : ℕ) (lists : Fronts) (clock : Option (ℕ → ℕ))
    (talk : Talk) (faults : ℕ) : Type 0 where
  -- its turns, and the lists before the first; the lists of each turn end with the turn's own call
  pub first : Fronts
  pub turns : List Took
  pub in_order : AreTurns h count false first turns
  -- the lists of the turns begin those of the rooms and of the lobby
  pub begin : AllGoOn (lists_after first turns) lists
  -- a turn was taken for each answer of the link, at the clock's answers from one place on
  pub gave : talk.gave ≡ gots_of turns
  pub moments : IfSome clock (λ answers. (place : ℕ) × AreAtMoments answers place turns)
  -- the texts that were sent begin those of the turns, and are all of them if the link said that it
  -- is closed
  pub sent : IsPrefix talk.sent (said_by h count turns)
  pub whole : has_closed talk.gave ≡ true → talk.sent ≡ said_by h count turns
  -- else the link met a fault, or gave as many answers as a session takes
  pub cause : (has_closed talk.gave ≡ true) ⊎ ((0 < faults) ⊎ (length talk.gave ≡ SESSION_BUDGET))

-- what is told of a link that was closed is explained
abbrev pub IsStubExplained : House → ℕ → Fronts → Option (ℕ → ℕ) → Option Talk → ℕ → Type 0
IsStubExplained h count lists clock talk faults =
    IfSome talk (λ told. IsExplained h count lists clock told faults)

-- so it is of each of these stubs
abbrev pub AreExplained : {S : Type 0} → (talk : S → Option Talk) → (faults : S → ℕ) → House → ℕ
    → Fronts → Option (ℕ → ℕ) → List S → Type 0
AreExplained talk faults h count lists clock stubs =
    AllByRecursion (λ s. IsStubExplained h count lists clock (talk s) (faults s)) stubs

-- a session was begun with a new link, with a hall of this house that others call too, and with a
-- clock whose answers are still to come
pub record IsBegun {S : Type 0} (stands : S → Fronts → Type 0) (house : S → House)
    (count : S → ℕ) (alone : S → Bool) (h : House) (n : ℕ) (start : Option (ℕ → ℕ)) (hall : S)
    (talk : Option Talk) (faults : ℕ) (clock : Option (ℕ → ℕ)) : Type 0 where
  pub is_new : IsNew talk faults
  pub same_house : house hall ≡ h
  pub same_count : count hall ≡ n
  pub not_alone : alone hall ≡ false
  pub first : Fronts
  pub stands_for : stands hall first
  pub from : IsFrom start clock
