-- Internal: no public clause cites this.
-- How far has a session come that goes on, and what was sent of a turn's texts?
use Rattle.std.specs.Prelude.{◌≡◌, ℕ, ◌+◌, Bool, false, ⊤, List, ◌++◌, Option, Some, None, Result, Ok, Err, IfSome, length}
use mathlib.Core.List.{IsPrefix}
use Rattle.hb_club.specs.Fronts.{Fronts, House}
use Rattle.hb_edge.specs.declared.link.LinkError.{LinkError}
use Rattle.hb_edge.specs.Talk.{Talk}
use Rattle.hb_edge.specs.Telling.{Tells}
use Rattle.hb_desk.specs.declared.desks.Desk.{Desk}
use Rattle.hb_desk.specs.Desks.{DeskFits, session_of}
use Rattle.hb_session.specs.declared.ends.End.{End}
use Rattle.hb_session.specs.Conversations.{AreAtMoments, AreTurns, Took, gots_of, left_by, lists_after, said_by}
use Rattle.hb_session.specs.Ends.{Exchanged, IfTold, has_closed, is_link_fault}

-- a clock's answers are those of another from this place on
abbrev pub IsAt : Option (ℕ → ℕ) → ℕ → Option (ℕ → ℕ) → Type 0
IsAt None place clock = ⊤
IsAt (Some answers) place None = ⊥
IsAt (Some answers) place (Some later) = (k : ℕ) → later k ≡ answers (place + k)

-- the talk behind these texts
abbrev pub with_texts : List (List ℕ) → Talk → Talk
with_texts texts talk = record talk { sent = talk.sent ++ texts }

-- the first of these texts were sent
pub record SendsSome (texts : List (List ℕ)) (before after : Option Talk) : Type 0 where
  pub part : List (List ℕ)
  pub first : IsPrefix part texts
  pub told : Tells before after (with_texts part)

-- these texts were sent, or at an error the first of them
abbrev pub Sends : Result (Unit {0}) LinkError → List (List ℕ) → (before after : Option Talk)
    → Type 0
Sends (Ok sent) texts before after = Tells before after (with_texts texts)
Sends (Err e) texts before after = SendsSome texts before after

-- the session ended, and by a fault of its link
abbrev pub ends_by_fault : Option End → Bool
ends_by_fault None = false
ends_by_fault (Some how) = is_link_fault how

-- so many turns were taken, and the session goes on
pub record Talks {S : Type 0} (stands : S → Fronts → Type 0) (h : House) (count : ℕ)
    (alone : Bool) (first : Fronts) (start : Option (ℕ → ℕ)) (told : Option Talk) (taken : ℕ)
    (hall : S) (clock : Option (ℕ → ℕ)) (desk : Desk) (now : Option Talk) : Type 0 where
  pub turns : List Took
  pub counted : length turns ≡ taken
  pub in_order : AreTurns h count alone first turns
  pub moments : IfSome start (λ answers. AreAtMoments answers 0 turns)
  pub clock_at : IsAt start taken clock
  pub stands_for : stands hall (lists_after first turns)
  pub session : session_of desk ≡ left_by h count turns
  pub fits : DeskFits h (lists_after first turns) desk
  pub is_open : has_closed (gots_of turns) ≡ false
  pub exchanged : IfTold told now (Exchanged (gots_of turns) (said_by h count turns))
