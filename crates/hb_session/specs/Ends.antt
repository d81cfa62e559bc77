-- How may a session end, and what was exchanged on its link by then?
use Rattle.std.specs.Prelude.{◌≡◌, ◌⊎◌, ℕ, Bool, true, false, ◌||◌, List, [], ◌∷◌, ◌++◌, ⊤, Option, Some, None, IsTrue, length}
use mathlib.Core.List.{IsPrefix}
use Rattle.hb_io.specs.declared.got.Got.{Got}
use Rattle.hb_io.specs.declared.got.Got.TheVariants as got
use Rattle.hb_edge.specs.declared.link.LinkError.{LinkError}
use Rattle.hb_edge.specs.declared.link.LinkError.TheVariants as link_error
use Rattle.hb_edge.specs.Talk.{Talk}
use Rattle.hb_session.specs.declared.ends.End.{End}
use Rattle.hb_session.specs.declared.ends.End.TheVariants as end

-- how a session ends if its link refuses a call
abbrev pub end_of : LinkError → End
end_of link_error.Fault = end.LinkFault
end_of link_error.NoMemory = end.NoMemory

-- the link failed
abbrev pub is_link_fault : End → Bool
is_link_fault end.LinkFault = true
is_link_fault _ = false

-- a turn was refused, or memory ran out elsewhere
abbrev pub is_refused : End → Bool
is_refused end.Worn = true
is_refused end.NoMemory = true
is_refused _ = false

-- the mark of the lobby is set, or that of some room
abbrev pub IsWorn : (ℕ → Bool) → Bool → Type 0
IsWorn mark lobby_mark = IsTrue lobby_mark ⊎ ((room : ℕ) × IsTrue (mark room))

-- what came

-- the link said that it is closed
abbrev pub is_closed : Got → Bool
is_closed got.Closed = true
is_closed _ = false

-- it said so at one of these answers
abbrev pub has_closed : List Got → Bool
has_closed [] = false
has_closed (g ∷ gots) = is_closed g || has_closed gots

-- it said so at the last of these answers and at no other
pub record ClosesLast (gots : List Got) : Type 0 where
  pub front : List Got
  pub is : gots ≡ front ++ got.Closed ∷ []
  pub before : has_closed front ≡ false

-- what was exchanged

-- a link gave these answers and was sent these texts, between two moments
pub record Exchanged (gots : List Got) (texts : List (List ℕ)) (before after : Talk)
    : Type 0 where
  pub gave : after.gave ≡ before.gave ++ gots
  pub sent : after.sent ≡ before.sent ++ texts

-- it was sent the first of these texts
pub record ExchangedInPart (gots : List Got) (texts : List (List ℕ)) (before after : Talk)
    : Type 0 where
  pub part : List (List ℕ)
  pub first : IsPrefix part texts
  pub exchanged : Exchanged gots part before after

-- behind these answers it gave one more, to which nothing was sent
pub record LeftOver (gots : List Got) (texts : List (List ℕ)) (before after : Talk)
    : Type 0 where
  pub last : Got
  pub is_open : is_closed last ≡ false
  pub exchanged : Exchanged (gots ++ last ∷ []) texts before after

-- what was exchanged in a session, whose turns were about these answers and have these texts, by
-- how it ended. If a turn was refused, what came for it has no turn
abbrev pub Talked : End → (budget : ℕ) → List Got → List (List ℕ) → (before after : Talk)
    → Type 0
Talked end.Closed budget gots texts before after =
    ClosesLast gots × Exchanged gots texts before after
Talked end.BudgetSpent budget gots texts before after =
    (has_closed gots ≡ false) × (length gots ≡ budget) × Exchanged gots texts before after
Talked end.LinkFault budget gots texts before after =
    (has_closed gots ≡ false) × ExchangedInPart gots texts before after
Talked end.Worn budget gots texts before after =
    (has_closed gots ≡ false) × LeftOver gots texts before after
Talked end.NoMemory budget gots texts before after = (has_closed gots ≡ false)
    × (ExchangedInPart gots texts before after ⊎ LeftOver gots texts before after)

-- what holds of what a link tells before and after; one that told nothing tells nothing
abbrev pub IfTold : Option Talk → Option Talk → (Talk → Talk → Type 0) → Type 0
IfTold before None holds = ⊤
IfTold None (Some after) holds = ⊥
IfTold (Some before) (Some after) holds = holds before after
