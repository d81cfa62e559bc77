-- What does a count say of an answer?
use Rattle.std.specs.Prelude.{◌≡◌, ℕ, ◌≤◌, ⊤, Bool, true, false, Result, Ok, Err}
use Rattle.hb_io.specs.Causes.{Rose}
use Rattle.hb_edge.specs.declared.link.LinkError.{LinkError}
use Rattle.hb_edge.specs.declared.link.LinkError.TheVariants.{Fault, NoMemory}
use Rattle.hb_edge.specs.declared.door.Accepted.{Accepted}
use Rattle.hb_edge.specs.declared.door.Accepted.TheVariants as accepted

-- a count of the answers of one kind: it rose if the answer is of this kind, and is as before if it
-- is not
abbrev pub Counts : Bool → ℕ → ℕ → Type 0
Counts true before now = (before ≤ now) × Rose before now
Counts false before now = now ≡ before

-- the other truth value
abbrev pub not : Bool → Bool
not true = false
not false = true

-- the answer is a fault
abbrev pub is_fault : {T : Type 0} → Result T LinkError → Bool
is_fault (Ok x) = false
is_fault (Err Fault) = true
is_fault (Err NoMemory) = false

-- the answer is that the door is closed
abbrev pub is_closed : {L : Type 0} → Result (Accepted L) LinkError → Bool
is_closed (Ok (accepted.Link link)) = false
is_closed (Ok accepted.Idle) = false
is_closed (Ok accepted.Closed) = true
is_closed (Err e) = false

-- how many links the answer gives
abbrev pub links_in : {L : Type 0} → Result (Accepted L) LinkError → ℕ
links_in (Ok (accepted.Link link)) = 1
links_in (Ok accepted.Idle) = 0
links_in (Ok accepted.Closed) = 0
links_in (Err e) = 0

-- this holds of the link that a door's answer is, if it is one
abbrev pub OnAccepted : {L : Type 0} → (L → Type 0) → Accepted L → Type 0
OnAccepted holds (accepted.Link link) = holds link
OnAccepted holds accepted.Idle = ⊤
OnAccepted holds accepted.Closed = ⊤

-- the same of an answer that may be an error
abbrev pub OnLink : {L : Type 0} → Result (Accepted L) LinkError → (L → Type 0) → Type 0
OnLink (Ok answer) holds = OnAccepted holds answer
OnLink (Err e) holds = ⊤
