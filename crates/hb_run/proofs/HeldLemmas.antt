-- Which sessions does a run hold behind a line, and which before the first?
use Rattle.std.proofs.Common.{◌≡◌, ◌≢◌, ℕ, Bool, true, false, List, [], ◌∷◌, ◌++◌, refl, sym, ap, subst, ◌∙◌, arith, set, nat_eq, eq-eqb, inl, inr, Some}
use Rattle.std.proofs.lemmas.Bool.{eqb-false}
use Rattle.std.proofs.lemmas.Bool.Decides.{nat_tests}
use Rattle.std.specs.Prelude.{◌⊎◌, length, slice_get}
use Rattle.hb_club.specs.Fronts.{AllGoOn, Fronts, House}
use Rattle.hb_house.specs.KeeperSteps.{Telling}
use Rattle.hb_house.proofs.ListLemmas.{set-here, set-there, slice_get-append_one}
use Rattle.hb_talk.specs.declared.sessions.Session.{Session}
use Rattle.hb_talk.specs.Scripts.{session_of}
use Rattle.hb_talk.specs.Sessions.{new_session}
use Rattle.hb_desk.specs.declared.desks.Desk.{Desk}
use Rattle.hb_desk.specs.Desks.{DeskFits, session_of as desk_session}
use Rattle.hb_desk.proofs.DeskLemmas.{desk_fits-on}
use Rattle.hb_run.specs.HeldRuns.{AreDesks, IsDesk}
use Rattle.hb_run.specs.RunLines.{RunState, first_state}

-- sessions by connection

-- whose line came last has the session that it left
pub session-here : (conn : ℕ) (x : Session) (others : List (ℕ × Session)) → session_of conn ((conn, x) ∷ others) ≡ x
session-here conn x others = let same : nat_eq conn conn ≡ true = eq-eqb conn conn refl in rw same refl

session-there : (conn other : ℕ) (x : Session) (others : List (ℕ × Session)) → other ≢ conn
    → session_of other ((conn, x) ∷ others) ≡ session_of other others
session-there conn other x others apart = let no : nat_eq conn other ≡ false = grind (arith, nat_tests) in rw no refl

-- a session that is held stays one while lists go on
pub desk-on : (h : House) (s t : RunState) (conn : ℕ) (d : Desk) → AllGoOn s.fronts t.fronts
    → session_of conn t.sessions ≡ session_of conn s.sessions → IsDesk h s conn d → IsDesk h t conn d
desk-on h s t conn d on same is =
    record { session = is.session ∙ sym same; fits = desk_fits-on h s.fronts t.fronts d on is.fits }

-- all sessions that are held stay held while lists go on and the sessions of the state are the same
pub desks-on : (h : House) (s t : RunState) (desks : List Desk) → AllGoOn s.fronts t.fronts → t.sessions ≡ s.sessions
    → AreDesks h s desks → AreDesks h t desks
desks-on h s t desks on same each conn d is =
    desk-on h s t conn d on (ap (λ (l : List (ℕ × Session)). session_of conn l) same) (each conn d is)

-- one session is written anew
pub desks-set : (h : House) (s t : RunState) (desks : List Desk) (conn : ℕ) (old new : Desk) → AllGoOn s.fronts t.fronts
    → ((other : ℕ) → other ≢ conn → session_of other t.sessions ≡ session_of other s.sessions) → AreDesks h s desks
    → slice_get desks conn ≡ Some old → IsDesk h t conn new → AreDesks h t (set desks conn new)
desks-set h s t desks conn old new on rest each was now k d is = by (nat_eq k conn) refl
  where
    by : (same : Bool) → nat_eq k conn ≡ same → IsDesk h t k d
    by true at =
        let place : k ≡ conn = grind (arith, nat_tests) in
        let one : d ≡ new = set-here desks conn old new d was (subst (λ n. slice_get (set desks conn new) n ≡ Some d) place is) in
        rw (one, place) now
    by false at =
        let apart : k ≢ conn = eqb-false k conn at in
        desk-on h s t k d on (rest k apart) (each k d (set-there desks conn k new d apart is))

-- a turn of one connection

-- behind a turn of a connection its new session is held in its place, and the others as before
pub desks-turned : (h : House) (s : RunState) (f : Fronts) (x : Session) (bytes : ℕ) (desks : List Desk) (conn : ℕ) (old new : Desk)
    → AllGoOn s.fronts f → AreDesks h s desks → slice_get desks conn ≡ Some old → desk_session new ≡ x → DeskFits h f new
    → AreDesks h (record s { fronts = f; sessions = (conn, x) ∷ s.sessions; bytes = bytes }) (set desks conn new)
desks-turned h s f x bytes desks conn old new on each was is fits =
    let t : RunState = record s { fronts = f; sessions = (conn, x) ∷ s.sessions; bytes = bytes } in
    desks-set h s t desks conn old new on (λ other apart. session-there conn other x s.sessions apart) each was
    (record { session = is ∙ sym (session-here conn x s.sessions); fits = fits })

-- nothing came of a turn
pub desks-kept : (h : House) (s : RunState) (f : Fronts) (desks : List Desk) (conn : ℕ) (old : Desk) → AllGoOn s.fronts f
    → AreDesks h s desks → slice_get desks conn ≡ Some old
    → AreDesks h (record s { fronts = f }) (set desks conn old)
desks-kept h s f desks conn old on each was =
    let t : RunState = record s { fronts = f } in
    desks-set h s t desks conn old old on (λ other apart. refl) each was (desk-on h s t conn old on refl (each conn old was))

-- before the first line

-- a session of which no name is bound
pub record IsNewDesk (d : Desk) : Type 0 where
  pub session : desk_session d ≡ new_session
  pub fits : (h : House) (f : Fronts) → DeskFits h f d

-- each of these sessions is new, with no name bound
abbrev pub AreNewDesks : List Desk → Type 0
AreNewDesks desks = (k : ℕ) (d : Desk) → slice_get desks k ≡ Some d → IsNewDesk d

-- new sessions and one new session behind them are all new
pub new-more : (desks : List Desk) (d : Desk) → AreNewDesks desks → IsNewDesk d → AreNewDesks (desks ++ d ∷ [])
new-more desks d each new k x is = by (slice_get-append_one desks d x k is)
  where
    by : (slice_get desks k ≡ Some x) ⊎ ((k ≡ length desks) × (d ≡ x)) → IsNewDesk x
    by (inl old) = each k x old
    by (inr last) = subst IsNewDesk last.1 new

-- new sessions are those that a run holds before its first line, whatever lists and keeper are
pub desks-new : (h : House) (f : Fronts) (c : Telling) (desks : List Desk) → AreNewDesks desks → AreDesks h (first_state f c) desks
desks-new h f c desks each conn d is = let new = each conn d is in record { session = new.session; fits = new.fits h f }
