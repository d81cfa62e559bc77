-- For which lists does a hall of its own rooms stand behind a call?
use Rattle.std.proofs.Common.{◌≡◌, ◌≢◌, ℕ, ◌+◌, Bool, true, false, List, [], ◌∷◌, ◌++◌, Some, length, refl, ap, sym, ◌∙◌, subst, arith, set, nat_eq, eq-eqb, inl, inr}
use Rattle.std.proofs.lemmas.Bool.{eqb-false}
use Rattle.std.proofs.lemmas.Bool.Decides.{nat_tests}
use Rattle.std.specs.Prelude.{◌⊎◌, ◌-◌, slice_get}
use Rattle.hb_club.specs.declared.lobby.LobbyEntry.{LobbyEntry}
use Rattle.hb_club.specs.declared.lobby.LobbyReply.{LobbyReply}
use Rattle.hb_club.specs.Fronts.{Fronts, House, Takes, no_events, site_of, with_entry, with_event}
use Rattle.hb_club.specs.HallAnswers.{NothingOwn, RoomAnswers}
use Rattle.hb_club.specs.Lobby.{Bound, bound_of, bound_with, lobby_answer, lobby_reply}
use Rattle.hb_club.specs.RoomEvents.{RoomEvent, Site}
use Rattle.hb_house.specs.PlainHalls.{PlainStands}
use Rattle.hb_house.proofs.ListLemmas.{set-here, set-there, slice_get-append_one}

-- the room that took an event has it in front
pub with_event-here : (room : ℕ) (e : RoomEvent) (f : Fronts) → (with_event room e f).rooms room ≡ e ∷ f.rooms room
with_event-here room e f = let same : nat_eq room room ≡ true = eq-eqb room room refl in rw same refl

-- and each other room has its list
pub with_event-there : (room other : ℕ) (e : RoomEvent) (f : Fronts) → other ≢ room → (with_event room e f).rooms other ≡ f.rooms other
with_event-there room other e f apart = let no : nat_eq other room ≡ false = grind (arith, nat_tests) in rw no refl

-- a room took an event, and nobody else came
pub takes-alone : (alone : Bool) (room : ℕ) (e : RoomEvent) (f : Fronts) → Takes alone room e f (with_event room e f)
takes-alone alone room e f = record {
  others = [];
  quiet = (λ _. refl);
  front = with_event-here room e f;
  rest = record { rooms = (λ other apart. with_event-there room other e f apart); lobby = refl };
}

-- each room stands for its list
abbrev pub EachStands : {R : Type 0} (site : R → Site) (stands : R → List RoomEvent → Type 0) (h : House) (rooms : List R)
    (lists : ℕ → List RoomEvent) → Type 0
EachStands {R} site stands h rooms lists =
    (k : ℕ) (r : R) → slice_get rooms k ≡ Some r → (site r ≡ site_of h (k + 1)) × stands r (lists (k + 1))

-- also if one room is written anew, and stands for its list then
each-set : {R : Type 0} (site : R → Site) (stands : R → List RoomEvent → Type 0) (h : House) (rooms : List R)
    (old_lists lists : ℕ → List RoomEvent) (k : ℕ) (old new : R)
    → EachStands site stands h rooms old_lists → slice_get rooms k ≡ Some old → site new ≡ site old → stands new (lists (k + 1))
    → ((other : ℕ) → other ≢ k + 1 → lists other ≡ old_lists other) → EachStands site stands h (set rooms k new) lists
each-set {R} site stands h rooms old_lists lists k old new each was sites stood rest j r is = by (nat_eq j k) refl
  where
    by : (same : Bool) → nat_eq j k ≡ same → (site r ≡ site_of h (j + 1)) × stands r (lists (j + 1))
    by true at =
        let place : j ≡ k = grind (arith, nat_tests) in
        let one : r ≡ new = set-here rooms k old new r was (subst (λ n. slice_get (set rooms k new) n ≡ Some r) place is) in
        rw (one, place) (sites ∙ (each k old was).0, stood)
    by false at =
        let apart : j ≢ k = eqb-false j k at in
        let apart' : j + 1 ≢ k + 1 = omega arith in
        rw (rest (j + 1) apart') (each j r (set-there rooms k j new r apart is))

-- the answer of a room is that of the hall
pub room-answers : {H R : Type 0} (hall_stands : H → Fronts → Type 0) (hall : H) (site : R → Site) (stands : R → List RoomEvent → Type 0)
    (h : House) (rooms : List R) (bound : List Bound) (f : Fronts) (room : ℕ) (old new : R) (e : RoomEvent)
    (IsAnswer : Site → List RoomEvent → Type 0)
    → ((g : Fronts) → PlainStands site stands h (set rooms (room - 1) new) bound g → hall_stands hall g)
    → (room ≡ 0 → ⊥) → PlainStands site stands h rooms bound f → slice_get rooms (room - 1) ≡ Some old → site new ≡ site old
    → ((events : List RoomEvent) → stands old events → stands new (e ∷ events) × IsAnswer (site old) (e ∷ events))
    → RoomAnswers hall_stands true hall room e (IsAnswer (site_of h room)) f
room-answers hall_stands hall site stands h rooms bound f room old new e IsAnswer back some whole was sites answers =
    let place : room - 1 + 1 ≡ room = omega arith in
    let own = whole.each (room - 1) old was in
    let done = answers (f.rooms (room - 1 + 1)) own.1 in
    let here : (with_event room e f).rooms (room - 1 + 1) ≡ e ∷ f.rooms (room - 1 + 1) = rw place (with_event-here room e f) in
    let rest : (other : ℕ) → other ≢ room - 1 + 1 → (with_event room e f).rooms other ≡ f.rooms other =
    λ other apart. with_event-there room other e f (λ is. apart (is ∙ sym place)) in
    let each = each-set site stands h rooms f.rooms (with_event room e f).rooms (room - 1) old new whole.each was sites
    (subst (stands new) (sym here) done.0) rest in
    let answer : IsAnswer (site_of h room) (e ∷ f.rooms room) =
    subst (λ r. IsAnswer (site_of h r) (e ∷ f.rooms r)) place (subst (λ s. IsAnswer s (e ∷ f.rooms (room - 1 + 1))) own.0 done.1) in
    record {
      after = with_event room e f;
      stands_for = back (with_event room e f) (record { each = each; lobby = whole.lobby });
      takes = takes-alone true room e f;
      answer = rw (with_event-here room e f) answer;
    }

-- a room that has no answer leaves the lists of the hall
pub nothing-own : {H R : Type 0} (hall_stands : H → Fronts → Type 0) (hall : H) (site : R → Site) (stands : R → List RoomEvent → Type 0)
    (h : House) (rooms : List R) (bound : List Bound) (f : Fronts) (room : ℕ) (old new : R)
    → ((g : Fronts) → PlainStands site stands h (set rooms (room - 1) new) bound g → hall_stands hall g)
    → PlainStands site stands h rooms bound f → slice_get rooms (room - 1) ≡ Some old → site new ≡ site old
    → ((events : List RoomEvent) → stands old events → stands new events)
    → NothingOwn hall_stands true hall room f
nothing-own hall_stands hall site stands h rooms bound f room old new back whole was sites still =
    let own = whole.each (room - 1) old was in
    let each = each-set site stands h rooms f.rooms f.rooms (room - 1) old new whole.each was sites
    (still (f.rooms (room - 1 + 1)) own.1) (λ other apart. refl) in
    record {
      after = f;
      stands_for = back f (record { each = each; lobby = whole.lobby });
      waits = record {
        others = [];
        quiet = (λ _. refl);
        front = refl;
        rest = record { rooms = (λ other apart. refl); lobby = refl };
      };
    }

-- rooms to which nobody came
abbrev pub AreEmpty : {R : Type 0} (site : R → Site) (stands : R → List RoomEvent → Type 0) (h : House) → List R → Type 0
AreEmpty site stands h rooms = EachStands site stands h rooms (λ room. [])

-- one empty room more
pub empty-more : {R : Type 0} (site : R → Site) (stands : R → List RoomEvent → Type 0) (h : House) (rooms : List R) (new : R)
    → AreEmpty site stands h rooms → site new ≡ site_of h (length rooms + 1) → stands new []
    → AreEmpty site stands h (rooms ++ new ∷ [])
empty-more {R} site stands h rooms new each sited stood k r is = by (slice_get-append_one rooms new r k is)
  where
    by : (slice_get rooms k ≡ Some r) ⊎ ((k ≡ length rooms) × (new ≡ r)) → (site r ≡ site_of h (k + 1)) × stands r []
    by (inl old) = each k r old
    by (inr last) = rw (last.0, ← last.1) (sited, stood)

-- a hall of empty rooms, with nobody bound in its lobby
pub empty-stands : {R : Type 0} (site : R → Site) (stands : R → List RoomEvent → Type 0) (h : House) (rooms : List R) (bound : List Bound)
    → AreEmpty site stands h rooms → bound ≡ [] → PlainStands site stands h rooms bound no_events
unfolding bound_of
empty-stands site stands h rooms bound each none = record { each = each; lobby = sym none }

-- the hall when its lobby has taken an entry
pub lobby-stands : {R : Type 0} (site : R → Site) (stands : R → List RoomEvent → Type 0) (h : House) (rooms : List R)
    (bound new : List Bound) (e : LobbyEntry) (reply : LobbyReply) (f : Fronts)
    → PlainStands site stands h rooms bound f → reply ≡ lobby_reply bound e → new ≡ bound_with e bound
    → PlainStands site stands h rooms new (with_entry e f) × (lobby_answer (e ∷ f.lobby) ≡ reply)
unfolding bound_of lobby_answer
lobby-stands site stands h rooms bound new e reply f whole is left =
    (record { each = whole.each; lobby = ap (bound_with e) whole.lobby ∙ sym left }, ap (λ b. lobby_reply b e) whole.lobby ∙ sym is)
