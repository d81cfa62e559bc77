-- What does a call of one room do to a hall?
use Rattle.std.proofs.Common.{◌≡◌, ◌≢◌, ℕ, ◌+◌, ◌-◌, ◌<◌, true, false, List, [], ◌∷◌, ◌++◌, Option, Some, None, refl, ap, sym, ◌∙◌, subst, arith, set, map, length-set, IsTrue}
use Rattle.hb_turnstile.specs.declared.view.Entry.{Entry}
use Rattle.hb_turnstile.specs.History.{IsLegal, entry}
use Rattle.hb_club.specs.Fronts.{ElseSame, Fronts, site_of}
use Rattle.hb_club.specs.RoomEvents.{RoomEvent, Site}
use Rattle.hb_hall.specs.declared.guarded.GuardedRoom.{GuardedRoom}
use Rattle.hb_hall.specs.declared.guarded.RoomCall.{RoomCall}
use Rattle.hb_hall.specs.declared.guarded.RoomReply.{RoomReply}
use Rattle.hb_hall.specs.Entrances.{CallsAt}
use Rattle.hb_hall.specs.MachineTurns.{IsRightReply, room_event}
use Rattle.hb_hall.specs.TurnFronts.{Began, CallsRoom, Happens, Places, RoomPlace, TurnStands, front, front_at, front_in, house_of, mark_at, mark_in, place_at, room_code, table_code}
use Rattle.hb_hall.proofs.HistoryLemmas.{front-append, reply-right, reply-run, room_turns, same-house}
use Rattle.hb_hall.proofs.PlaceLemmas.{at-each, map-set-same, place-index, place-set-here, place-set-there}

-- a hall of which one place is written anew
abbrev pub with_room : {R : Type 0} → Places R → ℕ → RoomPlace R → Places R
with_room h room q = record { rooms = set h.rooms (room - 1) q; lobby = h.lobby }

module _ {R : Type 0} (site : R → Site) (stands : R → List RoomEvent → Type 0) (old : Places R) (room : ℕ) (p q : RoomPlace R)
    (some : 0 < room) (was : place_at old.rooms room ≡ Some p) (start : q.start ≡ p.start) (table : q.pass.table ≡ p.pass.table) where
  abbrev new : Places R
  new = with_room old room q

  -- the room stands one place before its number
  at : room ≡ room - 1 + 1
  at = omega arith

  -- the place that was written
  here : place_at new.rooms room ≡ Some q
  here = place-set-here old.rooms room (room - 1) p q at was

  -- the other ones
  there : (other : ℕ) → other ≢ room → place_at new.rooms other ≡ place_at old.rooms other
  there other apart = place-set-there old.rooms room (room - 1) other q at apart

  -- the house
  house-stays : house_of new ≡ house_of old
  house-stays =
      let is = sym (place-index old.rooms room (room - 1) at) ∙ was in
      same-house old new (map-set-same room_code old.rooms (room - 1) p q is (ap table_code table)) refl refl

  -- how the rooms began
  began-stays : ((n : ℕ) → Began site stands (site_of (house_of old) n) (place_at old.rooms n))
      → (n : ℕ) → Began site stands (site_of (house_of new) n) (place_at new.rooms n)
  began-stays began = at-each (λ n. Began site stands (site_of (house_of old) n) (place_at new.rooms n)) room
      (let s = site_of (house_of old) room in
      let first : Began site stands s (Some p) = subst (Began site stands s) was (began room) in
      let P : GuardedRoom R → Type 0 = λ m. (site m.room ≡ s) × stands m.room [] in
      subst (Began site stands s) (sym here) (subst P (sym start) first))
      (λ other apart. subst (Began site stands (site_of (house_of old) other)) (sym (there other apart)) (began other))

  -- marks that are set stay set
  marks-stay : (IsTrue p.pass.worn → IsTrue q.pass.worn) → (n : ℕ) → IsTrue (mark_at old.rooms n) → IsTrue (mark_at new.rooms n)
  marks-stay keeps = at-each (λ n. IsTrue (mark_at old.rooms n) → IsTrue (mark_at new.rooms n)) room
      (λ marked. subst (λ o. IsTrue (mark_in o)) (sym here) (keeps (subst (λ o. IsTrue (mark_in o)) was marked)))
      (λ other apart marked. subst (λ o. IsTrue (mark_in o)) (sym (there other apart)) marked)

  -- the lists of the other rooms are as before
  abbrev own_fronts : Fronts → Fronts
  own_fronts f = record { rooms = front_at new.rooms; lobby = f.lobby }

  else-same : (f : Fronts) → TurnStands site stands old f → ElseSame room f (own_fronts f)
  else-same f stood =
      record { rooms = (λ other apart. ap front_in (there other apart) ∙ sym (stood.rooms other)); lobby = refl }

  -- the hall stands for what its passes have seen then
  stands-then : (f : Fronts) → TurnStands site stands old f → TurnStands site stands new (own_fronts f)
  stands-then f stood =
      record { rooms = (λ n. refl); lobby = stood.lobby; began = began-stays stood.began; opened = stood.opened }

  -- if nothing more was seen, it stands for the same lists
  stands-still : q.pass.seen ≡ p.pass.seen → (f : Fronts) → TurnStands site stands old f → TurnStands site stands new f
  stands-still seen f stood =
      let same : (n : ℕ) → front_at new.rooms n ≡ front_at old.rooms n =
      at-each (λ n. front_at new.rooms n ≡ front_at old.rooms n) room
      (ap front_in here ∙ (ap (front room_event) seen ∙ sym (ap front_in was))) (λ other apart. ap front_in (there other apart)) in
      record { rooms = (λ n. stood.rooms n ∙ sym (same n)); lobby = stood.lobby; began = began-stays stood.began; opened = stood.opened }

  -- events of others came, and the call's own
  happens : (c : RoomCall) (r : RoomReply) (others : List (Entry RoomCall RoomReply))
      → q.pass.seen ≡ (p.pass.seen ++ others) ++ entry p.pass.number c r ∷ []
      → IsLegal (room_turns site stands) p.start ((p.pass.seen ++ others) ++ entry p.pass.number c r ∷ [])
      → (f : Fronts) → TurnStands site stands old f
      → Happens (TurnStands site stands new) room (room_event c r) (IsRightReply (site_of (house_of old) room) c r) f
  happens c r others seen legal f stood =
      let s = site_of (house_of old) room in
      let first : Began site stands s (Some p) = subst (Began site stands s) was (stood.began room) in
      let event = room_event c r in
      let before : f.rooms room ≡ front room_event p.pass.seen = stood.rooms room ∙ ap front_in was in
      let all : front_at new.rooms room ≡ event ++ front room_event (p.pass.seen ++ others) =
      ap front_in here ∙ (ap (front room_event) seen ∙ front-append room_event (p.pass.seen ++ others) (entry p.pass.number c r ∷ [])) in
      let parts : front room_event (p.pass.seen ++ others) ≡ front room_event others ++ f.rooms room =
      front-append room_event p.pass.seen others ∙ ap (λ l. front room_event others ++ l) (sym before) in
      let right : IsRightReply s c r (event ++ front room_event (p.pass.seen ++ others)) =
      subst (λ t. IsRightReply t c r (event ++ front room_event (p.pass.seen ++ others))) first.0
      (reply-right site stands p.start (p.pass.seen ++ others) p.pass.number c r legal first.1) in
      record {
        after = own_fronts f;
        stands_for = stands-then f stood;
        others = front room_event others;
        front = all ∙ ap (λ l. event ++ l) parts;
        rest = else-same f stood;
        reply = subst (λ l. IsRightReply s c r l) (sym all) right;
      }

-- a call of a room does to a hall what a call at a turnstile does to the room's place
pub calls-room : {R : Type 0} (site : R → Site) (stands : R → List RoomEvent → Type 0) (old : Places R) (room : ℕ) (p q : RoomPlace R)
    (c : RoomCall) (reply : Option RoomReply) → 0 < room → place_at old.rooms room ≡ Some p → CallsAt (room_turns site stands) p c reply q
    → CallsRoom site stands old room c reply (with_room old room q)
calls-room {R} site stands old room p q c None some was called =
    let start : q.start ≡ p.start = ap (λ (x : RoomPlace R). x.start) called in
    let table : q.pass.table ≡ p.pass.table = ap (λ (x : RoomPlace R). x.pass.table) called in
    let worn : q.pass.worn ≡ true = ap (λ (x : RoomPlace R). x.pass.worn) called in
    let seen : q.pass.seen ≡ p.pass.seen = ap (λ (x : RoomPlace R). x.pass.seen) called in
    record {
      house = house-stays site stands old room p q some was start table;
      count = length-set old.rooms (room - 1) q;
      lobby = refl;
      mark = ap mark_in (here site stands old room p q some was start table) ∙ worn;
      marks = marks-stay site stands old room p q some was start table (λ _. subst (λ b. IsTrue b) (sym worn) refl);
      run = tt;
      answered = (λ f stood. tt);
      refused = stands-still site stands old room p q some was start table seen;
    }
calls-room {R} site stands old room p q c (Some r) some was called =
    let start : q.start ≡ p.start = called.0 in
    let calls = called.1 in
    let fresh : p.pass.worn ≡ false = called.2 in
    let after = calls.0.1 in
    let others = calls.0.0 in
    let table : q.pass.table ≡ p.pass.table = ap (λ k. k.table) after in
    let worn : q.pass.worn ≡ p.pass.worn = ap (λ k. k.worn) after in
    let seen : q.pass.seen ≡ (p.pass.seen ++ others) ++ entry p.pass.number c r ∷ [] = ap (λ k. k.seen) after in
    let legal : IsLegal (room_turns site stands) p.start ((p.pass.seen ++ others) ++ entry p.pass.number c r ∷ []) =
    subst (λ es. IsLegal (room_turns site stands) p.start es) seen calls.1 in
    record {
      house = house-stays site stands old room p q some was start table;
      count = length-set old.rooms (room - 1) q;
      lobby = refl;
      mark = ap mark_in (here site stands old room p q some was start table) ∙ (worn ∙ fresh);
      marks = marks-stay site stands old room p q some was start table (λ w. subst (λ b. IsTrue b) (sym worn) w);
      run = reply-run site stands p.start (p.pass.seen ++ others) p.pass.number c r legal;
      answered = happens site stands old room p q some was start table c r others seen legal;
      refused = (λ f stood. tt);
    }
