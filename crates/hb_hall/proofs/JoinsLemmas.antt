-- For which lists does a hall stand that took another one of its house in?
use Rattle.std.proofs.Common.{◌≡◌, ◌≢◌, ℕ, ◌+◌, ◌<◌, ◌≤◌, List, [], ◌∷◌, ◌++◌, Option, Some, None, length, map, refl, ap, sym, ◌∙◌, subst, arith, set, length-append, length-set}
use Rattle.std.proofs.lemmas.Option.{slice_get-map}
use Rattle.std.specs.Prelude.{slice_get, option_map}
use Rattle.hb_club.specs.Fronts.{Fronts, GoesOn}
use Rattle.hb_club.specs.RoomEvents.{RoomEvent, Site}
use Rattle.hb_hall.specs.declared.guarded.GuardedLobby.{GuardedLobby}
use Rattle.hb_hall.specs.declared.guarded.GuardedRoom.{GuardedRoom}
use Rattle.hb_hall.specs.Entrances.{JoinsAt}
use Rattle.hb_hall.specs.HouseHalls.{JoinedFronts, JoinsRoom, JoinsRooms}
use Rattle.hb_hall.specs.MachineTurns.{lobby_event, room_event}
use Rattle.hb_hall.specs.TurnFronts.{Began, Places, RoomPlace, TurnStands, front, front_at, front_in, place_at, room_code, table_code}
use Rattle.hb_hall.proofs.HistoryLemmas.{front-prefix, room_turns, same-table}
use Rattle.hb_hall.proofs.LobbyCallLemmas.{lobby_turns}
use Rattle.hb_hall.proofs.PlaceLemmas.{at-each, get-append-here, map-set-same, place-append-here, place-append-there, place-index, place-set-here, place-set-there, same-some}

-- the rooms behind the first ones took their places in, and those places are gone
pub record JoinedBehind {R : Type 0} (site : R → Site) (stands : R → List RoomEvent → Type 0)
    (old others rooms remaining : List (RoomPlace R)) : Type 0 where
  pub within : length remaining ≤ length rooms
  pub codes : map room_code rooms ≡ map room_code old
  pub still : (room : ℕ) → room ≤ length remaining → place_at rooms room ≡ place_at old room
  pub left : (room : ℕ) → room ≤ length remaining → place_at remaining room ≡ place_at others room
  pub joined : (room : ℕ) → length remaining < room
      → JoinsRoom site stands (place_at old room) (place_at others room) (place_at rooms room)

module _ {R : Type 0} (site : R → Site) (stands : R → List RoomEvent → Type 0) where
  -- a room that took another place in
  own-on : (old other new : Option (RoomPlace R)) → JoinsRoom site stands old other new → GoesOn (front_in old) (front_in new)
  own-on (Some p) (Some other) (Some new) joins = front-prefix room_event p.pass.seen new.pass.seen joins.1.1
  own-on (Some p) (Some other) None joins = absurd joins
  own-on (Some p) None new joins = absurd joins
  own-on None (Some other) new joins = absurd joins
  own-on None None (Some new) joins = absurd joins
  own-on None None None joins = record { more = []; is = refl }

  other-on : (old other new : Option (RoomPlace R)) → JoinsRoom site stands old other new → GoesOn (front_in other) (front_in new)
  other-on (Some p) (Some other) (Some new) joins = front-prefix room_event other.pass.seen new.pass.seen joins.1.2
  other-on (Some p) (Some other) None joins = absurd joins
  other-on (Some p) None new joins = absurd joins
  other-on None (Some other) new joins = absurd joins
  other-on None None (Some new) joins = absurd joins
  other-on None None None joins = record { more = []; is = refl }

  began-on : (s : Site) (old other new : Option (RoomPlace R)) → JoinsRoom site stands old other new
      → Began site stands s old → Began site stands s new
  began-on s (Some p) (Some other) (Some new) joins began =
      let P : GuardedRoom R → Type 0 = λ m. (site m.room ≡ s) × stands m.room [] in subst P (sym joins.0) began
  began-on s (Some p) (Some other) None joins began = absurd joins
  began-on s (Some p) None new joins began = absurd joins
  began-on s None (Some other) new joins began = absurd joins
  began-on s None None (Some new) joins began = absurd joins
  began-on s None None None joins began = tt

  -- both lists of each room and of the lobby begin those for which the hall then stands
  pub join-lists : (old other new : Places R) → JoinsRooms site stands old.rooms other.rooms new.rooms
      → JoinsAt lobby_turns old.lobby other.lobby new.lobby
      → (f g : Fronts) → TurnStands site stands old f → TurnStands site stands other g
      → JoinedFronts (TurnStands site stands new) f g
  join-lists old other new rooms lobby f g stood other_stood =
      let B : GuardedLobby → ℕ → Option (RoomPlace R) → Type 0 = λ l n o. Began site stands
      (record { room = n; seed = l.shoe.value.seed; written = l.shoe.value.written; run = l.run }) o in
      let at : List (RoomPlace R) → ℕ → Option (RoomPlace R) = λ rs n. place_at rs n in
      record {
        after = record { rooms = front_at new.rooms; lobby = front lobby_event new.lobby.pass.seen };
        stands_for = record {
          rooms = (λ n. refl);
          lobby = refl;
          began = (λ n. subst (λ l. B l n (at new.rooms n)) (sym lobby.0)
              (began-on _ (at old.rooms n) (at other.rooms n) (at new.rooms n) (rooms n) (stood.began n)));
          opened = ap (λ (m : GuardedLobby). m.lobby) lobby.0 ∙ stood.opened;
        };
        own_on = record {
          rooms = (λ n. subst (λ l. GoesOn l (front_at new.rooms n)) (sym (stood.rooms n))
              (own-on (at old.rooms n) (at other.rooms n) (at new.rooms n) (rooms n)));
          lobby = subst (λ l. GoesOn l (front lobby_event new.lobby.pass.seen)) (sym stood.lobby)
              (front-prefix lobby_event old.lobby.pass.seen new.lobby.pass.seen lobby.1.1);
        };
        other_on = record {
          rooms = (λ n. subst (λ l. GoesOn l (front_at new.rooms n)) (sym (other_stood.rooms n))
              (other-on (at old.rooms n) (at other.rooms n) (at new.rooms n) (rooms n)));
          lobby = subst (λ l. GoesOn l (front lobby_event new.lobby.pass.seen)) (sym other_stood.lobby)
              (front-prefix lobby_event other.lobby.pass.seen new.lobby.pass.seen lobby.1.2);
        };
      }

  -- the last place that is left is at the turnstile of its room
  pub last-table : (old others rooms left : List (RoomPlace R)) (other p : RoomPlace R) → map room_code others ≡ map room_code old
      → JoinedBehind site stands old others rooms (left ++ other ∷ []) → slice_get rooms (length left) ≡ Some p
      → other.pass.table ≡ p.pass.table
  last-table old others rooms left other p codes h was =
      let n = length left in
      let size : length (left ++ other ∷ []) ≡ n + 1 = length-append left (other ∷ []) in
      let within : n + 1 ≤ length (left ++ other ∷ []) = omega arith in
      let theirs : slice_get others n ≡ Some other =
      sym (place-index others (n + 1) n refl) ∙ (sym (h.left (n + 1) within) ∙ place-append-here left (n + 1) other refl) in
      let one : Some (room_code other) ≡ slice_get (map room_code others) n =
      sym (slice_get-map room_code others n ∙ ap (option_map room_code) theirs) in
      let two : slice_get (map room_code rooms) n ≡ Some (room_code p) = slice_get-map room_code rooms n ∙ ap (option_map room_code) was in
      same-table (same-some (one ∙ (ap (λ l. slice_get l n) (codes ∙ sym h.codes) ∙ two)))

  -- one place more was taken in
  pub join-more : (old others rooms left : List (RoomPlace R)) (other p q : RoomPlace R)
      → JoinedBehind site stands old others rooms (left ++ other ∷ []) → slice_get rooms (length left) ≡ Some p
      → JoinsAt (room_turns site stands) p other q → JoinedBehind site stands old others (set rooms (length left) q) left
  join-more old others rooms left other p q h was joins =
      let n = length left in
      let last = n + 1 in
      let size : length (left ++ other ∷ []) ≡ n + 1 = length-append left (other ∷ []) in
      let most : last ≤ length (left ++ other ∷ []) = omega arith in
      let mine : place_at old last ≡ Some p = sym (h.still last most) ∙ (place-index rooms last n refl ∙ was) in
      let theirs : place_at others last ≡ Some other = sym (h.left last most) ∙ place-append-here left last other refl in
      let now : place_at (set rooms n q) last ≡ Some q =
      place-set-here rooms last n p q refl (place-index rooms last n refl ∙ was) in
      record {
        within = (let w = h.within in let s = length-set rooms n q in omega arith);
        codes = map-set-same room_code rooms n p q was (ap (λ k. table_code k.table) joins.1.0) ∙ h.codes;
        still = (λ room less.
            let less' : room ≤ length (left ++ other ∷ []) = omega arith in
            let apart : room ≢ last = omega arith in
            place-set-there rooms last n room q refl apart ∙ h.still room less');
        left = (λ room less.
            let less' : room ≤ length (left ++ other ∷ []) = omega arith in
            let apart : room ≢ last = omega arith in
            sym (place-append-there left room other apart) ∙ h.left room less');
        joined = at-each
            (λ room. n < room → JoinsRoom site stands (place_at old room) (place_at others room) (place_at (set rooms n q) room)) last
            (λ less. rw (mine, theirs, now) joins)
            (λ room apart less.
            let less' : length (left ++ other ∷ []) < room = omega arith in
            rw (place-set-there rooms last n room q refl apart) (h.joined room less'));
      }
