-- What has a hall that was split off in common with the one from which it comes?
use Rattle.std.proofs.Common.{◌≡◌, ℕ, ◌+◌, ◌<◌, Bool, suc, List, [], ◌∷◌, ◌++◌, Option, Some, None, length, map, take, refl, ap, sym, ◌∙◌, subst, add-one, get_or}
use Rattle.std.proofs.lemmas.Option.{get_or_from_slice_get, slice_get-map, slice_get_within}
use Rattle.std.proofs.Math.Seq.{take-suc}
use Rattle.std.specs.Prelude.{slice_get, option_map}
use Rattle.hb_turnstile.specs.Known.{Known}
use Rattle.hb_club.specs.Fronts.{Fronts, House}
use Rattle.hb_club.specs.RoomEvents.{RoomEvent, Site}
use Rattle.hb_hall.specs.declared.guarded.GuardedLobby.{GuardedLobby}
use Rattle.hb_hall.specs.declared.guarded.GuardedRoom.{GuardedRoom}
use Rattle.hb_hall.specs.declared.guarded.RoomCall.{RoomCall}
use Rattle.hb_hall.specs.declared.guarded.RoomReply.{RoomReply}
use Rattle.hb_hall.specs.Entrances.{SplitsAt}
use Rattle.hb_hall.specs.HouseHalls.{SameMarks, without_number}
use Rattle.hb_hall.specs.MachineTurns.{lobby_event}
use Rattle.hb_hall.specs.TurnFronts.{Began, LobbyPlace, Places, RoomPlace, TurnStands, front, front_in, house_of, mark_in, place_at, room_code}
use Rattle.hb_hall.proofs.HistoryLemmas.{same-house}
use Rattle.hb_hall.proofs.PlaceLemmas.{map-append-one, place-map}

module _ {R : Type 0} where
  -- what does not depend on the number of a pass
  unnumbered-front : (o : Option (RoomPlace R)) → front_in (option_map without_number o) ≡ front_in o
  unnumbered-front (Some p) = refl
  unnumbered-front None = refl

  unnumbered-mark : (o : Option (RoomPlace R)) → mark_in (option_map without_number o) ≡ mark_in o
  unnumbered-mark (Some p) = refl
  unnumbered-mark None = refl

  unnumbered-codes : (rooms : List (RoomPlace R)) → map room_code (map without_number rooms) ≡ map room_code rooms
  unnumbered-codes [] = refl
  unnumbered-codes (p ∷ rooms) = ap (λ l. room_code p ∷ l) (unnumbered-codes rooms)

  -- places that were split off
  abbrev Alike : (old new : List (RoomPlace R)) → Type 0
  Alike old new = map without_number new ≡ map without_number old

  place-alike : (old new : List (RoomPlace R)) → Alike old new → (room : ℕ)
      → option_map without_number (place_at new room) ≡ option_map without_number (place_at old room)
  place-alike old new same room =
      sym (place-map without_number new room) ∙ (ap (λ l. place_at l room) same ∙ place-map without_number old room)

  codes-alike : (old new : List (RoomPlace R)) → Alike old new → map room_code new ≡ map room_code old
  codes-alike old new same = sym (unnumbered-codes new) ∙ (ap (map room_code) same ∙ unnumbered-codes old)

  -- the house
  pub split-house : (old new : Places R) → Alike old.rooms new.rooms → SplitsAt old.lobby new.lobby → house_of new ≡ house_of old
  split-house old new same splits =
      same-house old new (codes-alike old.rooms new.rooms same) (ap (λ k. k.table) splits.1.0) splits.0

  -- the marks
  pub split-marks : (old new : Places R) → Alike old.rooms new.rooms → SplitsAt old.lobby new.lobby → SameMarks old new
  split-marks old new same splits = record {
    rooms = (λ room. sym (unnumbered-mark (place_at new.rooms room))
        ∙ (ap mark_in (place-alike old.rooms new.rooms same room) ∙ unnumbered-mark (place_at old.rooms room)));
    lobby = ap (λ k. k.worn) splits.1.0;
  }

  unnumbered-split : (p half : RoomPlace R) → SplitsAt p half → without_number half ≡ without_number p
  unnumbered-split p half splits =
      let W : GuardedRoom R → Known RoomCall RoomReply → RoomPlace R = λ s k.
      record { start = s; pass = record { table = k.table; number = 0; seen = k.seen; worn = k.worn } } in
      ap (λ s. W s half.pass) splits.0 ∙ ap (W p.start) splits.1.0

  -- one place more was split off
  pub split-more : (rooms made : List (RoomPlace R)) (i : ℕ) (p half : RoomPlace R)
      → map without_number made ≡ take i (map without_number rooms) → slice_get rooms i ≡ Some p → SplitsAt p half
      → map without_number (made ++ half ∷ []) ≡ take (i + 1) (map without_number rooms)
  split-more rooms made i p half so_far is splits =
      let all = map without_number rooms in
      let last = without_number p in
      let here : slice_get all i ≡ Some last = slice_get-map without_number rooms i ∙ ap (option_map without_number) is in
      let within : i < length all = slice_get_within all i last here in
      let read : get_or all i last ≡ last = get_or_from_slice_get all i last last here in
      let more : take (suc i) all ≡ take i all ++ last ∷ [] = take-suc all i last within ∙ ap (λ x. take i all ++ x ∷ []) read in
      let done : map without_number (made ++ half ∷ []) ≡ take i all ++ last ∷ [] =
      map-append-one without_number made half
      ∙ (ap (λ l. l ++ without_number half ∷ []) so_far ∙ ap (λ x. take i all ++ x ∷ []) (unnumbered-split p half splits)) in
      rw add-one (done ∙ sym more)

module _ {R : Type 0} (site : R → Site) (stands : R → List RoomEvent → Type 0) where
  -- how a room began does not depend on the number of a pass
  began-unnumbered : (s : Site) (o : Option (RoomPlace R)) → Began site stands s o → Began site stands s (option_map without_number o)
  began-unnumbered s (Some p) began = began
  began-unnumbered s None began = tt

  unnumbered-began : (s : Site) (o : Option (RoomPlace R)) → Began site stands s (option_map without_number o) → Began site stands s o
  unnumbered-began s (Some p) began = began
  unnumbered-began s None began = tt

  -- the hall that was split off stands for the same lists
  pub split-stands : (old new : Places R) → Alike old.rooms new.rooms → SplitsAt old.lobby new.lobby
      → (f : Fronts) → TurnStands site stands old f → TurnStands site stands new f
  split-stands old new same splits f stood =
      let B : GuardedLobby → ℕ → Option (RoomPlace R) → Type 0 = λ l n o. Began site stands
      (record { room = n; seed = l.shoe.value.seed; written = l.shoe.value.written; run = l.run }) o in
      let first : (n : ℕ) → B old.lobby.start n (place_at new.rooms n) = λ n.
      unnumbered-began _ (place_at new.rooms n) (subst (B old.lobby.start n) (sym (place-alike old.rooms new.rooms same n))
      (began-unnumbered _ (place_at old.rooms n) (stood.began n))) in
      record {
        rooms = (λ n. stood.rooms n ∙ (sym (unnumbered-front (place_at old.rooms n))
            ∙ (ap front_in (sym (place-alike old.rooms new.rooms same n)) ∙ unnumbered-front (place_at new.rooms n))));
        lobby = stood.lobby ∙ sym (ap (λ k. front lobby_event k.seen) splits.1.0);
        began = (λ n. subst (λ l. B l n (place_at new.rooms n)) (sym splits.0) (first n));
        opened = ap (λ (m : GuardedLobby). m.lobby) splits.0 ∙ stood.opened;
      }
