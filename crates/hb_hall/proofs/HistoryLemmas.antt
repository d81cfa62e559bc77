-- What does a history of calls say of the machine that it leads to, and of its last reply?
use Rattle.std.proofs.Common.{◌≡◌, ℕ, List, [], ◌∷◌, ◌++◌, refl, ap, sym, ◌∙◌, subst, append_assoc, append-nil, get_or, drop, map}
use mathlib.Core.List.{IsPrefix}
use Rattle.atomic_table.specs.Seated.{TableId}
use Rattle.hb_turnstile.specs.declared.view.Entry.{Entry}
use Rattle.hb_turnstile.specs.History.{IsLegal, Leads, entry}
use Rattle.hb_club.specs.Fronts.{GoesOn, House}
use Rattle.hb_club.specs.RoomEvents.{RoomEvent, Site}
use Rattle.hb_hall.specs.declared.guarded.GuardedLobby.{GuardedLobby}
use Rattle.hb_hall.specs.declared.guarded.GuardedRoom.{GuardedRoom}
use Rattle.hb_hall.specs.declared.guarded.RoomCall.{RoomCall}
use Rattle.hb_hall.specs.declared.guarded.RoomReply.{RoomReply}
use Rattle.hb_hall.specs.MachineTurns.{HasRunIn, IsRightReply, RoomTurns, room_event}
use Rattle.hb_hall.specs.TurnFronts.{Places, front, house_of, room_code, table_code}

-- the events of a history that goes on
pub front-append : {C R E : Type 0} (event : C → R → List E) (xs ys : List (Entry C R))
    → front event (xs ++ ys) ≡ front event ys ++ front event xs
front-append event [] ys = sym (append-nil (front event ys))
front-append event (x ∷ xs) ys =
    ap (λ l. l ++ event x.call x.reply) (front-append event xs ys)
    ∙ append_assoc (front event ys) (front event xs) (event x.call x.reply)

-- if a history begins another, its events begin those of the other
pub front-prefix : {C R E : Type 0} (event : C → R → List E) (xs ys : List (Entry C R)) → IsPrefix xs ys
    → GoesOn (front event xs) (front event ys)
front-prefix event xs ys begins =
    record { more = front event begins.0; is = ap (front event) (sym begins.1) ∙ front-append event xs begins.0 }

-- a history that ends with a call: the machine before the call, and its turn
pub last-turn : {M C R : Type 0} (turns : M → C → R → M → Type 0) (m : M) (es : List (Entry C R)) (e : Entry C R) (last : M)
    → Leads turns m (es ++ e ∷ []) last → (k : M) × Leads turns m es k × turns k e.call e.reply last
last-turn turns m [] e last leads = (m, refl, subst (λ n. turns m e.call e.reply n) leads.2 leads.1)
last-turn turns m (x ∷ es) e last leads =
    let rest = last-turn turns leads.0 es e last leads.2 in (rest.0, (leads.0, leads.1, rest.1), rest.2)

module _ {R : Type 0} (site : R → Site) (stands : R → List RoomEvent → Type 0) where
  -- the turns of a room behind a turnstile
  abbrev pub room_turns : GuardedRoom R → RoomCall → RoomReply → GuardedRoom R → Type 0
  room_turns m c r n = RoomTurns site stands m.room c r n.room

  -- the room to which a history leads stands for its events
  pub leads-stands : (m : GuardedRoom R) (es : List (Entry RoomCall RoomReply)) (last : GuardedRoom R) (before : List RoomEvent)
      → Leads room_turns m es last → stands m.room before
      → (site last.room ≡ site m.room) × stands last.room (front room_event es ++ before)
  leads-stands m [] last before leads stood =
      let P : GuardedRoom R → Type 0 = λ n. (site n.room ≡ site m.room) × stands n.room before in subst P leads (refl, stood)
  leads-stands m (e ∷ es) last before leads stood =
      let turned = leads.1 in
      let now = turned.2 before stood in
      let rest = leads-stands leads.0 es last (room_event e.call e.reply ++ before) leads.2 now.0 in
      let parts = append_assoc (front room_event es) (room_event e.call e.reply) before in
      (rest.0 ∙ turned.0, subst (λ l. stands last.room l) (sym parts) rest.1)

  -- the last reply of a legal history is right at its events
  pub reply-right : (start : GuardedRoom R) (es : List (Entry RoomCall RoomReply)) (n : ℕ) (c : RoomCall) (r : RoomReply)
      → IsLegal room_turns start (es ++ entry n c r ∷ []) → stands start.room []
      → IsRightReply (site start.room) c r (room_event c r ++ front room_event es)
  reply-right start es n c r legal stood =
      let l = last-turn room_turns start es (entry n c r) legal.0 legal.1 in
      let s = leads-stands start es l.0 [] l.1 stood in
      let turned = l.2 in
      let here : stands l.0.room (front room_event es) = subst (λ es'. stands l.0.room es') (append-nil (front room_event es)) s.1 in
      subst (λ t. IsRightReply t c r (room_event c r ++ front room_event es)) s.0 (turned.2 (front room_event es) here).1

  -- and a game that is due by it has a run in range
  pub reply-run : (start : GuardedRoom R) (es : List (Entry RoomCall RoomReply)) (n : ℕ) (c : RoomCall) (r : RoomReply)
      → IsLegal room_turns start (es ++ entry n c r ∷ []) → HasRunIn r
  reply-run start es n c r legal =
      let l = last-turn room_turns start es (entry n c r) legal.0 legal.1 in let turned = l.2 in turned.1

-- a turnstile, read off its numbers
decoded : List ℕ → TableId
decoded l = record {
  words = get_or l 0 0;
  slots = get_or l 1 0;
  views_name = get_or l 2 0;
  atom = get_or l 3 0;
  block = get_or l 4 0;
  offset = get_or l 5 0;
  slot_names = drop 6 l;
}

-- no two turnstiles have the same numbers
pub same-table : {t u : TableId} → table_code t ≡ table_code u → t ≡ u
unfolding decoded
same-table {t} {u} same = ap decoded same

-- which house a hall is of: it is fixed by its turnstiles and by the lobby at its start
pub same-house : {R : Type 0} (old new : Places R) → map room_code new.rooms ≡ map room_code old.rooms
    → new.lobby.pass.table ≡ old.lobby.pass.table → new.lobby.start ≡ old.lobby.start → house_of new ≡ house_of old
same-house old new codes table start =
    let H : List (List ℕ) → TableId → GuardedLobby → House = λ cs t l. record {
      turnstiles = table_code t ∷ cs;
      seed = l.shoe.value.seed;
      written = l.shoe.value.written;
      run = l.run;
    } in
    ap (λ cs. H cs new.lobby.pass.table new.lobby.start) codes
    ∙ (ap (λ t. H (map room_code old.rooms) t new.lobby.start) table
    ∙ ap (λ l. H (map room_code old.rooms) old.lobby.pass.table l) start)
