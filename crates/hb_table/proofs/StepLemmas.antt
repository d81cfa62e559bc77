-- For which list does a room stand after an entry? Each theorem is one way that an entry goes.
use Rattle.std.proofs.Common.{◌≡◌, ℕ, ◌+◌, ◌≤◌, ◌<◌, Bool, true, false, List, ◌∷◌, ◌++◌, refl, ap, arith, sym, subst, ◌∙◌, Some, None, Option}
use Rattle.std.specs.Prelude.{◌&&◌, ◌==◌, IsTrue, bytes_eq, is_some, max, unwrap_or}
use Rattle.std.specs.Option.{option_to_list}
use Rattle.hb_timer.specs.declared.timing.TheConstants.{MOMENT_LIMIT}
use Rattle.hb_review.specs.ReviewModel.{Walk}
use Rattle.hb_club.specs.declared.commands.Command.{Command}
use Rattle.hb_club.specs.declared.commands.Command.TheVariants as command
use Rattle.hb_club.specs.declared.commands.Entry.{Entry}
use Rattle.hb_club.specs.declared.items.What.{What}
use Rattle.hb_club.specs.declared.limits.TheConstants.{MOST_KEPT_NUMBERS}
use Rattle.hb_club.specs.declared.replies.Reply.{Reply}
use Rattle.hb_club.specs.declared.replies.Reply.TheVariants.{Done}
use Rattle.hb_club.specs.ClerkCalls.{SetNote, note_by}
use Rattle.hb_club.specs.CommandKinds.{asked_id, is_for_host, is_look}
use Rattle.hb_club.specs.NewItems.{item_of}
use Rattle.hb_club.specs.RoomEvents.{Call, Outcome, Replied, RoomEvent, Site, in_time}
use Rattle.hb_club.specs.Rooms.{answer_to, past_of}
use Rattle.hb_club.specs.WholeGames.{BringsWhole}
use Rattle.hb_club.proofs.PlainItemsLemmas.{is_plain}
use Rattle.hb_refusals.specs.KeptReplies.{count_at, is_keepable, kept_at}
use Rattle.hb_refusals.proofs.OptionLemmas.{option_or-none}
use Rattle.hb_table.specs.declared.room.Room.{Room}
use Rattle.hb_table.specs.State.{SameState, State, state_at}
use Rattle.hb_table.specs.StateMoves.{reply_in, stamp_in, timed_state, with_entry, with_item}
use Rattle.hb_table.specs.Keeps.{IsTimely, Keeps, StandsFor, site_in}
use Rattle.hb_table.specs.Changes.{AddsItem, KeepsEntry, KeepsWhen, Stamps, keeps_in}
use Rattle.hb_table.specs.Steps.{Answers, IsTaken, Steps, Timed, stamp_for}
use Rattle.hb_table.specs.Verdicts.{verdict_in}
use Rattle.hb_table.proofs.ClerkStateLemmas.{answer_to-call}
use Rattle.hb_table.proofs.RoomKeepsLemmas.{CanAdd, entry-keeps, item-keeps, keeps-same, stamps-facts}
use Rattle.hb_table.proofs.SoundLemmas.{Sound, timed_state-sound}
use Rattle.hb_table.proofs.StateLemmas.{state_of-item, state_of-no-item, state_of-refused}
use Rattle.hb_table.proofs.VerdictLemmas.{Refuses, Taken, keeps-few, look-refuses, refused-no-load, taken-host, taken-no-open, taken-standing, verdict-refuses, verdict-taken}

-- how an event goes from a list for which a room stands
pub record Goes (s : Site) (events : List RoomEvent) (e : RoomEvent) (outcome : Outcome) (b : Room) : Type 0 where
  pub answer : answer_to s (e ∷ events) ≡ outcome
  pub state : State
  pub same : SameState state (state_at s (e ∷ events))
  pub keeps : Keeps state b

-- so the room stands for the longer list
pub goes-answers : (a b : Room) (e : RoomEvent) (outcome : Outcome) → site_in b ≡ site_in a → BringsWhole e
    → ((events : List RoomEvent) → StandsFor a events → Goes (site_in a) events e outcome b) → Answers e outcome a b
goes-answers a b e outcome site whole goes events stands =
    let go : Goes (site_in a) events e outcome b = goes events stands in (
      record {
        keeps = subst (λ (t : Site). Keeps (state_at t (e ∷ events)) b) (sym site)
            (keeps-same go.state (state_at (site_in a) (e ∷ events)) b go.same go.keeps);
        whole = (whole, stands.whole);
      },
      go.answer,
    )

-- what a room keeps once time was applied, and what is so of each list
pub record Finds (s : Site) (events : List RoomEvent) (e : RoomEvent) (c : Room) : Type 0 where
  pub keeps : Keeps (timed_state s (past_of s events) e) c
  pub sound : Sound s (timed_state s (past_of s events) e)

-- a room that stood for the list finds the next event as the definition does, once it has applied time
pub timed-finds : (a c : Room) (e : RoomEvent) (events : List RoomEvent) → Timed e a c → StandsFor a events → Finds (site_in a) events e c
timed-finds a c e events time stands = record {
  keeps = time.keeps (site_in a) events stands.whole stands.keeps;
  sound = timed_state-sound (site_in a) events e stands.whole;
}

-- nothing is kept of an entry

and-false : (b : Bool) → (b && false) ≡ false
and-false true = refl
and-false false = refl

nothing-more : (n : ℕ) → n + 0 ≡ n
nothing-more n = omega arith

unkept-first : (a : Room) (e : Entry) (reply : Reply) → is_keepable (record { command = e.command; reply = reply }) ≡ false
    → (h : Bool) → KeepsWhen h e reply a.kept a.kept
unkept-first a e reply none true = record {
  replies = λ m n. sym (rw (none, and-false (bytes_eq e.member m && e.number == n)) (option_or-none (kept_at a.kept m n)));
  counts = λ m. sym (rw (none, and-false (bytes_eq e.member m)) (nothing-more (count_at a.kept m)));
}
unkept-first a e reply none false = record { replies = λ m n. refl; counts = λ m. refl }

-- so the room stays as it is
pub keeps-nothing : (a : Room) (e : Entry) (reply : Reply) → is_keepable (record { command = e.command; reply = reply }) ≡ false
    → KeepsEntry e reply a a
keeps-nothing a e reply none = record {
  site = refl;
  latest = refl;
  name = refl;
  options = refl;
  items = refl;
  host = refl;
  standing = refl;
  seats = refl;
  watchers = refl;
  kept = unkept-first a e reply none (e.table == a.latest);
  load = rw (none, and-false (e.table == a.latest)) refl;
  stamp = refl;
  names = refl;
  game = refl;
  timer = refl;
  saved = refl;
  notes = refl;
  loaded = refl;
  review = refl;
}

-- a look
pub look-steps : (a c : Room) (e : Entry) → is_look e.command ≡ true → Timed (Call e) a c → Steps e Done a c
look-steps a c e look time = goes-answers a c (Call e) (Replied Done) time.site tt (λ events stands.
    let s : Site = site_in a in
    let x : State = timed_state s (past_of s events) (Call e) in
    let found : Finds s events (Call e) c = timed-finds a c (Call e) events time stands in
    let is : Refuses x e Done = look-refuses x e look in
    let unkept : is_keepable (record { command = e.command; reply = Done }) ≡ false = rw look refl in
    let no-load : keeps_in c e Done ≡ false = rw unkept (and-false (e.table == c.latest)) in
    record {
      answer = answer_to-call s events e ∙ ap Replied is.reply_is;
      state = with_entry e (reply_in x e) x;
      same = state_of-refused s (past_of s events) e is.refused;
      keeps = rw (is.reply_is) (entry-keeps x c c e Done (λ load done keeps. let never : false ≡ true = sym no-load ∙ keeps in cc)
          (keeps-nothing c e Done unkept) found.keeps);
    })

-- an entry that a row answers: it is refused, or a repeat
pub refused-steps : (a c b : Room) (e : Entry) (reply : Reply) → is_look e.command ≡ false → Timed (Call e) a c
    → verdict_in c e ≡ Some reply → KeepsEntry e reply c b → Steps e reply a b
refused-steps a c b e reply look time some keeps = goes-answers a b (Call e) (Replied reply) (keeps.site ∙ time.site) tt (λ events stands.
    let s : Site = site_in a in
    let x : State = timed_state s (past_of s events) (Call e) in
    let found : Finds s events (Call e) c = timed-finds a c (Call e) events time stands in
    let is : Refuses x e reply = verdict-refuses x c e reply found.keeps look some in
    record {
      answer = answer_to-call s events e ∙ ap Replied is.reply_is;
      state = with_entry e (reply_in x e) x;
      same = state_of-refused s (past_of s events) e is.refused;
      keeps = rw (is.reply_is) (entry-keeps x c b e reply
          (λ load done kept. let never : false ≡ true = sym (refused-no-load c e reply some kept) ∙ done in cc) keeps found.keeps);
    })

-- the stamp of an accepted command

-- a room's stamp for a command is that of the state for which it stands
pub stamp-is : (x : State) (c : Room) (moment : ℕ) → Keeps x c → stamp_for c moment ≡ stamp_in x moment
stamp-is x c moment k = ap (λ (n : ℕ). max (in_time moment) n) k.stamp

-- it is no earlier than the room's stamp so far
pub stamp-later : (c : Room) (moment : ℕ) → c.stamp ≤ stamp_for c moment
stamp-later c moment = omega arith

-- it is no moment past the last one that is kept
pub stamp-range : (x : State) (c : Room) (moment : ℕ) → Keeps x c → stamp_for c moment ≤ MOMENT_LIMIT
stamp-range x c moment k = omega (arith, k.in_range)

stamp-timely : (x : State) (c : Room) (moment : ℕ) → Keeps x c → IsTimely (in_time moment) c.timer → IsTimely (stamp_for c moment) c.timer
stamp-timely x c moment k timely t is end ends = omega (arith, timely t is end ends, k.on_time t is end ends)

-- what an accepted command finds
pub record Finding (s : Site) (events : List RoomEvent) (e : Entry) (c : Room) : Type 0 where
  pub found : Finds s events (Call e) c
  pub taken_is : Taken (timed_state s (past_of s events) (Call e)) e
  pub later : c.stamp ≤ stamp_for c e.moment
  pub range : stamp_for c e.moment ≤ MOMENT_LIMIT
  pub timely : IsTimely (stamp_for c e.moment) c.timer

-- a room that takes an entry, which no row refuses, finds it as the definition does
pub taken-finding : (a c : Room) (e : Entry) (events : List RoomEvent) → Timed (Call e) a c → IsTaken e c → StandsFor a events
    → Finding (site_in a) events e c
taken-finding a c e events time is_taken stands =
    let x : State = timed_state (site_in a) (past_of (site_in a) events) (Call e) in
    let found : Finds (site_in a) events (Call e) c = timed-finds a c (Call e) events time stands in
    record {
      found = found;
      taken_is = verdict-taken x c e found.keeps is_taken.look is_taken.shut is_taken.none;
      later = stamp-later c e.moment;
      range = stamp-range x c e.moment found.keeps;
      timely = stamp-timely x c e.moment found.keeps
          (time.timely (site_in a) events stands.whole stands.keeps (taken-standing c e is_taken.none is_taken.shut));
    }

load-of-host : (c : Command) → is_some (asked_id c) ≡ true → is_for_host c ≡ true
load-of-host (command.Load id) is = refl
load-of-host (command.Open name options) is = cc
load-of-host command.Sit is = cc
load-of-host command.Rise is = cc
load-of-host command.Start is = cc
load-of-host (command.Act a) is = cc
load-of-host (command.Note order text) is = cc
load-of-host command.Pause is = cc
load-of-host command.Resume is = cc
load-of-host command.Terminate is = cc
load-of-host (command.Watch shadow) is = cc
load-of-host command.Leave is = cc
load-of-host (command.Go turn) is = cc
load-of-host (command.Hypo a) is = cc
load-of-host command.Undo is = cc
load-of-host command.Close is = cc
load-of-host command.Look is = cc

-- what an accepted command adds, in any state that the room keeps
pub record Places (e : Entry) (w : What) (walk : Option Walk) (c : Room) (x : State) : Type 0 where
  pub item : item_of x.table e.member e.command ≡ Some w
  pub plain : is_plain w ≡ true
  pub no_load : asked_id e.command ≡ None
  pub can : CanAdd (stamp_for c e.moment) w walk x c

-- an accepted command that adds an item
pub item-steps : (a c d b : Room) (e : Entry) (w : What) (walk : Option Walk) → IsTaken e c → Timed (Call e) a c
    → ((s : Site) (events : List RoomEvent) → Finding s events e c → Places e w walk c (timed_state s (past_of s events) (Call e)))
    → AddsItem (stamp_for c e.moment) w walk c d → KeepsEntry e Done d b → Steps e Done a b
item-steps a c d b e w walk is_taken time places adds keeps =
    goes-answers a b (Call e) (Replied Done) (keeps.site ∙ (adds.site ∙ time.site)) tt (λ events stands.
    let s : Site = site_in a in
    let x : State = timed_state s (past_of s events) (Call e) in
    let finds : Finding s events e c = taken-finding a c e events time is_taken stands in
    let place : Places e w walk c x = places s events finds in
    let added : Keeps (with_item (stamp_in x e.moment) w x) d =
    subst (λ (n : ℕ). Keeps (with_item n w x) d) (stamp-is x c e.moment finds.found.keeps)
    (item-keeps x c d (stamp_for c e.moment) w walk place.can adds finds.found.sound.within finds.found.keeps) in
    record {
      answer = answer_to-call s events e ∙ ap Replied finds.taken_is.reply;
      state = with_entry e (reply_in x e) (with_item (stamp_in x e.moment) w x);
      same = state_of-item s (past_of s events) e w finds.taken_is.accepted place.item place.plain;
      keeps = rw (finds.taken_is.reply) (entry-keeps (with_item (stamp_in x e.moment) w x) d b e Done
          (λ load done kept. let never : false ≡ true = sym (ap is_some place.no_load) ∙ load in cc) keeps added);
    })

-- an accepted command that adds no item, with the note that it sets
pub plain-steps : (a c d b : Room) (e : Entry) → IsTaken e c → Timed (Call e) a c
    → ((s : Site) (events : List RoomEvent) → Finding s events e c
    → item_of (timed_state s (past_of s events) (Call e)).table e.member e.command ≡ None)
    → Stamps (stamp_for c e.moment) (option_to_list (note_by e.member e.command)) c d → KeepsEntry e Done d b → Steps e Done a b
plain-steps a c d b e is_taken time item stamps keeps =
    goes-answers a b (Call e) (Replied Done) (keeps.site ∙ (stamps.site ∙ time.site)) tt (λ events stands.
    let s : Site = site_in a in
    let x : State = timed_state s (past_of s events) (Call e) in
    let notes : List SetNote = option_to_list (note_by e.member e.command) in
    let finds : Finding s events e c = taken-finding a c e events time is_taken stands in
    let y : ℕ → State = λ (n : ℕ). record { table = x.table; own = x.own; stamp = max n x.stamp; notes = notes ++ x.notes } in
    let stamped : Keeps (y (stamp_in x e.moment)) d = subst (λ (n : ℕ). Keeps (y n) d) (stamp-is x c e.moment finds.found.keeps)
    (stamps-facts x (y (stamp_for c e.moment)) c d (stamp_for c e.moment) notes stamps finds.later finds.range finds.timely
    finds.found.keeps refl) in
    record {
      answer = answer_to-call s events e ∙ ap Replied finds.taken_is.reply;
      state = with_entry e (reply_in x e) (y (stamp_in x e.moment));
      same = state_of-no-item s (past_of s events) e (note_by e.member e.command) finds.taken_is.accepted
          (taken-no-open c e is_taken.none is_taken.shut) (item s events finds) refl;
      keeps = rw (finds.taken_is.reply) (entry-keeps (y (stamp_in x e.moment)) d b e Done
          (λ load done kept. taken-host x c e finds.found.keeps is_taken.none (load-of-host e.command load)) keeps stamped);
    })

-- there is room for what is kept

-- of an entry that a row answers
pub few-refused : (c : Room) (e : Entry) (reply : Reply) → verdict_in c e ≡ Some reply → IsTrue (keeps_in c e reply)
    → count_at c.kept e.member < MOST_KEPT_NUMBERS
few-refused c e reply some keeps = keeps-few c e reply (ap (λ (o : Option Reply). unwrap_or o Done) some) keeps

-- and of one that no row refuses, once it was done
pub few-done : (c d : Room) (e : Entry) → d.kept ≡ c.kept → d.latest ≡ c.latest → verdict_in c e ≡ None → IsTrue (keeps_in d e Done)
    → count_at d.kept e.member < MOST_KEPT_NUMBERS
few-done c d e kept latest none keeps =
    let before : keeps_in c e Done ≡ true = sym (rw (kept, latest) refl) ∙ keeps in
    rw kept (keeps-few c e Done (ap (λ (o : Option Reply). unwrap_or o Done) none) before)
