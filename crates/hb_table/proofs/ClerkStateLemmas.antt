-- Which state of a room comes after a call of the clerk, and what is it answered?
use Rattle.std.proofs.Common.{◌≡◌, ℕ, Bool, true, false, List, ◌∷◌, refl, ap, sym, subst, ◌∙◌, Some, None, Option}
use Rattle.hb_rules.specs.declared.setups.Setup.{Setup}
use Rattle.hb_club.specs.declared.clerks.Noted.TheVariants as noted
use Rattle.hb_club.specs.declared.commands.Entry.{Entry}
use Rattle.hb_club.specs.declared.items.Item.{Item}
use Rattle.hb_club.specs.declared.items.What.{What}
use Rattle.hb_club.specs.declared.items.What.TheVariants as what
use Rattle.hb_club.specs.ClerkCalls.{is_due, noted_item, notice_id, save_of, save_when, todo_of}
use Rattle.hb_club.specs.EndedReplays.{Finished}
use Rattle.hb_club.specs.NewItems.{command_stamp}
use Rattle.hb_club.specs.RoomEvents.{Added, AsksTodo, Call, Due, Happening, Loaded, Notes, Notice, Replied, RoomEvent, Saved, Site}
use Rattle.hb_club.specs.Rooms.{answer_to, happening, past_of}
use Rattle.hb_club.specs.Table.{Table}
use Rattle.hb_club.specs.TableFacts.{own_entries, table_of}
use Rattle.hb_club.specs.TableItems.{has, is_loaded}
use Rattle.hb_club.proofs.PlainItemsLemmas.{AreKept, are-kept, is_plain}
use Rattle.hb_table.specs.State.{SameState, State, state_of}
use Rattle.hb_table.specs.StateMoves.{item_at, late_items, noted_in, reply_in, save_if, save_in, stamp_in, timed_state, todo_in, with_loaded, with_noted}
use Rattle.hb_table.proofs.StateLemmas.{late_items-plain, max-zero, moved_state, plain_state, state_of-moved, state_of-plain}
use Rattle.hb_table.proofs.TableMovesLemmas.{OpensNone, all_of-names-plain, table_of-moved}

-- the clerk asks what there is to do: time alone moves the table
pub state_of-todo : (s : Site) (past : List Happening) (moment : ℕ)
    → SameState (timed_state s past (AsksTodo moment)) (state_of s (happening s past (AsksTodo moment) ∷ past))
state_of-todo s past moment =
    let e : RoomEvent = AsksTodo moment in
    let moved : SameState (plain_state e (happening s past e).answer (late_items s past e) None (state_of s past))
    (state_of s (happening s past e ∷ past)) =
    state_of-plain s past e (late_items s past e) None refl refl refl (late_items-plain s past e) in
    record { table = moved.table; own = moved.own; stamp = sym (max-zero (command_stamp past)) ∙ moved.stamp; notes = moved.notes }

-- a note of the clerk that adds nothing
pub state_of-nothing : (s : Site) (past : List Happening) (moment : ℕ) (n : Notice)
    → noted_in (timed_state s past (Notes moment n)) n ≡ noted.Nothing
    → SameState (timed_state s past (Notes moment n)) (state_of s (happening s past (Notes moment n) ∷ past))
state_of-nothing s past moment n is =
    let e : RoomEvent = Notes moment n in
    let added : (happening s past e).added ≡ late_items s past e = rw is refl in
    let moved : SameState (plain_state e (happening s past e).answer (late_items s past e) None (state_of s past))
    (state_of s (happening s past e ∷ past)) =
    state_of-plain s past e (late_items s past e) None refl added refl (late_items-plain s past e) in
    record { table = moved.table; own = moved.own; stamp = sym (max-zero (command_stamp past)) ∙ moved.stamp; notes = moved.notes }

-- a note that adds an item which loads nothing
pub state_of-noted : (s : Site) (past : List Happening) (moment : ℕ) (n : Notice) (w : What)
    → noted_item (notice_id n) (noted_in (timed_state s past (Notes moment n)) n) ≡ Some w → is_plain w ≡ true
    → SameState (with_noted (stamp_in (timed_state s past (Notes moment n)) moment) w (timed_state s past (Notes moment n)))
    (state_of s (happening s past (Notes moment n) ∷ past))
state_of-noted s past moment n w item plain =
    let e : RoomEvent = Notes moment n in
    let x : State = timed_state s past e in
    let i : Item = item_at (stamp_in x moment) w in
    let added : (happening s past e).added ≡ i ∷ late_items s past e = rw item refl in
    let moved : SameState (plain_state e (happening s past e).answer (i ∷ late_items s past e) None (state_of s past))
    (state_of s (happening s past e ∷ past)) =
    state_of-plain s past e (i ∷ late_items s past e) None refl added refl (plain, late_items-plain s past e) in
    record { table = moved.table; own = moved.own; stamp = sym (max-zero (command_stamp past)) ∙ moved.stamp; notes = moved.notes }

-- the game that ended is kept
pub state_of-saved : (s : Site) (past : List Happening) (moment table id : ℕ)
    → noted_in (timed_state s past (Notes moment (Saved table id))) (Saved table id) ≡ noted.Saved
    → SameState (with_noted (stamp_in (timed_state s past (Notes moment (Saved table id))) moment) (what.Saved id)
    (timed_state s past (Notes moment (Saved table id)))) (state_of s (happening s past (Notes moment (Saved table id)) ∷ past))
state_of-saved s past moment table id is = state_of-noted s past moment (Saved table id) (what.Saved id) (rw is refl) refl

-- there is no game for which the table asked
pub state_of-no-game : (s : Site) (past : List Happening) (moment table id : ℕ) (game : Option Finished)
    → noted_in (timed_state s past (Notes moment (Loaded table id game))) (Loaded table id game) ≡ noted.NoGame
    → SameState (with_noted (stamp_in (timed_state s past (Notes moment (Loaded table id game))) moment) (what.NoGame id)
    (timed_state s past (Notes moment (Loaded table id game)))) (state_of s (happening s past (Notes moment (Loaded table id game)) ∷ past))
state_of-no-game s past moment table id game is =
    state_of-noted s past moment (Loaded table id game) (what.NoGame id) (rw is refl) refl

-- a game comes for which the table asked
pub state_of-loaded : (s : Site) (past : List Happening) (moment table id : ℕ) (game : Option Finished)
    → noted_in (timed_state s past (Notes moment (Loaded table id game))) (Loaded table id game) ≡ noted.Loaded
    → SameState (with_loaded (stamp_in (timed_state s past (Notes moment (Loaded table id game))) moment) id game
    (timed_state s past (Notes moment (Loaded table id game)))) (state_of s (happening s past (Notes moment (Loaded table id game)) ∷ past))
state_of-loaded s past moment table id game is = record {
  table = sym same-table;
  own = λ member. ap (λ (l : List Item). own_entries t.latest member past) (sym added) ∙ moved.own member;
  stamp = sym (max-zero (command_stamp past)) ∙ moved.stamp;
  notes = moved.notes;
}
  where
    e : RoomEvent
    e = Notes moment (Loaded table id game)

    h : Happening
    h = happening s past e

    t : Table
    t = table_of s past

    x : State
    x = timed_state s past e

    late : List Item
    late = late_items s past e

    i : Item
    i = item_at (stamp_in x moment) (what.Loaded id)

    added : h.added ≡ i ∷ late
    added = rw is refl

    kept : AreKept late t.items
    kept = are-kept late t.items (late_items-plain s past e)

    none : OpensNone h.added
    none = subst OpensNone (sym added) (record { opened = kept.opened; count = kept.count })

    moved : SameState (moved_state s h (state_of s past)) (state_of s (h ∷ past))
    moved = state_of-moved s h past none

    loads : has is_loaded h.added ≡ true
    loads = ap (has is_loaded) added

    same-table : table_of s (h ∷ past) ≡ (with_loaded (stamp_in x moment) id game x).table
    same-table = table_of-moved s h past none ∙ rw (loads, added, all_of-names-plain late t.items (late_items-plain s past e)) refl

-- what each event is answered

-- an entry
pub answer_to-call : (s : Site) (events : List RoomEvent) (e : Entry)
    → answer_to s (Call e ∷ events) ≡ Replied (reply_in (timed_state s (past_of s events) (Call e)) e)
unfolding answer_to
answer_to-call s events e = refl

-- a note of the clerk
pub answer_to-note : (s : Site) (events : List RoomEvent) (moment : ℕ) (n : Notice)
    → answer_to s (Notes moment n ∷ events) ≡ Added (noted_in (timed_state s (past_of s events) (Notes moment n)) n)
unfolding answer_to
answer_to-note s events moment n = refl

save_of-in : (s : Site) (past : List Happening) (e : RoomEvent) (g : Option Setup)
    → save_of s (timed_state s past e).table past g ≡ save_in s (timed_state s past e) g
save_of-in s past e None = refl
save_of-in s past e (Some g) = pick (is_due (timed_state s past e).table)
  where
    pick : (b : Bool) → save_when b s (timed_state s past e).table past g ≡ save_if b s (timed_state s past e) g
    pick true = refl
    pick false = refl

-- what there is to do is read off the state
pub todo_of-in : (s : Site) (past : List Happening) (e : RoomEvent)
    → todo_of s (timed_state s past e).table past ≡ todo_in s (timed_state s past e)
todo_of-in s past e = rw (save_of-in s past e (table_of s past).game) refl

-- so is the answer to the clerk's question
pub answer_to-todo : (s : Site) (events : List RoomEvent) (moment : ℕ)
    → answer_to s (AsksTodo moment ∷ events) ≡ Due (todo_in s (timed_state s (past_of s events) (AsksTodo moment)))
unfolding answer_to
answer_to-todo s events moment = ap Due (todo_of-in s (past_of s events) (AsksTodo moment))
