-- Which state of a room comes after an entry?
use Rattle.std.proofs.Common.{◌≡◌, ℕ, ◌+◌, Bool, true, false, List, [], ◌∷◌, ◌++◌, refl, ap, arith, sym, subst, ◌∙◌, length, max, Some, None, Option}
use Rattle.std.specs.Prelude.{◌==◌, is_none, unwrap_or, if◌then◌else◌}
use Rattle.std.specs.Option.{option_to_list}
use Rattle.std.proofs.lemmas.Bool.{and_parts}
use Rattle.hb_rules.specs.declared.acts.Options.{Options}
use Rattle.hb_rules.specs.declared.setups.Setup.{Setup}
use Rattle.hb_club.specs.declared.commands.Command.{Command}
use Rattle.hb_club.specs.declared.commands.Command.TheVariants as command
use Rattle.hb_club.specs.declared.commands.Entry.{Entry}
use Rattle.hb_club.specs.declared.items.Item.{Item}
use Rattle.hb_club.specs.declared.items.What.{What}
use Rattle.hb_club.specs.declared.items.What.TheVariants as what
use Rattle.hb_club.specs.CommandKinds.{is_look, is_open}
use Rattle.hb_club.specs.ClerkCalls.{SetNote, note_at, note_by, note_in, set_notes}
use Rattle.hb_club.specs.OwnEntries.{is_done, kept_entry}
use Rattle.hb_club.specs.NewItems.{by_seat, command_stamp, item_of}
use Rattle.hb_club.specs.RoomEvents.{Call, Happening, Outcome, RoomEvent, Site, event_moment, in_time}
use Rattle.hb_club.specs.Rooms.{happening, past_of}
use Rattle.hb_club.specs.Seating.{seated_names}
use Rattle.hb_club.specs.Table.{Table}
use Rattle.hb_club.specs.TableFacts.{opening_by, own_by, own_entries, record_of, table_of}
use Rattle.hb_club.specs.TableItems.{has, is_opened, is_standing, latest_items, opened_count}
use Rattle.hb_club.specs.TableRefusals.{own_for, reply_by}
use Rattle.hb_club.specs.TimeFirst.{timeout, with_items}
use Rattle.hb_club.proofs.PlainItemsLemmas.{AreKept, ArePlain, are-kept, is_plain, timeout-plain}
use Rattle.hb_club.proofs.TableInvariantLemmas.{names-by_seat}
use Rattle.hb_club.proofs.TableRefusalsLemmas.{done-here}
use Rattle.hb_club.proofs.TimeFirstLemmas.{timeout-all}
use Rattle.hb_table.specs.State.{SameState, State, state_of}
use Rattle.hb_table.specs.StateMoves.{accepts, item_at, late_items, new_table, reply_in, stamp_in, timed_state, with_entry, with_item, with_note, with_stamp, with_start, with_table}
use Rattle.hb_table.proofs.KeptEntriesLemmas.{next-above, opens_table, opens_table-is, opens_table-taken, set_notes-above}
use Rattle.hb_table.proofs.TableMovesLemmas.{OpensNone, moved_table, moved_table-plain, opened_count-more, opens-none-plain, own_entries-more, set_notes-more, table_of-moved, table_of-opened}

-- states with the same facts are one
pub same-state : (x y : State) → SameState x y → x ≡ y
same-state x y same = λ i. record {
  table = same.table i;
  own = λ (member : List ℕ). same.own member i;
  stamp = same.stamp i;
  notes = same.notes i;
}

-- the state after an event, by its parts

-- if it opens no table
abbrev pub moved_state : Site → Happening → State → State
moved_state s h x = record {
  table = moved_table s h x.table;
  own = λ (member : List ℕ). option_to_list
      (own_by x.table.latest member (length (h.added ++ x.table.items)) h.event h.answer) ++ x.own member;
  stamp = max (unwrap_or h.stamp 0) x.stamp;
  notes = option_to_list (note_in x.table.latest h) ++ x.notes;
}

-- so it comes
pub state_of-moved : (s : Site) (h : Happening) (past : List Happening) → OpensNone h.added
    → SameState (moved_state s h (state_of s past)) (state_of s (h ∷ past))
state_of-moved s h past none = record {
  table = sym (table_of-moved s h past none);
  own = λ member. sym (own_entries-more s h past member none);
  stamp = rw none.opened refl;
  notes = sym (ap (λ (n : ℕ). set_notes n (h ∷ past)) (opened_count-more h past none) ∙ set_notes-more (table_of s past).latest h past);
}

-- if its items are plain: they come on top
abbrev pub plain_state : RoomEvent → Outcome → List Item → Option ℕ → State → State
plain_state e answer added stamp x = record {
  table = with_items added x.table;
  own = λ (member : List ℕ). option_to_list (own_by x.table.latest member (length (added ++ x.table.items)) e answer) ++ x.own member;
  stamp = max (unwrap_or stamp 0) x.stamp;
  notes = option_to_list (if is_none stamp then None else note_at x.table.latest e) ++ x.notes;
}

-- so it comes then
pub state_of-plain : (s : Site) (past : List Happening) (e : RoomEvent) (added : List Item) (stamp : Option ℕ)
    → (happening s past e).event ≡ e → (happening s past e).added ≡ added → (happening s past e).stamp ≡ stamp → ArePlain added
    → SameState (plain_state e (happening s past e).answer added stamp (state_of s past)) (state_of s (happening s past e ∷ past))
state_of-plain s past e added stamp same-event same-added same-stamp plain =
    let h : Happening = happening s past e in
    let h-plain : ArePlain h.added = subst ArePlain (sym same-added) plain in
    let moved : SameState (moved_state s h (state_of s past)) (state_of s (h ∷ past)) =
    state_of-moved s h past (opens-none-plain h.added h-plain) in
    let by_parts : SameState (plain_state h.event h.answer h.added h.stamp (state_of s past)) (state_of s (h ∷ past)) = record {
      table = sym (moved_table-plain s h past h-plain) ∙ moved.table;
      own = moved.own;
      stamp = moved.stamp;
      notes = moved.notes;
    } in
    subst (λ (o : Option ℕ). SameState (plain_state e h.answer added o (state_of s past)) (state_of s (h ∷ past))) same-stamp
    (subst (λ (l : List Item). SameState (plain_state e h.answer l h.stamp (state_of s past)) (state_of s (h ∷ past))) same-added
    (subst (λ (v : RoomEvent). SameState (plain_state v h.answer h.added h.stamp (state_of s past)) (state_of s (h ∷ past)))
    same-event by_parts))

-- no stamp is greater than that of a table
pub max-zero : (n : ℕ) → max 0 n ≡ n
max-zero n = omega arith

-- what time adds is plain
pub late_items-plain : (s : Site) (past : List Happening) (e : RoomEvent) → ArePlain (late_items s past e)
late_items-plain s past e = timeout-plain (table_of s past) (table_of s past).game (event_moment e)

-- what it says of an entry that it is accepted
pub record IsAccepted (x : State) (e : Entry) : Type 0 where
  pub no_look : is_look e.command ≡ false
  pub done : is_done (reply_by x.table (own_for x.table (x.own e.member) e) e) ≡ true
  pub fresh : is_none (kept_entry (own_for x.table (x.own e.member) e) e.number) ≡ true

-- it is no look, no row refuses it, and nothing is kept for its number
pub is-accepted : (x : State) (e : Entry) → accepts x e ≡ true → IsAccepted x e
is-accepted x e taken = pick (is_look e.command) refl
  where
    pick : (b : Bool) → is_look e.command ≡ b → IsAccepted x e
    pick true look = let never : false ≡ true = rw look at taken in cc
    pick false look =
        let parts : (is_done (reply_by x.table (own_for x.table (x.own e.member) e) e) ≡ true)
        × (is_none (kept_entry (own_for x.table (x.own e.member) e) e.number) ≡ true) = and_parts _ _ (rw look at taken) in
        record { no_look = look; done = parts.0; fresh = parts.1 }

-- it is for the latest table, unless it opens the next
pub accepts-here : (x : State) (e : Entry) → accepts x e ≡ true → is_open e.command ≡ false → (e.table == x.table.latest) ≡ true
accepts-here x e taken other = done-here x.table (x.own e.member) e other (is-accepted x e taken).done

-- a command that adds a plain item opens no table
pub is_open-plain : (t : Table) (member : List ℕ) (c : Command) (w : What) → item_of t member c ≡ Some w → is_plain w ≡ true
    → is_open c ≡ false
is_open-plain t member (command.Open name options) w is plain =
    let never : false ≡ true = subst (λ (o : Option What). item_plain o ≡ true) (sym is) plain in cc
  where
    item_plain : Option What → Bool
    item_plain None = true
    item_plain (Some v) = is_plain v
is_open-plain t member command.Sit w is plain = refl
is_open-plain t member command.Rise w is plain = refl
is_open-plain t member command.Start w is plain = refl
is_open-plain t member (command.Act a) w is plain = refl
is_open-plain t member (command.Note order text) w is plain = refl
is_open-plain t member command.Pause w is plain = refl
is_open-plain t member command.Resume w is plain = refl
is_open-plain t member command.Terminate w is plain = refl
is_open-plain t member (command.Watch shadow) w is plain = refl
is_open-plain t member command.Leave w is plain = refl
is_open-plain t member (command.Load id) w is plain = refl
is_open-plain t member (command.Go turn) w is plain = refl
is_open-plain t member (command.Hypo a) w is plain = refl
is_open-plain t member command.Undo w is plain = refl
is_open-plain t member command.Close w is plain = refl
is_open-plain t member command.Look w is plain = refl

-- a command that adds an item sets no note
pub note_by-item : (t : Table) (member : List ℕ) (c : Command) (w : What) → item_of t member c ≡ Some w → note_by member c ≡ None
note_by-item t member (command.Note order text) w is = cc
note_by-item t member (command.Open name options) w is = refl
note_by-item t member command.Sit w is = refl
note_by-item t member command.Rise w is = refl
note_by-item t member command.Start w is = refl
note_by-item t member (command.Act a) w is = refl
note_by-item t member command.Pause w is = refl
note_by-item t member command.Resume w is = refl
note_by-item t member command.Terminate w is = refl
note_by-item t member (command.Watch shadow) w is = refl
note_by-item t member command.Leave w is = refl
note_by-item t member (command.Load id) w is = refl
note_by-item t member (command.Go turn) w is = refl
note_by-item t member (command.Hypo a) w is = refl
note_by-item t member command.Undo w is = refl
note_by-item t member command.Close w is = refl
note_by-item t member command.Look w is = refl

-- the state after each kind of entry

-- a look, a repeat, and what is refused: time alone moves the table
pub state_of-refused : (s : Site) (past : List Happening) (e : Entry) → accepts (timed_state s past (Call e)) e ≡ false
    → SameState (with_entry e (reply_in (timed_state s past (Call e)) e) (timed_state s past (Call e)))
    (state_of s (happening s past (Call e) ∷ past))
state_of-refused s past e refused =
    let late : List Item = late_items s past (Call e) in
    let added : (happening s past (Call e)).added ≡ late = rw refused refl in
    let stamp : (happening s past (Call e)).stamp ≡ None = rw refused refl in
    let moved : SameState (plain_state (Call e) (happening s past (Call e)).answer late None (state_of s past))
    (state_of s (happening s past (Call e) ∷ past)) =
    state_of-plain s past (Call e) late None refl added stamp (late_items-plain s past (Call e)) in
    record { table = moved.table; own = moved.own; stamp = sym (max-zero (command_stamp past)) ∙ moved.stamp; notes = moved.notes }

-- an accepted command that adds an item which opens, starts and loads nothing
pub state_of-item : (s : Site) (past : List Happening) (e : Entry) (w : What) → accepts (timed_state s past (Call e)) e ≡ true
    → item_of (timed_state s past (Call e)).table e.member e.command ≡ Some w → is_plain w ≡ true
    → SameState (with_entry e (reply_in (timed_state s past (Call e)) e)
    (with_item (stamp_in (timed_state s past (Call e)) e.moment) w (timed_state s past (Call e))))
    (state_of s (happening s past (Call e) ∷ past))
state_of-item s past e w taken item plain =
    let x : State = timed_state s past (Call e) in
    let late : List Item = late_items s past (Call e) in
    let i : Item = item_at (stamp_in x e.moment) w in
    let here : (e.table == x.table.latest) ≡ true = accepts-here x e taken (is_open-plain x.table e.member e.command w item plain) in
    let added : (happening s past (Call e)).added ≡ i ∷ late = rw (taken, item, here) refl in
    let stamp : (happening s past (Call e)).stamp ≡ Some (stamp_in x e.moment) = rw (taken, here) refl in
    let moved : SameState
    (plain_state (Call e) (happening s past (Call e)).answer (i ∷ late) (Some (stamp_in x e.moment)) (state_of s past))
    (state_of s (happening s past (Call e) ∷ past)) =
    state_of-plain s past (Call e) (i ∷ late) (Some (stamp_in x e.moment)) refl added stamp (plain, late_items-plain s past (Call e)) in
    let no-note : note_at x.table.latest (Call e) ≡ None = rw here (note_by-item x.table e.member e.command w item) in
    record {
      table = moved.table;
      own = moved.own;
      stamp = moved.stamp;
      notes = sym (ap (λ (o : Option SetNote). option_to_list o ++ x.notes) no-note) ∙ moved.notes;
    }

-- an accepted command that adds no item, with the note that it sets
pub state_of-no-item : (s : Site) (past : List Happening) (e : Entry) (set : Option SetNote)
    → accepts (timed_state s past (Call e)) e ≡ true
    → is_open e.command ≡ false → item_of (timed_state s past (Call e)).table e.member e.command ≡ None → note_by e.member e.command ≡ set
    → SameState (with_entry e (reply_in (timed_state s past (Call e)) e) (record {
      table = (timed_state s past (Call e)).table;
      own = (timed_state s past (Call e)).own;
      stamp = max (stamp_in (timed_state s past (Call e)) e.moment) (timed_state s past (Call e)).stamp;
      notes = option_to_list set ++ (timed_state s past (Call e)).notes;
    })) (state_of s (happening s past (Call e) ∷ past))
state_of-no-item s past e set taken other item sets =
    let x : State = timed_state s past (Call e) in
    let late : List Item = late_items s past (Call e) in
    let here : (e.table == x.table.latest) ≡ true = accepts-here x e taken other in
    let added : (happening s past (Call e)).added ≡ late = rw (taken, item) refl in
    let stamp : (happening s past (Call e)).stamp ≡ Some (stamp_in x e.moment) = rw (taken, here) refl in
    let moved : SameState (plain_state (Call e) (happening s past (Call e)).answer late (Some (stamp_in x e.moment)) (state_of s past))
    (state_of s (happening s past (Call e) ∷ past)) =
    state_of-plain s past (Call e) late (Some (stamp_in x e.moment)) refl added stamp (late_items-plain s past (Call e)) in
    let note : note_at x.table.latest (Call e) ≡ set = rw here sets in
    record {
      table = moved.table;
      own = moved.own;
      stamp = moved.stamp;
      notes = sym (ap (λ (o : Option SetNote). option_to_list o ++ x.notes) note) ∙ moved.notes;
    }

-- an accepted load
pub state_of-load : (s : Site) (past : List Happening) (e : Entry) (id : ℕ) → e.command ≡ command.Load id
    → accepts (timed_state s past (Call e)) e ≡ true
    → SameState (with_entry e (reply_in (timed_state s past (Call e)) e)
    (with_stamp (stamp_in (timed_state s past (Call e)) e.moment) (timed_state s past (Call e))))
    (state_of s (happening s past (Call e) ∷ past))
state_of-load s past e id is taken = state_of-no-item s past e None taken (rw is refl) (rw is refl) (rw is refl)

-- an accepted note
pub state_of-note : (s : Site) (past : List Happening) (e : Entry) (order : ℕ) (text : List ℕ) → e.command ≡ command.Note order text
    → accepts (timed_state s past (Call e)) e ≡ true
    → SameState (with_entry e (reply_in (timed_state s past (Call e)) e)
    (with_note (stamp_in (timed_state s past (Call e)) e.moment) (record { name = e.member; order = order; text = text })
    (timed_state s past (Call e)))) (state_of s (happening s past (Call e) ∷ past))
state_of-note s past e order text is taken =
    state_of-no-item s past e (Some (record { name = e.member; order = order; text = text })) taken (rw is refl) (rw is refl) (rw is refl)

-- an accepted start: the table has a game from now on
pub state_of-start : (s : Site) (past : List Happening) (e : Entry) → e.command ≡ command.Start
    → accepts (timed_state s past (Call e)) e ≡ true
    → SameState (with_entry e (reply_in (timed_state s past (Call e)) e)
    (with_start s (stamp_in (timed_state s past (Call e)) e.moment) (seated_names (timed_state s past (Call e)).table.items)
    (timed_state s past (Call e)))) (state_of s (happening s past (Call e) ∷ past))
state_of-start s past e is taken = record {
  table = sym table;
  own = λ member. ap (λ (l : List Item). option_to_list (own_by t.latest member (length (l ++ t.items)) (Call e) h.answer)
      ++ own_entries t.latest member past) (sym added) ∙ moved.own member;
  stamp = ap (λ (o : Option ℕ). max (unwrap_or o 0) (command_stamp past)) (sym stamp) ∙ moved.stamp;
  notes = ap (λ (o : Option SetNote). option_to_list o ++ set_notes t.latest past) (sym no-note) ∙ moved.notes;
}
  where
    h : Happening
    h = happening s past (Call e)

    t : Table
    t = table_of s past

    x : State
    x = timed_state s past (Call e)

    late : List Item
    late = late_items s past (Call e)

    names : List (List ℕ)
    names = seated_names x.table.items

    i : Item
    i = item_at (stamp_in x e.moment) (what.Started (by_seat names))

    here : (e.table == x.table.latest) ≡ true
    here = accepts-here x e taken (rw is refl)

    added : (happening s past (Call e)).added ≡ i ∷ late
    added = rw (taken, is, here) refl

    stamp : (happening s past (Call e)).stamp ≡ Some (stamp_in x e.moment)
    stamp = rw (taken, here) refl

    kept : AreKept late t.items
    kept = are-kept late t.items (late_items-plain s past (Call e))

    none : OpensNone (i ∷ late)
    none = record { opened = kept.opened; count = kept.count }

    moved : SameState (moved_state s h (state_of s past)) (state_of s (h ∷ past))
    moved = state_of-moved s h past (subst OpensNone (sym added) none)

    no-note : note_in t.latest h ≡ None
    no-note = rw (stamp, here, is) refl

    table : table_of s (h ∷ past) ≡ (with_start s (stamp_in x e.moment) names x).table
    table = table_of-moved s h past (subst OpensNone (sym added) none) ∙ rw (added, kept.loaded, names-by_seat names) refl

-- an accepted opening of the next table: all begins anew

-- a table that is closed has no timeout
timeout-closed : (t : Table) (g : Option Setup) (moment : ℕ) → is_standing t.items ≡ false → timeout t g moment ≡ []
timeout-closed t None moment closed = refl
timeout-closed t (Some g) moment closed = rw closed refl

-- time leaves a table open or closed
pub is_standing-late : (t : Table) (g : Option Setup) (moment : ℕ) (items : List Item)
    → is_standing (timeout t g moment ++ items) ≡ is_standing items
is_standing-late t g moment items =
    timeout-all (λ late. is_standing (late ++ items) ≡ is_standing items) refl (λ m act. refl) t g moment

other-table : (a b : ℕ) → (a == b + 1) ≡ true → (a == b) ≡ false
other-table a b next = grind arith

-- an opening of the next table is accepted if no table is open. Of the entries so far those for the new serial count
pub state_of-open : (s : Site) (events : List RoomEvent) (e : Entry) (name : List ℕ) (options : Options)
    → e.command ≡ command.Open name options → opens_table (timed_state s (past_of s events) (Call e)).table e ≡ true
    → SameState (with_entry e (reply_in (timed_state s (past_of s events) (Call e)) e)
    (with_table (in_time e.moment) e.member (opening_by e.command)
    (λ (member : List ℕ). own_entries ((table_of s (past_of s events)).latest + 1) member (past_of s events))
    (timed_state s (past_of s events) (Call e)))) (state_of s (happening s (past_of s events) (Call e) ∷ past_of s events))
state_of-open s events e name options is may = record {
  table = sym table;
  own = λ member. sym (ap (λ (n : ℕ). own_entries n member (h ∷ past)) latest
      ∙ ap (λ (l : List Item). option_to_list (own_by (t.latest + 1) member (length l) (Call e) h.answer)
      ++ own_entries (t.latest + 1) member past) items);
  stamp = sym stamps;
  notes = sym (ap (λ (n : ℕ). set_notes n (h ∷ past)) latest ∙ set_notes-more (t.latest + 1) h past
      ∙ rw no-note (set_notes-above s events (t.latest + 1) (next-above t.latest)));
}
  where
    past : List Happening
    past = past_of s events

    h : Happening
    h = happening s (past_of s events) (Call e)

    t : Table
    t = table_of s (past_of s events)

    x : State
    x = timed_state s (past_of s events) (Call e)

    i : Item
    i = item_at (in_time e.moment) (what.Opened e.member)

    parts : (is_open e.command ≡ true) × ((e.table == t.latest + 1) ≡ true) × (is_standing x.table.items ≡ false)
    parts = opens_table-is x.table e may

    next : (e.table == t.latest + 1) ≡ true
    next = parts.1

    taken : accepts x e ≡ true
    taken = opens_table-taken x.table (x.own e.member) e may

    apart : (e.table == t.latest) ≡ false
    apart = other-table e.table t.latest next

    no-late : late_items s past (Call e) ≡ []
    no-late = timeout-closed t t.game (event_moment (Call e))
        (sym (is_standing-late t t.game (event_moment (Call e)) t.items) ∙ parts.2)

    added : h.added ≡ i ∷ []
    added = let with_late : h.added ≡ i ∷ late_items s past (Call e) = rw (taken, is, apart) refl in
        with_late ∙ ap (λ (l : List Item). i ∷ l) no-late

    stamp : h.stamp ≡ Some (in_time e.moment)
    stamp = rw (taken, apart) refl

    table : table_of s (h ∷ past) ≡ new_table (t.latest + 1) (opening_by e.command).0 (opening_by e.command).1 i
    table = table_of-opened s h past (in_time e.moment) e.member added

    latest : opened_count (record_of (h ∷ past)) ≡ t.latest + 1
    latest = ap (λ (u : Table). u.latest) table

    items : latest_items (record_of (h ∷ past)) ≡ i ∷ []
    items = ap (λ (u : Table). u.items) table

    stamps : command_stamp (h ∷ past) ≡ in_time e.moment
    stamps = let opened : has is_opened h.added ≡ true = ap (has is_opened) added in rw (opened, stamp) refl

    no-note : note_in (t.latest + 1) h ≡ None
    no-note = rw (stamp, is, next) refl
