-- Which item may an event add to those of a table? Time comes first, and then at most one item.
use Rattle.std.proofs.Common.{◌≡◌, ℕ, ◌≤◌, Bool, true, false, List, ◌++◌, refl, length, Some, None, Option}
use Rattle.std.specs.Prelude.{◌&&◌, ◌||◌, is_some, not, option_map, ⊤}
use Rattle.std.proofs.lemmas.Bool.{and_parts, or_parts}
use Rattle.hb_rules.specs.declared.acts.Action.TheVariants as action
use Rattle.hb_rules.specs.declared.acts.EndHow.TheVariants.{Terminated}
use Rattle.hb_rules.specs.declared.limits.TheConstants.{FEWEST_PLAYERS}
use Rattle.hb_rules.specs.declared.setups.Setup.{Setup}
use Rattle.hb_review.specs.declared.steps.Step.{Step}
use Rattle.hb_timer.specs.Banks.{is_running, is_stopped}
use Rattle.hb_club.specs.declared.clerks.Noted.{Noted}
use Rattle.hb_club.specs.declared.clerks.Noted.TheVariants as noted
use Rattle.hb_club.specs.declared.commands.Command.{Command}
use Rattle.hb_club.specs.declared.commands.Command.TheVariants as command
use Rattle.hb_club.specs.declared.commands.Entry.{Entry}
use Rattle.hb_club.specs.declared.items.Item.{Item}
use Rattle.hb_club.specs.declared.items.What.{What}
use Rattle.hb_club.specs.declared.items.What.TheVariants as what
use Rattle.hb_club.specs.ClerkCalls.{noted_by, noted_item, notice_id, pending_load}
use Rattle.hb_club.specs.OwnEntries.{OwnEntry}
use Rattle.hb_club.specs.NewItems.{entry_stamp, item_of, stamp_at, stamped_item, step_item}
use Rattle.hb_club.specs.RoomEvents.{AsksTodo, Call, Happening, Notes, RoomEvent, Site, event_moment, in_time}
use Rattle.hb_club.specs.Rooms.{happening}
use Rattle.hb_club.specs.Seating.{seated_names, some_names}
use Rattle.hb_club.specs.Table.{Table, game_calls, has_ended, is_paused}
use Rattle.hb_club.specs.TableFacts.{own_entries, table_of}
use Rattle.hb_club.specs.TableItems.{has, is_saved, is_standing, is_started, steps}
use Rattle.hb_club.specs.TableRefusals.{is_accepted, own_for}
use Rattle.hb_club.specs.TableReview.{game_end, reviewed_game, step_of}
use Rattle.hb_club.specs.TimeFirst.{timed_table, timeout}
use Rattle.hb_club.proofs.TableInvariantLemmas.{IsFresh, names-by_seat}
use Rattle.hb_club.proofs.TableRefusalsLemmas.{done-in-time, done-not-started, done-two-seated, not-true}
use Rattle.hb_house.proofs.DoneLemmas.{done-finished, done-open, done-runs, done-saved, done-standing}

-- what must be so of a table with this game and these items so that an item comes. The clerk's items come whenever they are noted
abbrev pub MayCome : Option Setup → List Item → What → Type 0
MayCome g items (what.Opened host) = is_standing items ≡ false
MayCome g items (what.Sat name) = is_standing items ≡ true
MayCome g items (what.Rose name) = is_standing items ≡ true
MayCome g items (what.Watching name shadow) = is_standing items ≡ true
MayCome g items (what.Left name) = is_standing items ≡ true
MayCome g items (what.Started names) =
    (is_standing items ≡ true) × (is_started items ≡ false) × (FEWEST_PLAYERS ≤ length (some_names (Some names)))
MayCome g items (what.Acted act) = (is_standing items ≡ true) × (is_some (game_end g items) ≡ false)
MayCome g items (what.Paused by) = (is_standing items ≡ true) × (is_some (game_end g items) ≡ false)
MayCome g items (what.Resumed by) = (is_standing items ≡ true) × (is_stopped (game_calls g items) ≡ false)
MayCome g items (what.Saved id) = ⊤
MayCome g items (what.Loaded id) = ⊤
MayCome g items (what.NoGame id) = ⊤
MayCome g items (what.Reviewed turn hypos action) = is_standing items ≡ true
MayCome g items what.Closed = (is_standing items ≡ true)
    × (is_started items ≡ true → (is_some (game_end g items) ≡ true) × (has is_saved items ≡ true))

-- the same of an item, if one comes
abbrev pub MayComeIf : Option Setup → List Item → Option What → Type 0
MayComeIf g items None = ⊤
MayComeIf g items (Some w) = MayCome g items w

-- the item of a command

step-may-come : (g : Option Setup) (items : List Item) (o : Option Step) → is_standing items ≡ true
    → MayComeIf g items (option_map step_item o)
step-may-come g items None stands = tt
step-may-come g items (Some step) stands = stands

paused-stopped : (timed running stopped : Bool) → (timed && (not running && not stopped)) ≡ true → stopped ≡ false
paused-stopped true true stopped is = absurd cc
paused-stopped true false true is = absurd cc
paused-stopped true false false is = refl
paused-stopped false running stopped is = absurd cc

-- an accepted command adds an item only if that may come
entry-may-come : (t : Table) (own : List OwnEntry) (e : Entry) (c : Command) → is_accepted t own (record e { command = c }) ≡ true
    → MayComeIf t.game t.items (item_of t e.member c)
entry-may-come t own e (command.Open name options) taken =
    done-open t own (record e { command = command.Open name options }) refl (and_parts _ _ taken)
entry-may-come t own e command.Sit taken = done-standing t own (record e { command = command.Sit }) refl (and_parts _ _ taken)
entry-may-come t own e command.Rise taken = done-standing t own (record e { command = command.Rise }) refl (and_parts _ _ taken)
entry-may-come t own e command.Start taken =
    let start : Entry = record e { command = command.Start } in
    let fresh : IsFresh t own start = and_parts _ _ taken in
    let two = done-two-seated t (own_for t own e) start refl fresh.0 fresh.1 in (
      done-standing t own start refl fresh,
      done-not-started t (own_for t own e) start refl fresh.0 fresh.1,
      rw (names-by_seat (seated_names t.items)) two,
    )
entry-may-come t own e (command.Act a) taken =
    let act : Entry = record e { command = command.Act a } in
    let fresh : IsFresh t own act = and_parts _ _ taken in
    (done-standing t own act refl fresh, done-runs t (own_for t own e) act a refl fresh.0 fresh.1)
entry-may-come t own e (command.Note order text) taken = tt
entry-may-come t own e command.Pause taken =
    let pause : Entry = record e { command = command.Pause } in
    let fresh : IsFresh t own pause = and_parts _ _ taken in
    let row = or_parts (false || (not t.options.timed || is_paused t || has_ended t)) false
    (done-in-time t (own_for t own e) pause fresh.0 fresh.1) in
    (done-standing t own pause refl fresh, (or_parts (not t.options.timed || is_paused t) (has_ended t) row.0).1)
entry-may-come t own e command.Resume taken =
    let resume : Entry = record e { command = command.Resume } in
    let fresh : IsFresh t own resume = and_parts _ _ taken in
    let row : not (is_paused t) ≡ false = done-in-time t (own_for t own e) resume fresh.0 fresh.1 in
    let calls = game_calls t.game t.items in (
      done-standing t own resume refl fresh,
      paused-stopped t.options.timed (is_running calls) (is_stopped calls) (not-true (is_paused t) row),
    )
entry-may-come t own e command.Terminate taken =
    let end : Entry = record e { command = command.Terminate } in
    let fresh : IsFresh t own end = and_parts _ _ taken in
    (done-standing t own end refl fresh, done-runs t (own_for t own e) end (action.End Terminated) refl fresh.0 fresh.1)
entry-may-come t own e (command.Watch shadow) taken =
    done-standing t own (record e { command = command.Watch shadow }) refl (and_parts _ _ taken)
entry-may-come t own e command.Leave taken = done-standing t own (record e { command = command.Leave }) refl (and_parts _ _ taken)
entry-may-come t own e (command.Load id) taken = tt
entry-may-come t own e (command.Go turn) taken =
    step-may-come t.game t.items (step_of (reviewed_game t.loaded t.game t.items) (steps t.items) (command.Go turn))
    (done-standing t own (record e { command = command.Go turn }) refl (and_parts _ _ taken))
entry-may-come t own e (command.Hypo a) taken =
    step-may-come t.game t.items (step_of (reviewed_game t.loaded t.game t.items) (steps t.items) (command.Hypo a))
    (done-standing t own (record e { command = command.Hypo a }) refl (and_parts _ _ taken))
entry-may-come t own e command.Undo taken =
    step-may-come t.game t.items (step_of (reviewed_game t.loaded t.game t.items) (steps t.items) command.Undo)
    (done-standing t own (record e { command = command.Undo }) refl (and_parts _ _ taken))
entry-may-come t own e command.Close taken =
    let close : Entry = record e { command = command.Close } in
    let fresh : IsFresh t own close = and_parts _ _ taken in
    let runs : (is_started t.items && not (has_ended t)) ≡ false = done-finished t (own_for t own e) close fresh.0 fresh.1 in
    let unkept : (has_ended t && not (has is_saved t.items)) ≡ false = done-saved t (own_for t own e) close fresh.0 fresh.1 in (
      done-standing t own close refl fresh,
      λ started.
          let over : has_ended t ≡ true = not-true (has_ended t) (rw started at runs) in
          (over, not-true (has is_saved t.items) (rw over at unkept)),
    )
entry-may-come t own e command.Look taken = tt

-- the item of a note

note-may-come : (g : Option Setup) (items : List Item) (id : ℕ) (which : Noted) → MayComeIf g items (noted_item id which)
note-may-come g items id noted.Nothing = tt
note-may-come g items id noted.Saved = tt
note-may-come g items id noted.Loaded = tt
note-may-come g items id noted.NoGame = tt

-- what an event adds to the items of a room
pub record Adds (s : Site) (past : List Happening) (h : Happening) : Type 0 where
  pub moment : ℕ
  pub stamp : ℕ
  pub item : Option What
  pub added : h.added ≡ stamped_item stamp item ++ timeout (table_of s past) (table_of s past).game moment
  pub may : let t = timed_table s past moment in MayComeIf t.game t.items item

-- each event adds at most one item that may come
pub event-adds : (s : Site) (past : List Happening) (e : RoomEvent) → Adds s past (happening s past e)
event-adds s past (AsksTodo moment) =
    record { moment = event_moment (AsksTodo moment); stamp = 0; item = None; added = refl; may = tt }
event-adds s past (Notes moment n) =
    let t : Table = timed_table s past (in_time moment) in
    let which : Noted = noted_by t (pending_load t past) n in record {
      moment = event_moment (Notes moment n);
      stamp = stamp_at t past (in_time moment);
      item = noted_item (notice_id n) which;
      added = refl;
      may = note-may-come t.game t.items (notice_id n) which;
    }
event-adds s past (Call e) = by (is_accepted t mine e) refl
  where
    t : Table
    t = timed_table s past (event_moment (Call e))

    mine : List OwnEntry
    mine = own_entries t.latest e.member past

    by : (b : Bool) → is_accepted t mine e ≡ b → Adds s past (happening s past (Call e))
    by true taken = record {
      moment = event_moment (Call e);
      stamp = entry_stamp t past e;
      item = item_of t e.member e.command;
      added = rw taken refl;
      may = entry-may-come t mine e e.command taken;
    }
    by false taken = record { moment = event_moment (Call e); stamp = 0; item = None; added = rw taken refl; may = tt }
