-- Do the items of each table stand in order, and has each viewer a seat of some game? Yes, whatever happened in the room.
use Rattle.std.proofs.Common.{◌≡◌, ℕ, ◌≤◌, Bool, true, false, List, [], ◌∷◌, ◌++◌, refl, ap, arith, sym, subst, ◌∙◌, length, Some, None, Option}
use Rattle.std.specs.Prelude.{◌==◌, option_map, if◌then◌else◌}
use Rattle.std.proofs.lemmas.Bool.{and_parts}
use Rattle.std.proofs.lemmas.List.{append_assoc}
use Rattle.hb_rules.specs.declared.acts.Options.{Options}
use Rattle.hb_rules.specs.declared.limits.TheConstants.{MOST_PLAYERS}
use Rattle.hb_rules.specs.declared.setups.Setup.{Setup}
use Rattle.hb_rules.specs.declared.variants.Variant.{Variant}
use Rattle.hb_suits.specs.VariantNames.{variant_of}
use Rattle.hb_review.specs.declared.steps.Step.{Step}
use Rattle.hb_club.specs.declared.clerks.Noted.{Noted}
use Rattle.hb_club.specs.declared.clerks.Noted.TheVariants as noted
use Rattle.hb_club.specs.declared.commands.Command.{Command}
use Rattle.hb_club.specs.declared.commands.Command.TheVariants as command
use Rattle.hb_club.specs.declared.commands.Entry.{Entry}
use Rattle.hb_club.specs.declared.items.Item.{Item}
use Rattle.hb_club.specs.ClerkCalls.{noted_by, noted_item, notice_id, pending_load}
use Rattle.hb_club.specs.OwnEntries.{OwnEntry}
use Rattle.hb_club.specs.NewItems.{entry_stamp, item_of, stamp_at, stamped_item, step_item}
use Rattle.hb_club.specs.RoomEvents.{AsksTodo, Call, Happening, Notes, RoomEvent, Site, event_moment, in_time}
use Rattle.hb_club.specs.Rooms.{entry_item, happening, past_of}
use Rattle.hb_club.specs.Seating.{place_from, players, seated_names, shadow_of, watchers}
use Rattle.hb_club.specs.Table.{Table, player_count}
use Rattle.hb_club.specs.TableFacts.{own_entries, record_of, setup_for, setup_when, table_of}
use Rattle.hb_club.specs.TableItems.{is_started, latest_items, steps}
use Rattle.hb_club.specs.TableRecord.{AreInOrder, IsRecord}
use Rattle.hb_club.specs.TableRefusals.{is_accepted, is_beyond, own_for}
use Rattle.hb_club.specs.TableReview.{reviewed_game, step_of}
use Rattle.hb_club.specs.TimeFirst.{timeout, with_items}
use Rattle.hb_club.proofs.SeatingLemmas.{AreLow, low-shadow, one-seat-less, one-seat-more, other-low, place_from-low, shadow_of-low, viewer_by-seat}
use Rattle.hb_club.proofs.TableInvariantLemmas.{IsFresh, names-by_seat}
use Rattle.hb_club.proofs.TableRefusalsLemmas.{done-not-full, done-not-started, done-shadow, done-started}
use Rattle.hb_club.proofs.TimeFirstLemmas.{latest_items-timeout, timeout-all}

-- what holds of the items of a table
record AreFit (items : List Item) : Type 0 where
  order : AreInOrder items
  seated : length (seated_names items) ≤ MOST_PLAYERS
  few : length (players items) ≤ MOST_PLAYERS
  low : AreLow (watchers items)

-- an item that says nothing of seats and needs nothing before it
plain-step : (moment : ℕ) (o : Option Step) (base : List Item) → AreFit (latest_items base)
    → AreFit (latest_items (stamped_item moment (option_map step_item o) ++ base))
plain-step moment None base are = are
plain-step moment (Some step) base are = record { order = (tt, are.order); seated = are.seated; few = are.few; low = are.low }

plain-note : (moment id : ℕ) (which : Noted) (base : List Item) → AreFit (latest_items base)
    → AreFit (latest_items (stamped_item moment (noted_item id which) ++ base))
plain-note moment id noted.Nothing base are = are
plain-note moment id noted.Saved base are = record { order = (tt, are.order); seated = are.seated; few = are.few; low = are.low }
plain-note moment id noted.Loaded base are = record { order = (tt, are.order); seated = are.seated; few = are.few; low = are.low }
plain-note moment id noted.NoGame base are = record { order = (tt, are.order); seated = are.seated; few = are.few; low = are.low }

-- the players of a game are as many as its table has
player_count-when : (b : Bool) (s : Site) (serial : ℕ) (o : List ℕ × Options) (count : ℕ)
    → player_count (setup_when b s serial o count) ≤ count
player_count-when false s serial o count = omega arith
player_count-when true s serial o count = pick (variant_of o.0)
  where
    pick : (v : Option Variant) → player_count (option_map (setup_for s serial o.1 count) v) ≤ count
    pick None = omega arith
    pick (Some v) = omega arith

-- what an accepted entry leaves
fit-entry : (t : Table) (own : List OwnEntry) (e : Entry) (c : Command) (moment : ℕ) (base : List Item)
    → latest_items base ≡ t.items → player_count t.game ≤ length (players t.items) → AreFit (latest_items base)
    → is_accepted t own (record e { command = c }) ≡ true → AreFit (latest_items (stamped_item moment (item_of t e.member c) ++ base))
fit-entry t own e (command.Open name options) moment base same game are taken =
    record { order = (tt, tt); seated = omega arith; few = omega arith; low = tt }
fit-entry t own e command.Sit moment base same game are taken =
    let fresh : IsFresh t own (record e { command = command.Sit }) = and_parts _ _ taken in
    let free : (length (seated_names (latest_items base)) == MOST_PLAYERS) ≡ false =
    ap (λ (items : List Item). length (seated_names items) == MOST_PLAYERS) same
    ∙ done-not-full t (own_for t own e) (record e { command = command.Sit }) refl fresh.0 fresh.1 in record {
      order = (tt, are.order);
      seated = one-seat-more (seated_names (latest_items base)) e.member are.seated free;
      few = are.few;
      low = are.low;
    }
fit-entry t own e command.Rise moment base same game are taken = record {
  order = (tt, are.order);
  seated = one-seat-less (seated_names (latest_items base)) e.member are.seated;
  few = are.few;
  low = are.low;
}
fit-entry t own e command.Start moment base same game are taken =
    let fresh : IsFresh t own (record e { command = command.Start }) = and_parts _ _ taken in
    let free : is_started (latest_items base) ≡ false =
    ap is_started same ∙ done-not-started t (own_for t own e) (record e { command = command.Start }) refl fresh.0 fresh.1 in
    let few : length (seated_names t.items) ≤ MOST_PLAYERS =
    subst (λ (items : List Item). length (seated_names items) ≤ MOST_PLAYERS) same are.seated in record {
      order = (free, are.order);
      seated = are.seated;
      few = rw (names-by_seat (seated_names t.items)) few;
      low = are.low;
    }
fit-entry t own e (command.Act a) moment base same game are taken =
    let fresh : IsFresh t own (record e { command = command.Act a }) = and_parts _ _ taken in
    let on : is_started (latest_items base) ≡ true =
    ap is_started same ∙ done-started t (own_for t own e) (record e { command = command.Act a }) refl fresh.0 fresh.1 in
    record { order = (on, are.order); seated = are.seated; few = are.few; low = are.low }
fit-entry t own e (command.Note order text) moment base same game are taken = are
fit-entry t own e command.Pause moment base same game are taken =
    let fresh : IsFresh t own (record e { command = command.Pause }) = and_parts _ _ taken in
    let on : is_started (latest_items base) ≡ true =
    ap is_started same ∙ done-started t (own_for t own e) (record e { command = command.Pause }) refl fresh.0 fresh.1 in
    record { order = (on, are.order); seated = are.seated; few = are.few; low = are.low }
fit-entry t own e command.Resume moment base same game are taken =
    let fresh : IsFresh t own (record e { command = command.Resume }) = and_parts _ _ taken in
    let on : is_started (latest_items base) ≡ true =
    ap is_started same ∙ done-started t (own_for t own e) (record e { command = command.Resume }) refl fresh.0 fresh.1 in
    record { order = (on, are.order); seated = are.seated; few = are.few; low = are.low }
fit-entry t own e command.Terminate moment base same game are taken =
    let fresh : IsFresh t own (record e { command = command.Terminate }) = and_parts _ _ taken in
    let on : is_started (latest_items base) ≡ true =
    ap is_started same ∙ done-started t (own_for t own e) (record e { command = command.Terminate }) refl fresh.0 fresh.1 in
    record { order = (on, are.order); seated = are.seated; few = are.few; low = are.low }
fit-entry t own e (command.Watch shadow) moment base same game are taken =
    let fresh : IsFresh t own (record e { command = command.Watch shadow }) = and_parts _ _ taken in
    let six : length (players t.items) ≤ MOST_PLAYERS =
    subst (λ (items : List Item). length (players items) ≤ MOST_PLAYERS) same are.few in
    let seen : is_beyond shadow (player_count t.game) ≡ false =
    done-shadow t (own_for t own e) (record e { command = command.Watch shadow }) fresh.0 fresh.1 in record {
      order = (tt, are.order);
      seated = are.seated;
      few = are.few;
      low = (
        low-shadow shadow (player_count t.game) (length (players t.items)) seen game six,
        other-low e.member (watchers (latest_items base)) are.low,
      );
    }
fit-entry t own e command.Leave moment base same game are taken = record {
  order = (tt, are.order);
  seated = are.seated;
  few = are.few;
  low = other-low e.member (watchers (latest_items base)) are.low;
}
fit-entry t own e (command.Load id) moment base same game are taken = are
fit-entry t own e (command.Go turn) moment base same game are taken =
    plain-step moment (step_of (reviewed_game t.loaded t.game t.items) (steps t.items) (command.Go turn)) base are
fit-entry t own e (command.Hypo a) moment base same game are taken =
    plain-step moment (step_of (reviewed_game t.loaded t.game t.items) (steps t.items) (command.Hypo a)) base are
fit-entry t own e command.Undo moment base same game are taken =
    plain-step moment (step_of (reviewed_game t.loaded t.game t.items) (steps t.items) command.Undo) base are
fit-entry t own e command.Close moment base same game are taken =
    record { order = (tt, are.order); seated = are.seated; few = are.few; low = are.low }
fit-entry t own e command.Look moment base same game are taken = are

-- what time leaves: it adds an act only to a game that was started
fit-timeout : (s : Site) (t : Table) (moment : ℕ) (items : List Item) (o : List ℕ × Options) (count : ℕ) (b : Bool) → is_started items ≡ b
    → t.game ≡ setup_when b s t.latest o count → AreFit items → AreFit (timeout t t.game moment ++ items)
fit-timeout s t moment items o count true on game are = timeout-all (λ late. AreFit (late ++ items)) are
    (λ m act. record { order = (on, are.order); seated = are.seated; few = are.few; low = are.low }) t t.game moment
fit-timeout s t moment items o count false off game are =
    subst (λ (g : Option Setup). AreFit (timeout t g moment ++ items)) (sym game) are

timed-fit : (s : Site) (past : List Happening) (moment : ℕ) → AreFit (latest_items (record_of past))
    → AreFit (latest_items (timeout (table_of s past) (table_of s past).game moment ++ record_of past))
timed-fit s past moment are =
    let t : Table = table_of s past in
    subst AreFit (sym (latest_items-timeout t t.game moment (record_of past)))
    (fit-timeout s t moment t.items (t.name, t.options) (length (players t.items)) (is_started t.items) refl refl are)

-- time leaves the players
players-timeout : (t : Table) (g : Option Setup) (moment : ℕ) (items : List Item) → players (timeout t g moment ++ items) ≡ players items
players-timeout t g moment items = timeout-all (λ late. players (late ++ items) ≡ players items) refl (λ m act. refl) t g moment

fit-call : (s : Site) (past : List Happening) (e : Entry) → AreFit (latest_items (record_of past))
    → AreFit (latest_items (record_of (happening s past (Call e) ∷ past)))
fit-call s past e are = subst (λ (items : List Item). AreFit (latest_items items))
    (sym (append_assoc (news (is_accepted t mine e)) late (record_of past))) (pick (is_accepted t mine e) refl)
  where
    late : List Item
    late = timeout (table_of s past) (table_of s past).game (event_moment (Call e))

    t : Table
    t = with_items late (table_of s past)

    mine : List OwnEntry
    mine = own_entries t.latest e.member past

    news : Bool → List Item
    news b = if b then entry_item t e (entry_stamp t past e) else []

    game : player_count t.game ≤ length (players t.items)
    game = subst (λ (names : List (List ℕ)). player_count t.game ≤ length names)
        (sym (players-timeout (table_of s past) (table_of s past).game (event_moment (Call e)) (table_of s past).items))
        (player_count-when (is_started (table_of s past).items) s t.latest (t.name, t.options) (length (players (table_of s past).items)))

    pick : (b : Bool) → is_accepted t mine e ≡ b → AreFit (latest_items (news b ++ (late ++ record_of past)))
    pick true taken = fit-entry t mine e e.command (entry_stamp t past e) (late ++ record_of past)
        (latest_items-timeout (table_of s past) (table_of s past).game (event_moment (Call e)) (record_of past)) game
        (timed-fit s past (event_moment (Call e)) are) taken
    pick false taken = timed-fit s past (event_moment (Call e)) are

fit-event : (s : Site) (past : List Happening) (e : RoomEvent) → AreFit (latest_items (record_of past))
    → AreFit (latest_items (record_of (happening s past e ∷ past)))
fit-event s past (Call e) are = fit-call s past e are
fit-event s past (AsksTodo moment) are = timed-fit s past (event_moment (AsksTodo moment)) are
fit-event s past (Notes moment n) are =
    let late : List Item = timeout (table_of s past) (table_of s past).game (event_moment (Notes moment n)) in
    let t : Table = with_items late (table_of s past) in
    let which : Noted = noted_by t (pending_load t past) n in
    let added : List Item = stamped_item (stamp_at t past (in_time moment)) (noted_item (notice_id n) which) in
    subst (λ (items : List Item). AreFit (latest_items items)) (sym (append_assoc added late (record_of past)))
    (plain-note (stamp_at t past (in_time moment)) (notice_id n) which (late ++ record_of past)
    (timed-fit s past (event_moment (Notes moment n)) are))

fit-past : (s : Site) (events : List RoomEvent) → AreFit (latest_items (record_of (past_of s events)))
fit-past s [] = record { order = tt; seated = omega arith; few = omega arith; low = tt }
fit-past s (e ∷ events) = fit-event s (past_of s events) e (fit-past s events)

-- the items of the latest table are a record
pub latest_items-record : (s : Site) (events : List RoomEvent) → IsRecord (latest_items (record_of (past_of s events)))
latest_items-record s events =
    let items : List Item = latest_items (record_of (past_of s events)) in
    let fit : AreFit items = fit-past s events in
    let six : length (players items) ≤ MOST_PLAYERS = fit.few in record {
      order = fit.order;
      few = six;
      seats = λ member. viewer_by-seat (place_from 0 member (players items)) (shadow_of member (watchers items))
          (place_from-low 0 member (players items) MOST_PLAYERS (omega (arith, six))) (shadow_of-low member (watchers items) fit.low);
    }
