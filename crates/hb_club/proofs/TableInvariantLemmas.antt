-- Is the latest table of each room one, whatever happened there? Yes, before time is applied and after it.
use Rattle.std.proofs.Common.{◌≡◌, ℕ, ◌≤◌, Bool, true, false, List, [], ◌∷◌, ◌++◌, refl, ap, sym, subst, ◌∙◌, length, Some, None, Option}
use Rattle.std.specs.Prelude.{◌-◌, is_none, filter_map, map, replicate, option_map, if◌then◌else◌, zero, suc}
use Rattle.std.proofs.lemmas.Bool.{and_parts}
use Rattle.std.proofs.lemmas.List.{append-nil, append_assoc}
use Rattle.std.proofs.lemmas.List.Elements.{filter_map-append}
use Rattle.hb_rules.specs.declared.limits.TheConstants.{FEWEST_PLAYERS, MOST_PLAYERS}
use Rattle.hb_rules.specs.declared.setups.Setup.{Setup}
use Rattle.hb_review.specs.declared.steps.Step.{Step}
use Rattle.hb_club.specs.declared.clerks.Noted.{Noted}
use Rattle.hb_club.specs.declared.clerks.Noted.TheVariants as noted
use Rattle.hb_club.specs.declared.commands.Command.{Command}
use Rattle.hb_club.specs.declared.commands.Command.TheVariants as command
use Rattle.hb_club.specs.declared.commands.Entry.{Entry}
use Rattle.hb_club.specs.declared.items.Item.{Item}
use Rattle.hb_club.specs.declared.items.What.TheVariants as what
use Rattle.hb_club.specs.ClerkCalls.{noted_by, noted_item, notice_id, pending_load}
use Rattle.hb_club.specs.OwnEntries.{OwnEntry, is_done, kept_entry}
use Rattle.hb_club.specs.NewItems.{by_seat, entry_stamp, item_of, stamp_at, stamped_item, step_item}
use Rattle.hb_club.specs.RoomEvents.{AsksTodo, Call, Happening, Loaded, Notes, RoomEvent, Saved, Site, event_moment, in_time}
use Rattle.hb_club.specs.Rooms.{entry_item, happening, past_of}
use Rattle.hb_club.specs.Seating.{players, seated_names}
use Rattle.hb_club.specs.Table.{Table}
use Rattle.hb_club.specs.TableFacts.{brought_game, loaded_game, own_entries, record_of, setup_when, table_of}
use Rattle.hb_club.specs.TableInvariant.{IsTable}
use Rattle.hb_club.specs.TableItems.{has, is_loaded, is_opened, is_started, latest_items, steps}
use Rattle.hb_club.specs.TableRefusals.{is_accepted, own_for, reply_by}
use Rattle.hb_club.specs.TableReview.{reviewed_game, step_of}
use Rattle.hb_club.specs.TimeFirst.{timed_table, timeout, with_items}
use Rattle.hb_club.specs.WholeGames.{BringWhole, BringsWhole, IsWholeGame}
use Rattle.hb_club.proofs.TableRefusalsLemmas.{done-not-started, done-two-seated}
use Rattle.hb_club.proofs.TimeFirstLemmas.{item_at, latest_items-timeout, timeout-all}

-- the players of a started game are those who are seated, and they are two or more
pub record AreSeated (items : List Item) : Type 0 where
  pub seats : is_started items ≡ true → seated_names items ≡ players items
  pub two : is_started items ≡ true → FEWEST_PLAYERS ≤ length (players items)

timeout-seated : (t : Table) (g : Option Setup) (moment : ℕ) (items : List Item) → AreSeated items
    → AreSeated (timeout t g moment ++ items)
timeout-seated t g moment items are =
    timeout-all (λ late. AreSeated (late ++ items)) are (λ m act. record { seats = are.seats; two = are.two }) t g moment

names-some : (names : List (List ℕ))
    → filter_map (λ (name : Option (List ℕ)). name) (map (λ (name : List ℕ). Some name) names) ≡ names
names-some [] = refl
names-some (name ∷ names) = ap (λ (rest : List (List ℕ)). name ∷ rest) (names-some names)

names-none : (count : ℕ) → filter_map (λ (name : Option (List ℕ)). name) (replicate count None) ≡ []
names-none zero = refl
names-none (suc count) = names-none count

-- the names by seat are those that are given
pub names-by_seat : (names : List (List ℕ)) → filter_map (λ (name : Option (List ℕ)). name) (by_seat names) ≡ names
names-by_seat names =
    let rest : List (Option (List ℕ)) = replicate (MOST_PLAYERS - length names) None in
    filter_map-append (λ (name : Option (List ℕ)). name) (map (λ (name : List ℕ). Some name) names) rest
    ∙ (ap (λ (some : List (List ℕ)). some ++ filter_map (λ (name : Option (List ℕ)). name) rest) (names-some names)
    ∙ (ap (λ (none : List (List ℕ)). names ++ none) (names-none (MOST_PLAYERS - length names)) ∙ append-nil names))

-- what one item more leaves
seated-unstarted : (items : List Item) → is_started items ≡ false → AreSeated items
seated-unstarted items free = record { seats = λ started. cc; two = λ started. cc }

seated-start : (items : List Item) (moment : ℕ) → FEWEST_PLAYERS ≤ length (seated_names items)
    → AreSeated (item_at moment (what.Started (by_seat (seated_names items))) ∷ items)
seated-start items moment two = record {
  seats = λ started. sym (names-by_seat (seated_names items));
  two = λ started. rw (names-by_seat (seated_names items)) two;
}

-- what the step of a review leaves
seated-step : (moment : ℕ) (o : Option Step) (base : List Item) → AreSeated (latest_items base)
    → AreSeated (latest_items (stamped_item moment (option_map step_item o) ++ base))
seated-step moment None base are = are
seated-step moment (Some step) base are = record { seats = are.seats; two = are.two }

-- what a note of the clerk leaves
seated-note : (moment id : ℕ) (which : Noted) (base : List Item) → AreSeated (latest_items base)
    → AreSeated (latest_items (stamped_item moment (noted_item id which) ++ base))
seated-note moment id noted.Nothing base are = are
seated-note moment id noted.Saved base are = record { seats = are.seats; two = are.two }
seated-note moment id noted.Loaded base are = record { seats = are.seats; two = are.two }
seated-note moment id noted.NoGame base are = record { seats = are.seats; two = are.two }

-- an accepted entry is done, and no entry is kept for its number
abbrev pub IsFresh : Table → List OwnEntry → Entry → Type 0
IsFresh t own e =
    (is_done (reply_by t (own_for t own e) e) ≡ true) × (is_none (kept_entry (own_for t own e) e.number) ≡ true)

-- what an accepted entry leaves
seated-entry : (t : Table) (own : List OwnEntry) (e : Entry) (c : Command) (moment : ℕ) (base : List Item)
    → latest_items base ≡ t.items → AreSeated (latest_items base) → is_accepted t own (record e { command = c }) ≡ true
    → AreSeated (latest_items (stamped_item moment (item_of t e.member c) ++ base))
seated-entry t own e (command.Open name options) moment base same are taken =
    seated-unstarted (item_at moment (what.Opened e.member) ∷ []) refl
seated-entry t own e command.Sit moment base same are taken =
    let fresh : IsFresh t own (record e { command = command.Sit }) = and_parts _ _ taken in
    seated-unstarted (item_at moment (what.Sat e.member) ∷ latest_items base)
    (ap is_started same ∙ done-not-started t (own_for t own e) (record e { command = command.Sit }) refl fresh.0 fresh.1)
seated-entry t own e command.Rise moment base same are taken =
    let fresh : IsFresh t own (record e { command = command.Rise }) = and_parts _ _ taken in
    seated-unstarted (item_at moment (what.Rose e.member) ∷ latest_items base)
    (ap is_started same ∙ done-not-started t (own_for t own e) (record e { command = command.Rise }) refl fresh.0 fresh.1)
seated-entry t own e command.Start moment base same are taken =
    let fresh : IsFresh t own (record e { command = command.Start }) = and_parts _ _ taken in
    subst (λ (items : List Item). AreSeated (item_at moment (what.Started (by_seat (seated_names t.items))) ∷ items)) (sym same)
    (seated-start t.items moment (done-two-seated t (own_for t own e) (record e { command = command.Start }) refl fresh.0 fresh.1))
seated-entry t own e (command.Act a) moment base same are taken = record { seats = are.seats; two = are.two }
seated-entry t own e (command.Note order text) moment base same are taken = are
seated-entry t own e command.Pause moment base same are taken = record { seats = are.seats; two = are.two }
seated-entry t own e command.Resume moment base same are taken = record { seats = are.seats; two = are.two }
seated-entry t own e command.Terminate moment base same are taken = record { seats = are.seats; two = are.two }
seated-entry t own e (command.Watch shadow) moment base same are taken = record { seats = are.seats; two = are.two }
seated-entry t own e command.Leave moment base same are taken = record { seats = are.seats; two = are.two }
seated-entry t own e (command.Load id) moment base same are taken = are
seated-entry t own e (command.Go turn) moment base same are taken =
    seated-step moment (step_of (reviewed_game t.loaded t.game t.items) (steps t.items) (command.Go turn)) base are
seated-entry t own e (command.Hypo a) moment base same are taken =
    seated-step moment (step_of (reviewed_game t.loaded t.game t.items) (steps t.items) (command.Hypo a)) base are
seated-entry t own e command.Undo moment base same are taken =
    seated-step moment (step_of (reviewed_game t.loaded t.game t.items) (steps t.items) command.Undo) base are
seated-entry t own e command.Close moment base same are taken = record { seats = are.seats; two = are.two }
seated-entry t own e command.Look moment base same are taken = are

-- what is so of a room, whatever happened
pub record RoomFacts (past : List Happening) : Type 0 where
  pub seated : AreSeated (latest_items (record_of past))
  pub loaded : IsWholeGame (loaded_game past)

-- the items when time was applied
timed-seated : (s : Site) (past : List Happening) (moment : ℕ) → AreSeated (latest_items (record_of past))
    → AreSeated (latest_items (timeout (table_of s past) (table_of s past).game moment ++ record_of past))
timed-seated s past moment are =
    subst AreSeated (sym (latest_items-timeout (table_of s past) (table_of s past).game moment (record_of past)))
    (timeout-seated (table_of s past) (table_of s past).game moment (latest_items (record_of past)) are)

seated-call : (s : Site) (past : List Happening) (e : Entry) → AreSeated (latest_items (record_of past))
    → AreSeated (latest_items (record_of (happening s past (Call e) ∷ past)))
seated-call s past e are = subst (λ (items : List Item). AreSeated (latest_items items))
    (sym (append_assoc (news (is_accepted t mine e)) late (record_of past))) (pick (is_accepted t mine e) refl)
  where
    late : List Item
    late = timeout (table_of s past) (table_of s past).game (event_moment (Call e))

    t : Table
    t = with_items late (table_of s past)

    mine : List OwnEntry
    mine = own_entries t.latest e.member past

    news : Bool → List Item
    news b = if b then entry_item t e (entry_stamp t past e) else []

    pick : (b : Bool) → is_accepted t mine e ≡ b → AreSeated (latest_items (news b ++ (late ++ record_of past)))
    pick true taken = seated-entry t mine e e.command (entry_stamp t past e) (late ++ record_of past)
        (latest_items-timeout (table_of s past) (table_of s past).game (event_moment (Call e)) (record_of past))
        (timed-seated s past (event_moment (Call e)) are) taken
    pick false taken = timed-seated s past (event_moment (Call e)) are

seated-event : (s : Site) (past : List Happening) (e : RoomEvent) → AreSeated (latest_items (record_of past))
    → AreSeated (latest_items (record_of (happening s past e ∷ past)))
seated-event s past (Call e) are = seated-call s past e are
seated-event s past (AsksTodo moment) are = timed-seated s past (event_moment (AsksTodo moment)) are
seated-event s past (Notes moment n) are =
    let late : List Item = timeout (table_of s past) (table_of s past).game (event_moment (Notes moment n)) in
    let t : Table = with_items late (table_of s past) in
    let which : Noted = noted_by t (pending_load t past) n in
    let added : List Item = stamped_item (stamp_at t past (in_time moment)) (noted_item (notice_id n) which) in
    subst (λ (items : List Item). AreSeated (latest_items items)) (sym (append_assoc added late (record_of past)))
    (seated-note (stamp_at t past (in_time moment)) (notice_id n) which (late ++ record_of past)
    (timed-seated s past (event_moment (Notes moment n)) are))

brought_game-whole : (e : RoomEvent) → BringsWhole e → IsWholeGame (brought_game e)
brought_game-whole (Call e) is = tt
brought_game-whole (AsksTodo moment) is = tt
brought_game-whole (Notes moment (Saved table id)) is = tt
brought_game-whole (Notes moment (Loaded table id None)) is = tt
brought_game-whole (Notes moment (Loaded table id (Some r))) is = is

happening-event : (s : Site) (past : List Happening) (e : RoomEvent) → (happening s past e).event ≡ e
happening-event s past (Call e) = refl
happening-event s past (AsksTodo moment) = refl
happening-event s past (Notes moment n) = refl

loaded_game-whole : (h : Happening) (past : List Happening) → IsWholeGame (loaded_game past) → IsWholeGame (brought_game h.event)
    → IsWholeGame (loaded_game (h ∷ past))
loaded_game-whole h past before new = pick (has is_opened h.added) (has is_loaded h.added)
  where
    pick : (b c : Bool) → IsWholeGame (if b then None else (if c then brought_game h.event else loaded_game past))
    pick true c = tt
    pick false true = new
    pick false false = before

-- it is so after each event
pub past_of-facts : (s : Site) (events : List RoomEvent) → BringWhole events → RoomFacts (past_of s events)
past_of-facts s [] whole = record { seated = seated-unstarted [] refl; loaded = tt }
past_of-facts s (e ∷ events) whole =
    let before : RoomFacts (past_of s events) = past_of-facts s events whole.1 in record {
      seated = seated-event s (past_of s events) e before.seated;
      loaded = loaded_game-whole (happening s (past_of s events) e) (past_of s events) before.loaded
          (subst (λ (event : RoomEvent). IsWholeGame (brought_game event)) (sym (happening-event s (past_of s events) e))
          (brought_game-whole e whole.0));
    }

-- so the latest table is one when time was applied
pub timed_table-is : (s : Site) (past : List Happening) (moment : ℕ) → RoomFacts past → IsTable s (timed_table s past moment)
timed_table-is s past moment facts =
    let t : Table = table_of s past in
    let are : AreSeated (timeout t t.game moment ++ t.items) = timeout-seated t t.game moment t.items facts.seated in record {
      game = timeout-all (λ late. t.game
          ≡ setup_when (is_started (late ++ t.items)) s t.latest (t.name, t.options) (length (players (late ++ t.items))))
          refl (λ m act. refl) t t.game moment;
      seats = are.seats;
      two = are.two;
      loaded = facts.loaded;
    }

-- and before
pub table_of-is : (s : Site) (past : List Happening) → RoomFacts past → IsTable s (table_of s past)
table_of-is s past facts = record { game = refl; seats = facts.seated.seats; two = facts.seated.two; loaded = facts.loaded }
