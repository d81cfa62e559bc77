-- Which steps has the review of a table taken before a game has ended there or was loaded? None.
use Rattle.std.proofs.Common.{◌≡◌, ℕ, Bool, true, false, cond, List, [], ◌∷◌, ◌++◌, refl, ap, sym, subst, ◌∙◌, Some, None, Option}
use Rattle.std.specs.Prelude.{◌&&◌, ◌||◌, ◌==◌, is_some, nat_le, if◌then◌else◌}
use Rattle.std.proofs.Math.Bool.{or-true}
use Rattle.std.proofs.lemmas.Bool.{or_from, or_parts}
use Rattle.hb_rules.specs.declared.acts.Act.{Act}
use Rattle.hb_rules.specs.declared.acts.Action.{Action}
use Rattle.hb_rules.specs.declared.acts.Action.TheVariants as action
use Rattle.hb_rules.specs.declared.acts.EndHow.{EndHow}
use Rattle.hb_rules.specs.declared.acts.EndHow.TheVariants.{Terminated, Timeout}
use Rattle.hb_rules.specs.declared.acts.Options.{Options}
use Rattle.hb_rules.specs.declared.setups.Setup.{Setup}
use Rattle.hb_rules.specs.Result.{ended}
use Rattle.hb_rules.specs.Setup.{Position, by}
use Rattle.hb_rules.proofs.Rules.{may_runs}
use Rattle.hb_timer.specs.Banks.{deadline, turn_seat}
use Rattle.hb_club.specs.declared.clerks.Noted.{Noted}
use Rattle.hb_club.specs.declared.clerks.Noted.TheVariants as noted
use Rattle.hb_club.specs.declared.commands.Command.{Command}
use Rattle.hb_club.specs.declared.commands.Command.TheVariants as command
use Rattle.hb_club.specs.declared.commands.Entry.{Entry}
use Rattle.hb_club.specs.declared.items.Item.{Item}
use Rattle.hb_club.specs.declared.items.What.{What}
use Rattle.hb_club.specs.declared.items.What.TheVariants as what
use Rattle.hb_club.specs.CommandKinds.{asked_action, is_review_step}
use Rattle.hb_club.specs.ClerkCalls.{is_due, is_pending, notice_id}
use Rattle.hb_club.specs.EndedReplays.{Finished}
use Rattle.hb_club.specs.NewItems.{entry_stamp, item_of, step_item}
use Rattle.hb_club.specs.RoomEvents.{AsksTodo, Call, Happening, Loaded, Notes, Notice, RoomEvent, Saved, Site, event_moment}
use Rattle.hb_club.specs.Rooms.{happening, past_of}
use Rattle.hb_club.specs.Seating.{seated_names}
use Rattle.hb_club.specs.Table.{Table, has_ended, seat_of}
use Rattle.hb_club.specs.TableClock.{timer_calls, timing_of}
use Rattle.hb_club.specs.TableFacts.{record_of, table_of}
use Rattle.hb_club.specs.TableItems.{act_in, acts, is_standing, is_started, latest_items, step_in, steps}
use Rattle.hb_club.specs.TableRefusals.{act_rule, own_for}
use Rattle.hb_club.specs.TableReview.{game_end, reviewed_game, step_of}
use Rattle.hb_club.specs.TimeFirst.{timeout, timeout_at, timeout_when, with_items}
use Rattle.hb_club.proofs.PlainItemsLemmas.{is_plain}
use Rattle.hb_club.proofs.TableRefusalsLemmas.{done-no-game, done-by-rules, done-reviewing}
use Rattle.hb_review.specs.declared.steps.Step.{Step}
use Rattle.hb_playing.specs.Games.{ended_by}
use Rattle.hb_table.specs.State.{State, host_load, state_at}
use Rattle.hb_table.specs.StateMoves.{accepts, item_at, late_items, loaded_table, noted_in, stamp_in, started_table, timed_state}
use Rattle.hb_table.proofs.ClerkStateLemmas.{state_of-loaded, state_of-noted, state_of-nothing, state_of-todo}
use Rattle.hb_table.proofs.PendingStateLemmas.{is_started-late}
use Rattle.hb_table.proofs.StateLemmas.{IsAccepted, is-accepted, state_of-item, state_of-load, state_of-note, state_of-refused, state_of-start}
use Rattle.hb_table.proofs.TableFactsLemmas.{unstarted-game}
use Rattle.hb_table.proofs.TableGamesLemmas.{has_ended-by, position_in-stays}
use Rattle.hb_table.proofs.TableMovesLemmas.{steps-stay}

-- a game has ended at the table, or was loaded
abbrev pub is_reviewing : Table → Bool
is_reviewing t = has_ended t || is_some t.loaded

-- then it is the one that is reviewed
pub reviewed_game-some : (t : Table) → is_reviewing t ≡ true
    → (game : Position) × (reviewed_game t.loaded t.game t.items ≡ Some game)
reviewed_game-some t on = pick t.loaded t.game refl refl
  where
    pick : (l : Option Finished) (g : Option Setup) → t.loaded ≡ l → t.game ≡ g
        → (game : Position) × (reviewed_game t.loaded t.game t.items ≡ Some game)
    pick (Some loaded) g is game = (loaded.game, rw is refl)
    pick None None is game = let never : false ≡ true = rw (is, game) at on in cc
    pick None (Some g) is game =
        let over : is_some (ended g (acts t.items)) ≡ true = either (is_some (ended g (acts t.items))) (rw (is, game) at on) in
        (record { setup = g; past = acts t.items }, rw (is, game, over) refl)
      where
        either : (b : Bool) → (b || false) ≡ true → b ≡ true
        either true h = refl
        either false h = h

-- and else none is
pub is_reviewing-none : (t : Table) → reviewed_game t.loaded t.game t.items ≡ None → is_reviewing t ≡ false
is_reviewing-none t none = pick (is_reviewing t) refl
  where
    pick : (b : Bool) → is_reviewing t ≡ b → b ≡ false
    pick false is = refl
    pick true is = with_game (reviewed_game-some t is)
      where
        with_game : (game : Position) × (reviewed_game t.loaded t.game t.items ≡ Some game) → true ≡ false
        with_game (game, some) = let never : None ≡ Some game = sym none ∙ some in cc

-- the item of a step that a review takes
pub item_of-step : (t : Table) (member : List ℕ) (c : Command) (step : Step) → is_review_step c ≡ true
    → step_of (reviewed_game t.loaded t.game t.items) (steps t.items) c ≡ Some step → item_of t member c ≡ Some (step_item step)
item_of-step t member (command.Go turn) step kind is = rw is refl
item_of-step t member (command.Hypo a) step kind is = rw is refl
item_of-step t member command.Undo step kind is = rw is refl
item_of-step t member (command.Open name options) step kind is = cc
item_of-step t member command.Sit step kind is = cc
item_of-step t member command.Rise step kind is = cc
item_of-step t member command.Start step kind is = cc
item_of-step t member (command.Act a) step kind is = cc
item_of-step t member (command.Note order text) step kind is = cc
item_of-step t member command.Pause step kind is = cc
item_of-step t member command.Resume step kind is = cc
item_of-step t member command.Terminate step kind is = cc
item_of-step t member (command.Watch shadow) step kind is = cc
item_of-step t member command.Leave step kind is = cc
item_of-step t member (command.Load id) step kind is = cc
item_of-step t member command.Close step kind is = cc
item_of-step t member command.Look step kind is = cc

-- one step more
pub steps-reviewed : (moment : ℕ) (step : Step) (items : List Item) → steps (item_at moment (step_item step) ∷ items) ≡ step ∷ steps items
steps-reviewed moment step items = refl

-- what time adds, if anything, ends the game

-- a called end is an end
pub ended-called : (g : Setup) (past : List Act) (seat : ℕ) (how : EndHow) → is_some (ended g (by seat (action.End how) ∷ past)) ≡ true
unfolding ended
ended-called g past seat how = refl

-- what holds of no item, and of each end by Timeout, holds of what time adds
pub timeout-each : (P : List Item → Type 0) → P []
    → ((moment seat : ℕ) → P (item_at moment (what.Acted (by seat (action.End Timeout))) ∷ []))
    → (t : Table) (g : Option Setup) (moment : ℕ) → P (timeout t g moment)
timeout-each P none one t None moment = none
timeout-each P none one t (Some g) moment = by_test (is_standing t.items && t.options.timed)
  where
    at_end : (seat : ℕ) (end : Option ℕ) → P (timeout_at seat moment end)
    at_end seat None = none
    at_end seat (Some end) = elim (nat_le end moment) as
        (λ b. P (cond b (item_at end (what.Acted (by seat (action.End Timeout))) ∷ []) [])) [ true ↦ one end seat | false ↦ none ]

    by_test : (b : Bool) → P (timeout_when b g t.items moment)
    by_test true = at_end (turn_seat (timing_of g t.items) (timer_calls g t.items)) (deadline (timing_of g t.items) (timer_calls g t.items))
    by_test false = none

-- what holds of each table
abbrev pub NoStepsBefore : Table → Type 0
NoStepsBefore t = is_reviewing t ≡ false → steps t.items ≡ []

has_ended-stays : (t : Table) (i : Item) → act_in i.what ≡ None → has_ended (with_items (i ∷ []) t) ≡ has_ended t
has_ended-stays t i none =
    has_ended-by (with_items (i ∷ []) t) ∙ (ap ended_by (position_in-stays t i none) ∙ sym (has_ended-by t))

no-steps-item : (t : Table) (moment : ℕ) (w : What) → act_in w ≡ None → step_in w ≡ None → NoStepsBefore t
    → NoStepsBefore (with_items (item_at moment w ∷ []) t)
no-steps-item t moment w act step before = λ off.
    steps-stay (item_at moment w) t.items step
    ∙ before (sym (ap (λ (b : Bool). b || is_some t.loaded) (has_ended-stays t (item_at moment w) act)) ∙ off)

no-steps-acted : (t : Table) (moment : ℕ) (act : Act) → has_ended t ≡ false → NoStepsBefore t
    → NoStepsBefore (with_items (item_at moment (what.Acted act) ∷ []) t)
no-steps-acted t moment act runs before = λ off.
    before (or_from (has_ended t) (is_some t.loaded) runs
    (or_parts (has_ended (with_items (item_at moment (what.Acted act) ∷ []) t)) (is_some t.loaded) off).1)

no-steps-time : (t : Table) (g : Option Setup) (moment : ℕ) → t.game ≡ g → NoStepsBefore t
    → NoStepsBefore (with_items (timeout t g moment) t)
no-steps-time t None moment is before = before
no-steps-time t (Some g) moment is before = timeout-each (λ late. NoStepsBefore (with_items late t)) before ends t (Some g) moment
  where
    ends : (end seat : ℕ) → NoStepsBefore (with_items (item_at end (what.Acted (by seat (action.End Timeout))) ∷ []) t)
    ends end seat off =
        let over : has_ended (with_items (item_at end (what.Acted (by seat (action.End Timeout))) ∷ []) t) ≡ true =
        rw is (ended-called g (acts t.items) seat Timeout) in
        let runs : has_ended (with_items (item_at end (what.Acted (by seat (action.End Timeout))) ∷ []) t) ≡ false =
        (or_parts _ (is_some t.loaded) off).0 in
        let never : true ≡ false = sym over ∙ runs in cc

no-steps-timed : (s : Site) (past : List Happening) (e : RoomEvent) → NoStepsBefore (table_of s past)
    → NoStepsBefore (timed_state s past e).table
no-steps-timed s past e before = no-steps-time (table_of s past) (table_of s past).game (event_moment e) refl before

-- an act that is accepted comes while the game runs
act-runs : (t : Table) (seat : ℕ) (a : Action) → act_rule t.game (acts t.items) seat (Some a) ≡ None → has_ended t ≡ false
act-runs t seat a none = pick t.game refl none
  where
    pick : (g : Option Setup) → t.game ≡ g → act_rule g (acts t.items) seat (Some a) ≡ None → has_ended t ≡ false
    pick None is free = rw is refl
    pick (Some g) is free = rw is (may_runs g (acts t.items) seat a free)

-- so it is with the command
pub has_ended-acts : (x : State) (e : Entry) (a : Action) → asked_action e.command ≡ Some a → accepts x e ≡ true → has_ended x.table ≡ false
has_ended-acts x e a asks taken =
    let are : IsAccepted x e = is-accepted x e taken in
    act-runs x.table (seat_of x.table e.member) a
    (subst (λ (o : Option Action). act_rule x.table.game (acts x.table.items) (seat_of x.table e.member) o ≡ None) asks
    (done-by-rules x.table (own_for x.table (x.own e.member) e) e are.done are.fresh))

-- a step that is accepted is one of a review
pub is_reviewing-steps : (x : State) (e : Entry) → is_review_step e.command ≡ true → accepts x e ≡ true → is_reviewing x.table ≡ true
is_reviewing-steps x e kind taken =
    let are : IsAccepted x e = is-accepted x e taken in
    done-reviewing x.table (own_for x.table (x.own e.member) e) e kind are.done are.fresh

-- so the review takes it
pub step_of-taken : (t : Table) (c : Command) → is_review_step c ≡ true → is_reviewing t ≡ true
    → (step : Step) × (step_of (reviewed_game t.loaded t.game t.items) (steps t.items) c ≡ Some step)
step_of-taken t c kind on = with_game (reviewed_game-some t on)
  where
    of_kind : (game : Position) (d : Command) → is_review_step d ≡ true
        → (step : Step) × (step_of (Some game) (steps t.items) d ≡ Some step)
    of_kind game (command.Go turn) is = (_, refl)
    of_kind game (command.Hypo a) is = (_, refl)
    of_kind game command.Undo is = (_, refl)
    of_kind game (command.Open name options) is = cc
    of_kind game command.Sit is = cc
    of_kind game command.Rise is = cc
    of_kind game command.Start is = cc
    of_kind game (command.Act a) is = cc
    of_kind game (command.Note order text) is = cc
    of_kind game command.Pause is = cc
    of_kind game command.Resume is = cc
    of_kind game command.Terminate is = cc
    of_kind game (command.Watch shadow) is = cc
    of_kind game command.Leave is = cc
    of_kind game (command.Load id) is = cc
    of_kind game command.Close is = cc
    of_kind game command.Look is = cc

    with_game : (game : Position) × (reviewed_game t.loaded t.game t.items ≡ Some game)
        → (step : Step) × (step_of (reviewed_game t.loaded t.game t.items) (steps t.items) c ≡ Some step)
    with_game (game, some) = rw some (of_kind game c kind)

-- what an accepted command leaves

no-steps-plain : (s : Site) (past : List Happening) (e : Entry) (w : What) → accepts (timed_state s past (Call e)) e ≡ true
    → item_of (timed_state s past (Call e)).table e.member e.command ≡ Some w → is_plain w ≡ true → act_in w ≡ None → step_in w ≡ None
    → NoStepsBefore (timed_state s past (Call e)).table → NoStepsBefore (table_of s (happening s past (Call e) ∷ past))
no-steps-plain s past e w taken item plain act step before =
    subst NoStepsBefore (state_of-item s past e w taken item plain).table
    (no-steps-item (timed_state s past (Call e)).table (stamp_in (timed_state s past (Call e)) e.moment) w act step before)

no-steps-act : (s : Site) (past : List Happening) (e : Entry) (a : Action) → accepts (timed_state s past (Call e)) e ≡ true
    → item_of (timed_state s past (Call e)).table e.member e.command
    ≡ Some (what.Acted (by (seat_of (timed_state s past (Call e)).table e.member) a)) → asked_action e.command ≡ Some a
    → NoStepsBefore (timed_state s past (Call e)).table → NoStepsBefore (table_of s (happening s past (Call e) ∷ past))
no-steps-act s past e a taken item asks before =
    let x : State = timed_state s past (Call e) in
    let act : Act = by (seat_of x.table e.member) a in
    subst NoStepsBefore (state_of-item s past e (what.Acted act) taken item refl).table
    (no-steps-acted x.table (stamp_in x e.moment) act (has_ended-acts x e a asks taken) before)

no-steps-review : (s : Site) (past : List Happening) (e : Entry) → accepts (timed_state s past (Call e)) e ≡ true
    → is_review_step e.command ≡ true → NoStepsBefore (table_of s (happening s past (Call e) ∷ past))
no-steps-review s past e taken kind = with_step (step_of-taken x.table e.command kind on)
  where
    x : State
    x = timed_state s past (Call e)

    on : is_reviewing x.table ≡ true
    on = is_reviewing-steps x e kind taken

    with_step : (step : Step)
        × (step_of (reviewed_game x.table.loaded x.table.game x.table.items) (steps x.table.items) e.command ≡ Some step)
        → NoStepsBefore (table_of s (happening s past (Call e) ∷ past))
    with_step (step, is) = subst NoStepsBefore
        (state_of-item s past e (step_item step) taken (item_of-step x.table e.member e.command step kind is) refl).table still
      where
        still : NoStepsBefore (with_items (item_at (stamp_in x e.moment) (step_item step) ∷ []) x.table)
        still off = let never : true ≡ false = sym on
            ∙ (sym (ap (λ (b : Bool). b || is_some x.table.loaded)
            (has_ended-stays x.table (item_at (stamp_in x e.moment) (step_item step)) refl)) ∙ off) in cc

no-steps-open : (s : Site) (past : List Happening) (e : Entry) (name : List ℕ) (options : Options) → e.command ≡ command.Open name options
    → accepts (timed_state s past (Call e)) e ≡ true → NoStepsBefore (table_of s (happening s past (Call e) ∷ past))
no-steps-open s past e name options is taken off =
    let i : Item = item_at (entry_stamp (timed_state s past (Call e)).table past e) (what.Opened e.member) in
    let added : (happening s past (Call e)).added ≡ i ∷ late_items s past (Call e) = rw (taken, is) refl in
    ap (λ (l : List Item). steps (latest_items (l ++ record_of past))) added

no-steps-start : (s : Site) (past : List Happening) (e : Entry) → e.command ≡ command.Start → accepts (timed_state s past (Call e)) e ≡ true
    → NoStepsBefore (timed_state s past (Call e)).table → NoStepsBefore (table_of s (happening s past (Call e) ∷ past))
no-steps-start s past e is taken before = subst NoStepsBefore (state_of-start s past e is taken).table started
  where
    x : State
    x = timed_state s past (Call e)

    are : IsAccepted x e
    are = is-accepted x e taken

    none : (is_started x.table.items ≡ false) × (is_some x.table.loaded ≡ false)
    none = done-no-game x.table (own_for x.table (x.own e.member) e) e (rw is refl) are.done are.fresh

    no-game : has_ended x.table ≡ false
    no-game = ap (λ (g : Option Setup). is_some (game_end g x.table.items)) (unstarted-game s past
        (sym (is_started-late (table_of s past) (table_of s past).game (event_moment (Call e)) (table_of s past).items) ∙ none.0))

    started : NoStepsBefore (started_table s (stamp_in x e.moment) (seated_names x.table.items) x.table)
    started off = before (or_from (has_ended x.table) (is_some x.table.loaded) no-game none.1)

no-steps-taken : (s : Site) (past : List Happening) (e : Entry) (c : Command) → e.command ≡ c
    → accepts (timed_state s past (Call e)) e ≡ true → NoStepsBefore (timed_state s past (Call e)).table
    → NoStepsBefore (table_of s (happening s past (Call e) ∷ past))
no-steps-taken s past e (command.Open name options) is taken before = no-steps-open s past e name options is taken
no-steps-taken s past e command.Sit is taken before = no-steps-plain s past e (what.Sat e.member) taken (rw is refl) refl refl refl before
no-steps-taken s past e command.Rise is taken before = no-steps-plain s past e (what.Rose e.member) taken (rw is refl) refl refl refl before
no-steps-taken s past e command.Start is taken before = no-steps-start s past e is taken before
no-steps-taken s past e (command.Act a) is taken before = no-steps-act s past e a taken (rw is refl) (rw is refl) before
no-steps-taken s past e (command.Note order text) is taken before =
    subst NoStepsBefore (state_of-note s past e order text is taken).table before
no-steps-taken s past e command.Pause is taken before =
    no-steps-plain s past e (what.Paused e.member) taken (rw is refl) refl refl refl before
no-steps-taken s past e command.Resume is taken before =
    no-steps-plain s past e (what.Resumed e.member) taken (rw is refl) refl refl refl before
no-steps-taken s past e command.Terminate is taken before =
    no-steps-act s past e (action.End Terminated) taken (rw is refl) (rw is refl) before
no-steps-taken s past e (command.Watch shadow) is taken before =
    no-steps-plain s past e (what.Watching e.member shadow) taken (rw is refl) refl refl refl before
no-steps-taken s past e command.Leave is taken before =
    no-steps-plain s past e (what.Left e.member) taken (rw is refl) refl refl refl before
no-steps-taken s past e (command.Load id) is taken before = subst NoStepsBefore (state_of-load s past e id is taken).table before
no-steps-taken s past e (command.Go turn) is taken before = no-steps-review s past e taken (rw is refl)
no-steps-taken s past e (command.Hypo a) is taken before = no-steps-review s past e taken (rw is refl)
no-steps-taken s past e command.Undo is taken before = no-steps-review s past e taken (rw is refl)
no-steps-taken s past e command.Close is taken before = no-steps-plain s past e what.Closed taken (rw is refl) refl refl refl before
no-steps-taken s past e command.Look is taken before = let never : false ≡ true = rw is at taken in cc

no-steps-call : (s : Site) (past : List Happening) (e : Entry) → NoStepsBefore (timed_state s past (Call e)).table
    → NoStepsBefore (table_of s (happening s past (Call e) ∷ past))
no-steps-call s past e before = pick (accepts (timed_state s past (Call e)) e) refl
  where
    pick : (b : Bool) → accepts (timed_state s past (Call e)) e ≡ b → NoStepsBefore (table_of s (happening s past (Call e) ∷ past))
    pick false refused = subst NoStepsBefore (state_of-refused s past e refused).table before
    pick true taken = no-steps-taken s past e e.command refl taken before

-- what a note of the clerk leaves

no-steps-noted : (s : Site) (past : List Happening) (moment : ℕ) (n : Notice) (which : Noted)
    → noted_in (timed_state s past (Notes moment n)) n ≡ which → NoStepsBefore (timed_state s past (Notes moment n)).table
    → NoStepsBefore (table_of s (happening s past (Notes moment n) ∷ past))
no-steps-noted s past moment n noted.Nothing is before = subst NoStepsBefore (state_of-nothing s past moment n is).table before
no-steps-noted s past moment n noted.Saved is before =
    let x : State = timed_state s past (Notes moment n) in
    subst NoStepsBefore (state_of-noted s past moment n (what.Saved (notice_id n)) (rw is refl) refl).table
    (no-steps-item x.table (stamp_in x moment) (what.Saved (notice_id n)) refl refl before)
no-steps-noted s past moment n noted.NoGame is before =
    let x : State = timed_state s past (Notes moment n) in
    subst NoStepsBefore (state_of-noted s past moment n (what.NoGame (notice_id n)) (rw is refl) refl).table
    (no-steps-item x.table (stamp_in x moment) (what.NoGame (notice_id n)) refl refl before)
no-steps-noted s past moment (Saved table id) noted.Loaded is before =
    pick (table == (timed_state s past (Notes moment (Saved table id))).table.latest
    && is_due (timed_state s past (Notes moment (Saved table id))).table) is
  where
    pick : (b : Bool) → (if b then noted.Saved else noted.Nothing) ≡ noted.Loaded
        → NoStepsBefore (table_of s (happening s past (Notes moment (Saved table id)) ∷ past))
    pick true h = cc
    pick false h = cc
no-steps-noted s past moment (Loaded table id None) noted.Loaded is before =
    pick (is_pending (timed_state s past (Notes moment (Loaded table id None))).table.latest table id
    (host_load (timed_state s past (Notes moment (Loaded table id None))))) is
  where
    pick : (b : Bool) → (if b then noted.NoGame else noted.Nothing) ≡ noted.Loaded
        → NoStepsBefore (table_of s (happening s past (Notes moment (Loaded table id None)) ∷ past))
    pick true h = cc
    pick false h = cc
no-steps-noted s past moment (Loaded table id (Some r)) noted.Loaded is before =
    subst NoStepsBefore (state_of-loaded s past moment table id (Some r) is).table
    shown
  where
    x : State
    x = timed_state s past (Notes moment (Loaded table id (Some r)))

    shown : NoStepsBefore (loaded_table (stamp_in x moment) id (Some r) x.table)
    shown off = let never : true ≡ false = sym (or-true (has_ended (loaded_table (stamp_in x moment) id (Some r) x.table))) ∙ off in cc

no-steps-event : (s : Site) (past : List Happening) (e : RoomEvent) → NoStepsBefore (timed_state s past e).table
    → NoStepsBefore (table_of s (happening s past e ∷ past))
no-steps-event s past (Call e) before = no-steps-call s past e before
no-steps-event s past (AsksTodo moment) before = subst NoStepsBefore (state_of-todo s past moment).table before
no-steps-event s past (Notes moment n) before =
    no-steps-noted s past moment n (noted_in (timed_state s past (Notes moment n)) n) refl before

-- no step stands at a table before a game has ended there or was loaded
pub state_at-no-steps : (s : Site) (events : List RoomEvent) → NoStepsBefore (state_at s events).table
state_at-no-steps s [] = λ off. refl
state_at-no-steps s (e ∷ events) =
    no-steps-event s (past_of s events) e (no-steps-timed s (past_of s events) e (state_at-no-steps s events))

-- nor when time was applied
pub timed_state-no-steps : (s : Site) (events : List RoomEvent) (e : RoomEvent) → NoStepsBefore (timed_state s (past_of s events) e).table
timed_state-no-steps s events e = no-steps-timed s (past_of s events) e (state_at-no-steps s events)
