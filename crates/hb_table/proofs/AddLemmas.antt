-- When may a room add an item? If what it does to the game, the clock and the review is what the longer list has.
use Rattle.std.proofs.Common.{◌≡◌, ℕ, ◌≤◌, ◌<◌, Bool, true, false, List, [], ◌∷◌, refl, ap, arith, sym, subst, ◌∙◌, Some, None, Option}
use Rattle.std.specs.Prelude.{not, is_some, nat_le, if◌then◌else◌}
use Rattle.std.proofs.lemmas.Bool.{and_parts}
use Rattle.std.proofs.Math.Nat.{mod-lt}
use Rattle.hb_rules.specs.declared.acts.Act.{Act}
use Rattle.hb_rules.specs.declared.acts.Action.TheVariants as action
use Rattle.hb_rules.specs.declared.acts.EndHow.{EndHow}
use Rattle.hb_rules.specs.declared.acts.EndHow.TheVariants.{Timeout}
use Rattle.hb_rules.specs.declared.setups.Setup.{Setup}
use Rattle.hb_rules.specs.Legality.{rule}
use Rattle.hb_rules.specs.Positions.{ended}
use Rattle.hb_rules.specs.Setup.{Position, by}
use Rattle.hb_rules.proofs.Rules.{may_runs}
use Rattle.hb_timer.specs.declared.timing.TheConstants.{MOMENT_LIMIT}
use Rattle.hb_timer.specs.declared.timing.TimerCall.{TimerCall}
use Rattle.hb_timer.specs.declared.timing.TimerCall.TheVariants.{TurnEnds, Pauses, Resumes, Stops}
use Rattle.hb_timer.specs.Banks.{deadline, is_running, is_stopped, turn_seat}
use Rattle.hb_timer.specs.Timer.{History}
use Rattle.hb_review.specs.declared.steps.Step.{Step}
use Rattle.hb_review.specs.ReviewModel.{Walk}
use Rattle.hb_club.specs.declared.items.What.{What}
use Rattle.hb_club.specs.declared.items.What.TheVariants as what
use Rattle.hb_club.specs.NewItems.{step_item}
use Rattle.hb_club.specs.Table.{Table}
use Rattle.hb_club.specs.TableClock.{timer_calls, timing_of}
use Rattle.hb_club.specs.TableItems.{act_in, host_in, is_opened, step_in, steps}
use Rattle.hb_club.specs.TableReview.{played_game, reviewed_game}
use Rattle.hb_club.specs.TimeFirst.{with_items}
use Rattle.hb_club.proofs.PlainItemsLemmas.{is_plain}
use Rattle.hb_playing.specs.declared.clocks.Lapse.{Lapse}
use Rattle.hb_playing.specs.RoomClocks.{halted_by, is_timely, paused_by, resumed_by, timer_after, turned_by}
use Rattle.hb_playing.specs.Games.{acted_by, ended_by, game_after, rule_by}
use Rattle.hb_playing.specs.RoomReviews.{ended_game, walk_of}
use Rattle.hb_table.specs.declared.room.Room.{Room}
use Rattle.hb_table.specs.State.{State, history_in, position_in, reviewed_by}
use Rattle.hb_table.specs.StateMoves.{item_at}
use Rattle.hb_table.specs.Keeps.{HaltsAtEnd, IsTimely, Keeps, walk_in}
use Rattle.hb_table.specs.Changes.{due_in, review_after, timed_out}
use Rattle.hb_table.proofs.TableMovesLemmas.{names_in-plain, steps-stay}
use Rattle.hb_table.proofs.TableGamesLemmas.{call_of_act, clock_with, game_with, has_ended-by, history_in-item, position_in-item, reviewed_game-item, reviewed_game-stays, with_act, with_call}
use Rattle.hb_table.proofs.RoomKeepsLemmas.{CanAdd}
use Rattle.hb_table.proofs.ReviewStepsLemmas.{NoStepsBefore, ended-called, is_reviewing}

-- a plain item opens no table
pub plain-opens-none : (w : What) → is_plain w ≡ true → (host_in w ≡ None) × (is_opened w ≡ false)
plain-opens-none (what.Opened host) plain = cc
plain-opens-none (what.Sat name) plain = (refl, refl)
plain-opens-none (what.Rose name) plain = (refl, refl)
plain-opens-none (what.Watching name shadow) plain = (refl, refl)
plain-opens-none (what.Left name) plain = (refl, refl)
plain-opens-none (what.Started names) plain = (refl, refl)
plain-opens-none (what.Acted act) plain = (refl, refl)
plain-opens-none (what.Paused name) plain = (refl, refl)
plain-opens-none (what.Resumed name) plain = (refl, refl)
plain-opens-none (what.Saved id) plain = (refl, refl)
plain-opens-none (what.Loaded id) plain = (refl, refl)
plain-opens-none (what.NoGame id) plain = (refl, refl)
plain-opens-none (what.Reviewed turn hypos action) plain = (refl, refl)
plain-opens-none what.Closed plain = (refl, refl)

-- what the room does at an item is what the list has
pub record Follows (moment : ℕ) (w : What) (a : Room) : Type 0 where
  pub game : game_after w a.game ≡ game_with w a.game
  pub timer : timer_after w moment (game_with w a.game) a.timer ≡ clock_with w moment (game_with w a.game) a.timer
  pub halts : HaltsAtEnd (game_with w a.game) (clock_with w moment (game_with w a.game) a.timer)
  pub on_time : IsTimely moment (clock_with w moment (game_with w a.game) a.timer)

none-some : {A : Type 0} {v : A} → None ≡ Some v → ⊥
none-some e = cc

some-same : {A : Type 0} {u v : A} → Some u ≡ Some v → u ≡ v
some-same e = cc

-- so the item may be added
pub can-add : (x : State) (a : Room) (moment : ℕ) (w : What) (walk : Option Walk) → Keeps x a → is_plain w ≡ true
    → a.stamp ≤ moment → moment ≤ MOMENT_LIMIT → Follows moment w a
    → walk ≡ walk_in (with_items (item_at moment w ∷ []) x.table) → CanAdd moment w walk x a
can-add x a moment w walk k plain later range follows review = record {
  host = (plain-opens-none w plain).0;
  opened = (plain-opens-none w plain).1;
  names = names_in-plain w plain;
  later = later;
  in_range = range;
  game = follows.game ∙ ap (game_with w) k.game ∙ sym (position_in-item x.table moment w);
  timer = clock ∙ ap (λ (p : Option Position). clock_with w moment (game_with w p) a.timer) k.game
      ∙ ap (clock_with w moment (game_with w (position_in x.table))) k.timer
      ∙ sym (history_in-item x.table moment w (names_in-plain w plain));
  review = review;
  halts = subst (λ (p : Option Position). HaltsAtEnd p (timer_after w moment p a.timer)) (sym follows.game)
      (subst (HaltsAtEnd (game_with w a.game)) (sym follows.timer) follows.halts);
  on_time = subst (IsTimely moment) (sym clock) follows.on_time;
}
  where
    clock : timer_after w moment (game_after w a.game) a.timer ≡ clock_with w moment (game_with w a.game) a.timer
    clock = ap (λ (p : Option Position). timer_after w moment p a.timer) follows.game ∙ follows.timer

-- small items: no act, no call of the timer

pub record IsSmall (w : What) : Type 0 where
  pub plain : is_plain w ≡ true
  pub act : act_in w ≡ None
  pub game : (p : Option Position) → game_after w p ≡ p
  pub same_game : (p : Option Position) → game_with w p ≡ p
  pub timer : (m : ℕ) (p : Option Position) (t : Option History) → timer_after w m p t ≡ t
  pub clock : (m : ℕ) (p : Option Position) (t : Option History) → clock_with w m p t ≡ t

-- those of which no game and no clock takes note
abbrev pub is_small : What → Bool
is_small (what.Sat name) = true
is_small (what.Rose name) = true
is_small (what.Watching name shadow) = true
is_small (what.Left name) = true
is_small (what.Saved id) = true
is_small (what.NoGame id) = true
is_small (what.Reviewed turn hypos action) = true
is_small what.Closed = true
is_small _ = false

still : (w : What) → is_plain w ≡ true → act_in w ≡ None
    → ((p : Option Position) → game_after w p ≡ p) → ((p : Option Position) → game_with w p ≡ p)
    → ((m : ℕ) (p : Option Position) (t : Option History) → timer_after w m p t ≡ t)
    → ((m : ℕ) (p : Option Position) (t : Option History) → clock_with w m p t ≡ t) → IsSmall w
still w plain act game same_game timer clock =
    record { plain = plain; act = act; game = game; same_game = same_game; timer = timer; clock = clock }

-- an item that is tested as small changes neither game, timer nor acts
pub small-is : (w : What) → is_small w ≡ true → IsSmall w
small-is (what.Sat name) small = still (what.Sat name) refl refl (λ p. refl) (λ p. refl) (λ m p t. refl) (λ m p t. refl)
small-is (what.Rose name) small = still (what.Rose name) refl refl (λ p. refl) (λ p. refl) (λ m p t. refl) (λ m p t. refl)
small-is (what.Watching name shadow) small =
    still (what.Watching name shadow) refl refl (λ p. refl) (λ p. refl) (λ m p t. refl) (λ m p t. refl)
small-is (what.Left name) small = still (what.Left name) refl refl (λ p. refl) (λ p. refl) (λ m p t. refl) (λ m p t. refl)
small-is (what.Saved id) small = still (what.Saved id) refl refl (λ p. refl) (λ p. refl) (λ m p t. refl) (λ m p t. refl)
small-is (what.NoGame id) small = still (what.NoGame id) refl refl (λ p. refl) (λ p. refl) (λ m p t. refl) (λ m p t. refl)
small-is (what.Reviewed turn hypos action) small =
    still (what.Reviewed turn hypos action) refl refl (λ p. refl) (λ p. refl) (λ m p t. refl) (λ m p t. refl)
small-is what.Closed small = still what.Closed refl refl (λ p. refl) (λ p. refl) (λ m p t. refl) (λ m p t. refl)
small-is (what.Opened host) small = cc
small-is (what.Started names) small = cc
small-is (what.Acted act) small = cc
small-is (what.Paused name) small = cc
small-is (what.Resumed name) small = cc
small-is (what.Loaded id) small = cc

small-follows : (a : Room) (moment : ℕ) (w : What) → IsSmall w → HaltsAtEnd a.game a.timer → IsTimely moment a.timer → Follows moment w a
small-follows a moment w small halts timely = record {
  game = small.game a.game ∙ sym (small.same_game a.game);
  timer = small.timer moment (game_with w a.game) a.timer ∙ sym (small.clock moment (game_with w a.game) a.timer);
  halts = subst (λ (p : Option Position). HaltsAtEnd p (clock_with w moment p a.timer)) (sym (small.same_game a.game))
      (subst (HaltsAtEnd a.game) (sym (small.clock moment a.game a.timer)) halts);
  on_time = subst (IsTimely moment) (sym (small.clock moment (game_with w a.game) a.timer)) timely;
}

-- an item that is no act and no step leaves the review
walk-stays : (t : Table) (moment : ℕ) (w : What) → act_in w ≡ None → step_in w ≡ None → walk_in t
    ≡ walk_in (with_items (item_at moment w ∷ []) t)
walk-stays t moment w act step =
    sym (ap (λ (all : List Step). walk_of (reviewed_game t.loaded t.game (item_at moment w ∷ t.items)) all) (steps-stay (item_at moment
    w) t.items step)
    ∙ ap (λ (game : Option Position). walk_of game (steps t.items)) (reviewed_game-stays t (item_at moment w) act))

review-stays : (x : State) (a : Room) (moment : ℕ) (w : What) → Keeps x a → act_in w ≡ None → step_in w ≡ None
    → a.review ≡ walk_in (with_items (item_at moment w ∷ []) x.table)
review-stays x a moment w k act step = k.review ∙ walk-stays x.table moment w act step

-- a small item that is no step
pub small-can : (x : State) (a : Room) (moment : ℕ) (w : What) → is_small w ≡ true → step_in w ≡ None → Keeps x a → a.stamp ≤ moment
    → moment ≤ MOMENT_LIMIT → IsTimely moment a.timer → CanAdd moment w a.review x a
small-can x a moment w small step k later range timely =
    let is : IsSmall w = small-is w small in
    can-add x a moment w a.review k is.plain later range (small-follows a moment w is k.halts timely) (review-stays x a moment w k
    is.act step)

-- a step of the review
pub step-can : (x : State) (a : Room) (moment : ℕ) (s : Step) (game : Position) → Keeps x a
    → reviewed_game x.table.loaded x.table.game x.table.items ≡ Some game → a.stamp ≤ moment → moment ≤ MOMENT_LIMIT
    → IsTimely moment a.timer
    → CanAdd moment (step_item s) (walk_of (Some game) (s ∷ steps x.table.items)) x a
step-can x a moment s game k is later range timely =
    let small : IsSmall (step_item s) = small-is (step_item s) refl in
    can-add x a moment (step_item s) (walk_of (Some game) (s ∷ steps x.table.items)) k refl later range
    (small-follows a moment (step_item s) small k.halts timely)
    (ap (λ (o : Option Position). walk_of o (s ∷ steps x.table.items))
    (sym (reviewed_game-stays x.table (item_at moment (step_item s)) refl ∙ is)))

-- an act that breaks no rule

act-taken : (act : Act) (p : Option Position) → rule_by p act.who (Some act.action) ≡ None → acted_by act p ≡ with_act act p
act-taken act None none = refl
act-taken act (Some p) none = rw none refl

-- before it the game had not ended
act-before : (act : Act) (p : Option Position) → rule_by p act.who (Some act.action) ≡ None → ended_by p ≡ false
act-before act None none = refl
act-before act (Some p) none = may_runs p.setup p.past act.who act.action none

not-true : (b : Bool) → not b ≡ true → b ≡ false
not-true false is = refl
not-true true is = cc

low-le : (m n : ℕ) → m ≤ n → nat_le m n ≡ true
low-le m n low = grind (arith, low)

le-low : (m n : ℕ) → nat_le m n ≡ true → m ≤ n
le-low m n is = grind (arith, is)

timely-is : (moment : ℕ) (t : History) → ((end : ℕ) → deadline t.timing t.calls ≡ Some end → moment ≤ end) → moment ≤ MOMENT_LIMIT
    → is_timely moment t ≡ true
timely-is moment t within range = pick (deadline t.timing t.calls) refl
  where
    pick : (o : Option ℕ) → deadline t.timing t.calls ≡ o → is_timely moment t ≡ true
    pick None is = rw (is, low-le moment MOMENT_LIMIT range) refl
    pick (Some end) is = rw (is, low-le moment end (within end is), low-le moment MOMENT_LIMIT range) refl

-- if the clock is not paused, or the act ends the game, the timer takes the call
abbrev pub IsReady : Option Position → Option History → Type 0
IsReady p timer = paused_by timer ≡ true → ended_by p ≡ true

call_of_act-is : (p : Option Position) (moment : ℕ) (over : Bool) → ended_by p ≡ over
    → call_of_act p moment ≡ (if over then Stops moment else TurnEnds moment)
call_of_act-is None moment over is = rw (sym is) refl
call_of_act-is (Some p) moment over is = rw is refl

turn-taken : (before p : Option Position) (moment : ℕ) (timer : Option History) → ended_by before ≡ false → HaltsAtEnd before timer
    → IsTimely moment timer → moment ≤ MOMENT_LIMIT → IsReady p timer
    → turned_by (ended_by p) moment timer ≡ with_call (call_of_act p moment) timer
turn-taken before p moment None runs halts timely range ready = refl
turn-taken before p moment (Some t) runs halts timely range ready = pick (ended_by p) (is_running t.calls) refl refl
  where
    going : is_stopped t.calls ≡ false
    going = halts t refl ∙ runs

    in-time : is_timely moment t ≡ true
    in-time = timely-is moment t (timely t refl) range

    pick : (over running : Bool) → ended_by p ≡ over → is_running t.calls ≡ running
        → turned_by (ended_by p) moment (Some t) ≡ with_call (call_of_act p moment) (Some t)
    pick true running over is = rw (call_of_act-is p moment true over, over, in-time, going) refl
    pick false true over is = rw (call_of_act-is p moment false over, over, in-time, is) refl
    pick false false over is =
        let never : true ≡ false = sym (ready (rw (is, going) refl)) ∙ over in cc

-- what the call leaves

halts-after : (p : Option Position) (moment : ℕ) (timer : Option History) → HaltsAtEnd p (with_call (call_of_act p moment) timer)
halts-after p moment None t is = absurd (none-some is)
halts-after p moment (Some u) t is = subst (λ (v : History). is_stopped v.calls ≡ ended_by p) (some-same is) (each p)
  where
    each : (q : Option Position) → is_stopped (call_of_act q moment ∷ u.calls) ≡ ended_by q
    each None = refl
    each (Some q) = each-end (is_some (ended q)) refl
      where
        each-end : (b : Bool) → is_some (ended q) ≡ b → is_stopped (call_of_act (Some q) moment ∷ u.calls) ≡ ended_by (Some q)
        each-end true is = rw is refl
        each-end false is = rw is refl

later-after : (call : TimerCall) (moment : ℕ) (timer : Option History)
    → ((t : History) (end : ℕ) → deadline t.timing (call ∷ t.calls) ≡ Some end → moment ≤ end) → IsTimely moment (with_call call timer)
later-after call moment None within t is end ends = absurd (none-some is)
later-after call moment (Some u) within t is end ends =
    within u end (ap (λ (v : History). deadline v.timing v.calls) (some-same is) ∙ ends)

-- a deadline is not before the newest call
turn-later : (moment : ℕ) (t : History) (end : ℕ) → deadline t.timing (TurnEnds moment ∷ t.calls) ≡ Some end → moment ≤ end
turn-later moment t end is = omega (arith, some-same is)

resume-later : (moment : ℕ) (t : History) (end : ℕ) → deadline t.timing (Resumes moment ∷ t.calls) ≡ Some end → moment ≤ end
resume-later moment t end is = omega (arith, some-same is)

pause-later : (moment : ℕ) (t : History) (end : ℕ) → deadline t.timing (Pauses moment ∷ t.calls) ≡ Some end → moment ≤ end
pause-later moment t end is = absurd (none-some is)

stop-later : (moment : ℕ) (t : History) (end : ℕ) → deadline t.timing (Stops moment ∷ t.calls) ≡ Some end → moment ≤ end
stop-later moment t end is = absurd (none-some is)

act-later : (p : Option Position) (moment : ℕ) (t : History) (end : ℕ) → deadline t.timing (call_of_act p moment ∷ t.calls) ≡ Some end
    → moment ≤ end
act-later None moment t end is = turn-later moment t end is
act-later (Some p) moment t end is = each (is_some (ended p)) is
  where
    each : (b : Bool) → deadline t.timing ((if b then Stops moment else TurnEnds moment) ∷ t.calls) ≡ Some end → moment ≤ end
    each true is = stop-later moment t end is
    each false is = turn-later moment t end is

-- the review behind an act of a game that was started: it begins when the game ends

reviewed-by-end : (game : Option Position) → reviewed_by None game ≡ ended_game game
reviewed-by-end None = refl
reviewed-by-end (Some p) = refl

act-reviews : (x : State) (a : Room) (moment : ℕ) (act : Act) → Keeps x a → x.table.loaded ≡ None → NoStepsBefore x.table
    → ended_by a.game ≡ false → acted_by act a.game ≡ with_act act a.game
    → walk_of (ended_game (acted_by act a.game)) [] ≡ walk_in (with_items (item_at moment (what.Acted act) ∷ []) x.table)
act-reviews x a moment act k unloaded before runs taken =
    ap (λ (o : Option Position). walk_of o []) game
    ∙ ap (λ (all : List Step). walk_of (reviewed_game x.table.loaded x.table.game (item_at moment (what.Acted act) ∷ x.table.items)) all)
    (sym (before off))
  where
    off : is_reviewing x.table ≡ false
    off = rw (has_ended-by x.table, sym k.game, runs, unloaded) refl

    game : ended_game (acted_by act a.game) ≡ reviewed_game x.table.loaded x.table.game (item_at moment (what.Acted act) ∷ x.table.items)
    game = ap ended_game (taken ∙ ap (with_act act) k.game)
        ∙ sym (reviewed_game-item x.table moment (what.Acted act)
        ∙ rw unloaded (reviewed-by-end (with_act act (position_in x.table))))

-- an act
pub act-can : (x : State) (a : Room) (moment : ℕ) (act : Act) → Keeps x a → x.table.loaded ≡ None → NoStepsBefore x.table
    → rule_by a.game act.who (Some act.action) ≡ None → IsReady (with_act act a.game) a.timer → a.stamp ≤ moment → moment ≤ MOMENT_LIMIT
    → IsTimely moment a.timer → CanAdd moment (what.Acted act) (walk_of (ended_game (acted_by act a.game)) []) x a
act-can x a moment act k unloaded before none ready later range timely =
    let runs : ended_by a.game ≡ false = act-before act a.game none in
    can-add x a moment (what.Acted act) (walk_of (ended_game (acted_by act a.game)) []) k refl later range (record {
      game = act-taken act a.game none;
      timer = turn-taken a.game (with_act act a.game) moment a.timer runs k.halts timely range ready;
      halts = halts-after (with_act act a.game) moment a.timer;
      on_time = later-after (call_of_act (with_act act a.game) moment) moment a.timer (act-later (with_act act a.game) moment);
    }) (act-reviews x a moment act k unloaded before runs (act-taken act a.game none))

-- a called end is an end
pub end-over : (seat : ℕ) (how : EndHow) (p : Position) → ended_by (with_act (by seat (action.End how)) (Some p)) ≡ true
end-over seat how p = ended-called p.setup p.past seat how

-- a pause, and its end

-- a pause may be added while the game runs and its clock does
pub pause-can : (x : State) (a : Room) (moment : ℕ) (name : List ℕ) → Keeps x a → ended_by a.game ≡ false → paused_by a.timer ≡ false
    → a.stamp ≤ moment → moment ≤ MOMENT_LIMIT → IsTimely moment a.timer
    → CanAdd moment (what.Paused name) a.review x a
pause-can x a moment name k runs running later range timely =
    can-add x a moment (what.Paused name) a.review k refl later range (record {
      game = refl;
      timer = each a.timer k.halts timely running;
      halts = stays a.timer;
      on_time = later-after (Pauses moment) moment a.timer (pause-later moment);
    }) (review-stays x a moment (what.Paused name) k refl refl)
  where
    each : (timer : Option History) → HaltsAtEnd a.game timer → IsTimely moment timer → paused_by timer ≡ false
        → halted_by moment timer ≡ with_call (Pauses moment) timer
    each None halts timely running = refl
    each (Some t) halts timely running = pick (is_running t.calls) refl
      where
        pick : (b : Bool) → is_running t.calls ≡ b → halted_by moment (Some t) ≡ with_call (Pauses moment) (Some t)
        pick true is = rw (timely-is moment t (timely t refl) range, is) refl
        pick false is =
            let going : is_stopped t.calls ≡ false = halts t refl ∙ runs in
            let never : true ≡ false = rw (is, going) at running in cc

    stays : (timer : Option History) → HaltsAtEnd a.game (with_call (Pauses moment) timer)
    stays None t is = absurd (none-some is)
    stays (Some u) t is = subst (λ (v : History). is_stopped v.calls ≡ ended_by a.game) (some-same is) (sym runs)

-- the end of a pause may be added while the clock is paused
pub resume-can : (x : State) (a : Room) (moment : ℕ) (name : List ℕ) → Keeps x a → paused_by a.timer ≡ true
    → a.stamp ≤ moment → moment ≤ MOMENT_LIMIT → CanAdd moment (what.Resumed name) a.review x a
resume-can x a moment name k paused later range =
    can-add x a moment (what.Resumed name) a.review k refl later range (record {
      game = refl;
      timer = each a.timer paused;
      halts = stays a.timer paused k.halts;
      on_time = later-after (Resumes moment) moment a.timer (resume-later moment);
    }) (review-stays x a moment (what.Resumed name) k refl refl)
  where
    each : (timer : Option History) → paused_by timer ≡ true → resumed_by moment timer ≡ with_call (Resumes moment) timer
    each None paused = cc
    each (Some t) paused = rw (low-le moment MOMENT_LIMIT range, paused) refl

    stays : (timer : Option History) → paused_by timer ≡ true → HaltsAtEnd a.game timer
        → HaltsAtEnd a.game (with_call (Resumes moment) timer)
    stays None paused halts t is = cc
    stays (Some u) paused halts t is = subst (λ (v : History). is_stopped v.calls ≡ ended_by a.game) (some-same is)
        (sym (sym (halts u refl) ∙ not-true (is_stopped u.calls) (and_parts _ _ paused).1))

-- a timeout

-- it breaks no rule while the game runs
timeout-lawful : (seat : ℕ) (p : Position) → ended_by (Some p) ≡ false → seat < p.setup.players
    → rule_by (Some p) seat (Some (action.End Timeout)) ≡ None
unfolding rule
timeout-lawful seat p runs low = rw (runs, not-le p.setup.players seat low) refl
  where
    not-le : (n m : ℕ) → m < n → nat_le n m ≡ false
    not-le n m low = grind (arith, low)

stopped-still : (calls : List TimerCall) → is_stopped calls ≡ true → is_running calls ≡ false
stopped-still [] stopped = cc
stopped-still (TurnEnds m ∷ calls) stopped = cc
stopped-still (Pauses m ∷ calls) stopped = cc
stopped-still (Resumes m ∷ calls) stopped = cc
stopped-still (Stops m ∷ calls) stopped = refl

running-open : (calls : List TimerCall) → is_running calls ≡ true → is_stopped calls ≡ false
running-open [] runs = refl
running-open (TurnEnds m ∷ calls) runs = refl
running-open (Pauses m ∷ calls) runs = refl
running-open (Resumes m ∷ calls) runs = refl
running-open (Stops m ∷ calls) runs = cc

-- a game that has ended has no deadline
pub ended-timely : (moment : ℕ) (a : Room) → HaltsAtEnd a.game a.timer → ended_by a.game ≡ true → IsTimely moment a.timer
ended-timely moment a halts over t is end ends =
    let still : is_running t.calls ≡ false = stopped-still t.calls (halts t is ∙ over) in
    let none : deadline t.timing t.calls ≡ None = rw still refl in
    absurd (none-some (sym none ∙ ends))

-- the walk through the game that a review has once a seat's time has ended the game
abbrev pub lapse_walk : ℕ → Room → Option Walk
lapse_walk seat a = review_after (timed_out seat) (game_after (timed_out seat) a.game) a.review

-- what a timeout that is due leaves: it may be added, and time stands still behind it
pub record Lapses (x : State) (a : Room) (l : Lapse) : Type 0 where
  pub can : CanAdd l.moment (timed_out l.seat) (lapse_walk l.seat a) x a
  pub still : (t : History) → timer_after (timed_out l.seat) l.moment (game_after (timed_out l.seat) a.game) a.timer ≡ Some t
      → is_running t.calls ≡ false

deadline-runs : (t : History) (end : ℕ) → deadline t.timing t.calls ≡ Some end → is_running t.calls ≡ true
deadline-runs t end ends = pick (is_running t.calls) refl
  where
    pick : (b : Bool) → is_running t.calls ≡ b → is_running t.calls ≡ true
    pick true runs = runs
    pick false rests = absurd (none-some (sym (rw rests refl) ∙ ends))

-- whose time it is
history-of : (x : State) (a : Room) (t : History) → Keeps x a → a.timer ≡ Some t → (p : Position) → a.game ≡ Some p → t.timing.seats
    ≡ p.setup.players
history-of x a t k is p game = pick x.table.game x.table.options.timed refl refl
  where
    pick : (g : Option Setup) (b : Bool) → x.table.game ≡ g → x.table.options.timed ≡ b → t.timing.seats ≡ p.setup.players
    pick None b has timed = absurd (none-some (sym (rw has refl) ∙ (sym k.game ∙ game)))
    pick (Some g) false has timed = absurd (none-some (sym (rw timed refl) ∙ (sym k.timer ∙ is)))
    pick (Some g) true has timed =
        let made : history_in x.table ≡ Some (record { timing = timing_of g x.table.items; calls = timer_calls g x.table.items }) =
        rw (timed, has) refl in
        let same : record { timing = timing_of g x.table.items; calls = timer_calls g x.table.items } ≡ t =
        some-same (sym made ∙ (sym k.timer ∙ is)) in
        let dealt : played_game g x.table.items ≡ p = some-same (sym (rw has refl) ∙ (sym k.game ∙ game)) in
        ap (λ (h : History). h.timing.seats) (sym same) ∙ ap (λ (q : Position). q.setup.players) dealt

has-game : (x : State) (a : Room) (t : History) → Keeps x a → a.timer ≡ Some t → is_some a.game ≡ true
has-game x a t k is = pick x.table.game refl
  where
    no-history : (b : Bool) (none : Option History) → none ≡ None → (if b then none else None) ≡ None
    no-history true nothing is = is
    no-history false nothing is = refl

    pick : (g : Option Setup) → x.table.game ≡ g → is_some a.game ≡ true
    pick None has = absurd (none-some (sym (rw has (no-history x.table.options.timed None refl)) ∙ (sym k.timer ∙ is)))
    pick (Some g) has = rw (k.game, has) refl

-- what is so of a table at which a timeout may come
pub record MayLapse (x : State) : Type 0 where
  pub unloaded : is_some (position_in x.table) ≡ true → x.table.loaded ≡ None
  pub no_steps : NoStepsBefore x.table
  pub players : (p : Position) → position_in x.table ≡ Some p → 0 < p.setup.players

lapse-at : (x : State) (a : Room) (moment : ℕ) (t : History) (end : ℕ) (p : Position) → Keeps x a → MayLapse x
    → moment ≤ MOMENT_LIMIT → a.timer ≡ Some t → deadline t.timing t.calls ≡ Some end
    → end ≤ moment → a.game ≡ Some p → Lapses x a (record { seat = turn_seat t.timing t.calls; moment = end })
lapse-at x a moment t end p k facts range is ends low game = record { can = can; still = still }
  where
    seat : ℕ
    seat = turn_seat t.timing t.calls

    running : is_running t.calls ≡ true
    running = deadline-runs t end ends

    runs : ended_by a.game ≡ false
    runs = sym (k.halts t is) ∙ running-open t.calls running

    seats : t.timing.seats ≡ p.setup.players
    seats = history-of x a t k is p game

    below : turn_seat t.timing t.calls < p.setup.players
    below = rw (sym seats) (mod-lt _ (rw seats (facts.players p (sym k.game ∙ game))))

    may : rule_by a.game (turn_seat t.timing t.calls) (Some (action.End Timeout)) ≡ None
    may = rw game (timeout-lawful (turn_seat t.timing t.calls) p (sym (ap ended_by game) ∙ runs) below)

    unloaded : x.table.loaded ≡ None
    unloaded = facts.unloaded (ap is_some (sym k.game ∙ game))

    ready : IsReady (with_act (by (turn_seat t.timing t.calls) (action.End Timeout)) a.game) a.timer
    ready halts =
        let paused : paused_by a.timer ≡ false = rw (is, running) refl in
        let never : true ≡ false = sym halts ∙ paused in cc

    same-end : IsTimely end a.timer
    same-end u was last lasts =
        let same : t ≡ u = some-same (sym is ∙ was) in
        let ends-so : Some end ≡ Some last = sym ends ∙ (ap (λ (v : History). deadline v.timing v.calls) same ∙ lasts) in
        omega (arith, some-same ends-so)

    can : CanAdd end (timed_out (turn_seat t.timing t.calls)) (lapse_walk (turn_seat t.timing t.calls) a) x a
    can = act-can x a end (by (turn_seat t.timing t.calls) (action.End Timeout)) k unloaded facts.no_steps may ready
        (k.on_time t is end ends) (omega (arith, low, range)) same-end

    over : ended_by (game_after (timed_out (turn_seat t.timing t.calls)) a.game) ≡ true
    over = ap ended_by (act-taken (by (turn_seat t.timing t.calls) (action.End Timeout)) a.game may)
        ∙ rw game (end-over (turn_seat t.timing t.calls) Timeout p)

    still : (u : History) → timer_after (timed_out (turn_seat t.timing t.calls)) end (game_after (timed_out (turn_seat t.timing
        t.calls)) a.game) a.timer
        ≡ Some u → is_running u.calls ≡ false
    still u was = stopped-still u.calls (can.halts u was ∙ over)

-- a timeout that is due may be added
pub lapse-can : (x : State) (a : Room) (moment : ℕ) (l : Lapse) → Keeps x a → MayLapse x → moment ≤ MOMENT_LIMIT → due_in a moment
    ≡ Some l → Lapses x a l
lapse-can x a moment l k facts range due = pick a.standing a.timer a.game refl refl refl
  where
    pick : (b : Bool) (timer : Option History) (game : Option Position) → a.standing ≡ b → a.timer ≡ timer → a.game ≡ game → Lapses x a l
    pick false timer game stands is has = absurd (none-some (sym (rw stands refl) ∙ due))
    pick true None game stands is has = absurd (none-some (sym (rw (stands, is) refl) ∙ due))
    pick true (Some t) None stands is has = let never : true ≡ false = sym (has-game x a t k is) ∙ ap is_some has in cc
    pick true (Some t) (Some p) stands is has = ends (deadline t.timing t.calls) refl
      where
        ends : (o : Option ℕ) → deadline t.timing t.calls ≡ o → Lapses x a l
        ends None last = absurd (none-some (sym (rw (stands, is, last) refl) ∙ due))
        ends (Some end) last = chosen (nat_le end moment) refl
          where
            chosen : (b : Bool) → nat_le end moment ≡ b → Lapses x a l
            chosen false low = absurd (none-some (sym (rw (stands, is, last, low) refl) ∙ due))
            chosen true low = subst (Lapses x a) (some-same (sym (rw (stands, is, last, low) refl) ∙ due))
                (lapse-at x a moment t end p k facts range is last (le-low end moment low) has)
