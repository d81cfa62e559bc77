-- What does an entry add that no row refuses, and for which list does the room then stand?
use Rattle.std.proofs.Common.{◌≡◌, ℕ, ◌≤◌, true, false, List, ◌∷◌, refl, ap, sym, subst, ◌∙◌, Some, None, Option}
use Rattle.std.specs.Prelude.{is_some, option_map}
use Rattle.hb_rules.specs.declared.acts.Action.{Action}
use Rattle.hb_rules.specs.declared.acts.Action.TheVariants as action
use Rattle.hb_rules.specs.declared.acts.EndHow.{EndHow}
use Rattle.hb_rules.specs.declared.acts.EndHow.TheVariants.{Terminated}
use Rattle.hb_rules.specs.Setup.{Position, by}
use Rattle.hb_timer.specs.declared.timing.TheConstants.{MOMENT_LIMIT}
use Rattle.hb_review.specs.declared.steps.Step.{Step}
use Rattle.hb_review.specs.ReviewModel.{Walk}
use Rattle.hb_club.specs.declared.commands.Command.{Command}
use Rattle.hb_club.specs.declared.commands.Command.TheVariants as command
use Rattle.hb_club.specs.declared.commands.Entry.{Entry}
use Rattle.hb_club.specs.declared.items.What.{What}
use Rattle.hb_club.specs.declared.items.What.TheVariants as what
use Rattle.hb_club.specs.declared.replies.Reply.TheVariants.{Done}
use Rattle.hb_club.specs.CommandKinds.{asked_action, asked_id, is_open, is_start}
use Rattle.hb_club.specs.NewItems.{item_of, step_item}
use Rattle.hb_club.specs.RoomEvents.{Call, RoomEvent, Site}
use Rattle.hb_club.specs.Rooms.{past_of}
use Rattle.hb_club.specs.Table.{seat_of}
use Rattle.hb_club.specs.TableItems.{step_in as step_of_item, steps}
use Rattle.hb_club.specs.TableReview.{reviewed_game, step_of, step_refusal}
use Rattle.hb_club.proofs.PlainItemsLemmas.{is_plain}
use Rattle.hb_playing.specs.Games.{ended_by, game_after, rule_by}
use Rattle.hb_playing.specs.RoomReviews.{reviewed_by, steps_by, walk_of}
use Rattle.hb_playing.specs.Seats.{seat_in}
use Rattle.hb_playing.proofs.ReviewsLemmas.{step_of-walk}
use Rattle.hb_table.specs.declared.room.Room.{Room}
use Rattle.hb_table.specs.State.{State, host_load}
use Rattle.hb_table.specs.StateMoves.{timed_state}
use Rattle.hb_table.specs.Keeps.{IsTimely, Keeps}
use Rattle.hb_table.specs.Changes.{KeepsEntry, review_after}
use Rattle.hb_table.specs.Steps.{Accepts, Does, IsTaken, Steps, item_in, stamp_for, step_in, stepped}
use Rattle.hb_table.specs.Verdicts.{verdict_in}
use Rattle.hb_table.proofs.AddLemmas.{IsReady, act-can, end-over, is_small, pause-can, resume-can, small-can, step-can}
use Rattle.hb_table.proofs.RoomKeepsLemmas.{CanAdd}
use Rattle.hb_table.proofs.SoundLemmas.{Sound, started-unloaded}
use Rattle.hb_table.proofs.StepLemmas.{Finding, item-steps, plain-steps}
use Rattle.hb_table.proofs.TableGamesLemmas.{with_act}
use Rattle.hb_table.proofs.TimedLemmas.{no-history}
use Rattle.hb_table.proofs.VerdictLemmas.{verdict-none, taken-gathering, taken-lawful, taken-no-open, taken-pause, taken-resume, taken-running, taken-started}

-- the review of the room is that of the table

-- the step that a command takes is the table's
pub step-is : (x : State) (c : Room) (cmd : Command) → Keeps x c
    → step_of (reviewed_game x.table.loaded x.table.game x.table.items) (steps x.table.items) cmd ≡ step_in c cmd
step-is x c cmd k = sym (ap (λ (o : Option Walk). step_of (reviewed_by o) (steps_by o) cmd) k.review
    ∙ step_of-walk (reviewed_game x.table.loaded x.table.game x.table.items) (steps x.table.items) cmd)

seat-is : (x : State) (c : Room) (m : List ℕ) → Keeps x c → seat_of x.table m ≡ seat_in c.names m
seat-is x c m k = rw k.names refl

-- what a command adds to the table is the item that the room knows
pub item-is : (x : State) (c : Room) (m : List ℕ) (cmd : Command) → Keeps x c → is_open cmd ≡ false → is_start cmd ≡ false
    → item_of x.table m cmd ≡ item_in c m cmd
item-is x c m (command.Open name options) k shut other = cc
item-is x c m command.Sit k shut other = refl
item-is x c m command.Rise k shut other = refl
item-is x c m command.Start k shut other = cc
item-is x c m (command.Act a) k shut other = ap (λ (seat : ℕ). Some (what.Acted (by seat a))) (seat-is x c m k)
item-is x c m (command.Note order text) k shut other = refl
item-is x c m command.Pause k shut other = refl
item-is x c m command.Resume k shut other = refl
item-is x c m command.Terminate k shut other = ap (λ (seat : ℕ). Some (what.Acted (by seat (action.End Terminated)))) (seat-is x c m k)
item-is x c m (command.Watch shadow) k shut other = refl
item-is x c m command.Leave k shut other = refl
item-is x c m (command.Load id) k shut other = refl
item-is x c m (command.Go turn) k shut other = ap (λ (o : Option Step). option_map step_item o) (step-is x c (command.Go turn) k)
item-is x c m (command.Hypo a) k shut other = ap (λ (o : Option Step). option_map step_item o) (step-is x c (command.Hypo a) k)
item-is x c m command.Undo k shut other = ap (λ (o : Option Step). option_map step_item o) (step-is x c command.Undo k)
item-is x c m command.Close k shut other = refl
item-is x c m command.Look k shut other = refl

-- a command that takes no step leaves the review
pub stepped-none : (c : Room) (cmd : Command) → step_in c cmd ≡ None → stepped c cmd ≡ c.review
stepped-none c cmd none = rw none (pick c.review)
  where
    pick : (o : Option Walk) → walk_of (reviewed_by o) (steps_by o) ≡ o
    pick None = refl
    pick (Some w) = refl

-- a step of the review has its item
pub item_in-step : (c : Room) (m : List ℕ) (cmd : Command) (s : Step) → step_in c cmd ≡ Some s → item_in c m cmd ≡ Some (step_item s)
item_in-step c m cmd s is = pick (reviewed_by c.review) refl cmd is
  where
    pick : (game : Option Position) → reviewed_by c.review ≡ game → (d : Command) → step_of game (steps_by c.review) d ≡ Some s
        → item_in c m d ≡ Some (step_item s)
    pick None has d is = cc
    pick (Some game) has (command.Go turn) is =
        ap (λ (o : Option Step). option_map step_item o) (ap (λ (o : Option Position). step_of o (steps_by c.review) (command.Go turn))
        has ∙ is)
    pick (Some game) has (command.Hypo a) is =
        ap (λ (o : Option Step). option_map step_item o) (ap (λ (o : Option Position). step_of o (steps_by c.review) (command.Hypo a))
        has ∙ is)
    pick (Some game) has command.Undo is =
        ap (λ (o : Option Step). option_map step_item o) (ap (λ (o : Option Position). step_of o (steps_by c.review) command.Undo) has ∙ is)
    pick (Some game) has (command.Open name options) is = cc
    pick (Some game) has command.Sit is = cc
    pick (Some game) has command.Rise is = cc
    pick (Some game) has command.Start is = cc
    pick (Some game) has (command.Act a) is = cc
    pick (Some game) has (command.Note order text) is = cc
    pick (Some game) has command.Pause is = cc
    pick (Some game) has command.Resume is = cc
    pick (Some game) has command.Terminate is = cc
    pick (Some game) has (command.Watch shadow) is = cc
    pick (Some game) has command.Leave is = cc
    pick (Some game) has (command.Load id) is = cc
    pick (Some game) has command.Close is = cc
    pick (Some game) has command.Look is = cc

-- when the item of a command may be added

-- the stamp of a command is no earlier than those of the table, and not past the deadline
record AtTime (c : Room) (moment : ℕ) : Type 0 where
  later : c.stamp ≤ moment
  range : moment ≤ MOMENT_LIMIT
  timely : IsTimely moment c.timer

-- a command adds this item
pub record Adds (moment : ℕ) (w : What) (cmd : Command) (c : Room) (x : State) : Type 0 where
  pub plain : is_plain w ≡ true
  pub no_load : asked_id cmd ≡ None
  pub can : CanAdd moment w (review_after w (game_after w c.game) (stepped c cmd)) x c

small-adds : (x : State) (c : Room) (moment : ℕ) (w : What) (cmd : Command) → Keeps x c → AtTime c moment → is_small w ≡ true
    → step_of_item w ≡ None
    → is_plain w ≡ true → asked_id cmd ≡ None → ((r : Option Walk) → review_after w (game_after w c.game) r ≡ r)
    → step_in c cmd ≡ None → Adds moment w cmd c x
small-adds x c moment w cmd k time small no-step plain no-load stays none = record {
  plain = plain;
  no_load = no-load;
  can = subst (λ (r : Option Walk). CanAdd moment w r x c) (sym (stays (stepped c cmd) ∙ stepped-none c cmd none))
      (small-can x c moment w small no-step k time.later time.range time.timely);
}

-- no command but one of a review takes a step
no-step : (game : Option Position) (all : List Step) (cmd : Command) → ((g : Position) → step_of (Some g) all cmd ≡ None)
    → step_of game all cmd ≡ None
no-step None all cmd none = refl
no-step (Some g) all cmd none = none g

act-adds : (s : Site) (x : State) (c : Room) (e : Entry) (a : Action) (moment : ℕ) → Keeps x c → Sound s x → IsTaken e c → AtTime c moment
    → asked_action e.command ≡ Some a → is_some c.names ≡ true → asked_id e.command ≡ None
    → IsReady (with_act (by (seat_in c.names e.member) a) c.game) c.timer
    → Adds moment (what.Acted (by (seat_in c.names e.member) a)) e.command c x
act-adds s x c e a moment k sound taken time asks started no-load ready = record {
  plain = refl;
  no_load = no-load;
  can = act-can x c moment (by (seat_in c.names e.member) a) k
      (started-unloaded x.table (host_load x) sound.apart (sym (ap is_some k.names) ∙ started)) sound.no_steps
      (sym (ap (rule_by c.game (seat_in c.names e.member)) asks) ∙ taken-lawful c e taken.none) ready time.later time.range time.timely;
}

-- an act is ready since the clock is not paused, and a called end since it ends the game
act-ready : (c : Room) (e : Entry) (a : Action) → IsTaken e c → e.command ≡ command.Act a
    → IsReady (with_act (by (seat_in c.names e.member) a) c.game) c.timer
act-ready c e a taken is halts = let never : true ≡ false = sym halts ∙ taken-running c e a taken.none is in cc

end-ready : (s : Site) (x : State) (c : Room) (seat : ℕ) (how : EndHow) → Keeps x c
    → IsReady (with_act (by seat (action.End how)) c.game) c.timer
end-ready s x c seat how k halts = pick c.game refl
  where
    no-timer : c.game ≡ None → c.timer ≡ None
    no-timer none = k.timer ∙ no-history x.table (sym k.game ∙ none)

    pick : (g : Option Position) → c.game ≡ g → ended_by (with_act (by seat (action.End how)) c.game) ≡ true
    pick (Some p) is = rw is (end-over seat how p)
    pick None is = let never : false ≡ true = rw (no-timer is) at halts in cc

walk_of-some : (game : Option Position) (all : List Step) (w : Walk) → walk_of game all ≡ Some w → (game ≡ Some w.game) × (all ≡ w.steps)
walk_of-some None all w is = cc
walk_of-some (Some game) all w is = let same : record { game = game; steps = all } ≡ w = some-same is in
    (ap (λ (v : Walk). Some v.game) same, ap (λ (v : Walk). v.steps) same)
  where
    some-same : {u v : Walk} → Some u ≡ Some v → u ≡ v
    some-same e = cc

-- a step of the review
step-adds : (x : State) (c : Room) (moment : ℕ) (cmd : Command) (s : Step) → Keeps x c → AtTime c moment → step_in c cmd ≡ Some s
    → asked_id cmd ≡ None → Adds moment (step_item s) cmd c x
step-adds x c moment cmd s k time is no-load = record { plain = refl; no_load = no-load; can = pick c.review refl }
  where
    pick : (o : Option Walk) → c.review ≡ o → CanAdd moment (step_item s) (stepped c cmd) x c
    pick None has = let never : None ≡ Some s = rw has at is in cc
    pick (Some w) has =
        let parts : (reviewed_game x.table.loaded x.table.game x.table.items ≡ Some w.game) × (steps x.table.items ≡ w.steps) =
        walk_of-some _ _ w (sym k.review ∙ has) in
        let walk : stepped c cmd ≡ walk_of (Some w.game) (s ∷ steps x.table.items) = rw (is, has, parts.1) refl in
        subst (λ (r : Option Walk). CanAdd moment (step_item s) r x c) (sym walk)
        (step-can x c moment s w.game k parts.0 time.later time.range time.timely)

step-adds-item : (x : State) (c : Room) (moment : ℕ) (cmd : Command) (w : What) → Keeps x c → AtTime c moment
    → option_map step_item (step_in c cmd) ≡ Some w → asked_id cmd ≡ None → Adds moment w cmd c x
step-adds-item x c moment cmd w k time is no-load = pick (step_in c cmd) refl is
  where
    some-same : {u v : What} → Some u ≡ Some v → u ≡ v
    some-same e = cc

    pick : (o : Option Step) → step_in c cmd ≡ o → option_map step_item o ≡ Some w → Adds moment w cmd c x
    pick None has is = cc
    pick (Some s) has is = subst (λ (v : What). Adds moment v cmd c x) (some-same is) (step-adds x c moment cmd s k time has no-load)

-- the item of an entry that no row refuses may be added
entry-adds : (s : Site) (x : State) (c : Room) (e : Entry) (w : What) (moment : ℕ) → Keeps x c → Sound s x → IsTaken e c → AtTime c moment
    → item_in c e.member e.command ≡ Some w → Adds moment w e.command c x
entry-adds s x c e w moment k sound taken time is = pick e.command refl is
  where
    some-same : {u v : What} → Some u ≡ Some v → u ≡ v
    some-same e = cc

    this : (v : What) → Some v ≡ Some w → Adds moment v e.command c x → Adds moment w e.command c x
    this v same adds = subst (λ (u : What). Adds moment u e.command c x) (some-same same) adds

    small : (v : What) (cmd : Command) → e.command ≡ cmd → Some v ≡ Some w → is_small v ≡ true → step_of_item v ≡ None → is_plain v ≡ true
        → asked_id cmd ≡ None → ((r : Option Walk) → review_after v (game_after v c.game) r ≡ r)
        → ((g : Position) → step_of (Some g) (steps_by c.review) cmd ≡ None) → Adds moment w e.command c x
    small v cmd at same tiny no-item plain no-load stays none = this v same
        (small-adds x c moment v e.command k time tiny no-item plain (rw at no-load) stays
        (rw at (no-step (reviewed_by c.review) (steps_by c.review) cmd none)))

    pick : (cmd : Command) → e.command ≡ cmd → item_in c e.member cmd ≡ Some w → Adds moment w e.command c x
    pick command.Sit at is = small (what.Sat e.member) command.Sit at is refl refl refl refl (λ r. refl) (λ g. refl)
    pick command.Rise at is = small (what.Rose e.member) command.Rise at is refl refl refl refl (λ r. refl) (λ g. refl)
    pick (command.Watch shadow) at is =
        small (what.Watching e.member shadow) (command.Watch shadow) at is refl refl refl refl (λ r. refl) (λ g. refl)
    pick command.Leave at is = small (what.Left e.member) command.Leave at is refl refl refl refl (λ r. refl) (λ g. refl)
    pick command.Close at is = small what.Closed command.Close at is refl refl refl refl (λ r. refl) (λ g. refl)
    pick (command.Act a) at is = this (what.Acted (by (seat_in c.names e.member) a)) is
        (act-adds s x c e a moment k sound taken time (rw at refl) (taken-started c e taken.none (rw at refl)) (rw at refl)
        (act-ready c e a taken at))
    pick command.Terminate at is = this (what.Acted (by (seat_in c.names e.member) (action.End Terminated))) is
        (act-adds s x c e (action.End Terminated) moment k sound taken time (rw at refl) (taken-started c e taken.none (rw at refl))
        (rw at refl)
        (end-ready s x c (seat_in c.names e.member) Terminated k))
    pick command.Pause at is = this (what.Paused e.member) is (record {
      plain = refl;
      no_load = rw at refl;
      can = subst (λ (r : Option Walk). CanAdd moment (what.Paused e.member) r x c)
          (sym (stepped-none c e.command (rw at (no-step (reviewed_by c.review) (steps_by c.review) command.Pause (λ g. refl)))))
          (pause-can x c moment e.member k (taken-pause c e taken.none at).0 (taken-pause c e taken.none at).1 time.later time.range
          time.timely);
    })
    pick command.Resume at is = this (what.Resumed e.member) is (record {
      plain = refl;
      no_load = rw at refl;
      can = subst (λ (r : Option Walk). CanAdd moment (what.Resumed e.member) r x c)
          (sym (stepped-none c e.command (rw at (no-step (reviewed_by c.review) (steps_by c.review) command.Resume (λ g. refl)))))
          (resume-can x c moment e.member k (taken-resume c e taken.none at) time.later time.range);
    })
    pick (command.Go turn) at is = step-adds-item x c moment e.command w k time (rw at is) (rw at refl)
    pick (command.Hypo a) at is = step-adds-item x c moment e.command w k time (rw at is) (rw at refl)
    pick command.Undo at is = step-adds-item x c moment e.command w k time (rw at is) (rw at refl)
    pick (command.Open name options) at is = cc
    pick command.Start at is = cc
    pick (command.Note order text) at is = cc
    pick (command.Load id) at is = cc
    pick command.Look at is = cc

-- who starts does so where no game was started
taken-no-start : (c : Room) (e : Entry) → IsTaken e c → (is_start e.command ≡ true → is_some c.names ≡ true) → is_start e.command ≡ false
taken-no-start c e taken started = pick e.command refl
  where
    pick : (cmd : Command) → e.command ≡ cmd → is_start e.command ≡ false
    pick command.Start at =
        let never : true ≡ false = sym (started (rw at refl)) ∙ (taken-gathering c e taken.none (rw at refl)).0 in cc
    pick (command.Open name options) at = rw at refl
    pick command.Sit at = rw at refl
    pick command.Rise at = rw at refl
    pick (command.Act a) at = rw at refl
    pick (command.Note order text) at = rw at refl
    pick command.Pause at = rw at refl
    pick command.Resume at = rw at refl
    pick command.Terminate at = rw at refl
    pick (command.Watch shadow) at = rw at refl
    pick command.Leave at = rw at refl
    pick (command.Load id) at = rw at refl
    pick (command.Go turn) at = rw at refl
    pick (command.Hypo a) at = rw at refl
    pick command.Undo at = rw at refl
    pick command.Close at = rw at refl
    pick command.Look at = rw at refl

-- the room does what an entry asks for that no row refuses, and keeps it
pub does-accepts : (c d b : Room) (e : Entry) → IsTaken e c → (is_start e.command ≡ true → is_some c.names ≡ true)
    → Does (item_in c e.member e.command) e c d → KeepsEntry e Done d b → Accepts e Done c b
does-accepts c d b e taken started does keeps a time = pick (item_in c e.member e.command) refl does
  where
    item : (s : Site) (events : List RoomEvent) → Finding s events e c → (o : Option What) → item_in c e.member e.command ≡ o
        → item_of (timed_state s (past_of s events) (Call e)).table e.member e.command ≡ o
    item s events finds o is =
        item-is (timed_state s (past_of s events) (Call e)) c e.member e.command finds.found.keeps
        (taken-no-open c e taken.none taken.shut) (taken-no-start c e taken started) ∙ is

    pick : (o : Option What) → item_in c e.member e.command ≡ o → Does o e c d → Steps e Done a b
    pick None is stamps = plain-steps a c d b e taken time (λ s events finds. item s events finds None is) stamps keeps
    pick (Some w) is adds =
        item-steps a c d b e w (review_after w (game_after w c.game) (stepped c e.command)) taken time (λ s events finds.
        let x : State = timed_state s (past_of s events) (Call e) in
        let place : Adds (stamp_for c e.moment) w e.command c x =
        entry-adds s x c e w (stamp_for c e.moment) finds.found.keeps finds.found.sound taken
        (record { later = finds.later; range = finds.range; timely = finds.timely }) is in
        record { item = item s events finds (Some w) is; plain = place.plain; no_load = place.no_load; can = place.can }) adds keeps

-- the review refuses no step that no row refuses
pub taken-reviewed : (a : Room) (e : Entry) → verdict_in a e ≡ None → step_refusal (reviewed_by a.review) (steps_by a.review) e.command
    ≡ None
taken-reviewed a e none = (verdict-none a e none).reviewed

-- what is done leaves the kept replies and the serial
pub does-same : (a b : Room) (e : Entry) (o : Option What) → Does o e a b → (b.kept ≡ a.kept) × (b.latest ≡ a.latest)
does-same a b e None stamps = (stamps.kept, stamps.latest)
does-same a b e (Some w) adds = (adds.kept, adds.latest)
