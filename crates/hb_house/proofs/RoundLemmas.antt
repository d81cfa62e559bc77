-- How are the clerk's calls at a room joined to its round?
use Rattle.std.proofs.Common.{◌≡◌, ℕ, Bool, List, sym, ◌∙◌, ap, subst, inl, inr, Some, None, Ok}
use Rattle.std.specs.Prelude.{Option}
use Rattle.hb_keeper.specs.declared.rows.GameRow.{GameRow}
use Rattle.hb_keeper.specs.declared.rows.Key.{Key}
use Rattle.hb_keeper.specs.KeptGames.{get_on, put_on}
use Rattle.hb_club.specs.declared.clerks.Todo.{Todo}
use Rattle.hb_club.specs.Fronts.{Fronts, Takes}
use Rattle.hb_club.specs.HallAnswers.{IsTodo, RoomAnswers}
use Rattle.hb_club.specs.RoomEvents.{AsksTodo, RoomEvent, Site}
use Rattle.hb_club.specs.Rooms.{answer_to}
use Rattle.hb_house.specs.declared.reports.ClerkError.{ClerkError}
use Rattle.hb_house.specs.declared.reports.Report.{Report}
use Rattle.hb_house.specs.ClerkRounds.{Asks, Loads, Round, Saves, Settles}
use Rattle.hb_house.specs.ClerkStops.{LoadStops, RoundStops, SaveStops, SettleStops}
use Rattle.hb_house.specs.KeeperSteps.{IsSure, Telling}
use Rattle.hb_house.specs.RoundSteps.{RoomStep}
use Rattle.hb_house.proofs.KeeperStepsLemmas.{sure_before, worked_sure}
use Rattle.hb_house.proofs.RoomStepLemmas.{else_same-trans}

-- a save leaves a content told that was told
pub saves-sure : (sure : Type 0) (alone : Bool) (s : Site) (moment : ℕ) (save : Option (Key × GameRow)) (old new : List RoomEvent)
    (c d : Telling) (r t : Report) → Saves alone s moment save old new c d r t → IsSure sure c → IsSure sure d
saves-sure sure alone s moment None old new c d r t is at = subst (IsSure sure) (sym is.1) at
saves-sure sure alone s moment (Some save) old new c d r t is at = worked_sure sure (put_on save.0 save.1) c (Ok is.id) d is.put at

-- and so does a load
pub loads-sure : (sure : Type 0) (alone : Bool) (s : Site) (moment : ℕ) (load : Option (ℕ × ℕ)) (old new : List RoomEvent)
    (c d : Telling) (r t : Report) → Loads alone s moment load old new c d r t → IsSure sure c → IsSure sure d
loads-sure sure alone s moment None old new c d r t is at = subst (IsSure sure) (sym is.1) at
loads-sure sure alone s moment (Some load) old new c d r t is at = worked_sure sure (get_on load.1) c (Ok is.row) d is.got at

-- the game that is due is kept, and the one that is asked for is brought
pub settled : (Saved Loaded : Fronts → Type 0) (middle last : Telling → Type 0) (kept done : Type 0) (alone other : Bool) (s s' : Site)
    (room moment : ℕ) (todo : Todo) (f : Fronts) (c : Telling) (r between t : Report)
    → (done → kept) → IsSure done c
    → (IsSure kept c
    → RoomStep Saved middle room f (λ new d. Saves alone s moment todo.save (f.rooms room) new c d r between))
    → other ≡ alone → s' ≡ s
    → ((g : Fronts) (d : Telling) → Saved g → middle d → IsSure done d
    → RoomStep Loaded last room g (λ new e. Loads other s' moment todo.load (g.rooms room) new d e between t))
    → RoomStep Loaded last room f (λ new d. Settles alone s moment todo (f.rooms room) new c d r t)
settled Saved Loaded middle last kept done alone other s s' room moment todo f c r between t back sure saves same site loads =
    let one = saves (sure_before c done kept back sure) in
    let g : Fronts = one.after in
    let d : Telling = one.keeper in
    let still = saves-sure done alone s moment todo.save (f.rooms room) (g.rooms room) c d r between one.step sure in
    let two = loads g d one.stands_for one.told still in
    let k : Fronts = two.after in
    let e : Telling = two.keeper in
    record {
      after = k;
      stands_for = two.stands_for;
      others = else_same-trans room f g k one.others two.others;
      keeper = e;
      told = two.told;
      step = record {
        middle = g.rooms room;
        between = d;
        report = between;
        saves = one.step;
        loads = subst (λ x. Loads alone x moment todo.load (g.rooms room) (k.rooms room) d e between t) site
            (subst (λ a. Loads a s' moment todo.load (g.rooms room) (k.rooms room) d e between t) same two.step);
      };
    }

-- the clerk stopped at the game that is due
pub save-stopped : (Stands : Fronts → Type 0) (last : Telling → Type 0) (alone : Bool) (s : Site) (room moment : ℕ) (todo : Todo)
    (why : ClerkError) (f : Fronts) (c : Telling) (r t : Report)
    → RoomStep Stands last room f (λ new d. SaveStops alone todo.save why (f.rooms room) new c d r t)
    → RoomStep Stands last room f (λ new d. SettleStops alone s moment todo why (f.rooms room) new c d r t)
save-stopped Stands last alone s room moment todo why f c r t step = record {
  after = step.after;
  stands_for = step.stands_for;
  others = step.others;
  keeper = step.keeper;
  told = step.told;
  step = inl step.step;
}

-- the clerk stopped at the one that is asked for
pub load-stopped : (Saved Loaded : Fronts → Type 0) (middle last : Telling → Type 0) (kept done : Type 0) (alone other : Bool) (s : Site)
    (room moment : ℕ) (todo : Todo) (why : ClerkError) (f : Fronts) (c : Telling) (r between t : Report)
    → (done → kept) → IsSure done c
    → (IsSure kept c
    → RoomStep Saved middle room f (λ new d. Saves alone s moment todo.save (f.rooms room) new c d r between))
    → other ≡ alone
    → ((g : Fronts) (d : Telling) → Saved g → middle d → IsSure done d
    → RoomStep Loaded last room g (λ new e. LoadStops other todo.load why (g.rooms room) new d e between t))
    → RoomStep Loaded last room f (λ new d. SettleStops alone s moment todo why (f.rooms room) new c d r t)
load-stopped Saved Loaded middle last kept done alone other s room moment todo why f c r between t back sure saves same loads =
    let one = saves (sure_before c done kept back sure) in
    let g : Fronts = one.after in
    let d : Telling = one.keeper in
    let still = saves-sure done alone s moment todo.save (f.rooms room) (g.rooms room) c d r between one.step sure in
    let two = loads g d one.stands_for one.told still in
    let k : Fronts = two.after in
    let e : Telling = two.keeper in
    record {
      after = k;
      stands_for = two.stands_for;
      others = else_same-trans room f g k one.others two.others;
      keeper = e;
      told = two.told;
      step = inr (record {
        middle = g.rooms room;
        between = d;
        report = between;
        saves = one.step;
        stops = subst (λ a. LoadStops a todo.load why (g.rooms room) (k.rooms room) d e between t) same two.step;
      });
    }

-- a room was asked what there is to do
abbrev asks : (alone : Bool) (s : Site) (room moment : ℕ) (todo : Todo) (f g : Fronts) → Takes alone room (AsksTodo moment) f g
    → IsTodo s todo (g.rooms room) → Asks alone s moment (f.rooms room)
asks alone s room moment todo f g takes answer =
    record { others = takes.others; quiet = takes.quiet; todo = todo; answer = ap (answer_to s) (sym takes.front) ∙ answer }

-- a room has had its round
pub rounded : {S : Type 0} (stands : S → Fronts → Type 0) (asked : S) (Settled : Fronts → Type 0) (first last : Telling → Type 0)
    (done : Type 0) (alone other : Bool) (s s' : Site) (room moment : ℕ) (todo : Todo) (f : Fronts) (c : Telling) (r t : Report)
    → RoomAnswers stands alone asked room (AsksTodo moment) (IsTodo s todo) f → first c → IsSure done c
    → other ≡ alone → s' ≡ s
    → ((g : Fronts) (d : Telling) → stands asked g → first d → IsSure done d
    → RoomStep Settled last room g (λ new e. Settles other s' moment todo (g.rooms room) new d e r t))
    → RoomStep Settled last room f (λ new d. Round alone s moment (f.rooms room) new c d r t)
rounded stands asked Settled first last done alone other s s' room moment todo f c r t answers told sure same site settles =
    let g : Fronts = answers.after in
    let two = settles g c answers.stands_for told sure in
    let k : Fronts = two.after in
    let e : Telling = two.keeper in
    let takes : Takes alone room (AsksTodo moment) f g = answers.takes in
    record {
      after = k;
      stands_for = two.stands_for;
      others = else_same-trans room f g k takes.rest two.others;
      keeper = e;
      told = two.told;
      step = record {
        asks = asks alone s room moment todo f g takes answers.answer;
        settles = subst (λ l. Settles alone s moment todo l (k.rooms room) c e r t) takes.front
            (subst (λ x. Settles alone x moment todo (g.rooms room) (k.rooms room) c e r t) site
            (subst (λ a. Settles a s' moment todo (g.rooms room) (k.rooms room) c e r t) same two.step));
      };
    }

-- the clerk stopped in the round of a room
pub round-stopped : {S : Type 0} (stands : S → Fronts → Type 0) (asked : S) (Settled : Fronts → Type 0) (first last : Telling → Type 0)
    (done : Type 0) (alone other : Bool) (s s' : Site) (room moment : ℕ) (todo : Todo) (why : ClerkError) (f : Fronts) (c : Telling)
    (r t : Report)
    → RoomAnswers stands alone asked room (AsksTodo moment) (IsTodo s todo) f → first c → IsSure done c
    → other ≡ alone → s' ≡ s
    → ((g : Fronts) (d : Telling) → stands asked g → first d → IsSure done d
    → RoomStep Settled last room g (λ new e. SettleStops other s' moment todo why (g.rooms room) new d e r t))
    → RoomStep Settled last room f (λ new d. RoundStops alone s moment why (f.rooms room) new c d r t)
round-stopped stands asked Settled first last done alone other s s' room moment todo why f c r t answers told sure same site settles =
    let g : Fronts = answers.after in
    let two = settles g c answers.stands_for told sure in
    let k : Fronts = two.after in
    let e : Telling = two.keeper in
    let takes : Takes alone room (AsksTodo moment) f g = answers.takes in
    record {
      after = k;
      stands_for = two.stands_for;
      others = else_same-trans room f g k takes.rest two.others;
      keeper = e;
      told = two.told;
      step = inr (record {
        asks = asks alone s room moment todo f g takes answers.answer;
        stops = subst (λ l. SettleStops alone s moment todo why l (k.rooms room) c e r t) takes.front
            (subst (λ x. SettleStops alone x moment todo why (g.rooms room) (k.rooms room) c e r t) site
            (subst (λ a. SettleStops a s' moment todo why (g.rooms room) (k.rooms room) c e r t) same two.step));
      });
    }
