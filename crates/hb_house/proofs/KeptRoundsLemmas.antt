-- Does a keeper contain one row for each game of the run, behind the rounds of the clerk? Yes.
use Rattle.std.proofs.Common.{◌≡◌, ℕ, Bool, true, false, zero, suc, List, ◌∷◌, ◌++◌, refl, sym, ◌∙◌, ap, subst, inl, inr, Some, None, Ok}
use Rattle.std.specs.Prelude.{Option}
use Rattle.hb_rules.specs.declared.setups.Setup.{Setup}
use Rattle.hb_keeper.specs.declared.rows.GameRow.{GameRow}
use Rattle.hb_keeper.specs.declared.rows.Key.{Key}
use Rattle.hb_keeper.specs.KeptGames.{get_on, put_on}
use Rattle.hb_club.specs.declared.clerks.Todo.{Todo}
use Rattle.hb_club.specs.ClerkCalls.{is_due, row_of, save_of, save_when, todo_of}
use Rattle.hb_club.specs.Fronts.{AllGoOn, ElseSame, Fronts, GoesOn, House, site_of}
use Rattle.hb_club.specs.RoomEvents.{AsksTodo, Due, Happening, Outcome, RoomEvent, Site, in_time}
use Rattle.hb_club.specs.Rooms.{answer_to, past_of}
use Rattle.hb_club.specs.Table.{Table}
use Rattle.hb_club.specs.TimeFirst.{timed_table}
use Rattle.hb_house.specs.declared.reports.ClerkError.{ClerkError}
use Rattle.hb_house.specs.declared.reports.Report.{Report}
use Rattle.hb_house.specs.ClerkRounds.{Asks, Loads, Place, Round, Rounds, SamePlace, Saves, StepAt, Then}
use Rattle.hb_house.specs.ClerkStops.{LoadStops, RoundStops, SaveStops, SettleStops}
use Rattle.hb_house.specs.KeeperSteps.{Telling, next_failure}
use Rattle.hb_house.specs.KeptOnce.{OwnIfTold, WasDue}
use Rattle.hb_house.proofs.GoesOnLemmas.{all-on, asks-on, goes_on-same, goes_on-trans, others-on, settle_stops-on, settles-on}
use Rattle.hb_house.proofs.OwnGamesLemmas.{own-failed, own-on, own-put, own-worked, was_due-on}

-- what is due has the key of its room, in the run of the house

save-key : (s : Site) (t : Table) (past : List Happening) (g : Option Setup) (key : Key) (row : GameRow)
    → save_of s t past g ≡ Some (key, row) → (key.run ≡ s.run) × (key.room ≡ s.room)
save-key s t past None key row is = let bad : ◌≡◌ {A = Option (Key × GameRow)} None (Some (key, row)) = is in absurd cc
save-key s t past (Some g) key row is = by (is_due t) is
  where
    by : (b : Bool) → save_when b s t past g ≡ Some (key, row) → (key.run ≡ s.run) × (key.room ≡ s.room)
    by false none = let bad : ◌≡◌ {A = Option (Key × GameRow)} None (Some (key, row)) = none in absurd cc
    by true one =
        let own : Key = record { run = s.run; room = s.room; serial = t.latest } in
        let whole : ◌≡◌ {A = Option (Key × GameRow)} (Some (own, row_of t past g)) (Some (key, row)) = one in
        let same : ◌≡◌ {A = Key × GameRow} (own, row_of t past g) (key, row) = cc in
        (sym (ap (λ (x : Key × GameRow). x.0.run) same), sym (ap (λ (x : Key × GameRow). x.0.room) same))

-- what a room has for the clerk is read off its table, once time was applied
pub todo-is : (s : Site) (moment : ℕ) (events : List RoomEvent) (todo : Todo) → answer_to s (AsksTodo moment ∷ events) ≡ Due todo
    → todo_of s (timed_table s (past_of s events) (in_time moment)) (past_of s events) ≡ todo
unfolding answer_to
todo-is s moment events todo is =
    let past = past_of s events in
    let t = timed_table s past (in_time moment) in
    let same : ◌≡◌ {A = Outcome} (Due (todo_of s t past)) (Due todo) = is in cc

due-key : (s : Site) (moment : ℕ) (events : List RoomEvent) (todo : Todo) (key : Key) (row : GameRow)
    → answer_to s (AsksTodo moment ∷ events) ≡ Due todo → todo.save ≡ Some (key, row)
    → (key.run ≡ s.run) × (key.room ≡ s.room)
due-key s moment events todo key row is save =
    let past = past_of s events in
    let t = timed_table s past (in_time moment) in
    save-key s t past t.game key row (ap (λ (x : Todo). x.save) (todo-is s moment events todo is) ∙ save)

-- each game that is due has a key of the house's run, at whose table it was due
unfoldable pub Dues : House → Fronts → Option (Key × GameRow) → Type 0
Dues h f save = (key : Key) (row : GameRow) → save ≡ Some (key, row)
    → (key.run ≡ h.run) × WasDue (site_of h key.room) (f.rooms key.room) key row

-- what the clerk is told at a room was due there
pub asks-dues : (h : House) (f : Fronts) (alone : Bool) (room moment : ℕ) (old : List RoomEvent)
    (asks : Asks alone (site_of h room) moment old)
    → GoesOn (AsksTodo moment ∷ asks.others ++ old) (f.rooms room) → Dues h f asks.todo.save
unfolding Dues
asks-dues h f alone room moment old asks on key row save =
    let s = site_of h room in
    let asked = AsksTodo moment ∷ asks.others ++ old in
    let own : (key.run ≡ h.run) × (key.room ≡ room) = due-key s moment (asks.others ++ old) asks.todo key row asks.answer save in
    let then : WasDue s asked key row =
    record { older = asked; goes_on = goes_on-same refl; todo = asks.todo; answer = asks.answer; save = save } in
    let here : WasDue s (f.rooms room) key row = was_due-on s asked (f.rooms room) key row on then in
    (own.0, subst (λ k. WasDue (site_of h k) (f.rooms k) key row) (sym own.1) here)

-- parts of a round

own-saves : (h : House) (f : Fronts) (alone : Bool) (s : Site) (moment : ℕ) (save : Option (Key × GameRow)) (old new : List RoomEvent)
    (c d : Telling) (r t : Report) → Dues h f save → Saves alone s moment save old new c d r t → OwnIfTold h f c → OwnIfTold h f d
unfolding Dues
own-saves h f alone s moment None old new c d r t dues is own = subst (OwnIfTold h f) (sym is.1) own
own-saves h f alone s moment (Some save) old new c d r t dues is own =
    own-worked h f (put_on save.0 save.1) (Ok is.id) c d (λ x mine. own-put h f x save.0 save.1 mine (dues save.0 save.1 refl).1) is.put own

own-loads : (h : House) (f : Fronts) (alone : Bool) (s : Site) (moment : ℕ) (load : Option (ℕ × ℕ)) (old new : List RoomEvent)
    (c d : Telling) (r t : Report) → Loads alone s moment load old new c d r t → OwnIfTold h f c → OwnIfTold h f d
own-loads h f alone s moment None old new c d r t is own = subst (OwnIfTold h f) (sym is.1) own
own-loads h f alone s moment (Some load) old new c d r t is own =
    own-worked h f (get_on load.1) (Ok is.row) c d (λ x mine. mine) is.got own

own-save_stops : (h : House) (f : Fronts) (alone : Bool) (save : Option (Key × GameRow)) (why : ClerkError) (old new : List RoomEvent)
    (c d : Telling) (r t : Report) → Dues h f save → SaveStops alone save why old new c d r t → OwnIfTold h f c → OwnIfTold h f d
unfolding Dues
own-save_stops h f alone None why old new c d r t dues is own = absurd is
own-save_stops h f alone (Some save) why old new c d r t dues (inl put) own =
    own-failed h f (put_on save.0 save.1) put.refusal (next_failure c.plan) c d
    (λ x mine. own-put h f x save.0 save.1 mine (dues save.0 save.1 refl).1) put.failed.content own
own-save_stops h f alone (Some save) why old new c d r t dues (inr saved) own =
    own-worked h f (put_on save.0 save.1) (Ok saved.id) c d (λ x mine. own-put h f x save.0 save.1 mine (dues save.0 save.1 refl).1)
    saved.put own

own-load_stops : (h : House) (f : Fronts) (alone : Bool) (load : Option (ℕ × ℕ)) (why : ClerkError) (old new : List RoomEvent)
    (c d : Telling) (r t : Report) → LoadStops alone load why old new c d r t → OwnIfTold h f c → OwnIfTold h f d
own-load_stops h f alone None why old new c d r t is own = absurd is
own-load_stops h f alone (Some load) why old new c d r t (inl got) own =
    own-failed h f (get_on load.1) got.refusal (next_failure c.plan) c d (λ x mine. mine) got.failed.content own
own-load_stops h f alone (Some load) why old new c d r t (inr loaded) own =
    own-worked h f (get_on load.1) (Ok loaded.row) c d (λ x mine. mine) loaded.got own

own-settle_stops : (alone : Bool) (h : House) (f : Fronts) (s : Site) (moment : ℕ) (todo : Todo) (why : ClerkError)
    (old new : List RoomEvent) (c d : Telling) (r t : Report) → Dues h f todo.save
    → SettleStops alone s moment todo why old new c d r t → OwnIfTold h f c → OwnIfTold h f d
own-settle_stops alone h f s moment todo why old new c d r t dues (inl save) own =
    own-save_stops h f alone todo.save why old new c d r t dues save own
own-settle_stops alone h f s moment todo why old new c d r t dues (inr load) own =
    own-load_stops h f alone todo.load why load.middle new load.between d load.report t load.stops
    (own-saves h f alone s moment todo.save old load.middle c load.between r load.report dues load.saves own)

-- rounds

own-round : (alone : Bool) (h : House) (moment room : ℕ) (p q : Place) → StepAt room (Round alone (site_of h room) moment) p q
    → OwnIfTold h p.fronts p.keeper → OwnIfTold h q.fronts q.keeper
own-round alone h moment room p q at own =
    let f : Fronts = p.fronts in
    let g : Fronts = q.fronts in
    let s = site_of h room in
    let round : Round alone s moment (f.rooms room) (g.rooms room) p.keeper q.keeper p.report q.report = at.step in
    let asks : Asks alone s moment (f.rooms room) = round.asks in
    let due = round.settles in
    let asked = AsksTodo moment ∷ asks.others ++ f.rooms room in
    let settled : GoesOn asked (g.rooms room) =
    settles-on alone s moment asks.todo asked (g.rooms room) p.keeper q.keeper p.report q.report due in
    let on : AllGoOn f g = all-on room f g at.others (goes_on-trans (asks-on alone s moment (f.rooms room) asks) settled) in
    let dues = asks-dues h g alone room moment (f.rooms room) asks settled in
    own-loads h g alone s moment asks.todo.load due.middle (g.rooms room) due.between q.keeper due.report q.report due.loads
    (own-saves h g alone s moment asks.todo.save asked due.middle p.keeper due.between p.report due.report dues due.saves
    (own-on h f g p.keeper on own))

own-same : (h : House) (p q : Place) → SamePlace p q → OwnIfTold h p.fronts p.keeper → OwnIfTold h q.fronts q.keeper
own-same h p q same own =
    let on : AllGoOn p.fronts q.fronts = record { rooms = (λ r. goes_on-same (same.rooms r)); lobby = goes_on-same same.lobby } in
    subst (OwnIfTold h q.fronts) (sym same.keeper) (own-on h p.fronts q.fronts p.keeper on own)

-- behind rounds of the clerk
pub own-rounds : (alone : Bool) (h : House) (moment : ℕ) (p : Place) (n : ℕ) (q : Place) → Rounds alone h moment p n q
    → OwnIfTold h p.fronts p.keeper → OwnIfTold h q.fronts q.keeper
own-rounds alone h moment p zero q same own = own-same h p q same own
own-rounds alone h moment p (suc n) q more own =
    own-round alone h moment (suc n) more.before q more.last (own-rounds alone h moment p n more.before more.rounds own)

own-round_stops : (alone : Bool) (h : House) (moment room : ℕ) (why : ClerkError) (p q : Place) → ElseSame room p.fronts q.fronts
    → RoundStops alone (site_of h room) moment why (p.fronts.rooms room) (q.fronts.rooms room) p.keeper q.keeper p.report q.report
    → OwnIfTold h p.fronts p.keeper → OwnIfTold h q.fronts q.keeper
own-round_stops alone h moment room why p q others (inl refused) own =
    let on : AllGoOn p.fronts q.fronts =
    all-on room p.fronts q.fronts others (others-on alone (p.fronts.rooms room) (q.fronts.rooms room) refused.came) in
    subst (OwnIfTold h q.fronts) (sym refused.keeper) (own-on h p.fronts q.fronts p.keeper on own)
own-round_stops alone h moment room why p q others (inr refused) own =
    let f : Fronts = p.fronts in
    let g : Fronts = q.fronts in
    let s = site_of h room in
    let asks : Asks alone s moment (f.rooms room) = refused.asks in
    let asked = AsksTodo moment ∷ asks.others ++ f.rooms room in
    let settled : GoesOn asked (g.rooms room) =
    settle_stops-on alone s moment asks.todo why asked (g.rooms room) p.keeper q.keeper p.report q.report refused.stops in
    let on : AllGoOn f g = all-on room f g others (goes_on-trans (asks-on alone s moment (f.rooms room) asks) settled) in
    own-settle_stops alone h g s moment asks.todo why asked (g.rooms room) p.keeper q.keeper p.report q.report
    (asks-dues h g alone room moment (f.rooms room) asks settled) refused.stops (own-on h f g p.keeper on own)

-- also if the clerk stops in one
pub own-stopped : (alone : Bool) (h : House) (moment : ℕ) (why : ClerkError) (p : Place) (n room : ℕ) (q : Place)
    → Then (Rounds alone h moment p n) (StepAt room (RoundStops alone (site_of h room) moment why)) q
    → OwnIfTold h p.fronts p.keeper → OwnIfTold h q.fronts q.keeper
own-stopped alone h moment why p n room q more own =
    own-round_stops alone h moment room why more.before q more.last.others more.last.step
    (own-rounds alone h moment p n more.before more.rounds own)
