-- Does the clerk of a keeper that contains the games of the run stop for a key that differs? No.
use Rattle.std.proofs.Common.{◌≡◌, ℕ, Bool, true, false, List, ◌∷◌, ◌++◌, refl, sym, subst, inl, inr, Some, None, Ok, Err}
use Rattle.std.specs.Prelude.{Option, Result, is_some}
use Rattle.hb_keeper.specs.declared.errors.KeepError.{KeepError}
use Rattle.hb_keeper.specs.declared.errors.KeepError.TheVariants as keep
use Rattle.hb_keeper.specs.declared.fails.When.{When}
use Rattle.hb_keeper.specs.declared.rows.GameRow.{GameRow}
use Rattle.hb_keeper.specs.declared.rows.Key.{Key}
use Rattle.hb_keeper.specs.KeptGames.{Content, get_on, put_on, row_of_id}
use Rattle.hb_club.specs.declared.clerks.Todo.{Todo}
use Rattle.hb_club.specs.Fronts.{AllGoOn, ElseSame, Fronts, GoesOn, House, site_of}
use Rattle.hb_club.specs.RoomEvents.{AsksTodo, RoomEvent, Site}
use Rattle.hb_house.specs.declared.reports.ClerkError.{ClerkError}
use Rattle.hb_house.specs.declared.reports.ClerkError.TheVariants as clerk
use Rattle.hb_house.specs.declared.reports.Report.{Report}
use Rattle.hb_house.specs.ClerkReports.{IsByHall, by_keeper}
use Rattle.hb_house.specs.ClerkRounds.{Asks, Place}
use Rattle.hb_house.specs.ClerkStops.{LoadStops, RoundStops, SaveStops, SettleStops}
use Rattle.hb_house.specs.KeeperSteps.{FailedOn, IsTold, Telling, next_failure}
use Rattle.hb_house.specs.KeptOnce.{ClerkNeverDiffers, OwnIfTold, OwnIn, WasDue}
use Rattle.hb_house.proofs.GoesOnLemmas.{all-on, asks-on, goes_on-trans, settle_stops-on}
use Rattle.hb_house.proofs.KeptRoundsLemmas.{Dues, asks-dues, own-rounds}
use Rattle.hb_house.proofs.OwnGamesLemmas.{own-on}
use Rattle.hb_house.proofs.RefusedPutLemmas.{due-never-differs}
use Rattle.hb_house.proofs.ToldContentLemmas.{rounds-told, saves-told}

-- a key differs by the keeper alone

by_keeper-differs : (refusal : KeepError) (id : ℕ) → clerk.KeyDiffers id ≡ by_keeper refusal → refusal ≡ keep.KeyDiffers id
by_keeper-differs keep.Fault id is = let bad : ◌≡◌ {A = ClerkError} (clerk.KeyDiffers id) clerk.KeeperFault = is in cc
by_keeper-differs (keep.KeyDiffers n) id is = let same : ◌≡◌ {A = ClerkError} (clerk.KeyDiffers id) (clerk.KeyDiffers n) = is in cc
by_keeper-differs keep.UsedUp id is = let bad : ◌≡◌ {A = ClerkError} (clerk.KeyDiffers id) clerk.UsedUp = is in cc
by_keeper-differs keep.NoMemory id is = let bad : ◌≡◌ {A = ClerkError} (clerk.KeyDiffers id) clerk.NoMemory = is in cc

by_hall-never : (id : ℕ) → IsByHall (clerk.KeyDiffers id) → ⊥
by_hall-never id (inl worn) = cc
by_hall-never id (inr memory) = cc

-- a game that is due is not refused for its key

put-never : (h : House) (f : Fronts) (key : Key) (row : GameRow) (id : ℕ) (how : Option When) (c d : Option Content)
    → (key.run ≡ h.run) × WasDue (site_of h key.room) (f.rooms key.room) key row
    → FailedOn (keep.KeyDiffers id) how (put_on key row) c d → is_some c ≡ true → OwnIn h f c → ⊥
put-never h f key row id how None d due failed told own = let never : false ≡ true = told in cc
put-never h f key row id how (Some c) d due failed told own = due-never-differs h f c key row id own due.0 due.1 (sym failed.0)

save-never : (h : House) (f : Fronts) (alone : Bool) (save : Option (Key × GameRow)) (id : ℕ) (old new : List RoomEvent)
    (c d : Telling) (r t : Report) → Dues h f save → SaveStops alone save (clerk.KeyDiffers id) old new c d r t
    → IsTold c → OwnIfTold h f c → ⊥
unfolding Dues
save-never h f alone None id old new c d r t dues is told own = is
save-never h f alone (Some save) id old new c d r t dues (inl put) told own =
    put-never h f save.0 save.1 id (next_failure c.plan) c.content d.content (dues save.0 save.1 refl)
    (subst (λ why. FailedOn why (next_failure c.plan) (put_on save.0 save.1) c.content d.content)
    (by_keeper-differs put.refusal id put.is) put.failed.content) told own
save-never h f alone (Some save) id old new c d r t dues (inr saved) told own = by_hall-never id saved.is

-- a game that is asked for has no key

get-never : (load id : ℕ) (how : Option When) (c d : Option Content) → FailedOn (keep.KeyDiffers id) how (get_on load) c d
    → is_some c ≡ true → ⊥
get-never load id how None d failed told = let never : false ≡ true = told in cc
get-never load id how (Some c) d failed told =
    let bad : ◌≡◌ {A = Result (Option GameRow) KeepError} (Err (keep.KeyDiffers id)) (Ok (row_of_id c load)) = failed.0 in cc

load-never : (alone : Bool) (load : Option (ℕ × ℕ)) (id : ℕ) (old new : List RoomEvent) (c d : Telling) (r t : Report)
    → LoadStops alone load (clerk.KeyDiffers id) old new c d r t → IsTold c → ⊥
load-never alone None id old new c d r t is told = is
load-never alone (Some load) id old new c d r t (inl got) told =
    get-never load.1 id (next_failure c.plan) c.content d.content
    (subst (λ why. FailedOn why (next_failure c.plan) (get_on load.1) c.content d.content)
    (by_keeper-differs got.refusal id got.is) got.failed.content) told
load-never alone (Some load) id old new c d r t (inr loaded) told = by_hall-never id loaded.is

-- rounds

settle-never : (h : House) (f : Fronts) (alone : Bool) (s : Site) (moment : ℕ) (todo : Todo) (id : ℕ) (old new : List RoomEvent)
    (c d : Telling) (r t : Report) → Dues h f todo.save → SettleStops alone s moment todo (clerk.KeyDiffers id) old new c d r t
    → IsTold c → OwnIfTold h f c → ⊥
settle-never h f alone s moment todo id old new c d r t dues (inl save) told own =
    save-never h f alone todo.save id old new c d r t dues save told own
settle-never h f alone s moment todo id old new c d r t dues (inr load) told own =
    load-never alone todo.load id load.middle new load.between d load.report t load.stops
    (saves-told alone s moment todo.save old load.middle c load.between r load.report load.saves told)

round-never : (alone : Bool) (h : House) (moment room id : ℕ) (p q : Place) → ElseSame room p.fronts q.fronts
    → RoundStops alone (site_of h room) moment (clerk.KeyDiffers id) (p.fronts.rooms room) (q.fronts.rooms room) p.keeper q.keeper
    p.report q.report
    → IsTold p.keeper → OwnIfTold h p.fronts p.keeper → ⊥
round-never alone h moment room id p q others (inl refused) told own = by_hall-never id refused.is
round-never alone h moment room id p q others (inr refused) told own =
    let f : Fronts = p.fronts in
    let g : Fronts = q.fronts in
    let s = site_of h room in
    let why = clerk.KeyDiffers id in
    let asks : Asks alone s moment (f.rooms room) = refused.asks in
    let asked = AsksTodo moment ∷ asks.others ++ f.rooms room in
    let settled : GoesOn asked (g.rooms room) =
    settle_stops-on alone s moment asks.todo why asked (g.rooms room) p.keeper q.keeper p.report q.report refused.stops in
    let on : AllGoOn f g = all-on room f g others (goes_on-trans (asks-on alone s moment (f.rooms room) asks) settled) in
    settle-never h g alone s moment asks.todo id asked (g.rooms room) p.keeper q.keeper p.report q.report
    (asks-dues h g alone room moment (f.rooms room) asks settled) refused.stops told (own-on h f g p.keeper on own)

-- so the clerk never stops for it
pub clerk-never-differs : ClerkNeverDiffers
clerk-never-differs alone h moment id p n room q more told own =
    round-never alone h moment room id more.before q more.last.others more.last.step
    (rounds-told alone h moment p n more.before more.rounds told) (own-rounds alone h moment p n more.before more.rounds own)
