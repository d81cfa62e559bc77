-- What does the clerk do in the round of one room, if nobody else comes to it, and the keeper tells what it contains and which of
-- its calls fail? What the definition of the lone clerk says.
use Rattle.std.proofs.Common.{◌≡◌, ◌≢◌, ℕ, ◌+◌, Bool, true, List, [], ◌∷◌, ◌++◌, refl, sym, ap, subst, ◌∙◌, inl, inr, Some, None, Ok}
use Rattle.std.specs.Prelude.{◌⊎◌, Option, option_map}
use Rattle.hb_keeper.specs.declared.errors.KeepError.{KeepError}
use Rattle.hb_keeper.specs.declared.errors.KeepError.TheVariants as keep
use Rattle.hb_keeper.specs.declared.rows.GameRow.{GameRow}
use Rattle.hb_keeper.specs.declared.rows.Key.{Key}
use Rattle.hb_keeper.specs.KeptGames.{get_on, put_on}
use Rattle.hb_club.specs.declared.clerks.ClerkNote.{ClerkNote}
use Rattle.hb_club.specs.declared.clerks.ClerkNote.TheVariants as note
use Rattle.hb_club.specs.declared.clerks.Noted.{Noted}
use Rattle.hb_club.specs.declared.clerks.Noted.TheVariants as noted
use Rattle.hb_club.specs.declared.clerks.Todo.{Todo}
use Rattle.hb_club.specs.Fronts.{House, site_of}
use Rattle.hb_club.specs.RoomEvents.{Added, AsksTodo, Due, Outcome, RoomEvent, Site, note_event}
use Rattle.hb_club.specs.Rooms.{answer_to}
use Rattle.hb_house.specs.declared.reports.ClerkError.{ClerkError}
use Rattle.hb_house.specs.declared.reports.ClerkError.TheVariants as clerk
use Rattle.hb_house.specs.declared.reports.Report.{Report}
use Rattle.hb_house.specs.ClerkReports.{IsByHall, by_keeper, with_loaded, with_saved}
use Rattle.hb_house.specs.ClerkRounds.{Loads, LoadsGame, Round, Saves, SavesGame, TakesNote, text_in}
use Rattle.hb_house.specs.ClerkStops.{LoadStops, RoundStops, SaveStops, SettleStops}
use Rattle.hb_house.specs.KeeperSteps.{Failed, Telling, Worked}
use Rattle.hb_house.proofs.NotedLemmas.{notes-add}
use Rattle.hb_house.proofs.PlainStandsLemmas.{with_event-here, with_event-there}
use Rattle.hb_talk.specs.Keeping.{Keeping}
use Rattle.hb_talk.specs.LoneClerk.{Round as LoneRound, counted, does, loads_unless, noted_in, noting, room_answer, saves, todo_in, visit_unless, with_call, with_keeping}
use Rattle.hb_run.specs.LoneRuns.{telling}
use Rattle.hb_run.proofs.ToldCallsLemmas.{CallIs, HasNoPlan, IsKnown, failed-call, worked-call}

-- The lone clerk has come so far in a room as a clerk has: the room's list, what the keeper tells, and the report. `start` is where the
-- lone clerk came to the room
pub record IsAtRoom (planned : Bool) (room : ℕ) (start r : LoneRound) (events : List RoomEvent) (c : Telling) (t : Report) : Type 0 where
  pub here : events ≡ r.fronts.rooms room
  pub rest : (other : ℕ) → other ≢ room → r.fronts.rooms other ≡ start.fronts.rooms other
  pub lobby : r.fronts.lobby ≡ start.fronts.lobby
  pub keeper : c ≡ telling planned r.keeping
  pub plan : HasNoPlan planned r.keeping
  pub saved : t.saved ≡ r.saved
  pub loaded : t.loaded ≡ r.loaded
  pub missing : t.missing ≡ r.missing

-- and has not stopped, or was refused
pub record IsAtRoomBy (planned : Bool) (why : Option KeepError) (room : ℕ) (start r : LoneRound) (events : List RoomEvent) (c : Telling)
    (t : Report)
    : Type 0 where
  pub at : IsAtRoom planned room start r events c t
  pub refused : r.refused ≡ why

-- steps

-- one event more
called : (planned : Bool) (room : ℕ) (start r : LoneRound) (e : RoomEvent) (events : List RoomEvent) (c : Telling) (t : Report)
    → IsAtRoom planned room start r events c t → IsAtRoom planned room start (with_call room e r) (e ∷ events) c t
called planned room start r e events c t at = record {
  here = ap (λ (l : List RoomEvent). e ∷ l) at.here ∙ sym (with_event-here room e r.fronts);
  rest = (λ other apart. with_event-there room other e r.fronts apart ∙ at.rest other apart);
  lobby = at.lobby;
  keeper = at.keeper;
  plan = at.plan;
  saved = at.saved;
  loaded = at.loaded;
  missing = at.missing;
}

-- one call of the keeper more
kept : (planned : Bool) (room : ℕ) (start r : LoneRound) (k : Keeping) (refused : Option KeepError) (events : List RoomEvent)
    (c d : Telling) (t : Report)
    → d ≡ telling planned k → HasNoPlan planned k → IsAtRoom planned room start r events c t → IsAtRoom planned room start
    (with_keeping k refused r) events d t
kept planned room start r k refused events c d t told none at = record {
  here = at.here;
  rest = at.rest;
  lobby = at.lobby;
  keeper = told;
  plan = none;
  saved = at.saved;
  loaded = at.loaded;
  missing = at.missing;
}

-- the item of a note is counted, which saves or adds nothing
counted-saved : (planned : Bool) (room : ℕ) (start r : LoneRound) (which : Noted) (events : List RoomEvent) (c : Telling) (t : Report)
    → (which ≡ noted.Saved) ⊎ (which ≡ noted.Nothing) → r.refused ≡ None → IsAtRoom planned room start r events c t
    → IsAtRoomBy planned None room start (counted which r) events c (with_saved which t)
counted-saved planned room start r which events c t (inl is) free at = rw is (record {
  at = record {
    here = at.here;
    rest = at.rest;
    lobby = at.lobby;
    keeper = at.keeper;
    plan = at.plan;
    saved = ap (λ n. n + 1) at.saved;
    loaded = at.loaded;
    missing = at.missing;
  };
  refused = free;
})
counted-saved planned room start r which events c t (inr is) free at = rw is (record { at = at; refused = free })

-- or loads, or misses, or adds nothing
counted-loaded : (planned : Bool) (room : ℕ) (start r : LoneRound) (which : Noted) (events : List RoomEvent) (c : Telling) (t : Report)
    → which ≢ noted.Saved → r.refused ≡ None → IsAtRoom planned room start r events c t
    → IsAtRoomBy planned None room start (counted which r) events c (with_loaded which t)
counted-loaded planned room start r noted.Saved events c t never free at = absurd (never refl)
counted-loaded planned room start r noted.Nothing events c t never free at = record { at = at; refused = free }
counted-loaded planned room start r noted.Loaded events c t never free at = record {
  at = record {
    here = at.here;
    rest = at.rest;
    lobby = at.lobby;
    keeper = at.keeper;
    plan = at.plan;
    saved = at.saved;
    loaded = ap (λ n. n + 1) at.loaded;
    missing = at.missing;
  };
  refused = free;
}
counted-loaded planned room start r noted.NoGame events c t never free at = record {
  at = record {
    here = at.here;
    rest = at.rest;
    lobby = at.lobby;
    keeper = at.keeper;
    plan = at.plan;
    saved = at.saved;
    loaded = at.loaded;
    missing = ap (λ n. n + 1) at.missing;
  };
  refused = free;
}

-- the note of the clerk is the newest event, as nobody else came
note-is : (s : Site) (moment : ℕ) (n : ClerkNote) (which : Noted) (old new : List RoomEvent) → TakesNote true s moment n which old new
    → new ≡ note_event moment n ∷ old
note-is s moment n which old new takes =
    takes.front ∙ ap (λ (l : List RoomEvent). note_event moment n ∷ l ++ old) (takes.quiet refl)

-- the lone clerk counts the item that the note added
noting-is : (planned : Bool) (h : House) (room moment : ℕ) (n : ClerkNote) (which : Noted) (start r : LoneRound)
    (old new : List RoomEvent) (c : Telling)
    (t : Report) → TakesNote true (site_of h room) moment n which old new → IsAtRoom planned room start r old c t
    → noting h room moment n r ≡ counted which (with_call room (note_event moment n) r)
noting-is planned h room moment n which start r old new c t takes at =
    let after : LoneRound = with_call room (note_event moment n) r in
    let is : new ≡ note_event moment n ∷ old = note-is (site_of h room) moment n which old new takes in
    let there : note_event moment n ∷ old ≡ after.fronts.rooms room =
    (called planned room start r (note_event moment n) old c t at).here in
    let answer : room_answer h room after ≡ Added which =
    ap (answer_to (site_of h room)) (sym (is ∙ there)) ∙ takes.answer in
    ap (λ (o : Outcome). counted (noted_in o) after) answer

-- a game that is due

saved-here : (planned : Bool) (h : House) (room moment : ℕ) (save : Key × GameRow) (start r : LoneRound) (old new : List RoomEvent)
    (c d : Telling)
    (t u : Report) → r.refused ≡ None → IsAtRoom planned room start r old c t → SavesGame true (site_of h room) moment save old new c d t u
    → IsAtRoomBy planned None room start (saves h room moment (Some save) r) new d u
saved-here planned h room moment save start r old new c d t u free at game =
    let s = site_of h room in
    let n : ClerkNote = note.Saved save.0.serial game.id in
    let which : Noted = game.notes.noted in
    let takes : TakesNote true s moment n which old new = game.notes.takes in
    let put : Worked (put_on save.0 save.1) (telling planned r.keeping) (Ok game.id) d =
    subst (λ (x : Telling). Worked (put_on save.0 save.1) x (Ok game.id) d) at.keeper game.put in
    let call : CallIs planned (put_on save.0 save.1) r.keeping (Ok game.id) d = worked-call planned
    (put_on save.0 save.1) r.keeping game.id d at.plan put in
    let q : LoneRound = with_keeping call.left None r in
    let at_q : IsAtRoom planned room start q old d t = kept planned room start r call.left None old c d t call.told call.plan at in
    let noted : noting h room moment n q ≡ counted which (with_call room (note_event moment n) q) =
    noting-is planned h room moment n which start q old new d t takes at_q in
    let adds = notes-add.saved s moment save.0.serial game.id old which
    (ap (answer_to s) (sym (note-is s moment n which old new takes)) ∙ takes.answer) in
    let end : IsAtRoomBy planned None room start (counted which (with_call room (note_event moment n) q)) (note_event moment n ∷ old) d
    (with_saved which t) =
    counted-saved planned room start (with_call room (note_event moment n) q) which (note_event moment n ∷ old) d t adds refl
    (called planned room start q (note_event moment n) old d t at_q) in
    rw (call.is, noted, note-is s moment n which old new takes, game.notes.report) end

saves-here : (planned : Bool) (h : House) (room moment : ℕ) (save : Option (Key × GameRow)) (start r : LoneRound) (old new : List RoomEvent)
    (c d : Telling) (t u : Report) → r.refused ≡ None → IsAtRoom planned room start r old c t
    → Saves true (site_of h room) moment save old new c d t u → IsAtRoomBy planned None room start (saves h room moment save r) new d u
saves-here planned h room moment None start r old new c d t u free at same = rw (same.0, same.1, same.2)
    (record { at = at; refused = free })
saves-here planned h room moment (Some save) start r old new c d t u free at game =
    saved-here planned h room moment save start r old new c d t u free at game

-- a game that is asked for

text-is : (row : Option GameRow) → option_map (λ (row : GameRow). row.text) row ≡ text_in row
text-is None = refl
text-is (Some row) = refl

loaded-here : (planned : Bool) (h : House) (room moment : ℕ) (load : ℕ × ℕ) (start r : LoneRound) (old new : List RoomEvent) (c d : Telling)
    (t u : Report) → IsAtRoom planned room start r old c t → LoadsGame true (site_of h room) moment load old new c d t u
    → IsAtRoomBy planned None room start (loads_unless None h room moment (Some load) r) new d u
loaded-here planned h room moment load start r old new c d t u at game =
    let s = site_of h room in
    let n : ClerkNote = note.Loaded load.0 load.1 (text_in game.row) in
    let which : Noted = game.notes.noted in
    let takes : TakesNote true s moment n which old new = game.notes.takes in
    let got : Worked (get_on load.1) (telling planned r.keeping) (Ok game.row) d =
    subst (λ (x : Telling). Worked (get_on load.1) x (Ok game.row) d) at.keeper game.got in
    let call : CallIs planned (get_on load.1) r.keeping (Ok game.row) d = worked-call planned
    (get_on load.1) r.keeping game.row d at.plan got in
    let q : LoneRound = with_keeping call.left None r in
    let at_q : IsAtRoom planned room start q old d t = kept planned room start r call.left None old c d t call.told call.plan at in
    let noted : noting h room moment n q ≡ counted which (with_call room (note_event moment n) q) =
    noting-is planned h room moment n which start q old new d t takes at_q in
    let adds = notes-add.loaded s moment load.0 load.1 (text_in game.row) old which
    (ap (answer_to s) (sym (note-is s moment n which old new takes)) ∙ takes.answer) in
    let end : IsAtRoomBy planned None room start (counted which (with_call room (note_event moment n) q)) (note_event moment n ∷ old) d
    (with_loaded which t) =
    counted-loaded planned room start (with_call room (note_event moment n) q) which (note_event moment n ∷ old) d t adds refl
    (called planned room start q (note_event moment n) old d t at_q) in
    rw (call.is, text-is game.row, noted, note-is s moment n which old new takes, game.notes.report) end

nothing-loads : (why : Option KeepError) (h : House) (room moment : ℕ) (r : LoneRound) → loads_unless why h room moment None r ≡ r
nothing-loads None h room moment r = refl
nothing-loads (Some why) h room moment r = refl

loads-here : (planned : Bool) (h : House) (room moment : ℕ) (load : Option (ℕ × ℕ)) (start r : LoneRound) (old new : List RoomEvent)
    (c d : Telling)
    (t u : Report) → IsAtRoomBy planned None room start r old c t → Loads true (site_of h room) moment load old new c d t u
    → IsAtRoomBy planned None room start (loads_unless r.refused h room moment load r) new d u
loads-here planned h room moment None start r old new c d t u at same =
    subst (λ (x : LoneRound). IsAtRoomBy planned None room start x new d u) (sym (nothing-loads r.refused h room moment r))
    (rw (same.0, same.1, same.2) at)
loads-here planned h room moment (Some load) start r old new c d t u at game =
    subst (λ (why : Option KeepError). IsAtRoomBy planned None room start (loads_unless why h room moment (Some load) r) new d u)
    (sym at.refused) (loaded-here planned h room moment load start r old new c d t u at.at game)

-- a round

-- the lone clerk has asked
asked-here : (h : House) (room moment : ℕ) (start : LoneRound) (others : List RoomEvent) (todo : Todo) (old : List RoomEvent)
    → others ≡ [] → old ≡ start.fronts.rooms room
    → answer_to (site_of h room) (AsksTodo moment ∷ others ++ old) ≡ Due todo
    → todo_in (room_answer h room (with_call room (AsksTodo moment) start)) ≡ todo
asked-here h room moment start others todo old none is answer =
    let events : AsksTodo moment ∷ others ++ old ≡ (with_call room (AsksTodo moment) start).fronts.rooms room =
    ap (λ (l : List RoomEvent). AsksTodo moment ∷ l ++ old) none
    ∙ (ap (λ (l : List RoomEvent). AsksTodo moment ∷ l) is ∙ sym (with_event-here room (AsksTodo moment) start.fronts)) in
    ap todo_in (ap (answer_to (site_of h room)) (sym events) ∙ answer)

-- the lone clerk comes as far in its visit of a room as the round that a clerk ended, and is not refused
pub round-here : (planned : Bool) (h : House) (room moment : ℕ) (start : LoneRound) (old new : List RoomEvent) (c d : Telling)
    (t u : Report)
    → start.refused ≡ None → IsAtRoom planned room start start old c t → Round true (site_of h room) moment old new c d t u
    → IsAtRoomBy planned None room start (visit_unless None h moment room start) new d u
round-here planned h room moment start old new c d t u free at round =
    let others = round.asks.others in
    let none : others ≡ [] = round.asks.quiet refl in
    let todo : Todo = round.asks.todo in
    let due = round.settles in
    let asked : LoneRound = with_call room (AsksTodo moment) start in
    let answer : todo_in (room_answer h room asked) ≡ todo = asked-here h room moment start others todo old none at.here
    round.asks.answer in
    let at_asked : IsAtRoom planned room start asked (AsksTodo moment ∷ others ++ old) c t =
    subst (λ (l : List RoomEvent). IsAtRoom planned room start asked (AsksTodo moment ∷ l ++ old) c t) (sym none)
    (called planned room start start (AsksTodo moment) old c t at) in
    let saved : IsAtRoomBy planned None room start (saves h room moment todo.save asked) due.middle due.between due.report =
    saves-here planned h room moment todo.save start asked (AsksTodo moment ∷ others ++ old) due.middle c due.between t due.report free
    at_asked
    due.saves in
    let end : IsAtRoomBy planned None room start (does h moment room todo asked) new d u =
    loads-here planned h room moment todo.load start (saves h room moment todo.save asked) due.middle new due.between d due.report u saved
    due.loads in
    rw answer end

-- a round that stops

-- the keeper's refusal that is the clerk's cause
abbrev keeper_of : ClerkError → Option KeepError
keeper_of clerk.KeeperFault = Some keep.Fault
keeper_of (clerk.KeyDiffers id) = Some (keep.KeyDiffers id)
keeper_of clerk.UsedUp = Some keep.UsedUp
keeper_of clerk.Worn = None
keeper_of clerk.NoMemory = Some keep.NoMemory

by_keeper-back : (why : KeepError) → keeper_of (by_keeper why) ≡ Some why
by_keeper-back keep.Fault = refl
by_keeper-back (keep.KeyDiffers id) = refl
by_keeper-back keep.UsedUp = refl
by_keeper-back keep.NoMemory = refl

by_keeper-one : (why other : KeepError) → by_keeper why ≡ by_keeper other → why ≡ other
by_keeper-one why other same =
    let one : ◌≡◌ {A = Option KeepError} (Some why) (Some other) =
    sym (by_keeper-back why) ∙ (ap keeper_of same ∙ by_keeper-back other) in cc

-- no hall refused, if the keeper did and not for want of memory
not_by_hall : (why : KeepError) → why ≢ keep.NoMemory → IsByHall (by_keeper why) → ⊥
not_by_hall why known (inl worn) =
    let one : ◌≡◌ {A = Option KeepError} (Some why) None = sym (by_keeper-back why) ∙ ap keeper_of worn in cc
not_by_hall why known (inr memory) =
    let one : ◌≡◌ {A = Option KeepError} (Some why) (Some keep.NoMemory) = sym (by_keeper-back why) ∙ ap keeper_of memory in
    known cc

put-stops : (planned : Bool) (h : House) (room moment : ℕ) (save : Option (Key × GameRow)) (why : KeepError) (start r : LoneRound)
    (old new : List RoomEvent) (c d : Telling) (t u : Report) → IsKnown planned why → IsAtRoom planned room start r old c t
    → SaveStops true save (by_keeper why) old new c d t u → IsAtRoomBy planned (Some why) room start (saves h room moment save r) new d u
put-stops planned h room moment None why start r old new c d t u known at stops = absurd stops
put-stops planned h room moment (Some save) why start r old new c d t u known at (inl put) =
    let one : put.refusal ≡ why = sym (by_keeper-one why put.refusal put.is) in
    let failed : Failed why (put_on save.0 save.1) (telling planned r.keeping) d =
    subst (λ (x : Telling). Failed why (put_on save.0 save.1) x d) at.keeper
    (subst (λ (x : KeepError). Failed x (put_on save.0 save.1) c d) one put.failed) in
    let call = failed-call planned (put_on save.0 save.1) r.keeping why d at.plan known failed in
    rw (call.is, put.front, put.report)
    (record { at = kept planned room start r call.left (Some why) old c d t call.told call.plan at; refused = refl })
put-stops planned h room moment (Some save) why start r old new c d t u known at (inr saved) = absurd
    (not_by_hall why known.memory saved.is)

get-stops : (planned : Bool) (h : House) (room moment : ℕ) (load : Option (ℕ × ℕ)) (why : KeepError) (start r : LoneRound)
    (old new : List RoomEvent) (c d : Telling) (t u : Report) → IsKnown planned why → IsAtRoomBy planned None room start r old c t
    → LoadStops true load (by_keeper why) old new c d t u
    → IsAtRoomBy planned (Some why) room start (loads_unless r.refused h room moment load r) new d u
get-stops planned h room moment None why start r old new c d t u known at stops = absurd stops
get-stops planned h room moment (Some load) why start r old new c d t u known at (inl got) =
    let one : got.refusal ≡ why = sym (by_keeper-one why got.refusal got.is) in
    let failed : Failed why (get_on load.1) (telling planned r.keeping) d =
    subst (λ (x : Telling). Failed why (get_on load.1) x d) at.at.keeper
    (subst (λ (x : KeepError). Failed x (get_on load.1) c d) one got.failed) in
    let call = failed-call planned (get_on load.1) r.keeping why d at.at.plan known failed in
    rw (at.refused, call.is, got.front, got.report)
    (record { at = kept planned room start r call.left (Some why) old c d t call.told call.plan at.at; refused = refl })
get-stops planned h room moment (Some load) why start r old new c d t u known at (inr loaded) = absurd
    (not_by_hall why known.memory loaded.is)

settle-stops : (planned : Bool) (h : House) (room moment : ℕ) (todo : Todo) (why : KeepError) (start r : LoneRound)
    (old new : List RoomEvent)
    (c d : Telling) (t u : Report) → IsKnown planned why → r.refused ≡ None → IsAtRoom planned room start r old c t
    → SettleStops true (site_of h room) moment todo (by_keeper why) old new c d t u
    → IsAtRoomBy planned (Some why) room start (does h moment room todo r) new d u
settle-stops planned h room moment todo why start r old new c d t u known free at (inl save) =
    let stopped = put-stops planned h room moment todo.save why start r old new c d t u known at save in
    rw stopped.refused stopped
settle-stops planned h room moment todo why start r old new c d t u known free at (inr load) =
    get-stops planned h room moment todo.load why start (saves h room moment todo.save r) load.middle new load.between d load.report u known
    (saves-here planned h room moment todo.save start r old load.middle c load.between t load.report free at load.saves) load.stops

-- if a refusal of the keeper stops a round, the lone clerk comes as far in its visit, refused the same
pub round-stops : (planned : Bool) (h : House) (room moment : ℕ) (why : KeepError) (start : LoneRound) (old new : List RoomEvent)
    (c d : Telling)
    (t u : Report) → IsKnown planned why → start.refused ≡ None → IsAtRoom planned room start start old c t
    → RoundStops true (site_of h room) moment (by_keeper why) old new c d t u
    → IsAtRoomBy planned (Some why) room start (visit_unless None h moment room start) new d u
round-stops planned h room moment why start old new c d t u known free at (inl ask) = absurd (not_by_hall why known.memory ask.is)
round-stops planned h room moment why start old new c d t u known free at (inr round) =
    let others = round.asks.others in
    let none : others ≡ [] = round.asks.quiet refl in
    let todo : Todo = round.asks.todo in
    let asked : LoneRound = with_call room (AsksTodo moment) start in
    let answer : todo_in (room_answer h room asked) ≡ todo = asked-here h room moment start others todo old none at.here
    round.asks.answer in
    let at_asked : IsAtRoom planned room start asked (AsksTodo moment ∷ others ++ old) c t =
    subst (λ (l : List RoomEvent). IsAtRoom planned room start asked (AsksTodo moment ∷ l ++ old) c t) (sym none)
    (called planned room start start (AsksTodo moment) old c t at) in
    rw answer (settle-stops planned h room moment todo why start asked
    (AsksTodo moment ∷ others ++ old) new c d t u known free at_asked round.stops)
