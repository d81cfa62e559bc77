-- What does each call of the clerk leave at its room and in the keeper?
use Rattle.std.proofs.Common.{◌≡◌, ℕ, Bool, refl, ◌∙◌, inl, inr, Some, Ok, Err}
use Rattle.std.specs.Prelude.{List, Option}
use Rattle.hb_keeper.specs.declared.errors.KeepError.{KeepError}
use Rattle.hb_keeper.specs.declared.fails.When.{When}
use Rattle.hb_keeper.specs.declared.rows.GameRow.{GameRow}
use Rattle.hb_keeper.specs.declared.rows.Key.{Key}
use Rattle.hb_keeper.specs.KeptGames.{Content, get_on, put_on}
use Rattle.hb_keeper.specs.Told.{FaultsAsPlanned, Keeps, Plans}
use Rattle.hb_club.specs.Fronts.{ElseSame, Fronts, Waits}
use Rattle.hb_club.specs.HallAnswers.{NothingOwn}
use Rattle.hb_club.specs.RoomEvents.{Site}
use Rattle.hb_house.specs.declared.reports.ClerkError.{ClerkError}
use Rattle.hb_house.specs.declared.reports.Report.{Report}
use Rattle.hb_house.specs.ClerkReports.{IsByHall, by_keeper}
use Rattle.hb_house.specs.ClerkRounds.{Loads, NotesLoaded, NotesSaved, Saves}
use Rattle.hb_house.specs.ClerkStops.{LoadStops, OthersCame, SaveStops}
use Rattle.hb_house.specs.KeeperSteps.{IsSure, Telling, Tells}
use Rattle.hb_house.specs.RoundSteps.{NoteStep, RoomStep}
use Rattle.hb_house.proofs.KeeperStepsLemmas.{failed, worked}

-- the lists of the other rooms stay through two steps
pub else_same-trans : (room : ℕ) (f g k : Fronts) → ElseSame room f g → ElseSame room g k → ElseSame room f k
else_same-trans room f g k first next =
    record { rooms = (λ r apart. next.rooms r apart ∙ first.rooms r apart); lobby = next.lobby ∙ first.lobby }

else_same : (room : ℕ) (f : Fronts) → ElseSame room f f
else_same room f = record { rooms = (λ r apart. refl); lobby = refl }

-- a call of a room with no event of its own leaves what others did there
pub others-came : (alone : Bool) (room : ℕ) (f g : Fronts) → Waits alone room f g → OthersCame alone (f.rooms room) (g.rooms room)
others-came alone room f g waits = record { others = waits.others; quiet = waits.quiet; front = waits.front }

-- a game that was due is put, and its id is noted
pub put-noted : (Stands : Fronts → Type 0) (before after : Content → Type 0) (plan next : Option (List (ℕ × When))) (sure : Type 0)
    (alone : Bool) (s : Site) (room moment : ℕ) (due : Option (Key × GameRow)) (save : Key × GameRow) (id : ℕ) (f : Fronts)
    (c : Telling) (r t : Report)
    → due ≡ Some save → (sure → Keeps (put_on save.0 save.1) before after (Ok id)) → Plans {A = ℕ} plan next (Ok id)
    → Tells before plan c → IsSure sure c
    → NoteStep Stands room f (λ old new. NotesSaved alone s moment save.0.serial id old new r t)
    → RoomStep Stands (Tells after next) room f (λ new d. Saves alone s moment due (f.rooms room) new c d r t)
put-noted Stands before after plan next sure alone s room moment due save id f c r t due_is keeps plans told is step =
    let put = worked (put_on save.0 save.1) before after plan next sure id c keeps plans told is in
    rw due_is (record {
      after = step.after;
      stands_for = step.stands_for;
      others = step.others;
      keeper = put.keeper;
      told = put.told;
      step = record { id = id; put = put.is; notes = step.step };
    })

-- the keeper refused to keep it
pub put-refused : (Stands : Fronts → Type 0) (before after : Content → Type 0) (plan next : Option (List (ℕ × When))) (sure : Type 0)
    (alone : Bool) (room : ℕ) (due : Option (Key × GameRow)) (save : Key × GameRow) (refusal : KeepError) (why : ClerkError)
    (f : Fronts) (c : Telling) (r : Report)
    → due ≡ Some save → why ≡ by_keeper refusal → (sure → Keeps (put_on save.0 save.1) before after (Err refusal))
    → (sure → FaultsAsPlanned (put_on save.0 save.1) before after plan (Err refusal)) → Plans {A = ℕ} plan next (Err refusal)
    → Tells before plan c → IsSure sure c → Stands f
    → RoomStep Stands (Tells after next) room f (λ new d. SaveStops alone due why (f.rooms room) new c d r r)
put-refused Stands before after plan next sure alone room due save refusal why f c r due_is by keeps planned plans told is stood =
    let put = failed (put_on save.0 save.1) before after plan next sure refusal c keeps planned plans told is in
    rw due_is (record {
      after = f;
      stands_for = stood;
      others = else_same room f;
      keeper = put.keeper;
      told = put.told;
      step = inl (record { refusal = refusal; is = by; failed = put.is; front = refl; report = refl });
    })

-- it is kept, and the hall refused its note
pub saved-refused : {S : Type 0} (stands : S → Fronts → Type 0) (hall : S) (before after : Content → Type 0)
    (plan next : Option (List (ℕ × When))) (sure : Type 0) (alone : Bool) (room : ℕ) (due : Option (Key × GameRow))
    (save : Key × GameRow) (id : ℕ) (why : ClerkError) (f : Fronts) (c : Telling) (r t : Report)
    → due ≡ Some save → (sure → Keeps (put_on save.0 save.1) before after (Ok id)) → Plans {A = ℕ} plan next (Ok id)
    → Tells before plan c → IsSure sure c → NothingOwn stands alone hall room f → IsByHall why → t ≡ r
    → RoomStep (stands hall) (Tells after next) room f (λ new d. SaveStops alone due why (f.rooms room) new c d r t)
saved-refused stands hall before after plan next sure alone room due save id why f c r t due_is keeps plans told is nothing by same =
    let put = worked (put_on save.0 save.1) before after plan next sure id c keeps plans told is in
    rw due_is (record {
      after = nothing.after;
      stands_for = nothing.stands_for;
      others = nothing.waits.rest;
      keeper = put.keeper;
      told = put.told;
      step = inr (record {
        is = by;
        id = id;
        put = put.is;
        came = others-came alone room f nothing.after nothing.waits;
        report = same;
      });
    })

-- a game that was asked for is got, and brought
pub got-noted : (Stands : Fronts → Type 0) (before after : Content → Type 0) (plan next : Option (List (ℕ × When))) (sure : Type 0)
    (alone : Bool) (s : Site) (room moment : ℕ) (due : Option (ℕ × ℕ)) (load : ℕ × ℕ) (row : Option GameRow) (f : Fronts)
    (c : Telling) (r t : Report)
    → due ≡ Some load → (sure → Keeps (get_on load.1) before after (Ok row)) → Plans {A = Option GameRow} plan next (Ok row)
    → Tells before plan c → IsSure sure c
    → NoteStep Stands room f (λ old new. NotesLoaded alone s moment load row old new r t)
    → RoomStep Stands (Tells after next) room f (λ new d. Loads alone s moment due (f.rooms room) new c d r t)
got-noted Stands before after plan next sure alone s room moment due load row f c r t due_is keeps plans told is step =
    let got = worked (get_on load.1) before after plan next sure row c keeps plans told is in
    rw due_is (record {
      after = step.after;
      stands_for = step.stands_for;
      others = step.others;
      keeper = got.keeper;
      told = got.told;
      step = record { row = row; got = got.is; notes = step.step };
    })

-- the keeper refused to give it
pub get-refused : (Stands : Fronts → Type 0) (before after : Content → Type 0) (plan next : Option (List (ℕ × When))) (sure : Type 0)
    (alone : Bool) (room : ℕ) (due : Option (ℕ × ℕ)) (load : ℕ × ℕ) (refusal : KeepError) (why : ClerkError) (f : Fronts)
    (c : Telling) (r : Report)
    → due ≡ Some load → why ≡ by_keeper refusal → (sure → Keeps (get_on load.1) before after (Err refusal))
    → (sure → FaultsAsPlanned (get_on load.1) before after plan (Err refusal))
    → Plans {A = Option GameRow} plan next (Err refusal) → Tells before plan c → IsSure sure c → Stands f
    → RoomStep Stands (Tells after next) room f (λ new d. LoadStops alone due why (f.rooms room) new c d r r)
get-refused Stands before after plan next sure alone room due load refusal why f c r due_is by keeps planned plans told is stood =
    let got = failed (get_on load.1) before after plan next sure refusal c keeps planned plans told is in
    rw due_is (record {
      after = f;
      stands_for = stood;
      others = else_same room f;
      keeper = got.keeper;
      told = got.told;
      step = inl (record { refusal = refusal; is = by; failed = got.is; front = refl; report = refl });
    })

-- the keeper gave it, and the hall refused its note
pub loaded-refused : {S : Type 0} (stands : S → Fronts → Type 0) (hall : S) (before after : Content → Type 0)
    (plan next : Option (List (ℕ × When))) (sure : Type 0) (alone : Bool) (room : ℕ) (due : Option (ℕ × ℕ)) (load : ℕ × ℕ)
    (row : Option GameRow) (why : ClerkError) (f : Fronts) (c : Telling) (r t : Report)
    → due ≡ Some load → (sure → Keeps (get_on load.1) before after (Ok row)) → Plans {A = Option GameRow} plan next (Ok row)
    → Tells before plan c → IsSure sure c → NothingOwn stands alone hall room f → IsByHall why → t ≡ r
    → RoomStep (stands hall) (Tells after next) room f (λ new d. LoadStops alone due why (f.rooms room) new c d r t)
loaded-refused stands hall before after plan next sure alone room due load row why f c r t due_is keeps plans told is nothing by same =
    let got = worked (get_on load.1) before after plan next sure row c keeps plans told is in
    rw due_is (record {
      after = nothing.after;
      stands_for = nothing.stands_for;
      others = nothing.waits.rest;
      keeper = got.keeper;
      told = got.told;
      step = inr (record {
        is = by;
        row = row;
        got = got.is;
        came = others-came alone room f nothing.after nothing.waits;
        report = same;
      });
    })
