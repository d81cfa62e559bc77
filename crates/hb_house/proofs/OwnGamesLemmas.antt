-- Does a keeper contain one row for each game of the run, behind each call? Yes.
use Rattle.std.proofs.Common.{◌≡◌, ℕ, ◌+◌, ◌≤◌, Bool, true, false, zero, suc, List, [], ◌∷◌, ◌++◌, length, refl, sym, ◌∙◌, ap, subst, arith, nat_lt, nat_eq, inl, inr, Some, None, Ok, Err, eq-eqb, if◌then◌else◌}
use Rattle.std.specs.Prelude.{Option, Result, ◌⊎◌, slice_get}
use Rattle.hb_keeper.specs.declared.errors.KeepError.{KeepError}
use Rattle.hb_keeper.specs.declared.errors.KeepError.TheVariants as keep
use Rattle.hb_keeper.specs.declared.fails.When.{When}
use Rattle.hb_keeper.specs.declared.fails.When.TheVariants.{Before, After}
use Rattle.hb_keeper.specs.declared.rows.GameRow.{GameRow}
use Rattle.hb_keeper.specs.declared.rows.Key.{Key}
use Rattle.hb_keeper.specs.KeptGames.{Content, greatest, id_from, id_of, is_row, open_run_on, put_by, put_on, row_of_id, same_key, with_row, with_run}
use Rattle.hb_club.specs.Fronts.{AllGoOn, Fronts, GoesOn, House, site_of}
use Rattle.hb_club.specs.RoomEvents.{RoomEvent, Site}
use Rattle.hb_house.specs.KeeperSteps.{FailedOn, FaultLeaves, Telling, Worked, WorkedOn}
use Rattle.hb_house.specs.KeptOnce.{NoLaterRun, OwnGames, OwnIfTold, OwnIn, WasDue}
use Rattle.hb_house.proofs.GoesOnLemmas.{goes_on-trans}
use Rattle.hb_house.proofs.ListLemmas.{slice_get-append_one}

-- lists go on

-- what was due was due in longer lists
pub was_due-on : (s : Site) (old new : List RoomEvent) (key : Key) (row : GameRow) → GoesOn old new → WasDue s old key row
    → WasDue s new key row
was_due-on s old new key row on due = record {
  older = due.older;
  goes_on = goes_on-trans due.goes_on on;
  todo = due.todo;
  answer = due.answer;
  save = due.save;
}

own-on_in : (h : House) (f g : Fronts) (c : Option Content) → AllGoOn f g → OwnIn h f c → OwnIn h g c
own-on_in h f g None on own = tt
own-on_in h f g (Some c) on own = record {
  due = (λ k key row is run.
      was_due-on (site_of h key.room) (f.rooms key.room) (g.rooms key.room) key row (on.rooms key.room) (own.due k key row is run));
  once = own.once;
}

-- what a keeper contains stays due while lists go on
pub own-on : (h : House) (f g : Fronts) (c : Telling) → AllGoOn f g → OwnIfTold h f c → OwnIfTold h g c
own-on h f g c on own = own-on_in h f g c.content on own

-- a run begins

rows-stay : (b : Bool) (x y : Result ℕ KeepError) (c d : Content) → c.rows ≡ d.rows
    → (let one : Result ℕ KeepError × Content = if b then (x, c) else (y, d) in one.1.rows) ≡ d.rows
rows-stay true x y c d same = same
rows-stay false x y c d same = refl

-- no row is of the run that begins
pub own-begins : (h : House) (f : Fronts) (c : Content) → NoLaterRun c → h.run ≡ c.last_run + 1 → OwnGames h f (open_run_on c).1
own-begins h f c below next =
    let rows : (open_run_on c).1.rows ≡ c.rows =
    rows-stay (nat_lt c.last_run greatest) (Ok (c.last_run + 1)) (Err keep.UsedUp) (with_run c) c refl in
    let none : (k : ℕ) (key : Key) (row : GameRow) → slice_get (open_run_on c).1.rows k ≡ Some (key, row) → key.run ≡ h.run → ⊥ =
    λ k key row is run.
    let low : key.run ≤ c.last_run = below k key row (subst (λ l. slice_get l k ≡ Some (key, row)) rows is) in
    omega (arith, low, run, next) in
    record {
      due = (λ k key row is run. absurd (none k key row is run));
      once = (λ k j key row game is other run. absurd (none k key row is run));
    }

-- a game is put

same_key-refl : (key : Key) → same_key key key ≡ true
same_key-refl key =
    let run : nat_eq key.run key.run ≡ true = eq-eqb key.run key.run refl in
    let room : nat_eq key.room key.room ≡ true = eq-eqb key.room key.room refl in
    let serial : nat_eq key.serial key.serial ≡ true = eq-eqb key.serial key.serial refl in
    rw (run, room, serial) refl

-- a key that has no id is in no row
not-kept : (id : ℕ) (key : Key) (row : GameRow) (rows : List (Key × GameRow)) (k : ℕ) → id_from id key rows ≡ None
    → slice_get rows k ≡ Some (key, row) → ⊥
not-kept id key row [] k none is = let bad : ◌≡◌ {A = Option (Key × GameRow)} None (Some (key, row)) = is in cc
not-kept id key row (kept ∷ rows) zero none is =
    let same : ◌≡◌ {A = Option (Key × GameRow)} (Some kept) (Some (key, row)) = is in
    let one : kept ≡ (key, row) = cc in
    let hit : same_key key kept.0 ≡ true = ap (λ (x : Key × GameRow). same_key key x.0) one ∙ same_key-refl key in
    let bad : ◌≡◌ {A = Option ℕ} (Some id) None = rw hit at none in cc
not-kept id key row (kept ∷ rows) (suc k) none is = by (same_key key kept.0) refl (λ more. not-kept (id + 1) key row rows k more is)
  where
    by : (b : Bool) → same_key key kept.0 ≡ b → (id_from (id + 1) key rows ≡ None → ⊥) → ⊥
    by true hit next = let bad : ◌≡◌ {A = Option ℕ} (Some id) None = rw hit at none in cc
    by false miss next = next (rw miss at none)

-- a game is added that was due
own-added : (h : House) (f : Fronts) (c : Content) (key : Key) (row : GameRow) → id_of c key ≡ None → OwnGames h f c
    → WasDue (site_of h key.room) (f.rooms key.room) key row → OwnGames h f (with_row key row c)
own-added h f c key row none own due = record { due = dues; once = onces }
  where
    dues : (k : ℕ) (one : Key) (game : GameRow) → slice_get (c.rows ++ (key, row) ∷ []) k ≡ Some (one, game) → one.run ≡ h.run
        → WasDue (site_of h one.room) (f.rooms one.room) one game
    dues k one game is run = by (slice_get-append_one c.rows (key, row) (one, game) k is)
      where
        by : (slice_get c.rows k ≡ Some (one, game)) ⊎ ((k ≡ length c.rows) × ◌≡◌ {A = Key × GameRow} (key, row) (one, game))
            → WasDue (site_of h one.room) (f.rooms one.room) one game
        by (inl old) = own.due k one game old run
        by (inr last) = subst (λ (x : Key × GameRow). WasDue (site_of h x.0.room) (f.rooms x.0.room) x.0 x.1) last.1 due

    onces : (k j : ℕ) (one : Key) (game other : GameRow) → slice_get (c.rows ++ (key, row) ∷ []) k ≡ Some (one, game)
        → slice_get (c.rows ++ (key, row) ∷ []) j ≡ Some (one, other) → one.run ≡ h.run → k ≡ j
    onces k j one game other is also run =
        by (slice_get-append_one c.rows (key, row) (one, game) k is) (slice_get-append_one c.rows (key, row) (one, other) j also)
      where
        by : (slice_get c.rows k ≡ Some (one, game)) ⊎ ((k ≡ length c.rows) × ◌≡◌ {A = Key × GameRow} (key, row) (one, game))
            → (slice_get c.rows j ≡ Some (one, other)) ⊎ ((j ≡ length c.rows) × ◌≡◌ {A = Key × GameRow} (key, row) (one, other))
            → k ≡ j
        by (inl old) (inl old') = own.once k j one game other old old' run
        by (inl old) (inr last) =
            absurd (not-kept 1 one game c.rows k (subst (λ (x : Key × GameRow). id_of c x.0 ≡ None) last.1 none) old)
        by (inr last) (inl old) =
            absurd (not-kept 1 one other c.rows j (subst (λ (x : Key × GameRow). id_of c x.0 ≡ None) last.1 none) old)
        by (inr last) (inr last') = last.0 ∙ sym last'.0

own-if : (h : House) (f : Fronts) (b : Bool) (x y : Result ℕ KeepError) (c d : Content) → OwnGames h f c → OwnGames h f d
    → OwnGames h f (let one : Result ℕ KeepError × Content = if b then (x, c) else (y, d) in one.1)
own-if h f true x y c d one two = one
own-if h f false x y c d one two = two

-- a game is put that was due
pub own-put : (h : House) (f : Fronts) (c : Content) (key : Key) (row : GameRow) → OwnGames h f c
    → WasDue (site_of h key.room) (f.rooms key.room) key row → OwnGames h f (put_on key row c).1
own-put h f c key row own due = by (id_of c key) refl
  where
    by : (found : Option ℕ) → id_of c key ≡ found → OwnGames h f (put_by found key row c).1
    by (Some id) is = own-if h f (is_row row (row_of_id c id)) (Ok id) (Err (keep.KeyDiffers id)) c c own own
    by None is = own-if h f (nat_lt (length c.rows) greatest) (Ok (length c.rows + 1)) (Err keep.UsedUp) (with_row key row c) c
        (own-added h f c key row is own due) own

-- calls of a keeper

own-worked_in : (h : House) (f : Fronts) {A : Type 0} (work : Content → Result A KeepError × Content) (a : Result A KeepError)
    (c d : Option Content) → ((x : Content) → OwnGames h f x → OwnGames h f (work x).1) → WorkedOn work c a d
    → OwnIn h f c → OwnIn h f d
own-worked_in h f work a None d does is own = subst (OwnIn h f) (sym is) tt
own-worked_in h f work a (Some c) d does is own = subst (OwnIn h f) (sym is.1) (does c own)

-- a call that did its work, if the work leaves it so
pub own-worked : (h : House) (f : Fronts) {A : Type 0} (work : Content → Result A KeepError × Content) (a : Result A KeepError)
    (c d : Telling) → ((x : Content) → OwnGames h f x → OwnGames h f (work x).1) → Worked work c a d
    → OwnIfTold h f c → OwnIfTold h f d
own-worked h f work a c d does is own = own-worked_in h f work a c.content d.content does is.content own

own-faulted : (h : House) (f : Fronts) (how : Option When) (before worked : Content) (after : Option Content)
    → FaultLeaves how before worked after → OwnGames h f before → OwnGames h f worked → OwnIn h f after
own-faulted h f (Some Before) before worked after is own done = subst (OwnIn h f) (sym is) own
own-faulted h f (Some After) before worked after is own done = subst (OwnIn h f) (sym is) done
own-faulted h f None before worked after (inl is) own done = subst (OwnIn h f) (sym is) own
own-faulted h f None before worked after (inr is) own done = subst (OwnIn h f) (sym is) done

own-failed_in : (h : House) (f : Fronts) {A : Type 0} (work : Content → Result A KeepError × Content) (why : KeepError)
    (how : Option When) (c d : Option Content) → ((x : Content) → OwnGames h f x → OwnGames h f (work x).1)
    → FailedOn why how work c d → OwnIn h f c → OwnIn h f d
own-failed_in h f work why how None d does is own = subst (OwnIn h f) (sym is) tt
own-failed_in h f work keep.Fault how (Some c) d does is own = own-faulted h f how c (work c).1 d is own (does c own)
own-failed_in h f work (keep.KeyDiffers id) how (Some c) d does is own = subst (OwnIn h f) (sym is.1) (does c own)
own-failed_in h f work keep.UsedUp how (Some c) d does is own = subst (OwnIn h f) (sym is.1) (does c own)
own-failed_in h f work keep.NoMemory how (Some c) d does is own = subst (OwnIn h f) (sym is) own

-- and a call that was refused
pub own-failed : (h : House) (f : Fronts) {A : Type 0} (work : Content → Result A KeepError × Content) (why : KeepError)
    (how : Option When) (c d : Telling) → ((x : Content) → OwnGames h f x → OwnGames h f (work x).1)
    → FailedOn why how work c.content d.content → OwnIfTold h f c → OwnIfTold h f d
own-failed h f work why how c d does is own = own-failed_in h f work why how c.content d.content does is own
