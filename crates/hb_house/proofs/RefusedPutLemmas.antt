-- Why does a put answer that the key differs, or that the numbers are used up?
use Rattle.std.proofs.Common.{◌≡◌, ℕ, ◌+◌, ◌<◌, ◌≤◌, Bool, true, false, suc, List, [], ◌∷◌, ◌++◌, length, refl, sym, ◌∙◌, ap, subst, arith, nat_lt, inl, inr, Some, None, Ok, Err, if◌then◌else◌}
use Rattle.std.proofs.lemmas.Bool.{and_parts}
use Rattle.std.proofs.lemmas.Bool.Decides.{Decides-eqb, nat_tests}
use Rattle.std.proofs.lemmas.Slice.Eq.{bytes_eq-Decides}
use Rattle.std.specs.Cmp.Lexicographic.{pointwise}
use Rattle.std.specs.Prelude.{Option, Result, ◌-◌, ◌&&◌, ◌==◌, ◌⊎◌, bytes_eq, slice_get}
use Rattle.hb_keeper.specs.declared.errors.KeepError.{KeepError}
use Rattle.hb_keeper.specs.declared.errors.KeepError.TheVariants as keep
use Rattle.hb_keeper.specs.declared.rows.GameRow.{GameRow}
use Rattle.hb_keeper.specs.declared.rows.Key.{Key}
use Rattle.hb_keeper.specs.KeptGames.{Content, greatest, id_from, id_of, is_row, put_by, row_of_id, same_key, same_row, with_row}
use Rattle.hb_club.specs.Fronts.{GoesOn, site_of}
use Rattle.hb_club.specs.RoomEvents.{RoomEvent, Site}
use Rattle.hb_club.specs.Rooms.{answer_to}
use Rattle.hb_house.specs.KeptOnce.{DiffersFrom, DiffersOnly, DueNeverDiffers, UsedUpOnly, WasDue}
use Rattle.hb_house.proofs.DueRowsLemmas.{due-alike}

-- one of two answers
abbrev either : Bool → Result ℕ KeepError × Content → Result ℕ KeepError × Content → Result ℕ KeepError × Content
either b one two = if b then one else two

-- the row of a key stands at the place of its id
record HasRow (id : ℕ) (key : Key) (rows : List (Key × GameRow)) (n : ℕ) : Type 0 where
  from : id ≤ n
  kept : Key × GameRow
  there : slice_get rows (n - id) ≡ Some kept
  same : same_key key kept.0 ≡ true

has-row : (id : ℕ) (key : Key) (rows : List (Key × GameRow)) (n : ℕ) → id_from id key rows ≡ Some n → HasRow id key rows n
has-row id key [] n is = let bad : ◌≡◌ {A = Option ℕ} None (Some n) = is in absurd cc
has-row id key (kept ∷ rows) n is = by (same_key key kept.0) refl (λ more. has-row (id + 1) key rows n more)
  where
    by : (b : Bool) → same_key key kept.0 ≡ b → (id_from (id + 1) key rows ≡ Some n → HasRow (id + 1) key rows n)
        → HasRow id key (kept ∷ rows) n
    by true hit next =
        let at : ◌≡◌ {A = Option ℕ} (Some id) (Some n) = rw hit at is in
        let one : id ≡ n = cc in
        let none : n - id ≡ 0 = omega arith in
        record { from = omega arith; kept = kept; there = rw none refl; same = hit }
    by false miss next =
        let later = next (rw miss at is) in
        let low : id + 1 ≤ n = later.from in
        let step : n - id ≡ suc (n - (id + 1)) = omega arith in
        record { from = omega arith; kept = later.kept; there = rw step later.there; same = later.same }

row-there : (c : Content) (n : ℕ) (kept : Key × GameRow) → 1 ≤ n → slice_get c.rows (n - 1) ≡ Some kept → row_of_id c n ≡ Some kept.1
row-there c n kept low there = let positive : nat_lt 0 n ≡ true = grind (arith, nat_tests) in rw (positive, there) refl

-- a put under a kept key differs only from the row that is kept there
pub put-differs : DiffersOnly
put-differs c key row id is = by (id_of c key) refl
  where
    by : (found : Option ℕ) → id_of c key ≡ found → DiffersFrom c key row id
    by None at =
        let put : Err (keep.KeyDiffers id) ≡ (put_by None key row c).0 =
        subst (λ o. Err (keep.KeyDiffers id) ≡ (put_by o key row c).0) at is in
        by_room (nat_lt (length c.rows) greatest) put
      where
        by_room : (b : Bool)
            → Err (keep.KeyDiffers id) ≡ (either b (Ok (length c.rows + 1), with_row key row c) (Err keep.UsedUp, c)).0
            → DiffersFrom c key row id
        by_room true eq = let bad : ◌≡◌ {A = Result ℕ KeepError} (Err (keep.KeyDiffers id)) (Ok (length c.rows + 1)) = eq in absurd cc
        by_room false eq = let bad : ◌≡◌ {A = Result ℕ KeepError} (Err (keep.KeyDiffers id)) (Err keep.UsedUp) = eq in absurd cc
    by (Some n) at =
        let put : Err (keep.KeyDiffers id) ≡ (put_by (Some n) key row c).0 =
        subst (λ o. Err (keep.KeyDiffers id) ≡ (put_by o key row c).0) at is in
        let found = has-row 1 key c.rows n at in
        let game = found.kept.1 in
        let there : row_of_id c n ≡ Some game = row-there c n found.kept found.from found.there in
        by_row n at game there (same_row game row) refl put
      where
        by_row : (n : ℕ) → id_of c key ≡ Some n → (game : GameRow) → row_of_id c n ≡ Some game → (b : Bool) → same_row game row ≡ b
            → Err (keep.KeyDiffers id) ≡ (put_by (Some n) key row c).0 → DiffersFrom c key row id
        by_row n at game there true same put =
            let test : is_row row (row_of_id c n) ≡ true = subst (λ o. is_row row o ≡ true) (sym there) same in
            let bad : ◌≡◌ {A = Result ℕ KeepError} (Err (keep.KeyDiffers id)) (Ok n) =
            subst (λ b. Err (keep.KeyDiffers id) ≡ (either b (Ok n, c) (Err (keep.KeyDiffers n), c)).0) test put in absurd cc
        by_row n at game there false apart put =
            let test : is_row row (row_of_id c n) ≡ false = subst (λ o. is_row row o ≡ false) (sym there) apart in
            let eq : ◌≡◌ {A = Result ℕ KeepError} (Err (keep.KeyDiffers id)) (Err (keep.KeyDiffers n)) =
            subst (λ b. Err (keep.KeyDiffers id) ≡ (either b (Ok n, c) (Err (keep.KeyDiffers n), c)).0) test put in
            let same : id ≡ n = cc in
            rw same (record { kept = at; game = game; there = there; differs = apart })

-- the numbers are used up only if the key is new and the last number is taken
pub put-used_up : UsedUpOnly
put-used_up c key row is = by (id_of c key) refl
  where
    by : (found : Option ℕ) → id_of c key ≡ found → (id_of c key ≡ None) × (greatest < length c.rows + 1)
    by (Some n) at =
        let put : Err keep.UsedUp ≡ (put_by (Some n) key row c).0 = subst (λ o. Err keep.UsedUp ≡ (put_by o key row c).0) at is in
        absurd (by_row (is_row row (row_of_id c n)) put)
      where
        by_row : (b : Bool) → Err keep.UsedUp ≡ (either b (Ok n, c) (Err (keep.KeyDiffers n), c)).0 → ⊥
        by_row true eq = let bad : ◌≡◌ {A = Result ℕ KeepError} (Err keep.UsedUp) (Ok n) = eq in cc
        by_row false eq = let bad : ◌≡◌ {A = Result ℕ KeepError} (Err keep.UsedUp) (Err (keep.KeyDiffers n)) = eq in cc
    by None at =
        let put : Err keep.UsedUp ≡ (put_by None key row c).0 = subst (λ o. Err keep.UsedUp ≡ (put_by o key row c).0) at is in
        (at, by_room (nat_lt (length c.rows) greatest) refl put)
      where
        by_room : (b : Bool) → nat_lt (length c.rows) greatest ≡ b
            → Err keep.UsedUp ≡ (either b (Ok (length c.rows + 1), with_row key row c) (Err keep.UsedUp, c)).0
            → greatest < length c.rows + 1
        by_room true low eq = let bad : ◌≡◌ {A = Result ℕ KeepError} (Err keep.UsedUp) (Ok (length c.rows + 1)) = eq in absurd cc
        by_room false high eq = grind (arith, nat_tests)

-- a game that was due is the one that is kept

key-with : ℕ → ℕ → ℕ → Key
key-with run room serial = record { run = run; room = room; serial = serial }

-- keys that are tested as the same are one
same_key-is : (a b : Key) → same_key a b ≡ true → a ≡ b
unfolding key-with
same_key-is a b is =
    let parts : ((a.run == b.run) ≡ true) × ((a.room == b.room && a.serial == b.serial) ≡ true) = and_parts _ _ is in
    let rest : ((a.room == b.room) ≡ true) × ((a.serial == b.serial) ≡ true) = and_parts _ _ parts.1 in
    by a.run b.run a.room b.room a.serial b.serial ((Decides-eqb a.run b.run).0 parts.0) ((Decides-eqb a.room b.room).0 rest.0)
    ((Decides-eqb a.serial b.serial).0 rest.1)
  where
    by : (r s t u v w : ℕ) → r ≡ s → t ≡ u → v ≡ w → key-with r t v ≡ key-with s u w
    by r s t u v w run room serial = cc

pointwise-refl : (names : List (List ℕ)) → pointwise bytes_eq names names ≡ true
pointwise-refl [] = refl
pointwise-refl (name ∷ names) = rw ((bytes_eq-Decides name name).1 refl, pointwise-refl names) refl

same_row-refl : (row : GameRow) → same_row row row ≡ true
same_row-refl row =
    let names : pointwise bytes_eq row.names row.names ≡ true = pointwise-refl row.names in
    let text : bytes_eq row.text row.text ≡ true = (bytes_eq-Decides row.text row.text).1 refl in
    let how : (row.how == row.how) ≡ true = (Decides-eqb row.how row.how).1 refl in
    let score : (row.score == row.score) ≡ true = (Decides-eqb row.score row.score).1 refl in
    rw (names, text, how, score) refl

-- of two lists from which one list goes on, one goes on from the other
one-goes-on : {A : Type 0} (a b all : List A) → GoesOn a all → GoesOn b all → GoesOn a b ⊎ GoesOn b a
one-goes-on {A} a b all first last = by first.more last.more (sym first.is ∙ last.is)
  where
    by : (x y : List A) → x ++ a ≡ y ++ b → GoesOn a b ⊎ GoesOn b a
    by [] y is = inr (record { more = y; is = is })
    by (e ∷ x) [] is = inl (record { more = e ∷ x; is = sym is })
    by (e ∷ x) (d ∷ y) is = let rest : x ++ a ≡ y ++ b = cc in by x y rest

due-once : (s : Site) (events : List RoomEvent) (key : Key) (row again : GameRow) → WasDue s events key row → WasDue s events key again
    → again ≡ row
due-once s events key row again one two = by (one-goes-on one.older two.older events one.goes_on two.goes_on)
  where
    by : GoesOn one.older two.older ⊎ GoesOn two.older one.older → again ≡ row
    by (inl on) = due-alike s on.more one.older one.todo two.todo key row again one.answer
        (ap (answer_to s) (sym on.is) ∙ two.answer) one.save two.save
    by (inr on) = sym (due-alike s on.more two.older two.todo one.todo key again row two.answer
        (ap (answer_to s) (sym on.is) ∙ one.answer) two.save one.save)

abbrev pair-at : Key → GameRow → Option (Key × GameRow)
pair-at key row = Some (key, row)

-- so its key never differs
pub due-never-differs : DueNeverDiffers
due-never-differs h f c key row id own run due differs =
    let from : DiffersFrom c key row id = put-differs c key row id (sym differs) in
    let found = has-row 1 key c.rows id from.kept in
    let same : key ≡ found.kept.0 = same_key-is key found.kept.0 found.same in
    let there : slice_get c.rows (id - 1) ≡ Some (key, found.kept.1) =
    found.there ∙ ap (λ (k : Key). pair-at k found.kept.1) (sym same) in
    let was : WasDue (site_of h key.room) (f.rooms key.room) key found.kept.1 = own.due (id - 1) key found.kept.1 there run in
    let one : found.kept.1 ≡ row = due-once (site_of h key.room) (f.rooms key.room) key row found.kept.1 due was in
    let kept : row_of_id c id ≡ Some found.kept.1 = row-there c id found.kept found.from found.there in
    let game : from.game ≡ found.kept.1 =
    (let both : ◌≡◌ {A = Option GameRow} (Some from.game) (Some found.kept.1) = sym from.there ∙ kept in cc) in
    let equal : same_row from.game row ≡ true = ap (λ (r : GameRow). same_row r row) (game ∙ one) ∙ same_row-refl row in
    let bad : true ≡ false = sym equal ∙ from.differs in
    cc
