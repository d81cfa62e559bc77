-- How the steps of a loop join.
use Rattle.std.proofs.Common.{◌≡◌, ℕ, ◌+◌, ◌^◌, ◌<◌, zero, suc, pos, List, [], ◌∷◌, ◌++◌, map, take, length, Some, None, Option, Ok, Err, Result, IfOk, refl, sym, ap, subst, ◌∙◌, arith, append_assoc, add-one, ◌≤◌}
use Rattle.std.specs.Prelude.{slice_get, IsErr}
use Rattle.std.specs.List.Sorted.{IsPermutation}
use Rattle.sqlite_value.specs.declared.value.Value.TheVariants.{Int}
use Rattle.sqlite_value.specs.Order.{Row, column}
use Rattle.sqlite.specs.State.{State}
use Rattle.hb_keeper.specs.declared.rows.Key.{Key}
use Rattle.hb_keeper.specs.declared.rows.GameRow.{GameRow}
use Rattle.hb_keeper.specs.KeptGames.{Content, row_of_id, id_of}
use Rattle.hb_sqlite.specs.StoreTables.{names_in, seat_name, seats_from, seat_rows, seat_cells, ids_from, id_row}
use Rattle.hb_sqlite.specs.StoreSteps.{Reads}
use Rattle.hb_sqlite.specs.Within.{Placing, DoesWithin}
use Rattle.hb_sqlite.proofs.KeyLemmas.{first_id, one_of}

-- one item more of a list
pub take_more : {X : Type 0} (xs : List X) (k : ℕ) (x : X) → slice_get xs k ≡ Some x → take (suc k) xs ≡ take k xs ++ x ∷ []
take_more [] k x h = absurd cc
take_more (y ∷ xs) zero x h = let same : y ≡ x = cc in ap (λ z. z ∷ []) same
take_more (y ∷ xs) (suc k) x h = ap (λ all. y ∷ all) (take_more xs k x h)

one_more : (row : Option GameRow) (seat : ℕ) (name : List ℕ) → Some name ≡ seat_name seat row
    → take (suc seat) (names_in row) ≡ take seat (names_in row) ++ name ∷ []
one_more None seat name h = absurd cc
one_more (Some row) seat name h = take_more row.names seat name (sym h)

-- one name more was read
pub more_names : {E F : Type 0} (a b d : State) (game seat : ℕ) (names new : List (List ℕ)) (name : List ℕ)
    → Reads {E = E} a b (λ content all. all ≡ take seat (names_in (row_of_id content game))) (Ok names)
    → Reads {E = F} b d (λ content n. n ≡ seat_name seat (row_of_id content game)) (Ok (Some name)) → new ≡ names ++ name ∷ []
    → Reads {E = E} a d (λ content all. all ≡ take (seat + 1) (names_in (row_of_id content game))) (Ok new)
more_names a b d game seat names new name first second is = record {
  sure = λ sure. first.sure (second.sure sure);
  found = λ sure content tells.
      let before = first.found (second.sure sure) content tells in
      let one = second.found sure content (first.done (second.sure sure) content tells) in
      let more : take (seat + 1) (names_in (row_of_id content game)) ≡ take seat (names_in (row_of_id content game)) ++ name ∷ [] =
      ap (λ n. take n (names_in (row_of_id content game))) (add-one seat) ∙ one_more (row_of_id content game) seat name one in
      is ∙ ap (λ all. all ++ name ∷ []) before ∙ sym more;
  done = λ sure content tells. second.done sure content (first.done (second.sure sure) content tells);
  failed = λ sure content tells. tt;
}

seats_more : (game s k : ℕ) (names : List (List ℕ)) (name : List ℕ) → slice_get names k ≡ Some name
    → seats_from game s (take (suc k) names) ≡ seats_from game s (take k names) ++ seat_cells game (s + k) name ∷ []
seats_more game s k [] name h = absurd cc
seats_more game s zero (first ∷ names) name h = let same : first ≡ name = cc in rw same (ap (λ n. seat_cells game n name ∷ [])
    (omega arith))
seats_more game s (suc k) (first ∷ names) name h =
    ap (λ all. seat_cells game s first ∷ all) (seats_more game (s + 1) k names name h ∙ ap (λ n. seats_from game (s + 1) (take k names)
    ++ seat_cells game n name ∷ []) (omega arith))

-- one seat more was written
pub more_seats : {E F A : Type 0} (a b d : State) (game k : ℕ) (names : List (List ℕ)) (name : List ℕ) (it : Unit {0}) (count : A)
    → slice_get names k ≡ Some name
    → ((games : List (Key × GameRow)) (seats : List Row)
    → DoesWithin {A = Unit {0}} {E = E} a b (λ content. Placing a content.last_run games seats)
    (λ content _. Placing b content.last_run games (seats ++ seats_from game 0 (take k names))) (Ok it))
    → ((games : List (Key × GameRow)) (seats : List Row)
    → DoesWithin {A = A} {E = F} b d (λ content. Placing b content.last_run games seats) (λ content _. Placing d content.last_run games
    (seats ++ seat_cells game k name ∷ [])) (Ok count))
    → (games : List (Key × GameRow)) (seats : List Row)
    → DoesWithin {A = Unit {0}} {E = E} a d (λ content. Placing a content.last_run games seats)
    (λ content _. Placing d content.last_run games (seats ++ seats_from game 0 (take (k + 1) names))) (Ok it)
more_seats a b d game k names name it count here first second games seats =
    let one = first games seats in
    let two = second games (seats ++ seats_from game 0 (take k names)) in
    let more : seats_from game 0 (take (k + 1) names) ≡ seats_from game 0 (take k names) ++ seat_cells game k name ∷ [] =
    ap (λ n. seats_from game 0 (take n names)) (add-one k) ∙ seats_more game 0 k names name here
    ∙ ap (λ n. seats_from game 0 (take k names) ++ seat_cells game n name ∷ []) (omega arith) in
    record {
      sure = λ sure. one.sure (two.sure sure);
      backed = λ sure content b. two.backed sure content (one.backed (two.sure sure) content b);
      done = λ sure content p.
          subst (λ all. Placing d content.last_run games all) (append_assoc seats (seats_from game 0 (take k names))
          (seat_cells game k name ∷ []) ∙ ap (λ all. seats ++ all) (sym more))
          (two.done sure content (one.done (two.sure sure) content p));
    }

-- the first row under a key has the id of its game
pub key_id : {E F A : Type 0} (items : A → List Row) (old new : State) (key : Key) (rows : A) (r : Result (Option ℕ) F)
    → Reads {E = E} old new (λ content all. IsPermutation (map id_row (ids_from 1 key content.rows)) (items all)) (Ok rows)
    → ((ids : List ℕ) → IsPermutation (map id_row ids) (items rows) → IfOk r (λ id. id ≡ slice_get ids 0))
    → Reads old new (λ content id. id ≡ id_of content key) r
key_id items old new key rows (Ok id) first only = record {
  sure = first.sure;
  found = λ sure content tells. only (ids_from 1 key content.rows) (first.found sure content tells) ∙ sym (first_id 1 key content.rows);
  done = first.done;
  failed = λ sure content tells. tt;
}
key_id items old new key rows (Err why) first only = record {
  sure = first.sure;
  found = λ sure content tells. tt;
  done = λ sure content tells. tt;
  failed = first.done;
}

-- an only row has the only id
pub only_row : (ids : List ℕ) (rows : List Row) (row : Row) (id : ℕ) → IsPermutation (map id_row ids) rows → length rows ≡ 1
    → slice_get rows 0 ≡ Some row → column row 0 ≡ Int (pos id) → slice_get ids 0 ≡ Some id
only_row ids [] row id h len here is = absurd (omega (arith, len))
only_row ids (first ∷ []) row id h len here is =
    let same : first ≡ row = cc in
    let it = one_of ids first h in
    let equal : Int (pos it.0) ≡ Int (pos id) = ap (λ r. column r 0) (sym it.2 ∙ same) ∙ is in
    let number : it.0 ≡ id = cc in
    it.1 ∙ ap Some number
only_row ids (first ∷ next ∷ rows) row id h len here is = absurd (omega (arith, len))

module _ (a b d : State) (key : Key) (row : GameRow) (id : ℕ) where
  abbrev Game : {E : Type 0} → Result ℕ E → Type 0
  Game r = DoesWithin a b (λ content. Placing a content.last_run content.rows (seat_rows 1 content.rows))
      (λ content id. (id ≡ length content.rows + 1) × (id < 2 ^ 63) × Placing b content.last_run (content.rows
      ++ (key, row) ∷ []) (seat_rows 1 content.rows)) r

  abbrev Whole : {F : Type 0} → Result ℕ F → Type 0
  Whole r = DoesWithin a d (λ content. Placing a content.last_run content.rows (seat_rows 1 content.rows))
      (λ content id. (id ≡ length content.rows + 1) × (id < 2 ^ 63) × Placing d content.last_run (content.rows
      ++ (key, row) ∷ []) (seat_rows 1 content.rows ++ seats_from id 0 row.names)) r

  abbrev Seats : {F : Type 0} → Result (Unit {0}) F → Type 0
  Seats r = (games : List (Key × GameRow)) (seats : List Row) → DoesWithin b d (λ content. Placing b content.last_run games seats)
      (λ content _. Placing d content.last_run games (seats ++ seats_from id 0 row.names)) r

  -- a game whose row and whose seats were inserted is inserted whole
  pub seats_done : {E F G : Type 0} (it : Unit {0}) → Game {E = E} (Ok id) → Seats {F = F} (Ok it) → Whole {F = G} (Ok id)
  seats_done it game seats = record {
    sure = λ sure. game.sure ((seats [] []).sure sure);
    backed = λ sure content b. (seats [] []).backed sure content (game.backed ((seats [] []).sure sure) content b);
    done = λ sure content p.
        let one = game.done ((seats [] []).sure sure) content p in (
          one.0,
          one.1,
          (seats (content.rows ++ (key, row) ∷ []) (seat_rows 1 content.rows)).done sure
              (record content { rows = content.rows }) one.2,
        );
  }

  -- if a seat failed to be inserted, the game as a whole did
  pub seats_failed : {E F G : Type 0} (e : F) (r : Result ℕ G) → IsErr r → Game {E = E} (Ok id) → Seats {F = F} (Err e) → Whole {F = G} r
  seats_failed e (Ok n) is game seats = absurd (let bad = is in cc)
  seats_failed e (Err f) is game seats = record {
    sure = λ sure. game.sure ((seats [] []).sure sure);
    backed = λ sure content b. (seats [] []).backed sure content (game.backed ((seats [] []).sure sure) content b);
    done = λ sure content p. tt;
  }

-- a step inside a transaction gave a value
pub gave_in : {E F A B : Type 0} (a b : State) (P : Content → Type 0) (Q : Content → A → Type 0) (R : Content → B
    → Type 0) (x : A) (f : F) → DoesWithin {E = E} a b P Q (Ok x) → DoesWithin {A = B} a b P R (Err f)
gave_in a b P Q R x f h = record { sure = h.sure; backed = h.backed; done = λ sure content p. tt }

-- a step inside a transaction failed after one that did not
pub failed_after : {E F G A B D : Type 0} (a b d : State) (P T : Content → Type 0) (Q : Content → A → Type 0) (R : Content → B
    → Type 0) (S : Content → D → Type 0) (x : A) (e : F) (r : Result D G)
    → IsErr r → DoesWithin {E = E} a b P Q (Ok x) → DoesWithin {A = B} b d T R (Err e) → DoesWithin {A = D} a d P S r
failed_after a b d P T Q R S x e (Ok y) is one two = absurd (let bad = is in cc)
failed_after a b d P T Q R S x e (Err f) is one two = record {
  sure = λ sure. one.sure (two.sure sure);
  backed = λ sure content b. two.backed sure content (one.backed (two.sure sure) content b);
  done = λ sure content p. tt;
}

take_past : {X : Type 0} (xs : List X) (k : ℕ) → length xs ≤ k → take k xs ≡ xs
take_past [] zero past = refl
take_past [] (suc k) past = refl
take_past (x ∷ xs) zero past = absurd (omega arith)
take_past (x ∷ xs) (suc k) past = let less : length xs ≤ k = omega arith in ap (λ all. x ∷ all) (take_past xs k less)

-- all of the seats
pub all_seats : {E : Type 0} (a b : State) (game k : ℕ) (names : List (List ℕ)) (it : Unit {0}) → length names ≤ k
    → ((games : List (Key × GameRow)) (seats : List Row)
    → DoesWithin {A = Unit {0}} {E = E} a b (λ content. Placing a content.last_run games seats)
    (λ content _. Placing b content.last_run games (seats ++ seats_from game 0 (take k names))) (Ok it))
    → (games : List (Key × GameRow)) (seats : List Row)
    → DoesWithin {A = Unit {0}} {E = E} a b (λ content. Placing a content.last_run games seats)
    (λ content _. Placing b content.last_run games (seats ++ seats_from game 0 names)) (Ok it)
all_seats a b game k names it past h games seats = rw (take_past names k past) at (h games seats)
