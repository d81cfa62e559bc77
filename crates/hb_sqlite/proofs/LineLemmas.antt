-- The lines of a member's games.
use Rattle.std.proofs.Common.{◌≡◌, ℕ, ◌+◌, ◌-◌, ◌<◌, ◌≤◌, zero, suc, pos, List, [], ◌∷◌, ◌++◌, map, take, drop, Bool, true, false, Some, Ok, Err, Result, IfOk, IfErr, refl, sym, ap, ◌∙◌, arith, append_assoc, append-nil, add-one, inl, inr}
use Rattle.std.specs.Prelude.{slice_get, bytes_eq, ◌==◌, if◌then◌else◌}
use Rattle.std.specs.Bool.{one_answer}
use Rattle.std.specs.List.{list_any}
use Rattle.std.specs.Option.{option_map}
use Rattle.std.proofs.lemmas.Bool.{cases_Bool}
use Rattle.std.proofs.lemmas.Bool.Decides.{nat_tests, Decides-eqb}
use Rattle.std.proofs.lemmas.List.{map-append}
use Rattle.std.proofs.lemmas.Slice.Eq.{bytes_eq-Decides}
use Rattle.sqlite_value.specs.declared.value.Value.TheVariants.{Int, Text as Words}
use Rattle.sqlite_value.specs.Order.{Row, column}
use Rattle.sqlite_trees.specs.View.{doubt}
use Rattle.sqlite_sql.specs.Query.{Output}
use Rattle.sqlite.specs.declared.error.Error.{Error}
use Rattle.sqlite.specs.State.{State, HasCleanDisk, Shown, FailsToQuery}
use Rattle.hb_keeper.specs.declared.rows.Key.{Key}
use Rattle.hb_keeper.specs.declared.rows.GameRow.{GameRow}
use Rattle.hb_keeper.specs.declared.rows.Line.{Line}
use Rattle.hb_keeper.specs.KeptGames.{Content, row_of_id, has_name, lines_from}
use Rattle.hb_sqlite.specs.StoreTables.{id_row}
use Rattle.hb_sqlite.specs.SeatIds.{ids_within, seat_ids, once, line_in, listed, lines_at}
use Rattle.hb_sqlite.specs.StoreSteps.{Reads}
use Rattle.hb_sqlite.proofs.Texts.{games_of_text, games_of_plain}
use Rattle.hb_sqlite.proofs.Gets.{all_rows, row_after}
use Rattle.hb_sqlite.proofs.MemberLemmas.{outputs_from, outputs_of, reads_member}
use Rattle.hb_sqlite.proofs.StoreWalks.{take_more}

-- the rows of the query

shown_within : (name : List ℕ) (id seat : ℕ) (names : List (List ℕ))
    → map (λ (o : Output). o.1) (outputs_from name id seat names) ≡ map id_row (ids_within id name names)
shown_within name id seat [] = refl
shown_within name id seat (other ∷ names) = elim (cases_Bool (bytes_eq other name)) [
  | inl is ↦ rw is (ap (λ all. id_row id ∷ all) (shown_within name id (seat + 1) names))
  | inr is ↦ rw is (shown_within name id (seat + 1) names)
]

shown_ids : (name : List ℕ) (id : ℕ) (rows : List (Key × GameRow))
    → map (λ (o : Output). o.1) (outputs_of name id rows) ≡ map id_row (seat_ids id name rows)
shown_ids name id [] = refl
shown_ids name id (kept ∷ rows) =
    map-append (λ (o : Output). o.1) (outputs_from name id 0 kept.1.names) (outputs_of name (id + 1) rows)
    ∙ ap (λ all. all ++ map (λ (o : Output). o.1) (outputs_of name (id + 1) rows)) (shown_within name id 0 kept.1.names)
    ∙ ap (λ all. map id_row (ids_within id name kept.1.names) ++ all) (shown_ids name (id + 1) rows)
    ∙ sym (map-append id_row (ids_within id name kept.1.names) (seat_ids (id + 1) name rows))

-- what the query for the games of a member answers
pub ids_found : {A : Type 0} (items : A → List Row) (old new : State) (name : List ℕ) (r : Result A Error)
    → doubt old.is_clean ≤ doubt new.is_clean
    → (HasCleanDisk new → IfOk r (λ rows. Shown games_of_text (Words name ∷ []) old new (items rows))) → (HasCleanDisk new
    → IfErr r (FailsToQuery games_of_text (Words name ∷ []) old new))
    → Reads old new (λ content rows. items rows ≡ map id_row (seat_ids 1 name content.rows)) r
ids_found items old new name r less =
    all_rows old new games_of_text (Words name ∷ []) games_of_plain (λ content all. all ≡ map id_row (seat_ids 1 name content.rows))
    (λ content all tells h. reads_member old new name content all tells h ∙ shown_ids name 1 content.rows) less items r

-- the ids in the rows

id_at : (ids : List ℕ) (k : ℕ) (row : Row) (id : ℕ) → slice_get (map id_row ids) k ≡ Some row → column row 0 ≡ Int (pos id)
    → slice_get ids k ≡ Some id
id_at [] k row id h is = absurd cc
id_at (first ∷ ids) zero row id h is =
    let same : id_row first ≡ row = cc in
    let equal : Int (pos first) ≡ Int (pos id) = ap (λ r. column r 0) same ∙ is in
    let number : first ≡ id = cc in
    ap Some number
id_at (first ∷ ids) (suc k) row id h is = id_at ids k row id h is

drop_more : {X : Type 0} (xs : List X) (k : ℕ) (x : X) → slice_get xs k ≡ Some x → drop k xs ≡ x ∷ drop (suc k) xs
drop_more [] k x h = absurd cc
drop_more (y ∷ xs) zero x h = let same : y ≡ x = cc in ap (λ z. z ∷ xs) same
drop_more (y ∷ xs) (suc k) x h = drop_more xs k x h

left_at : (ids : List ℕ) (rows : List Row) (k : ℕ) (row : Row) (id : ℕ) → rows ≡ map id_row ids → slice_get rows k ≡ Some row
    → column row 0 ≡ Int (pos id)
    → drop k ids ≡ id ∷ drop (k + 1) ids
left_at ids rows k row id all here is =
    let at : slice_get ids k ≡ Some id = id_at ids k row id (ap (λ l. slice_get l k) (sym all) ∙ here) is in
    drop_more ids k id at ∙ ap (λ n. id ∷ drop n ids) (sym (add-one k))

differs : (a b : ℕ) → (a ≡ b → ⊥) → (a == b) ≡ false
differs a b other = elim (cases_Bool (a == b)) [
  | inl is ↦ absurd (other ((Decides-eqb a b).0 is))
  | inr is ↦ is
]

-- an id that is not the last one
pub next_id : (ids : List ℕ) (rows : List Row) (found new : List ℕ) (k last : ℕ) (row : Row) (id : ℕ) → rows ≡ map id_row ids
    → slice_get rows k ≡ Some row → column row 0 ≡ Int (pos id)
    → (id ≡ last → ⊥) → new ≡ found ++ id ∷ [] → found ++ once last (drop k ids) ≡ once 0 ids → new
    ++ once id (drop (k + 1) ids) ≡ once 0 ids
next_id ids rows found new k last row id all here is other pushed before =
    let no_match : (id == last) ≡ false = differs id last other in
    let one : once last (id ∷ drop (k + 1) ids) ≡ id ∷ once id (drop (k + 1) ids) = rw no_match refl in
    ap (λ l. l ++ once id (drop (k + 1) ids)) pushed ∙ append_assoc found (id ∷ []) (once id (drop (k + 1) ids))
    ∙ ap (λ l. found ++ l) (sym one) ∙ ap (λ l. found ++ once last l) (sym (left_at ids rows k row id all here is)) ∙ before

-- an id that is the last one
pub same_id : (ids : List ℕ) (rows : List Row) (found : List ℕ) (k last : ℕ) (row : Row) (id : ℕ) → rows ≡ map id_row ids
    → slice_get rows k ≡ Some row → column row 0 ≡ Int (pos id)
    → id ≡ last → found ++ once last (drop k ids) ≡ once 0 ids → found ++ once last (drop (k + 1) ids) ≡ once 0 ids
same_id ids rows found k last row id all here is same before =
    let match_is : (id == last) ≡ true = (Decides-eqb id last).1 same in
    let one : once last (id ∷ drop (k + 1) ids) ≡ once last (drop (k + 1) ids) = rw match_is refl in
    ap (λ l. found ++ l) (sym one) ∙ ap (λ l. found ++ once last l) (sym (left_at ids rows k row id all here is)) ∙ before

-- the lines of the ids

lines_at-append : (content : Content) (xs ys : List ℕ) → lines_at content (xs ++ ys) ≡ lines_at content xs ++ lines_at content ys
lines_at-append content [] ys = refl
lines_at-append content (id ∷ xs) ys =
    ap (λ l. listed (line_in id (row_of_id content id)) ++ l) (lines_at-append content xs ys)
    ∙ sym (append_assoc (listed (line_in id (row_of_id content id))) (lines_at content xs) (lines_at content ys))

-- one line more was read
pub more_lines : {E F : Type 0} (a b d : State) (k : ℕ) (ids : List ℕ) (lines new : List Line) (id : ℕ) (line : Line)
    → slice_get ids k ≡ Some id
    → Reads {E = E} a b (λ content all. all ≡ lines_at content (take k ids)) (Ok lines)
    → Reads {E = F} b d (λ content one. Some one ≡ line_in id (row_of_id content id)) (Ok line) → new ≡ lines ++ line ∷ []
    → Reads {E = E} a d (λ content all. all ≡ lines_at content (take (k + 1) ids)) (Ok new)
more_lines a b d k ids lines new id line here first second is = record {
  sure = λ sure. first.sure (second.sure sure);
  found = λ sure content tells.
      let before = first.found (second.sure sure) content tells in
      let one : Some line ≡ line_in id (row_of_id content id) = second.found sure content (first.done (second.sure sure) content tells) in
      let last : line ∷ [] ≡ lines_at content (id ∷ []) = ap listed one ∙ sym (append-nil (listed (line_in id (row_of_id content id)))) in
      let more : take (k + 1) ids ≡ take k ids ++ id ∷ [] = ap (λ n. take n ids) (add-one k) ∙ take_more ids k id here in
      is ∙ ap (λ all. all ++ line ∷ []) before ∙ ap (λ l. lines_at content (take k ids) ++ l) last
      ∙ sym (lines_at-append content (take k ids) (id ∷ [])) ∙ ap (lines_at content) (sym more);
  done = λ sure content tells. second.done sure content (first.done (second.sure sure) content tells);
  failed = λ sure content tells. tt;
}

-- the ids of the games in which the name stands

abbrev member_ids : ℕ → List ℕ → List (Key × GameRow) → List ℕ
member_ids id name [] = []
member_ids id name (kept ∷ rows) = if has_name name kept.1 then id ∷ member_ids (id + 1) name rows else member_ids (id + 1) name rows

either_way : (a b : List ℕ) → bytes_eq a b ≡ bytes_eq b a
either_way a b =
    let there = bytes_eq-Decides a b in
    let back = bytes_eq-Decides b a in
    one_answer (bytes_eq a b) (bytes_eq b a) there (λ h. sym (back.0 h), λ h. back.1 (sym h))

-- behind its own id the id of a game does not stand again
past_game : (id : ℕ) (name : List ℕ) (names : List (List ℕ)) (rest : List ℕ) → once id (ids_within id name names ++ rest) ≡ once id rest
past_game id name [] rest = refl
past_game id name (other ∷ names) rest = elim (cases_Bool (bytes_eq other name)) [
  | inl is ↦
      let same : (id == id) ≡ true = grind (arith, nat_tests) in
      rw is (rw same (past_game id name names rest))
  | inr is ↦ rw is (past_game id name names rest)
]

-- behind an earlier id it stands once, if the name stands in the game
one_game : (last id : ℕ) (name : List ℕ) (names : List (List ℕ)) (rest : List ℕ) → last < id
    → once last (ids_within id name names ++ rest) ≡ (if list_any (bytes_eq name) names then id ∷ once id rest else once last rest)
one_game last id name [] rest less = refl
one_game last id name (other ∷ names) rest less = elim (cases_Bool (bytes_eq other name)) [
  | inl is ↦
      let differs : (id == last) ≡ false = grind (arith, nat_tests, less) in
      let first : bytes_eq name other ≡ true = either_way name other ∙ is in
      rw is (rw differs (rw first (ap (λ l. id ∷ l) (past_game id name names rest))))
  | inr is ↦
      let first : bytes_eq name other ≡ false = either_way name other ∙ is in
      rw is (rw first (one_game last id name names rest less))
]

each_once : (last id : ℕ) (name : List ℕ) (rows : List (Key × GameRow)) → last < id
    → once last (seat_ids id name rows) ≡ member_ids id name rows
each_once last id name [] less = refl
each_once last id name (kept ∷ rows) less =
    one_game last id name kept.1.names (seat_ids (id + 1) name rows) less
    ∙ pick (has_name name kept.1) (each_once id (id + 1) name rows (omega arith)) (each_once last (id + 1) name rows
    (omega (arith, less))) where
      pick : (b : Bool) → once id (seat_ids (id + 1) name rows) ≡ member_ids (id + 1) name rows
          → once last (seat_ids (id + 1) name rows) ≡ member_ids (id + 1) name rows
          → (if b then id ∷ once id (seat_ids (id + 1) name rows) else once last (seat_ids (id + 1) name rows)) ≡
          (if b then id ∷ member_ids (id + 1) name rows else member_ids (id + 1) name rows)
      pick true with_it without = ap (λ l. id ∷ l) with_it
      pick false with_it without = without

-- the lines of these ids are the lines of the games
all_from : (content : Content) (id : ℕ) (name : List ℕ) (rows : List (Key × GameRow))
    → ((k : ℕ) → row_of_id content (id + k) ≡ option_map (λ (it : Key × GameRow). it.1) (slice_get rows k))
    → lines_at content (member_ids id name rows) ≡ lines_from id name rows
all_from content id name [] at = refl
all_from content id name (kept ∷ rows) at =
    let later : (k : ℕ) → row_of_id content (id + 1 + k) ≡ option_map (λ (it : Key
    × GameRow). it.1) (slice_get rows k) = λ k. ap (row_of_id content) (omega arith) ∙ at (suc k) in
    let here : row_of_id content id ≡ Some kept.1 = ap (row_of_id content) (omega arith) ∙ at 0 in
    pick (has_name name kept.1) here (all_from content (id + 1) name rows later) where
      pick : (b : Bool) → row_of_id content id ≡ Some kept.1
          → lines_at content (member_ids (id + 1) name rows) ≡ lines_from (id + 1) name rows
          → lines_at content (if b then id ∷ member_ids (id + 1) name rows else member_ids (id + 1) name rows)
          ≡ (if b then record { id = id; score = kept.1.score; how = kept.1.how } ∷ lines_from (id + 1) name rows else lines_from
          (id + 1) name rows)
      pick true here more = ap (λ row. listed (line_in id row) ++ lines_at content (member_ids (id + 1) name rows)) here
          ∙ ap (λ l. record { id = id; score = kept.1.score; how = kept.1.how } ∷ l) more
      pick false here more = more

first_row : (content : Content) (k : ℕ) → row_of_id content (1 + k) ≡ option_map (λ (it : Key × GameRow). it.1) (slice_get content.rows k)
first_row content k =
    let number : 1 + k ≡ suc k = omega arith in
    let less : suc k - 1 ≡ k = omega arith in
    ap (row_of_id content) number ∙ row_after content k
    ∙ ap (λ n. option_map (λ (it : Key × GameRow). it.1) (slice_get content.rows n)) less

-- the three steps of a member's list
pub member_lines : {A E F : Type 0} (items : A
    → List Row) (a b d : State) (name : List ℕ) (rows : A) (ids : List ℕ) (r : Result (List Line) F)
    → Reads {E = E} a b (λ content all. items all ≡ map id_row (seat_ids 1 name content.rows)) (Ok rows)
    → ((all : List ℕ) → items rows ≡ map id_row all → ids ≡ once 0 all) → Reads b d (λ content lines. lines ≡ lines_at content ids) r
    → Reads a d (λ content lines. lines ≡ lines_from 1 name content.rows) r
member_lines items a b d name rows ids (Ok lines) first only second = record {
  sure = λ sure. first.sure (second.sure sure);
  found = λ sure content tells.
      let before = second.sure sure in
      let same : ids ≡ once 0 (seat_ids 1 name content.rows) = only (seat_ids 1 name content.rows) (first.found before content tells) in
      second.found sure content (first.done before content tells) ∙ ap (lines_at content) (same
      ∙ each_once 0 1 name content.rows (omega arith)) ∙ all_from content 1 name content.rows (first_row content);
  done = λ sure content tells. second.done sure content (first.done (second.sure sure) content tells);
  failed = λ sure content tells. tt;
}
member_lines items a b d name rows ids (Err e) first only second = record {
  sure = λ sure. first.sure (second.sure sure);
  found = λ sure content tells. tt;
  done = λ sure content tells. tt;
  failed = λ sure content tells. second.failed sure content (first.done (second.sure sure) content tells);
}
