-- The steps that write a game, inside a transaction.
use Rattle.std.proofs.Common.{◌≡◌, inl, inr, ℕ, ◌+◌, ◌<◌, ◌≤◌, pos, List, [], ◌∷◌, ◌++◌, length, true, false, None, Ok, Err, Result, IsTrue, refl, sym, ap, subst, ◌∙◌, arith, ◌^◌, append-nil, append_assoc, length-append}
use Rattle.std.specs.Prelude.{fold, ◌+ℤ◌, ℤ}
use Rattle.std.proofs.lemmas.Bool.{cases_Bool}
use Rattle.sqlite_value.specs.declared.value.Value.TheVariants.{Null, Int}
use Rattle.sqlite_value.specs.Order.{Row}
use Rattle.sqlite_trees.specs.View.{doubt}
use Rattle.sqlite_trees.specs.Tree.{Trees, put_row, rowid}
use Rattle.sqlite_schema.specs.declared.command.Command.TheVariants.{Insert}
use Rattle.sqlite_schema.specs.declared.command.Source.TheVariants.{Values}
use Rattle.sqlite_rules.specs.declared.error.Rowids.TheVariants.{Chosen}
use Rattle.sqlite_rules.specs.Edit.{edit_of, edited, put_all, id_in}
use Rattle.sqlite_rules.specs.Action as Act
use Rattle.sqlite.specs.Rows.{Written}
use Rattle.sqlite.specs.Does.{Tally, Does as Made}
use Rattle.sqlite.specs.Effect.{Database}
use Rattle.sqlite.specs.Steps.{FailsToCommit}
use Rattle.sqlite.specs.declared.error.Error.{Error}
use Rattle.sqlite.specs.Listing.{understood}
use Rattle.sqlite.specs.State.{State, HasCleanDisk, mode_of, Executes, ExecutesInside, IsRolledBack, Shows}
use Rattle.sqlite.proofs.Callers.{statement_of, runs_as, one_step}
use Rattle.hb_keeper.specs.declared.rows.Key.{Key}
use Rattle.hb_keeper.specs.declared.rows.GameRow.{GameRow}
use Rattle.hb_keeper.specs.KeptGames.{Content, with_row}
use Rattle.hb_sqlite.specs.Store.{store_schema, seats_table}
use Rattle.hb_sqlite.specs.StoreTables.{Tells, seat_cells, seats_from, seat_rows, numbered_from}
use Rattle.hb_sqlite.specs.StoreSteps.{IsSure, Does}
use Rattle.hb_sqlite.specs.Within.{Holds, Backed, Placing, DoesWithin}
use Rattle.hb_sqlite.proofs.Texts.{write_game_text, write_seat_text, write_seat_is, write_seat_plain, seat_terms, cast_null, cast_number}
use Rattle.hb_sqlite.proofs.States.{IsKept, WasOpen, kept_open, execute_open}
use Rattle.hb_sqlite.proofs.RunLemmas.{not-stopped, same_value}
use Rattle.hb_sqlite.proofs.GameLemmas.{value_cmp-below, put_after, game_params, writes_game}

-- the rowid after those of rows that are numbered
next_seat : (n : ℕ) (rows : List Row) → fold (λ (_ : ℤ) r. id_in (rowid r) +ℤ pos 1) (pos n) (numbered_from n rows) ≡ pos (n + length rows)
next_seat n [] = ap pos (omega arith)
next_seat n (columns ∷ rows) = next_seat (n + 1) rows ∙ ap pos (omega arith)

-- a new row comes last
put_end : (n : ℕ) (rows : List Row) (columns : Row)
    → put_row (Int (pos (n + length rows)) ∷ columns) (numbered_from n rows) ≡ numbered_from n (rows ++ columns ∷ [])
put_end n [] columns = ap (λ k. (Int (pos k) ∷ columns) ∷ []) (omega arith)
put_end n (first ∷ rows) columns =
    let last = n + length {A = Row} (first ∷ rows) in
    let same : last ≡ n + 1 + length rows = omega arith in
    put_after (Int (pos last) ∷ columns) (Int (pos n) ∷ first) (numbered_from (n + 1) rows) (value_cmp-below n last (omega arith))
    ∙ ap (λ all. (Int (pos n) ∷ first) ∷ all) (ap (λ k. put_row (Int (pos k) ∷ columns) (numbered_from (n + 1) rows)) same
    ∙ put_end (n + 1) rows columns)

-- the other tables have the rows that they had
record SameButSeats (old new : Trees) : Type 0 where
  pub version : new 0 ≡ old 0
  pub runs : new 1 ≡ old 1
  pub games : new 2 ≡ old 2

not04 : (◌≡◌ {A = ℕ} 0 4) → ⊥
not04 e = cc

not14 : (◌≡◌ {A = ℕ} 1 4) → ⊥
not14 e = cc

not24 : (◌≡◌ {A = ℕ} 2 4) → ⊥
not24 e = cc

writes_seat : (old new : State) (game seat : ℕ) (name : List ℕ) (rows : List Row) (count : ℕ) → old.now.schema ≡ store_schema
    → old.now.trees 4 ≡ numbered_from 1 rows
    → Executes write_seat_text (seat_cells game seat name) old new (Ok count)
    → (new.now.schema ≡ store_schema) × (new.now.trees 4 ≡ numbered_from 1 (rows ++ seat_cells game seat name ∷ []))
    × SameButSeats old.now.trees new.now.trees
writes_seat old new game seat name rows count has seats h =
    let params = seat_cells game seat name in
    let db = old.now.trees in
    let command = Insert 3 (Values seat_terms 4) in
    let w = runs_as write_seat_text params old new store_schema has command write_seat_is write_seat_plain count h in
    let text = statement_of write_seat_text (understood store_schema write_seat_text) in
    let done = not-stopped (subst (λ s. Made old.step_limit (mode_of old) params (record old.now { schema = s }) text None command
    (Ok (w.tally, new.now))) has w.changed) in
    let ended = same_value (not-stopped (not-stopped done.2).2).2 in
    let now = ap (λ (p : Tally × Database). p.1) ended in
    let given = not-stopped done.1 in
    let written = not-stopped (not-stopped given.2).2 in
    let counted = not-stopped written.2 in
    let source = (Null ∷ params) ∷ [] in
    let edit = edit_of db seats_table [] Chosen 0 source in
    let wrote = subst (λ all. Act.Writes store_schema (mode_of old).keys db (edit_of db seats_table [] Chosen 0 all)
    (Ok written.0)) given.1.1 written.1 in
    let applied = one_step store_schema _ db written.0 edit refl wrote in
    let first = 1 + length rows in
    let news : edit.news ≡ (Int (pos first) ∷ params) ∷ [] = rw (cast_null, cast_number game, cast_number seat, seats, next_seat 1 rows) in
    let after : edited db edit ≡ numbered_from 1 (rows ++ params ∷ []) = ap (put_all (db 4)) news ∙ rw seats (put_end 1 rows params) in
    let trees : done.0.trees ≡ written.0 = ap (λ (it : Written). it.trees) (same_value counted.2) ∙ same_value counted.1 in
    let table : (t : ℕ) → new.now.trees t ≡ written.0 t = λ t. ap (λ (d : Database). d.trees t) now ∙ ap (λ (all : Trees). all t) trees in (
      ap (λ (d : Database). d.schema) now,
      table 4 ∙ applied.rows ∙ after,
      record {
        version = table 0 ∙ applied.tables.0 not04;
        runs = table 1 ∙ applied.tables.1.0 not14;
        games = table 2 ∙ applied.tables.1.1.0 not24;
      },
    )

-- what an inside step leaves where it does not succeed
module _ (old new : State) where
  kept_within : (sql : List ℕ) (params : Row) (e : Error) → ExecutesInside 0 sql params old new (Err e) → IsKept old new
  kept_within sql params e (inl h) = h.1
  kept_within sql params e (inr h) = inl h.2

  within_open : (sql : List ℕ) (params : Row) (r : Result ℕ Error) → ExecutesInside 0 sql params old new r → WasOpen old new
  within_open sql params (Ok count) h = execute_open old new sql params (Ok count) h.0
  within_open sql params (Err e) h = kept_open old new (kept_within sql params e h)

  -- an open database that was left as it was, or rolled back, still backs the content
  pub kept_backed : (content : Content) → IsKept old new → IsTrue new.is_open → Backed old content → Backed new content
  kept_backed content (inl same) open' b = record { holds = rw same.0.committed_is b.holds; few = b.few }
  kept_backed content (inr back) open' b = record { holds = rw (back.undone open').1 b.holds; few = b.few }

  within_backed : (sql : List ℕ) (params : Row) (r : Result ℕ Error) (content : Content) → ExecutesInside 0 sql params old new r
      → IsTrue new.is_open → Backed old content → Backed new content
  within_backed sql params (Ok count) content h open' b = record { holds = rw h.1.committed_is b.holds; few = b.few }
  within_backed sql params (Err e) content h open' b = kept_backed content (kept_within sql params e h) open' b

  -- nothing happens once the transaction is over
  pub record IsOver : Type 0 where
    pub was_open : WasOpen old new
    pub backed : (content : Content) → Backed old content → Backed new content

  module _ (sql : List ℕ) (params : Row) (r : Result ℕ Error) (less : doubt old.is_clean ≤ doubt new.is_clean)
      (over : old.in_transaction ≡ false → IsOver)
      (runs : HasCleanDisk new → IsTrue old.in_transaction → ExecutesInside 0 sql params old new r) where
    was_sure : IsSure new → IsSure old
    was_sure sure = record {
      clean = (let c = sure.clean in omega (arith, c, less));
      is_open = elim (cases_Bool old.in_transaction) [
        | inl is ↦ within_open sql params r (runs sure.clean is) sure.is_open
        | inr off ↦ (over off).was_open sure.is_open
      ];
    }

    stays_backed : IsSure new → (content : Content) → Backed old content → Backed new content
    stays_backed sure content b = elim (cases_Bool old.in_transaction) [
      | inl is ↦ within_backed sql params r content (runs sure.clean is) sure.is_open b
      | inr off ↦ (over off).backed content b
    ]

-- inside a transaction, the row of a game is put behind those that are kept
pub places_game : (old new : State) (key : Key) (row : GameRow) (r : Result ℕ Error) → doubt old.is_clean ≤ doubt new.is_clean
    → (old.in_transaction ≡ false → IsOver old new)
    → (HasCleanDisk new → IsTrue old.in_transaction → ExecutesInside 0 write_game_text (game_params key row) old new r)
    → DoesWithin old new (λ content. Placing old content.last_run content.rows (seat_rows 1 content.rows))
    (λ content _. Placing new content.last_run (content.rows ++ (key, row) ∷ []) (seat_rows 1 content.rows)
    × (new.last_rowid ≡ pos (1 + length content.rows))) r
places_game old new key row (Ok count) less over runs = record {
  sure = was_sure old new write_game_text (game_params key row) (Ok count) less over runs;
  backed = stays_backed old new write_game_text (game_params key row) (Ok count) less over runs;
  done = λ sure content p.
      let h = runs sure.clean p.inside in
      let it = writes_game old new key row content.rows count p.holds.schema p.holds.kept h.0 in (
        record {
          inside = h.1.mode;
          holds = record {
            schema = it.0;
            version = it.3.version ∙ p.holds.version;
            runs = it.3.runs
                ∙ p.holds.runs;
            kept = it.1;
            placed = it.3.seats ∙ p.holds.placed;
          };
        },
        it.2,
      );
}
places_game old new key row (Err e) less over runs = record {
  sure = was_sure old new write_game_text (game_params key row) (Err e) less over runs;
  backed = stays_backed old new write_game_text (game_params key row) (Err e) less over runs;
  done = λ sure content p. tt;
}

-- inside a transaction, a seat is put behind those that are kept
pub places_seat : (old new : State) (game seat : ℕ) (name : List ℕ) (games : List (Key × GameRow)) (seats : List Row) (r : Result ℕ Error)
    → doubt old.is_clean ≤ doubt new.is_clean
    → (old.in_transaction ≡ false → IsOver old new) → (HasCleanDisk new → IsTrue old.in_transaction
    → ExecutesInside 0 write_seat_text (seat_cells game seat name) old new r)
    → DoesWithin old new (λ content. Placing old content.last_run games seats) (λ content _. Placing new content.last_run games (seats
    ++ seat_cells game seat name ∷ [])) r
places_seat old new game seat name games seats (Ok count) less over runs = record {
  sure = was_sure old new write_seat_text (seat_cells game seat name) (Ok count) less over runs;
  backed = stays_backed old new write_seat_text (seat_cells game seat name) (Ok count) less over runs;
  done = λ sure content p.
      let h = runs sure.clean p.inside in
      let it = writes_seat old new game seat name seats count p.holds.schema p.holds.placed h.0 in
      record {
        inside = h.1.mode;
        holds = record {
          schema = it.0;
          version = it.2.version ∙ p.holds.version;
          runs = it.2.runs ∙ p.holds.runs;
          kept = it.2.games
              ∙ p.holds.kept;
          placed = it.1;
        };
      };
}
places_seat old new game seat name games seats (Err e) less over runs = record {
  sure = was_sure old new write_seat_text (seat_cells game seat name) (Err e) less over runs;
  backed = stays_backed old new write_seat_text (seat_cells game seat name) (Err e) less over runs;
  done = λ sure content p. tt;
}

-- ---- from a content to a transaction, and back

-- a transaction begins from the content that the store says
pub begun-told : (s : State) (content : Content) → Tells s content
    → Placing (record s { in_transaction = true }) content.last_run content.rows (seat_rows 1 content.rows)
begun-told s content t = record {
  inside = refl;
  holds = record {
    schema = t.schema;
    version = t.version;
    runs = t.runs;
    kept = t.games;
    placed
        = t.seats;
  };
}

-- a rollback from a store that says a content goes back to that content
pub back-told : (s : State) (content : Content) → Tells s content → Backed s content
back-told s content t = record {
  holds = rw t.settled
      (record { schema = t.schema; version = t.version; runs = t.runs; kept = t.games; placed = t.seats });
  few = t.few;
}

-- what a rollback goes back to
pub goes_back : (old new : State) (content : Content) → IsRolledBack old new → IsTrue new.is_open → Backed old content → Tells new content
goes_back old new content back open' b =
    let undone = back.undone open' in
    let h : Holds new.now content.last_run content.rows (seat_rows 1 content.rows) = rw undone.0 b.holds in
    record {
      schema = h.schema;
      settled = undone.1
          ∙ sym undone.0;
      autocommit = back.autocommit;
      version = h.version;
      runs = h.runs;
      few = b.few;
      games = h.kept;
      seats = h.placed;
    }

seats-append : (id : ℕ) (rows : List (Key × GameRow)) (key : Key) (row : GameRow) → seat_rows id (rows
    ++ (key, row) ∷ []) ≡ seat_rows id rows ++ seats_from (id + length rows) 0 row.names
seats-append id [] key row = append-nil (seats_from id 0 row.names) ∙ ap (λ n. seats_from n 0 row.names) (omega arith)
seats-append id (kept ∷ rows) key row =
    ap (λ more. seats_from id 0 kept.1.names ++ more) (seats-append (id + 1) rows key row ∙ ap (λ n. seat_rows (id + 1) rows
    ++ seats_from n 0 row.names) (omega arith))
    ∙ sym (append_assoc (seats_from id 0 kept.1.names) (seat_rows (id + 1) rows) (seats_from (id + length {A = Key × GameRow}
    (kept ∷ rows)) 0 row.names))

-- what a commit leaves
pub told-committed : (old new : State) (content : Content) (key : Key) (row : GameRow) → Shows old new old.now old.now false
    → Placing old content.last_run (content.rows ++ (key, row) ∷ []) (seat_rows 1 content.rows
    ++ seats_from (1 + length content.rows) 0 row.names)
    → length content.rows + 1 < 2 ^ 63 → Tells new (with_row key row content)
told-committed old new content key row shows p few =
    let h = p.holds in
    record {
      schema = rw shows.now_is h.schema;
      settled = shows.committed_is ∙ sym shows.now_is;
      autocommit = shows.mode;
      version = rw shows.now_is h.version;
      runs = rw shows.now_is h.runs;
      few = (let e = length-append content.rows ((key, row) ∷ []) in omega (arith, e, few));
      games = rw shows.now_is h.kept;
      seats = rw shows.now_is (h.placed ∙ ap (numbered_from 1) (sym (seats-append 1 content.rows key row)));
    }

-- ---- the whole write

module _ (start mid end : State) (key : Key) (row : GameRow) (last : doubt mid.is_clean ≤ doubt end.is_clean) where
  abbrev begun : State
  begun = record start { in_transaction = true }

  -- the id of the game that is put: the next one, and no number past the greatest
  abbrev pub Ids : Content → ℕ → Type 0
  Ids content id = (id ≡ length content.rows + 1) × (id < 2 ^ 63)

  -- the answer of a put that was done
  abbrev pub done_with : {E : Type 0} → ℕ → Result ℕ E
  done_with id = Ok id

  -- the answer of a put that failed
  abbrev pub failed_with : {F : Type 0} → F → Result ℕ F
  failed_with f = Err f

  -- the inserts within the transaction place the game and its seats behind those that are there
  abbrev pub Inserts : {E : Type 0} → Result ℕ E → Type 0
  Inserts r = DoesWithin begun mid (λ content. Placing begun content.last_run content.rows (seat_rows 1 content.rows))
      (λ content id. (id ≡ length content.rows + 1) × (id < 2 ^ 63) × Placing mid content.last_run (content.rows
      ++ (key, row) ∷ []) (seat_rows 1 content.rows ++ seats_from id 0 row.names)) r

  mid_sure : IsTrue mid.is_open → IsSure end → IsSure mid
  mid_sure open' sure = record { clean = (let c = sure.clean in omega (arith, c, last)); is_open = open' }

  start_sure : IsSure begun → IsSure start
  start_sure s = record { clean = s.clean; is_open = s.is_open }

  backs_begun : (content : Content) → Backed start content → Backed begun content
  backs_begun content b = record { holds = b.holds; few = b.few }

  -- a put whose inserts were committed has added the game under its id
  pub wrote : {E : Type 0} (id : ℕ) → Inserts (done_with {E = E} id) → (HasCleanDisk end → Shows mid end mid.now mid.now false)
      → Does start end Ids (with_row key row) (done_with {E = E} id)
  wrote id inserts ends = record {
    sure = λ sure. start_sure (inserts.sure (mid_sure (ends sure.clean).was_open sure));
    found = λ sure content tells.
        let it = inserts.done (mid_sure (ends sure.clean).was_open sure) content (begun-told start content tells) in
        (it.0, it.1);
    done = λ sure content tells.
        let it = inserts.done (mid_sure (ends sure.clean).was_open sure) content (begun-told start content tells) in
        let named : id ≡ 1 + length content.rows = (let e = it.0 in omega (arith, e)) in
        told-committed mid end content key row (ends sure.clean) (subst (λ n. Placing mid content.last_run (content.rows ++ (key, row) ∷ [])
        (seat_rows 1 content.rows ++ seats_from n 0 row.names)) named it.2)
        (let e = it.0 in let less = it.1 in omega (arith, e, less));
    failed = λ sure content tells. tt;
  }

  -- a put that was rolled back answers its failure, and the content is as before
  pub gave_up : {E F : Type 0} (r : Result ℕ E) (f : F) → Inserts r → (HasCleanDisk end → IsRolledBack mid end)
      → Does start end Ids (with_row key row) (failed_with {F = F} f)
  gave_up r f inserts ends = record {
    sure = λ sure. start_sure (inserts.sure (mid_sure ((ends sure.clean).was_open sure.is_open) sure));
    found = λ sure content tells. tt;
    done = λ sure content tells. tt;
    failed = λ sure content tells.
        let b = inserts.backed (mid_sure ((ends sure.clean).was_open sure.is_open) sure) content (backs_begun content
        (back-told start content tells)) in
        goes_back mid end content (ends sure.clean) sure.is_open (record { holds = b.holds; few = b.few });
  }

  not_committed : {E : Type 0} (id : ℕ) (e : Error) → Inserts (done_with {E = E} id) → IsSure end → (content : Content)
      → Tells start content → FailsToCommit mid end e → Tells end content
  not_committed id e inserts sure content tells (inl fails) =
      let mid_is = mid_sure (fails.3.was_open sure.is_open) sure in
      let b = inserts.backed mid_is content (backs_begun content (back-told start content tells)) in
      goes_back mid end content fails.3 sure.is_open b
  not_committed id e inserts sure content tells (inr over) =
      let it = inserts.done (mid_sure over.2.0.was_open sure) content (begun-told start content tells) in
      let inside = it.2.inside in
      absurd (let off = over.1 in cc)

  commit_open : (e : Error) → FailsToCommit mid end e → WasOpen mid end
  commit_open e (inl fails) open' = fails.3.was_open open'
  commit_open e (inr over) open' = over.2.0.was_open

  -- a put whose commit was refused answers its failure, and the content is as before
  pub refused_commit : {E F : Type 0} (id : ℕ) (f : F) (e : Error) → Inserts (done_with {E = E} id) → (HasCleanDisk end
      → FailsToCommit mid end e) → Does start end Ids (with_row key row) (failed_with {F = F} f)
  refused_commit id f e inserts ends = record {
    sure = λ sure. start_sure (inserts.sure (mid_sure (commit_open e (ends sure.clean) sure.is_open) sure));
    found = λ sure content tells. tt;
    done = λ sure content tells. tt;
    failed = λ sure content tells. not_committed id e inserts sure content tells (ends sure.clean);
  }
