-- What the statements on `runs` do.
use Rattle.std.proofs.Common.{◌≡◌, ◌⊎◌, inl, inr, ℕ, pos, List, [], ◌∷◌, map, None, Ok, Err, Result, refl, ap, subst, ◌∙◌}
use Rattle.std.specs.List.Sorted.{IsPermutation}
use Rattle.sqlite_value.specs.declared.value.Value.{Value}
use Rattle.sqlite_value.specs.declared.value.Value.TheVariants.{Null, Int}
use Rattle.sqlite_value.specs.Order.{Row}
use Rattle.sqlite_trees.specs.Tree.{Trees}
use Rattle.sqlite_sql.specs.Term.{Term, lit, col}
use Rattle.sqlite_sql.specs.Query.{IsAnswer, output, page, Output}
use Rattle.sqlite_sql.specs.Program.{overlay}
use Rattle.sqlite_schema.specs.declared.command.Command.TheVariants.{Update}
use Rattle.sqlite_rules.specs.declared.error.Rowids.TheVariants.{Given}
use Rattle.sqlite_rules.specs.Edit.{edit_of, edited}
use Rattle.sqlite_rules.specs.Action as Rows
use Rattle.sqlite_rules.specs.Calls.{ids_of}
use Rattle.sqlite.specs.Rows.{Written}
use Rattle.sqlite.specs.Does.{Tally, Does}
use Rattle.sqlite.specs.Effect.{Database}
use Rattle.sqlite.specs.Listing.{understood}
use Rattle.sqlite.specs.State.{State, mode_of, Executes, QueriesRow}
use Rattle.sqlite.proofs.Callers.{statement_of, runs_as, first_as, one_step, one_permutation}
use Rattle.hb_sqlite.specs.Store.{store_schema, runs_table}
use Rattle.hb_sqlite.specs.StoreTables.{run_row}
use Rattle.hb_sqlite.proofs.Texts.{read_run_text, write_run_text, run_query, write_run, read_run_is, read_run_plain, write_run_is, write_run_plain, cast_null, cast_number, is_first, has_first}

-- a part that gave a value did not stop on the way
pub not-stopped : {B E R : Type 0} {b : B} {Stops : E → Type 0} → ((stop : E) × Stops stop × (Ok b ≡ Err stop)) ⊎ R → R
not-stopped (inl stopped) = absurd (let e = stopped.2 in cc)
not-stopped (inr on) = on

-- equal answers have equal values
pub same_value : {B E : Type 0} {a b : B} → ◌≡◌ {A = Result B E} (Ok a) (Ok b) → a ≡ b
same_value e = cc

-- what a query on the one row of `runs` shows
pub one_shown : (shown : List Term) (db : Trees) (params rows : List Value) (last : ℕ) (all : List Row) → db 1 ≡ run_row last ∷ []
    → IsAnswer (run_query shown) (overlay db []) params all → all ≡ (output (run_query shown) (params ∷ run_row last ∷ [])).1 ∷ []
one_shown shown db params rows last all one a =
    let staged : a.staged ≡ (params ∷ run_row last ∷ []) ∷ [] = a.grouped ∙ rw (one, is_first) in
    let o : Output = output (run_query shown) (params ∷ run_row last ∷ []) in
    let kept : a.kept ≡ o ∷ [] = a.distinct ∙ ap (map (output (run_query shown))) staged in
    let ordered = one_permutation o a.ordered (subst (λ k. IsPermutation k a.ordered) kept a.same) in
    a.shown ∙ ap (λ xs. page (run_query shown) params (map (λ (p : Output). p.1) xs)) ordered

-- the other tables have the rows that they had
pub record SameButRuns (old new : Trees) : Type 0 where
  pub version : new 0 ≡ old 0
  pub games : new 2 ≡ old 2
  pub seats : new 4 ≡ old 4

-- the query for the last run shows it
pub reads_run : (old new : State) (last : ℕ) (row : Row) → old.now.schema ≡ store_schema → old.now.trees 1 ≡ run_row last ∷ []
    → QueriesRow read_run_text [] old new (Ok row)
    → row ≡ Int (pos last) ∷ []
unfolding QueriesRow
reads_run old new last row has one h =
    let got = (first_as read_run_text [] old new store_schema has _ read_run_is.0 read_run_plain read_run_is.1 row h).1 in
    let all : row ∷ got.0 ≡ (Int (pos last) ∷ []) ∷ [] = one_shown (col 1 2 ∷ []) old.now.trees [] [] last (row ∷ got.0) one (got.1 Null) in
    cc

-- what the statement that sets the last run leaves in the tables
pub writes_run : (old new : State) (last n count : ℕ) → old.now.schema ≡ store_schema → old.now.trees 1 ≡ run_row last ∷ []
    → Executes write_run_text (Int (pos n) ∷ []) old new (Ok count)
    → (new.now.schema ≡ store_schema) × (new.now.trees 1 ≡ run_row n ∷ []) × SameButRuns old.now.trees new.now.trees
writes_run old new last n count has one h =
    let params = Int (pos n) ∷ [] in
    let db = old.now.trees in
    let command = Update 1 (record { lets = []; body = write_run }) in
    let w = runs_as write_run_text params old new store_schema has command write_run_is write_run_plain count h in
    let text = statement_of write_run_text (understood store_schema write_run_text) in
    let done = not-stopped (subst (λ s. Does old.step_limit (mode_of old) params (record old.now { schema = s }) text None command
    (Ok (w.tally, new.now))) has w.changed) in
    let now = ap (λ (p : Tally × Database). p.1) (same_value (not-stopped (not-stopped done.2).2).2) in
    let given = not-stopped done.1 in
    let written = not-stopped given.2 in
    let trees : done.0.trees ≡ written.0 = ap (λ (it : Written). it.trees) (same_value written.2) in
    let new_row : Row = Int (pos 1) ∷ Int (pos 1) ∷ Null ∷ Int (pos n) ∷ [] in
    let shown : given.0 ≡ new_row ∷ [] = one_shown (col 1 0 ∷ col 1 0 ∷ lit Null ∷ col 0 0 ∷ []) db params [] last given.0 one
    (given.1.answer Null) in
    let edit = edit_of db runs_table (pos 1 ∷ []) Given 1 (new_row ∷ []) in
    let wrote = subst (λ rows. Rows.Writes store_schema (mode_of old).keys db (edit_of db runs_table (ids_of rows) Given 1 rows)
    (Ok written.0)) shown written.1 in
    let applied = one_step store_schema _ db written.0 edit refl wrote in
    let after : edited db edit ≡ run_row n ∷ [] = rw (one, has_first, cast_number 1, cast_null, cast_number n) in (
      ap (λ (d : Database). d.schema) now,
      ap (λ (d : Database). d.trees 1) now ∙ ap (λ (t : Trees). t 1) trees ∙ applied.rows ∙ after,
      record {
        version = ap (λ (d : Database). d.trees 0) now ∙ ap (λ (t : Trees). t 0) trees ∙ applied.tables.0 (λ e. cc);
        games = ap (λ (d : Database). d.trees 2) now ∙ ap (λ (t : Trees). t 2) trees ∙ applied.tables.1.1.0 (λ e. cc);
        seats = ap (λ (d : Database). d.trees 4) now ∙ ap (λ (t : Trees). t 4) trees ∙ applied.tables.1.1.1.0 (λ e. cc);
      },
    )
