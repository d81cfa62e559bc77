-- What the statements that make a store do.
use Rattle.std.proofs.Common.{◌≡◌, ◌≤◌, IsTrue, ℕ, pos, List, [], ◌∷◌, ◌++◌, ℤ, false, None, Ok, Err, Result, codes, refl, sym, ap, subst, ◌∙◌, arith}
use Rattle.sqlite_value.specs.declared.value.Value.TheVariants.{Null, Int}
use Rattle.sqlite_value.specs.Order.{Row}
use Rattle.sqlite_trees.specs.Tree.{Trees}
use Rattle.std.specs.Prelude.{◌≢◌, IsErr}
use Rattle.std.specs.List.{AllByRecursion}
use Rattle.sqlite_sql.specs.Term.{Term, lit, col}
use Rattle.sqlite_schema.specs.declared.command.Command.TheVariants.{CreateTable, Insert, Select}
use Rattle.sqlite_schema.specs.declared.command.Source.TheVariants.{Values}
use Rattle.sqlite_schema.specs.declared.schema.Table.{Table}
use Rattle.sqlite_schema.specs.declared.schema.Schema.{Schema}
use Rattle.sqlite_resolve.specs.Compile.{table_defined_by}
use Rattle.sqlite_catalog.specs.Change.{created, next_tree, KeepsRows}
use Rattle.sqlite_rules.specs.declared.error.Rowids.TheVariants.{Chosen}
use Rattle.sqlite_rules.specs.Edit.{edit_of, edited, put_all}
use Rattle.sqlite_rules.specs.Action as Act
use Rattle.sqlite_tied.specs.Compute.{everything}
use Rattle.sqlite.specs.Rows.{Written}
use Rattle.sqlite.specs.Does.{Tally, Does, lacks_sequence}
use Rattle.sqlite.specs.Effect.{Database}
use Rattle.sqlite.specs.declared.error.Error.{Error}
use Rattle.sqlite.specs.Listing.{understood, reads_listing}
use Rattle.sqlite_trees.specs.View.{doubt}
use Rattle.sqlite.specs.State.{State, HasCleanDisk, mode_of, Writes, Executes, ExecutesInside, Shows, Shown}
use Rattle.sqlite.proofs.Callers.{IsPlain, command_of, statement_of, runs_as, reads_as, one_step}
use Rattle.hb_sqlite.proofs.SelectLemmas.{shows_one, matching}
use Rattle.hb_sqlite.specs.Store.{store_schema, version_table, runs_table, games_table, seats_table}
use Rattle.hb_sqlite.specs.Stages.{Stage, Reaches, HasFirstRun, HoldsVersion, IsNewStore, no_schema, with_version, with_runs, with_games}
use Rattle.hb_sqlite.specs.StoreTables.{version_row, run_row}
use Rattle.hb_sqlite.proofs.Texts.{cast_null, cast_number, table_query}
use Rattle.hb_sqlite.proofs.RunLemmas.{not-stopped, same_value}

-- a text that makes a table
record Makes (s : Schema) (text : List ℕ) (table : Table) : Type 0 where
  command : command_of (understood s text) ≡ CreateTable
  whole : statement_of text (understood s text) ≡ text
  defined : table_defined_by text ≡ Ok table
  plain : IsPlain (understood s text)
  uncounted : lacks_sequence (created s table) ≡ false

record Made (s : Schema) (table : Table) (old new : Database) : Type 0 where
  schema : new.schema ≡ created s table
  empty : new.trees (next_tree s) ≡ []
  others : KeepsRows s.tables old.trees new.trees

creates : (old new : State) (s : Schema) (text : List ℕ) (table : Table) (count : ℕ) → old.now.schema ≡ s → Makes s text table
    → Executes text [] old new (Ok count) → Made s table old.now new.now
creates old new s text table count has makes h =
    let w = subst (λ t. Writes old new None CreateTable t [] count) makes.whole
    (runs_as text [] old new s has CreateTable makes.command makes.plain count h) in
    let all = not-stopped w.changed in
    let first = not-stopped all.1 in
    let made = first.1 in
    let both : Ok made.table ≡ Ok table = sym made.defined ∙ makes.defined in
    let same : made.table ≡ table = cc in
    let schema : first.0.schema ≡ created s table = made.is ∙ ap (λ s. created s made.table) has ∙ ap (created s) same in
    let plain : lacks_sequence first.0.schema ≡ false = ap lacks_sequence schema ∙ makes.uncounted in
    let now : new.now ≡ first.0 = ap (λ (p : Tally × Database). p.1) (same_value all.2) ∙ same_value (rw plain at first.2) in
    record {
      schema = ap (λ (d : Database). d.schema) now ∙ schema;
      empty = ap (λ (d : Database). d.trees (next_tree s)) now ∙ subst (λ s. first.0.trees (next_tree s) ≡ []) has made.empty;
      others = subst (λ (d : Database). KeepsRows s.tables old.now.trees d.trees) (sym now)
          (subst (λ (s : Schema). KeepsRows s.tables old.now.trees first.0.trees) has made.others);
    }

-- the statement that makes the table `version`
abbrev pub create_version : List ℕ
create_version = codes "CREATE TABLE version (n INTEGER NOT NULL) STRICT"

-- the statement that makes the table `runs`
abbrev pub create_runs : List ℕ
create_runs = codes "CREATE TABLE runs (id INTEGER PRIMARY KEY, last INTEGER NOT NULL CHECK (last >= 0)) STRICT"

-- the statement that makes the table `games`
abbrev pub create_games : List ℕ
create_games =
    codes "CREATE TABLE games (id INTEGER PRIMARY KEY, run INTEGER NOT NULL, room INTEGER NOT NULL,\n"
    ++ (codes "  serial INTEGER NOT NULL, how INTEGER NOT NULL, score INTEGER NOT NULL, body TEXT NOT NULL,\n"
    ++ codes "  UNIQUE (run, room, serial)) STRICT")

-- the statement that makes the table `seats`
abbrev pub create_seats : List ℕ
create_seats =
    codes "CREATE TABLE seats (game INTEGER NOT NULL REFERENCES games (id), seat INTEGER NOT NULL,\n"
    ++ codes "  name TEXT NOT NULL, PRIMARY KEY (game, seat)) STRICT"

makes_version : Makes no_schema create_version version_table
unfolding understood everything
makes_version = record { command = refl; whole = refl; defined = refl; plain = (refl, refl); uncounted = refl }

makes_runs : Makes with_version create_runs (record runs_table { tree = 0 })
unfolding understood everything
makes_runs = record { command = refl; whole = refl; defined = refl; plain = (refl, refl); uncounted = refl }

makes_games : Makes with_runs create_games (record games_table { tree = 0 })
unfolding understood everything
makes_games = record { command = refl; whole = refl; defined = refl; plain = (refl, refl); uncounted = refl }

makes_seats : Makes with_games create_seats (record seats_table { tree = 0 })
unfolding understood everything
makes_seats = record { command = refl; whole = refl; defined = refl; plain = (refl, refl); uncounted = refl }

whole_schema : created with_games (record seats_table { tree = 0 }) ≡ store_schema
whole_schema = refl

-- the statement that puts the row of `version`
abbrev pub first_version : List ℕ
first_version = codes "INSERT INTO version (n) VALUES (1)"

-- the statement that puts the row of `runs`
abbrev pub first_run : List ℕ
first_run = codes "INSERT INTO runs (id, last) VALUES (1, 0)"

abbrev version_terms : List Term
version_terms = lit Null ∷ lit (Int (pos 1)) ∷ []

abbrev run_terms : List Term
run_terms = lit (Int (pos 1)) ∷ lit Null ∷ lit (Int (pos 0)) ∷ []

first_version_is : command_of (understood store_schema first_version) ≡ Insert 0 (Values version_terms 2)
unfolding understood everything
first_version_is = refl

first_version_plain : IsPlain (understood store_schema first_version)
unfolding understood everything
first_version_plain = (refl, refl)

first_run_is : command_of (understood store_schema first_run) ≡ Insert 1 (Values run_terms 3)
unfolding understood everything
first_run_is = refl

first_run_plain : IsPlain (understood store_schema first_run)
unfolding understood everything
first_run_plain = (refl, refl)

-- the query for the version
abbrev pub read_version_text : List ℕ
read_version_text = codes "SELECT n FROM version"

-- how that query is read
pub read_version_is : (command_of (understood store_schema read_version_text)
    ≡ Select (record { lets = []; body = table_query 0 [] (col 1 1 ∷ []) [] }) (codes "n" ∷ []))
    × (reads_listing store_schema read_version_text ≡ false)
unfolding understood everything
read_version_is = (refl, refl)

-- the table at this place has these rows, and the others have theirs
record Puts (at : ℕ) (rows : List Row) (old new : Database) : Type 0 where
  schema : new.schema ≡ store_schema
  put : new.trees at ≡ rows
  others : AllByRecursion (λ (t : Table). t.tree ≢ at → new.trees t.tree ≡ old.trees t.tree) store_schema.tables

puts_version : (old new : State) (count : ℕ) → old.now.schema ≡ store_schema → old.now.trees 0 ≡ []
    → Executes first_version [] old new (Ok count) → Puts 0 (version_row ∷ []) old.now new.now
puts_version old new count has none h =
    let db = old.now.trees in
    let command = Insert 0 (Values version_terms 2) in
    let w = runs_as first_version [] old new store_schema has command first_version_is first_version_plain count h in
    let text = statement_of first_version (understood store_schema first_version) in
    let done = not-stopped (subst (λ s. Does old.step_limit (mode_of old) [] (record old.now { schema = s }) text None command
    (Ok (w.tally, new.now))) has w.changed) in
    let now = ap (λ (p : Tally × Database). p.1) (same_value (not-stopped (not-stopped done.2).2).2) in
    let given = not-stopped done.1 in
    let written = not-stopped (not-stopped given.2).2 in
    let counted = not-stopped written.2 in
    let edit = edit_of db version_table [] Chosen 0 ((Null ∷ Int (pos 1) ∷ []) ∷ []) in
    let wrote = subst (λ all. Act.Writes store_schema (mode_of old).keys db (edit_of db version_table [] Chosen 0 all)
    (Ok written.0)) given.1.1 written.1 in
    let applied = one_step store_schema _ db written.0 edit refl wrote in
    let news : edit.news ≡ version_row ∷ [] = rw (cast_null, cast_number 1, none) in
    let after : edited db edit ≡ version_row ∷ [] = ap (put_all (db 0)) news ∙ rw none in
    let trees : done.0.trees ≡ written.0 = ap (λ (it : Written). it.trees) (same_value counted.2) ∙ same_value counted.1 in
    let all : new.now.trees ≡ written.0 = ap (λ (d : Database). d.trees) now ∙ trees in
    record {
      schema = ap (λ (d : Database). d.schema) now;
      put = ap (λ (t : Trees). t 0) all ∙ applied.rows ∙ after;
      others = subst (λ (t : Trees). AllByRecursion (λ (it : Table). it.tree ≢ 0
          → t it.tree ≡ db it.tree) store_schema.tables) (sym all) applied.tables;
    }

puts_run : (old new : State) (count : ℕ) → old.now.schema ≡ store_schema → old.now.trees 1 ≡ [] → Executes first_run [] old new (Ok count)
    → Puts 1 (run_row 0 ∷ []) old.now new.now
puts_run old new count has none h =
    let db = old.now.trees in
    let command = Insert 1 (Values run_terms 3) in
    let w = runs_as first_run [] old new store_schema has command first_run_is first_run_plain count h in
    let text = statement_of first_run (understood store_schema first_run) in
    let done = not-stopped (subst (λ s. Does old.step_limit (mode_of old) [] (record old.now { schema = s }) text None command
    (Ok (w.tally, new.now))) has w.changed) in
    let now = ap (λ (p : Tally × Database). p.1) (same_value (not-stopped (not-stopped done.2).2).2) in
    let given = not-stopped done.1 in
    let written = not-stopped (not-stopped given.2).2 in
    let counted = not-stopped written.2 in
    let edit = edit_of db runs_table [] Chosen 0 ((Int (pos 1) ∷ Null ∷ Int (pos 0) ∷ []) ∷ []) in
    let wrote = subst (λ all. Act.Writes store_schema (mode_of old).keys db (edit_of db runs_table [] Chosen 0 all)
    (Ok written.0)) given.1.1 written.1 in
    let applied = one_step store_schema _ db written.0 edit refl wrote in
    let news : edit.news ≡ run_row 0 ∷ [] = rw (cast_null, cast_number 1, cast_number 0) in
    let after : edited db edit ≡ run_row 0 ∷ [] = ap (put_all (db 1)) news ∙ rw none in
    let trees : done.0.trees ≡ written.0 = ap (λ (it : Written). it.trees) (same_value counted.2) ∙ same_value counted.1 in
    let all : new.now.trees ≡ written.0 = ap (λ (d : Database). d.trees) now ∙ trees in
    record {
      schema = ap (λ (d : Database). d.schema) now;
      put = ap (λ (t : Trees). t 1) all ∙ applied.rows ∙ after;
      others = subst (λ (t : Trees). AllByRecursion (λ (it : Table). it.tree ≢ 1
          → t it.tree ≡ db it.tree) store_schema.tables) (sym all) applied.tables;
    }

not10 : (◌≡◌ {A = ℕ} 1 0) → ⊥
not10 e = cc

not20 : (◌≡◌ {A = ℕ} 2 0) → ⊥
not20 e = cc

not40 : (◌≡◌ {A = ℕ} 4 0) → ⊥
not40 e = cc

not01 : (◌≡◌ {A = ℕ} 0 1) → ⊥
not01 e = cc

not21 : (◌≡◌ {A = ℕ} 2 1) → ⊥
not21 e = cc

not41 : (◌≡◌ {A = ℕ} 4 1) → ⊥
not41 e = cc

module _ (old new : State) (count : ℕ) where
  -- the table of the version is made in an empty schema
  pub stage_version : Stage old no_schema [] → ExecutesInside 0 create_version [] old new (Ok count) → Stage new with_version ((0, []) ∷ [])
  stage_version st h =
      let m = creates old new no_schema create_version version_table count st.has makes_version h.0 in
      record { inside = h.1.mode; has = m.schema; rows = (m.empty, tt) }

  -- the table of runs is made behind it
  pub stage_runs : Stage old with_version ((0, []) ∷ []) → ExecutesInside 0 create_runs [] old new (Ok count)
      → Stage new with_runs ((0, []) ∷ (1, []) ∷ [])
  stage_runs st h =
      let m = creates old new with_version create_runs (record runs_table { tree = 0 }) count st.has makes_runs h.0 in
      record { inside = h.1.mode; has = m.schema; rows = (m.others.0 ∙ st.rows.0, (m.empty, tt)) }

  -- the table of games is made behind that
  pub stage_games : Stage old with_runs ((0, []) ∷ (1, []) ∷ []) → ExecutesInside 0 create_games [] old new (Ok count)
      → Stage new with_games ((0, []) ∷ (1, []) ∷ (2, []) ∷ [])
  stage_games st h =
      let m = creates old new with_runs create_games (record games_table { tree = 0 }) count st.has makes_games h.0 in
      record { inside = h.1.mode; has = m.schema; rows = (m.others.0 ∙ st.rows.0, (m.others.1.0 ∙ st.rows.1.0, (m.empty, tt))) }

  -- with the table of seats the schema is that of a store
  pub stage_seats : Stage old with_games ((0, []) ∷ (1, []) ∷ (2, []) ∷ []) → ExecutesInside 0 create_seats [] old new (Ok count)
      → Stage new store_schema ((0, []) ∷ (1, []) ∷ (2, []) ∷ (4, []) ∷ [])
  stage_seats st h =
      let m = creates old new with_games create_seats (record seats_table { tree = 0 }) count st.has makes_seats h.0 in
      record {
        inside = h.1.mode;
        has = m.schema;
        rows = (
          m.others.0
              ∙ st.rows.0,
          (m.others.1.0 ∙ st.rows.1.0, (m.others.1.1.0 ∙ st.rows.1.1.0, (m.empty, tt))),
        );
      }

  -- the number of the version is written as the only row of its table
  pub stage_first_version : Stage old store_schema ((0, []) ∷ (1, []) ∷ (2, []) ∷ (4, []) ∷ [])
      → ExecutesInside 0 first_version [] old new (Ok count)
      → Stage new store_schema ((0, version_row ∷ []) ∷ (1, []) ∷ (2, []) ∷ (4, []) ∷ [])
  stage_first_version st h =
      let p = puts_version old new count st.has st.rows.0 h.0 in
      record {
        inside = h.1.mode;
        has = p.schema;
        rows = (
          p.put,
          (
            p.others.1.0 not10 ∙ st.rows.1.0,
            (
              p.others.1.1.0 not20 ∙ st.rows.1.1.0,
              (p.others.1.1.1.0 not40 ∙ st.rows.1.1.1.0, tt),
            ),
          ),
        );
      }

  -- the number of the last run is written as 0, and the store is new
  pub stage_first_run : Stage old store_schema ((0, version_row ∷ []) ∷ (1, []) ∷ (2, []) ∷ (4, []) ∷ [])
      → ExecutesInside 0 first_run [] old new (Ok count)
      → Stage new store_schema ((0, version_row ∷ []) ∷ (1, run_row 0 ∷ []) ∷ (2, []) ∷ (4, []) ∷ [])
  stage_first_run st h =
      let p = puts_run old new count st.has st.rows.1.0 h.0 in
      record {
        inside = h.1.mode;
        has = p.schema;
        rows = (
          p.others.0 not01
              ∙ st.rows.0,
          (p.put, (p.others.1.1.0 not21 ∙ st.rows.1.1.0, (p.others.1.1.1.0 not41 ∙ st.rows.1.1.1.0, tt))),
        );
      }

-- a new store, once it is committed
pub made_store : (old new : State) → HasFirstRun old → Shows old new old.now old.now false → IsNewStore new
made_store old new st shows = record {
  is_open = shows.is_open;
  tells = record {
    schema = rw shows.now_is st.has;
    settled = shows.committed_is ∙ sym shows.now_is;
    autocommit = shows.mode;
    version = rw shows.now_is st.rows.0;
    runs = rw shows.now_is st.rows.1.0;
    few = omega arith;
    games = rw shows.now_is st.rows.1.1.0;
    seats = rw shows.now_is st.rows.1.1.1.0;
  };
}

-- one statement leads from a stage to the next
pub to_stage : (old new : State) (sql : List ℕ) (Before After : State → Type 0) (r : Result ℕ Error)
    → doubt old.is_clean ≤ doubt new.is_clean
    → ((count : ℕ) → Before old → ExecutesInside 0 sql [] old new (Ok count) → After new) → (Before old → IsTrue old.in_transaction)
    → (HasCleanDisk new → IsTrue old.in_transaction → ExecutesInside 0 sql [] old new r) → Reaches old new Before After r
to_stage old new sql Before After (Ok count) less step inside runs = record {
  clean = λ clean. omega (arith, clean, less);
  done = λ clean before. step count before (runs clean (inside before));
}
to_stage old new sql Before After (Err e) less step inside runs = record {
  clean = λ clean. omega (arith, clean, less);
  done = λ clean before. tt;
}

-- two steps are one
pub reaches_next : {A B E F : Type 0} (a b d : State) (First Second Third : State → Type 0) (x : A) (r : Result B F)
    → Reaches {E = E} a b First Second (Ok x) → Reaches b d Second Third r → Reaches a d First Third r
reaches_next a b d First Second Third x r first second = record {
  clean = λ clean. first.clean (second.clean clean);
  done = λ clean before. second.done clean (first.done (second.clean clean) before);
}

-- an error promises no stage
pub reaches_err : {A E : Type 0} (old new : State) (Before After : State → Type 0) (r : Result A E) → IsErr r → (HasCleanDisk new
    → HasCleanDisk old)
    → Reaches old new Before After r
reaches_err old new Before After (Ok x) is clean = absurd (let bad = is in cc)
reaches_err old new Before After (Err e) is clean = record { clean = clean; done = λ clean before. tt }

-- ---- the version

-- that query is a plain one
pub read_version_plain : IsPlain (understood store_schema read_version_text)
unfolding understood everything
read_version_plain = (refl, refl)

-- the query shows the number in the row of `version`
pub finds_version : (old new : State) (n : ℤ) (all : List Row) → HoldsVersion old n → Shown read_version_text [] old new all
    → all ≡ (Int n ∷ []) ∷ []
finds_version old new n all holds h =
    let a = (reads_as read_version_text [] old new store_schema holds.schema _ read_version_is.0 read_version_plain read_version_is.1 all
    h).answer Null in
    shows_one 0 [] (col 1 1 ∷ []) old.now.trees [] (Int (pos 1) ∷ Int n ∷ []) all (ap (matching [] []) holds.version) a
