-- What the statements on `games` do.
use Rattle.std.proofs.Common.{◌≡◌, ℕ, ◌+◌, ◌<◌, pos, List, [], ◌∷◌, ◌++◌, length, Some, None, Ok, refl, ap, subst, ◌∙◌, arith}
use Rattle.std.proofs.lemmas.Bool.Decides.{nat_tests}
use Rattle.std.specs.Prelude.{fold, ◌+ℤ◌, ℤ, unwrap_or}
use Rattle.std.specs.Ordering.{match_ordering}
use Rattle.std.specs.declared.cmp.Ordering.TheVariants.{Less}
use Rattle.sqlite_value.specs.declared.value.Value.TheVariants.{Null, Int, Text as Words}
use Rattle.sqlite_value.specs.Order.{Row, value_cmp}
use Rattle.sqlite_value.proofs.OrderLemmas.{value_cmp-Int}
use Rattle.sqlite_trees.specs.Tree.{Trees, put_row, rowid}
use Rattle.sqlite_schema.specs.declared.command.Command.TheVariants.{Insert}
use Rattle.sqlite_schema.specs.declared.command.Source.TheVariants.{Values}
use Rattle.sqlite_rules.specs.declared.error.Rowids.TheVariants.{Chosen}
use Rattle.sqlite_rules.specs.Edit.{edit_of, edited, put_all, id_in}
use Rattle.sqlite_rules.specs.Action as Act
use Rattle.sqlite.specs.Rows.{Written, last_id}
use Rattle.sqlite.specs.Does.{Tally, Does}
use Rattle.sqlite.specs.Effect.{Database}
use Rattle.sqlite.specs.Listing.{understood}
use Rattle.sqlite.specs.State.{State, mode_of, Executes}
use Rattle.sqlite.proofs.Callers.{statement_of, runs_as, one_step}
use Rattle.hb_keeper.specs.declared.rows.Key.{Key}
use Rattle.hb_keeper.specs.declared.rows.GameRow.{GameRow}
use Rattle.hb_sqlite.specs.Store.{store_schema, games_table}
use Rattle.hb_sqlite.specs.StoreTables.{game_row, game_rows}
use Rattle.hb_sqlite.proofs.Texts.{write_game_text, write_game_is, write_game_plain, game_terms, cast_null, cast_number}
use Rattle.hb_sqlite.proofs.RunLemmas.{not-stopped, same_value}

-- numbers are compared as they are
pub value_cmp-below : (a b : ℕ) → a < b → value_cmp (Int (pos a)) (Int (pos b)) ≡ Less
value_cmp-below a b lt = value_cmp-Int (pos a) (pos b) ∙ grind (arith, nat_tests)

-- the rowid after those of the games
pub next_game : (id : ℕ) (rows : List (Key × GameRow))
    → fold (λ (_ : ℤ) r. id_in (rowid r) +ℤ pos 1) (pos id) (game_rows id rows) ≡ pos (id + length rows)
next_game id [] = ap pos (omega arith)
next_game id (kept ∷ rows) = next_game (id + 1) rows ∙ ap pos (omega arith)

-- a row with a greater rowid is put behind
pub put_after : (new r : Row) (rs : List Row) → value_cmp (rowid r) (rowid new) ≡ Less → put_row new (r ∷ rs) ≡ r ∷ put_row new rs
put_after new r rs less = ap (λ o. match_ordering o (r ∷ put_row new rs) (new ∷ rs) (new ∷ r ∷ rs)) less

-- a new game comes last
pub put_last : (id : ℕ) (rows : List (Key × GameRow)) (key : Key) (row : GameRow)
    → put_row (game_row (id + length rows) key row) (game_rows id rows) ≡ game_rows id (rows ++ (key, row) ∷ [])
put_last id [] key row = ap (λ n. game_row n key row ∷ []) (omega arith)
put_last id (kept ∷ rows) key row =
    let first = game_row id kept.0 kept.1 in
    let n = id + length {A = Key × GameRow} (kept ∷ rows) in
    let same : n ≡ id + 1 + length rows = omega arith in
    put_after (game_row n key row) first (game_rows (id + 1) rows) (value_cmp-below id n (omega arith))
    ∙ ap (λ all. first ∷ all) (ap (λ n. put_row (game_row n key row) (game_rows (id + 1) rows)) same ∙ put_last (id + 1) rows key row)

not02 : (◌≡◌ {A = ℕ} 0 2) → ⊥
not02 e = cc

not12 : (◌≡◌ {A = ℕ} 1 2) → ⊥
not12 e = cc

not42 : (◌≡◌ {A = ℕ} 4 2) → ⊥
not42 e = cc

-- what a game is written with
abbrev pub game_params : Key → GameRow → Row
game_params key row = Int (pos key.run) ∷ Int (pos key.room) ∷ Int (pos key.serial) ∷ Int (pos row.how) ∷ Int
    (pos row.score) ∷ Words row.text ∷ []

-- the new game as it is written, with no id yet
abbrev pub new_game : Key → GameRow → Row
new_game key row = Null ∷ Null ∷ game_params key row

-- the other tables have the rows that they had
pub record SameButGames (old new : Trees) : Type 0 where
  pub version : new 0 ≡ old 0
  pub runs : new 1 ≡ old 1
  pub seats : new 4 ≡ old 4

-- what the statement that puts a game leaves in the tables
pub writes_game : (old new : State) (key : Key) (row : GameRow) (rows : List (Key × GameRow)) (count : ℕ) → old.now.schema ≡ store_schema
    → old.now.trees 2 ≡ game_rows 1 rows
    → Executes write_game_text (game_params key row) old new (Ok count)
    → (new.now.schema ≡ store_schema) × (new.now.trees 2 ≡ game_rows 1 (rows ++ (key, row) ∷ []))
    × (new.last_rowid ≡ pos (1 + length rows)) × SameButGames old.now.trees new.now.trees
writes_game old new key row rows count has games h =
    let params = game_params key row in
    let db = old.now.trees in
    let command = Insert 2 (Values game_terms 8) in
    let w = runs_as write_game_text params old new store_schema has command write_game_is write_game_plain count h in
    let text = statement_of write_game_text (understood store_schema write_game_text) in
    let done = not-stopped (subst (λ s. Does old.step_limit (mode_of old) params (record old.now { schema = s }) text None command
    (Ok (w.tally, new.now))) has w.changed) in
    let ended = same_value (not-stopped (not-stopped done.2).2).2 in
    let now = ap (λ (p : Tally × Database). p.1) ended in
    let given = not-stopped done.1 in
    let written = not-stopped (not-stopped given.2).2 in
    let counted = not-stopped written.2 in
    let source = new_game key row ∷ [] in
    let edit = edit_of db games_table [] Chosen 0 source in
    let wrote = subst (λ all. Act.Writes store_schema (mode_of old).keys db (edit_of db games_table [] Chosen 0 all)
    (Ok written.0)) given.1.1 written.1 in
    let applied = one_step store_schema _ db written.0 edit refl wrote in
    let first = 1 + length rows in
    let news : edit.news ≡ game_row first key row ∷ [] =
    rw (
      cast_null,
      cast_number key.run,
      cast_number key.room,
      cast_number key.serial,
      cast_number row.how,
      cast_number row.score,
      games,
      next_game 1 rows,
    ) in
    let after : edited db edit ≡ game_rows 1 (rows ++ (key, row) ∷ []) = ap (put_all (db 2)) news ∙ rw games (put_last 1 rows key row) in
    let trees : done.0.trees ≡ written.0 = ap (λ (it : Written). it.trees) (same_value counted.2) ∙ same_value counted.1 in
    let last : w.tally.last ≡ Some (pos first) =
    ap (λ (p : Tally × Database). p.0.last) ended ∙ ap (λ (it : Written). it.last) (same_value counted.2)
    ∙ ap (λ all. last_id (edit_of db games_table [] Chosen 0 all).news) given.1.1 ∙ ap last_id news in
    let table : (t : ℕ) → new.now.trees t ≡ written.0 t = λ t. ap (λ (d : Database). d.trees t) now ∙ ap (λ (all : Trees). all t) trees in (
      ap (λ (d : Database). d.schema) now,
      table 2 ∙ applied.rows ∙ after,
      w.last_rowid ∙ ap (λ o. unwrap_or o old.last_rowid) last,
      record {
        version = table 0 ∙ applied.tables.0 not02;
        runs = table 1 ∙ applied.tables.1.0 not12;
        seats = table 4 ∙ applied.tables.1.1.1.0 not42;
      },
    )
