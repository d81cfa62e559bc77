-- What any statement leaves as it was.
use Rattle.std.proofs.Common.{◌≡◌, ◌⊎◌, inl, inr, ℕ, List, [], false, Some, None, Option, Ok, Err, Result, IsTrue, sym, subst, ◌∙◌}
use Rattle.std.proofs.lemmas.Bool.{cases_Bool}
use Rattle.sqlite_value.specs.Order.{Row}
use Rattle.sqlite_schema.specs.declared.command.Command.{Command}
use Rattle.sqlite_schema.specs.declared.command.Command.TheVariants.{Select, Insert, InsertOr, Update, Delete, CreateTable, CreateIndex, DropTable, DropIndex, Begin, Commit, Rollback, Savepoint as Save, Release, RollbackTo, Nothing, CreateView, DropView, Rows}
use Rattle.sqlite_schema.specs.declared.command.Returning.{Returning}
use Rattle.sqlite_resolve.specs.declared.compiled.Compiled.{Compiled}
use Rattle.sqlite.specs.declared.error.Error.{Error}
use Rattle.sqlite.specs.Listing.{understood}
use Rattle.sqlite.specs.State.{State, Runs, RunsCommand, RunsAlone, shows_rows, ExecutesIn, Executes, IsNotRun, FailsToShow, FailsToQuery, ShowsRows, Shown, QueriesRow, IsUnchanged, IsRolledBack, ReleasesAt}
use Rattle.sqlite.proofs.Callers.{IsPlain}
use Rattle.hb_keeper.specs.KeptGames.{Content}
use Rattle.hb_sqlite.specs.StoreTables.{Tells}

module _ (old new : State) where
  -- an open connection was open before
  abbrev pub WasOpen : Type 0
  WasOpen = IsTrue new.is_open → IsTrue old.is_open

  -- nothing was done, or all was taken back
  abbrev pub IsKept : Type 0
  IsKept = IsUnchanged old new ⊎ IsRolledBack old new

  -- a database that is open behind a call that left it as it was, or rolled it back, was open before
  pub kept_open : IsKept → WasOpen
  kept_open (inl same) open' = same.0.was_open
  kept_open (inr back) open' = back.was_open open'

  -- and it tells the content that it told
  pub kept_tells : (content : Content) → IsKept → IsTrue new.is_open → Tells old content → Tells new content
  kept_tells content (inl same) open' f =
      record {
        schema = rw same.0.now_is f.schema;
        settled = rw
            (same.0.now_is, same.0.committed_is) f.settled;
        autocommit = rw same.0.mode f.autocommit;
        version = rw same.0.now_is f.version;
        runs = rw same.0.now_is f.runs;
        few = f.few;
        games = rw same.0.now_is f.games;
        seats = rw same.0.now_is f.seats;
      }
  kept_tells content (inr back) open' f =
      let undone = back.undone open' in
      let now : new.now ≡ old.now = undone.0 ∙ f.settled in
      record {
        schema = rw now f.schema;
        settled = undone.1
            ∙ sym undone.0;
        autocommit = back.autocommit;
        version = rw now f.version;
        runs = rw now f.runs;
        few = f.few;
        games = rw now
            f.games;
        seats = rw now f.seats;
      }

  not_run : (sql : List ℕ) (params : Row) (e : Error) → IsNotRun old new sql params e → IsKept
  unfolding IsNotRun
  not_run sql params e (inl h) = inl h.1
  not_run sql params e (inr h) = inr h.3

  refused : (sql : List ℕ) (c : Compiled) (params : Row) (e : Error) → RunsCommand old new sql c params (Err e) → IsKept
  refused sql c params e (inl h) = inl h.1
  refused sql c params e (inr h) = inr h.3

  not_shown : (sql : List ℕ) (c : Compiled) (params : Row) (e : Error) (returning : Option Returning)
      → FailsToShow old new sql c params e returning → IsKept
  not_shown sql c params e None h = inl h.3
  not_shown sql c params e (Some what) h = refused sql c params e h

  -- a query that failed leaves the database as it was, or rolled back
  pub query_failed : (sql : List ℕ) (params : Row) (e : Error) → FailsToQuery sql params old new e → IsKept
  unfolding FailsToQuery
  query_failed sql params e (inl h) = not_run sql params e h
  query_failed sql params e (inr h) = not_shown sql h.0 _ e h.0.returning h.2

  shown_open : (sql : List ℕ) (c : Compiled) (params : Row) (rows : List Row) (returning : Option Returning)
      → ShowsRows old new sql c params rows returning → WasOpen
  shown_open sql c params rows None h open' = h.3.0.was_open
  shown_open sql c params rows (Some what) h open' = h.1.shown.was_open

  -- a database that is open behind a query that gave rows was open before
  pub rows_open : (sql : List ℕ) (params : Row) (rows : List Row) → Shown sql params old new rows → WasOpen
  unfolding Shown
  rows_open sql params rows h = shown_open sql h.0 _ rows h.0.returning h.2

  -- a database that is open behind a query for one row was open before
  pub query_open : (sql : List ℕ) (params : Row) (r : Result Row Error) → QueriesRow sql params old new r → WasOpen
  unfolding QueriesRow
  query_open sql params (Ok row) (inl h) = λ open'. h.1.0.was_open
  query_open sql params (Ok row) (inr h) = rows_open sql params h.0 h.1
  query_open sql params (Err e) (inl h) = kept_open (query_failed sql params e h)
  query_open sql params (Err e) (inr h) = rows_open sql params [] h.1

  released : (at : ℕ) → ReleasesAt old new at → IsTrue old.is_open
  released at (inl h) = h.1.0.was_open
  released at (inr h) = h.1.0.was_open

  -- a database that is open behind a statement that was run was open before
  pub runs_open : (returning : Option Returning) (command : Command) (text : List ℕ) (params : Row) (count : ℕ)
      → Runs old new returning command text params count → WasOpen
  runs_open returning (Select q names) text params count h open' = absurd h
  runs_open returning (Insert at from) text params count h open' = h.shown.was_open
  runs_open returning (InsertOr at how from clauses) text params count h open' = h.shown.was_open
  runs_open returning (Update at q) text params count h open' = h.shown.was_open
  runs_open returning (Delete at q) text params count h open' = h.shown.was_open
  runs_open returning CreateTable text params count h open' = h.shown.was_open
  runs_open returning (CreateIndex at) text params count h open' = h.shown.was_open
  runs_open returning (DropTable at) text params count h open' = h.shown.was_open
  runs_open returning (DropIndex at) text params count h open' = h.shown.was_open
  runs_open returning Begin text params count h open' = h.1.was_open
  runs_open returning Commit text params count h open' = h.1.was_open
  runs_open returning Rollback text params count h open' = h.1.was_open open'
  runs_open returning (Save name) text params count h open' = h.0.0.was_open
  runs_open returning (Release name) text params count h open' = released h.0 h.2
  runs_open returning (RollbackTo name) text params count h open' = h.2.2.was_open
  runs_open returning (Rows values width names) text params count h open' = h.0.0.was_open
  runs_open returning Nothing text params count h open' = h.0.0.was_open
  runs_open returning CreateView text params count h open' = h.shown.was_open
  runs_open returning (DropView at) text params count h open' = h.shown.was_open

  alone_failed : (sql : List ℕ) (c : Compiled) (params : Row) (e : Error) → RunsAlone false old new sql c params (Err e) → IsKept
  alone_failed sql c params e h = elim (cases_Bool (shows_rows false c)) [
    | inl shows ↦ inl (rw shows at h).1
    | inr runs ↦ refused sql c params e (rw runs at h)
  ]

  alone_open : (sql : List ℕ) (c : Compiled) (params : Row) (count : ℕ) → RunsAlone false old new sql c params (Ok count) → WasOpen
  alone_open sql c params count h = elim (cases_Bool (shows_rows false c)) [
    | inl shows ↦ λ open'. (rw shows at h).1.0.was_open
    | inr runs ↦ runs_open c.returning c.command _ params count (rw runs at h)
  ]

  -- a statement that failed leaves the database as it was, or rolled back
  pub execute_failed : (sql : List ℕ) (params : Row) (e : Error) → Executes sql params old new (Err e) → IsKept
  unfolding ExecutesIn
  execute_failed sql params e (inl h) = not_run sql params e h
  execute_failed sql params e (inr h) = alone_failed sql h.0 _ e h.2

  -- a database that is open behind a statement was open before
  pub execute_open : (sql : List ℕ) (params : Row) (r : Result ℕ Error) → Executes sql params old new r → WasOpen
  unfolding ExecutesIn
  execute_open sql params (Ok count) h = alone_open sql h.0 _ count h.2
  execute_open sql params (Err e) h = kept_open (execute_failed sql params e h)

  unchanged_shown : (sql : List ℕ) (c : Compiled) (params : Row) (rows : List Row) (returning : Option Returning) → returning ≡ None
      → ShowsRows old new sql c params rows returning → IsUnchanged old new
  unchanged_shown sql c params rows None none h = h.3
  unchanged_shown sql c params rows (Some what) none h = absurd cc

  -- a plain query leaves the database as it was
  pub rows_unchanged : (sql : List ℕ) (params : Row) (rows : List Row) → IsPlain (understood old.now.schema sql)
      → Shown sql params old new rows → IsUnchanged old new
  unfolding Shown
  rows_unchanged sql params rows plain h = unchanged_shown sql h.0 _ rows h.0.returning (subst IsPlain h.1.is plain).0 h.2

  -- a database in which a query found a row was open, if it is open now
  pub query_found : (sql : List ℕ) (params : Row) (row : Row) → QueriesRow sql params old new (Ok row) → IsTrue new.is_open
      → IsTrue old.is_open
  query_found sql params row h = query_open sql params (Ok row) h

  -- a query leaves all as it was, or fails
  pub query_kept : (sql : List ℕ) (params : Row) (r : Result Row Error) → IsPlain (understood old.now.schema sql)
      → QueriesRow sql params old new r → IsKept
  unfolding QueriesRow
  query_kept sql params (Ok row) plain (inl h) = inl h.1
  query_kept sql params (Ok row) plain (inr h) = inl (rows_unchanged sql params h.0 plain h.1)
  query_kept sql params (Err e) plain (inl h) = query_failed sql params e h
  query_kept sql params (Err e) plain (inr h) = inl (rows_unchanged sql params [] plain h.1)
