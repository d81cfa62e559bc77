-- The calls on runs, step by step.
use Rattle.std.proofs.Common.{◌≡◌, ℕ, ◌≤◌, pos, [], ◌∷◌, Ok, Err, Result, sym, subst, ◌∙◌, arith}
use Rattle.std.specs.Prelude.{⊤}
use Rattle.sqlite_value.specs.declared.value.Value.TheVariants.{Int}
use Rattle.sqlite_value.specs.Order.{Row}
use Rattle.sqlite_trees.specs.View.{doubt}
use Rattle.sqlite.specs.declared.error.Error.{Error}
use Rattle.sqlite.specs.Listing.{understood}
use Rattle.sqlite.specs.State.{State, HasCleanDisk, Executes, QueriesRow}
use Rattle.sqlite.proofs.Callers.{IsPlain, runs_as}
use Rattle.sqlite_schema.specs.declared.command.Command.TheVariants.{Update}
use Rattle.hb_keeper.specs.KeptGames.{Content}
use Rattle.hb_sqlite.specs.Store.{store_schema}
use Rattle.hb_sqlite.specs.StoreSteps.{IsSure, Does, Reads}
use Rattle.hb_sqlite.proofs.Texts.{read_run_text, write_run_text, read_run_plain, write_run, write_run_is, write_run_plain}
use Rattle.hb_sqlite.proofs.RunLemmas.{reads_run, writes_run}
use Rattle.hb_sqlite.proofs.States.{query_open, query_kept, kept_tells, execute_open, execute_failed}

clean_before : (old new : State) → doubt old.is_clean ≤ doubt new.is_clean → IsSure new → HasCleanDisk old
clean_before old new less sure = let c = sure.clean in omega (arith, c, less)

-- what the query for the last run answers
pub last_row : (old new : State) (r : Result Row Error) → doubt old.is_clean ≤ doubt new.is_clean → (HasCleanDisk new
    → QueriesRow read_run_text [] old new r)
    → Reads old new (λ content row. row ≡ Int (pos content.last_run) ∷ []) r
last_row old new (Ok row) less h = record {
  sure = λ sure. record {
    clean = clean_before old new less sure;
    is_open = query_open old new read_run_text [] (Ok row)
        (h sure.clean) sure.is_open;
  };
  found = λ sure content tells. reads_run old new content.last_run row tells.schema tells.runs (h sure.clean);
  done = λ sure content tells. kept_tells old new content (query_kept old new read_run_text [] (Ok row)
      (subst (λ s. IsPlain (understood s read_run_text)) (sym tells.schema) read_run_plain) (h sure.clean)) sure.is_open tells;
  failed = λ sure content tells. tt;
}
last_row old new (Err e) less h = record {
  sure = λ sure. record {
    clean = clean_before old new less sure;
    is_open = query_open old new read_run_text [] (Err e)
        (h sure.clean) sure.is_open;
  };
  found = λ sure content tells. tt;
  done = λ sure content tells. tt;
  failed = λ sure content tells. kept_tells old new content (query_kept old new read_run_text [] (Err e)
      (subst (λ s. IsPlain (understood s read_run_text)) (sym tells.schema) read_run_plain) (h sure.clean)) sure.is_open tells;
}

with_last : ℕ → Content → Content
with_last run content = record content { last_run = run }

-- what the statement that sets the last run leaves
pub wrote_run : (old new : State) (run : ℕ) (r : Result ℕ Error) → doubt old.is_clean ≤ doubt new.is_clean → (HasCleanDisk new
    → Executes write_run_text (Int (pos run) ∷ []) old new r)
    → Does old new (λ content count. ⊤) (λ content. record content { last_run = run }) r
wrote_run old new run (Ok count) less h = record {
  sure = λ sure. record {
    clean = clean_before old new less sure;
    is_open = execute_open old new write_run_text _ (Ok count)
        (h sure.clean) sure.is_open;
  };
  found = λ sure content tells. tt;
  done = λ sure content tells.
      let it = writes_run old new content.last_run run count tells.schema tells.runs (h sure.clean) in
      let w = runs_as write_run_text (Int (pos run) ∷ []) old new store_schema tells.schema
      (Update 1 (record { lets = []; body = write_run })) write_run_is write_run_plain count (h sure.clean) in
      record {
        schema = it.0;
        settled = w.shown.committed_is ∙ rw tells.autocommit;
        autocommit = w.shown.mode ∙ tells.autocommit;
        version = it.2.version ∙ tells.version;
        runs = it.1;
        few = tells.few;
        games = it.2.games ∙ tells.games;
        seats = rw it.2.seats tells.seats;
      };
  failed = λ sure content tells. tt;
}
wrote_run old new run (Err e) less h = record {
  sure = λ sure. record {
    clean = clean_before old new less sure;
    is_open = execute_open old new write_run_text _ (Err e)
        (h sure.clean) sure.is_open;
  };
  found = λ sure content tells. tt;
  done = λ sure content tells. tt;
  failed = λ sure content tells. kept_tells old new content (execute_failed old new write_run_text _ e (h sure.clean)) sure.is_open tells;
}
