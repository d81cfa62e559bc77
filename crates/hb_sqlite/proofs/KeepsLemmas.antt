-- What a call keeps, by what its steps keep.
use Rattle.std.proofs.Common.{◌≡◌, ℕ, inl, inr, Some, Ok, Result, ap, subst, ◌∙◌}
use Rattle.sqlite.specs.State.{State}
use Rattle.hb_keeper.specs.declared.errors.KeepError.{KeepError}
use Rattle.hb_keeper.specs.declared.rows.Key.{Key}
use Rattle.hb_keeper.specs.declared.rows.GameRow.{GameRow}
use Rattle.hb_keeper.specs.KeptGames.{Content, id_of, put_by, put_on}
use Rattle.hb_keeper.specs.Told.{Keeps}
use Rattle.hb_sqlite.specs.StoreTables.{Tells}
use Rattle.hb_sqlite.specs.StoreSteps.{IsSure, Reads}

-- a put under the id that was found is the put under the key
pub keeps_put_by : {E : Type 0} (old mid new : State) (key : Key) (row : GameRow) (id : ℕ) (r : Result ℕ KeepError) → IsSure mid
    → Reads {E = E} old mid (λ content found. found ≡ id_of content key) (Ok (Some id))
    → Keeps (put_by (Some id) key row) (Tells mid) (Tells new) r
    → Keeps (put_on key row) (λ content. Tells old content) (λ content. Tells new content) r
keeps_put_by old mid new key row id r sure reads keeps =
    let same : (content : Content) → Tells old content → put_by (Some id) key row content ≡ put_on key row content =
    λ content tells. ap (λ found. put_by found key row content) (reads.found sure content tells) in
    record {
      done = λ content tells no_fault memory.
          let it = keeps.done content (reads.done sure content tells) no_fault memory in (
            it.0 ∙ ap (λ (w : Result ℕ KeepError × Content). w.0) (same content tells),
            subst (λ (w : Result ℕ KeepError × Content). Tells new w.1) (same content tells) it.1,
          );
      faulted = λ content tells is. elim (keeps.faulted content (reads.done sure content tells) is) [
        | inl kept ↦ inl kept
        | inr done ↦ inr (subst (λ (w : Result ℕ KeepError × Content). Tells new w.1) (same content tells) done)
      ];
      no_memory = λ content tells is. keeps.no_memory content (reads.done sure content tells) is;
    }
