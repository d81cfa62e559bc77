-- How a store is opened, step by step.
use Rattle.std.proofs.Common.{◌≡◌, ◌≤◌, ℤ, pos, List, [], ◌∷◌, length, true, false, Ok, Err, Result, IsTrue, IfOk, IfErr, refl, sym, ap, subst, ◌∙◌, arith}
use Rattle.std.specs.Prelude.{◌==◌, ⊤}
use Rattle.sqlite_schema.specs.declared.schema.Schema.{Schema}
use Rattle.sqlite_schema.specs.declared.schema.Table.{Table}
use Rattle.sqlite_value.specs.declared.value.Value.TheVariants.{Int}
use Rattle.sqlite_value.specs.Order.{Row}
use Rattle.sqlite_trees.specs.View.{doubt}
use Rattle.sqlite.specs.declared.error.Error.{Error}
use Rattle.sqlite.specs.Listing.{understood}
use Rattle.sqlite.specs.State.{State, HasCleanDisk, Shown, Shows, FailsToQuery}
use Rattle.sqlite.proofs.Callers.{IsPlain}
use Rattle.hb_sqlite.specs.declared.errors.OpenError.{OpenError}
use Rattle.hb_keeper.specs.KeptGames.{Content}
use Rattle.hb_sqlite.specs.Store.{store_schema}
use Rattle.hb_sqlite.specs.StoreTables.{Tells}
use Rattle.hb_sqlite.specs.StoreSteps.{Reads}
use Rattle.hb_sqlite.specs.Stages.{Reaches, HasNoTable, HasFirstRun, HoldsVersion, IsNewStore, OpensNew, OpensVersion, no_schema, nothing_kept}
use Rattle.hb_sqlite.proofs.States.{rows_unchanged}
use Rattle.hb_sqlite.proofs.Gets.{all_rows}
use Rattle.hb_sqlite.proofs.SchemaLemmas.{finds_version, made_store, read_version_text, read_version_plain}

-- the query of the version changes nothing
pub version_kept : {A : Type 0} (items : A → List Row) (old new : State) (r : Result A Error) → doubt old.is_clean ≤ doubt new.is_clean
    → (HasCleanDisk new → IfOk r (λ rows. Shown read_version_text [] old new (items rows)))
    → (HasCleanDisk new → IfErr r (FailsToQuery read_version_text [] old new)) → Reads old new (λ _ _. ⊤) r
version_kept items old new r less =
    all_rows old new read_version_text [] read_version_plain (λ content all. ⊤) (λ content all tells h. tt) less items r

-- and shows the version
pub version_found : {A : Type 0} (items : A → List Row) (old new : State) (r : Result A Error)
    → (HasCleanDisk new → IfOk r (λ rows. Shown read_version_text [] old new (items rows)))
    → HasCleanDisk new → (n : ℤ) → HoldsVersion old n → IfOk r (λ rows. (items rows ≡ (Int n ∷ []) ∷ []) × IsTrue new.is_open)
version_found items old new (Ok rows) ok clean n holds =
    let plain = subst (λ s. IsPlain (understood s read_version_text)) (sym holds.schema) read_version_plain in (
      finds_version old new n (items rows) holds (ok clean),
      (rows_unchanged old new read_version_text [] (items rows) plain
          (ok clean)).0.is_open,
    )
version_found items old new (Err e) ok clean n holds = tt

-- the tables are made and committed
pub new-store-made : {A E : Type 0} (start mid end : State) (x : A) → doubt mid.is_clean ≤ doubt end.is_clean
    → Reaches {A = A} {E = E} (record start { in_transaction = true }) mid HasNoTable HasFirstRun (Ok x)
    → (HasCleanDisk end → Shows mid end mid.now mid.now false) → HasCleanDisk end → start.now.schema ≡ no_schema → IsNewStore end
new-store-made start mid end x less fills ends clean blank =
    made_store mid end (fills.done (omega (arith, clean, less)) (record { inside = refl; has = blank; rows = tt })) (ends clean)

-- a content that is told is that of a store of version 1
pub told_version : (s : State) (content : Content) → Tells s content → HoldsVersion s (pos 1)
told_version s content tells = record { schema = tells.schema; version = tells.version }

-- a new store is opened as one
pub opens_new : {A : Type 0} (mid new : State) (r : Result A OpenError) → IsNewStore mid → Reads mid new (λ _ _. ⊤) r
    → OpensVersion (pos 1) new r → HasCleanDisk new → OpensNew new r
opens_new mid new (Ok x) made reads opens clean = record {
  ok = record { is_open = opens.ok.1; tells = reads.done (record { clean = clean; is_open = opens.ok.1 }) nothing_kept made.tells };
  version = λ n is. (let bad = is in cc);
}
opens_new mid new (Err e) made reads opens clean = record { ok = tt; version = λ n is. (opens.version n is).1 refl }

-- a store that was made is opened
pub opens_made : {A : Type 0} (mid new : State) (r : Result A OpenError) → (HasCleanDisk mid → IsNewStore mid)
    → (HasCleanDisk new → HasCleanDisk mid) → Reads mid new (λ _ _. ⊤) r
    → (HasCleanDisk new → (n : ℤ) → HoldsVersion mid n → OpensVersion n new r) → HasCleanDisk new → OpensNew new r
opens_made mid new r made before reads opens clean =
    let it = made (before clean) in
    opens_new mid new r it reads (opens clean (pos 1) (told_version mid nothing_kept it.tells)) clean

-- a number that is read in an open store
pub number_open : {E : Type 0} (r : Result ℤ E) (n : ℤ) (s : State) → IfOk r (λ version. version ≡ n) → IsTrue s.is_open
    → IfOk r (λ version. (version ≡ n) × IsTrue s.is_open)
number_open (Ok version) n s is open' = (is, open')
number_open (Err e) n s is open' = tt

-- a store without tables is seen to have none
pub no_schema-empty : (schema : Schema) (tables : List Table) → tables ≡ schema.tables → schema ≡ no_schema
    → false ≡ (length tables == 0) → ⊥
no_schema-empty schema tables same is test =
    let none : tables ≡ [] = same ∙ ap (λ (s : Schema). s.tables) is in
    let bad : false ≡ true = test ∙ ap (λ (t : List Table). length t == 0) none in
    cc

-- a store with the tables is seen to have some
pub store_schema-some : (schema : Schema) (tables : List Table) → tables ≡ schema.tables → schema ≡ store_schema
    → true ≡ (length tables == 0) → ⊥
store_schema-some schema tables same is test =
    let some : tables ≡ store_schema.tables = same ∙ ap (λ (s : Schema). s.tables) is in
    let bad : true ≡ false = test ∙ ap (λ (t : List Table). length t == 0) some in
    cc
