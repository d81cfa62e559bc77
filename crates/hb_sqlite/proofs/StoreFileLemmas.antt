-- What an opening finds in the files of a store.
use Rattle.std.proofs.Common.{◌≡◌, ℤ, pos, Result, Ok, Err, IfOk, sym, ap, subst, ◌∙◌}
use Rattle.sqlite_wal.specs.Recovery.{Image}
use Rattle.sqlite_trees.specs.Tree.{Trees}
use Rattle.sqlite_trees.specs.Objects.{catalog_tree}
use Rattle.sqlite_schema.specs.declared.schema.Schema.{Schema}
use Rattle.sqlite_catalog.specs.Listing.{Lists}
use Rattle.sqlite_catalog.proofs.ReadLemmas.{lists_once}
use Rattle.sqlite.specs.Effect.{Database}
use Rattle.sqlite.specs.Files.{HoldsDatabase}
use Rattle.sqlite.specs.Start.{FindsIn}
use Rattle.sqlite.specs.State.{State, HasCleanDisk, Opens, IsLive}
use Rattle.hb_keeper.specs.KeptGames.{Content}
use Rattle.hb_sqlite.specs.Store.{store_schema}
use Rattle.hb_sqlite.specs.StoreTables.{Tells}
use Rattle.hb_sqlite.specs.Stages.{HoldsVersion, IsNewStore, no_schema}
use Rattle.hb_sqlite.specs.StoreSteps.{IsSure}
use Rattle.hb_sqlite.specs.StoreFiles.{FilesHold, FilesHoldNoTable, FilesHoldVersion}

module _ (s : State) (image : Image) (opens : Opens s) (live : IsLive s) (found : FindsIn image s) where
  -- an opening finds the trees of the files
  trees_found : (db : Trees) → HoldsDatabase image db → s.now.trees ≡ db
  trees_found db holds = ap (λ (d : Database). d.trees) opens.clean ∙ found.holds db holds

  -- and the schema that they list
  schema_found : (db : Trees) → HoldsDatabase image db → (schema : Schema) → Lists (db catalog_tree) schema → s.now.schema ≡ schema
  schema_found db holds schema lists =
      lists_once (db catalog_tree) s.now.schema schema (subst (λ (t : Trees). Lists (t catalog_tree) s.now.schema) (trees_found db holds)
      (live opens.is_open).0.lists) lists

  -- so it tells the content that the files hold
  pub content_found : (content : Content) → FilesHold image content → Tells s content
  content_found content holds =
      let same = trees_found holds.0 holds.1 in
      record {
        schema = schema_found holds.0 holds.1 store_schema holds.2.listed;
        settled = sym opens.clean;
        autocommit = opens.autocommit;
        version = ap (λ (t : Trees). t 0) same ∙ holds.2.version;
        runs = ap (λ (t : Trees). t 1) same ∙ holds.2.runs;
        few = holds.2.few;
        games = ap (λ (t : Trees). t 2) same ∙ holds.2.games;
        seats = ap (λ (t : Trees). t 4) same ∙ holds.2.seats;
      }

  -- its version
  pub version_found_in : (n : ℤ) → FilesHoldVersion image n → HoldsVersion s n
  version_found_in n holds = record {
    schema = schema_found holds.0 holds.1 store_schema holds.2;
    version = ap (λ (t : Trees). t 0) (trees_found holds.0 holds.1) ∙ holds.3;
  }

  -- or no table
  pub no_table_found : FilesHoldNoTable image → s.now.schema ≡ no_schema
  no_table_found holds = schema_found holds.0 holds.1 no_schema holds.2

module _ {A E : Type 0} (s : State) (image : Image) (state_of : A → State) where
  -- a keeper over what was opened tells what the files hold
  pub content_opened : (r : Result A E) → (HasCleanDisk s → Opens s × IsLive s) → (HasCleanDisk s → FindsIn image s)
      → IfOk r (λ k. HasCleanDisk (state_of k) → HasCleanDisk s)
      → IfOk r (λ k. IsSure (state_of k) → (content : Content) → Tells s content → Tells (state_of k) content)
      → IfOk r (λ k. IsSure (state_of k) → (content : Content) → FilesHold image content → Tells (state_of k) content)
  content_opened (Ok k) opened found clean kept = λ sure content holds.
      let early = clean sure.clean in
      kept sure content (content_found s image (opened early).0 (opened early).1 (found early) content holds)
  content_opened (Err e) opened found clean kept = tt

  -- is new if they hold no table
  pub no_table_opened : (r : Result A E) → (HasCleanDisk s → Opens s × IsLive s) → (HasCleanDisk s → FindsIn image s)
      → IfOk r (λ k. HasCleanDisk (state_of k) → HasCleanDisk s)
      → IfOk r (λ k. HasCleanDisk (state_of k) → s.now.schema ≡ no_schema → IsNewStore (state_of k))
      → IfOk r (λ k. HasCleanDisk (state_of k) → FilesHoldNoTable image → IsNewStore (state_of k))
  no_table_opened (Ok k) opened found clean new = λ sure holds.
      let early = clean sure in
      new sure (no_table_found s image (opened early).0 (opened early).1 (found early) holds)
  no_table_opened (Err e) opened found clean new = tt

  -- and is there only for version 1
  pub version_opened : (r : Result A E) → (HasCleanDisk s → Opens s × IsLive s) → (HasCleanDisk s → FindsIn image s)
      → IfOk r (λ k. HasCleanDisk (state_of k) → HasCleanDisk s)
      → IfOk r (λ k. HasCleanDisk (state_of k) → (n : ℤ) → HoldsVersion s n → n ≡ pos 1)
      → IfOk r (λ k. HasCleanDisk (state_of k) → (n : ℤ) → FilesHoldVersion image n → n ≡ pos 1)
  version_opened (Ok k) opened found clean version = λ sure n holds.
      let early = clean sure in
      version sure n (version_found_in s image (opened early).0 (opened early).1 (found early) n holds)
  version_opened (Err e) opened found clean version = tt
