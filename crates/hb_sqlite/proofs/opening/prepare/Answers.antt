use Rattle.std.proofs.Common.{◌∙◌}
use Rattle.sqlite.specs.Held.{state}
use Rattle.sqlite.specs.State.{HasCleanDisk}
use Rattle.hb_sqlite.specs.Stages.{IsNewStore}
use Rattle.hb_sqlite.proofs.OpenLemmas.{opens_made, no_schema-empty, store_schema-some}
use Rattle.hb_sqlite.proofs.opening.prepare.Goals as goal
use Rattle.hb_sqlite.proofs.opening.prepare.Goals.{then-is_empty+in_ok-make_tables, else-is_empty}

pub returns-clause-made : goal.returns-clause-made
returns-clause-made g c = λ clean blank. elim c.if-is_empty.branch [
  | then-is_empty+in_ok-make_tables w ↦
      let made : HasCleanDisk (state g.S.Store c.if-is_empty.conn) → IsNewStore (state g.S.Store c.if-is_empty.conn) =
      rw w.conn-is (λ clean. w.in_ok-make_tables.ensures.made clean blank) in
      opens_made (state g.S.Store c.if-is_empty.conn) (state g.S.Store c.check_version.new.conn) c.check_version.result made
      c.check_version.ensures.clean c.check_version.ensures.kept c.check_version.ensures.version clean
  | else-is_empty w ↦
      absurd (no_schema-empty c.schema.result.now c.as_slice.result.now c.as_slice.ensures (c.schema.ensures.value ∙ blank)
      w.if-is_empty.ensures)
]

pub returns-clause-version : goal.returns-clause-version
returns-clause-version g c = λ clean n holds. elim c.if-is_empty.branch [
  | then-is_empty+in_ok-make_tables w ↦
      absurd
      (store_schema-some c.schema.result.now c.as_slice.result.now c.as_slice.ensures (c.schema.ensures.value ∙ holds.schema)
      w.if-is_empty.ensures)
  | else-is_empty w ↦
      c.check_version.ensures.version clean n (rw w.conn-is holds)
]
