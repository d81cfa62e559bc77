use Rattle.sqlite.specs.Held.{state}
use Rattle.hb_sqlite.specs.Stages.{HasSeats, HasFirstVersion}
use Rattle.hb_sqlite.proofs.SchemaLemmas.{to_stage, stage_first_version}
use Rattle.hb_sqlite.proofs.opening.insert_version.Goals as goal

pub returns-clause-made : goal.returns-clause-made
returns-clause-made g c =
    to_stage (state g.S.Store c.args.tx.now.conn.now) (state g.S.Store c.execute.new.self.conn.now) _ HasSeats HasFirstVersion
    c.execute.result
    c.execute.ensures.survives.clean (λ count before h. stage_first_version _ _ count before h) (λ before. before.inside)
    c.execute.ensures.runs
