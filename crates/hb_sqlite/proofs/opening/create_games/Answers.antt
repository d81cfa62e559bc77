use Rattle.sqlite.specs.Held.{state}
use Rattle.hb_sqlite.specs.Stages.{HasRuns, HasGames}
use Rattle.hb_sqlite.proofs.SchemaLemmas.{to_stage, stage_games}
use Rattle.hb_sqlite.proofs.opening.create_games.Goals as goal

pub returns-clause-made : goal.returns-clause-made
returns-clause-made g c =
    to_stage (state g.S.Store c.args.tx.now.conn.now) (state g.S.Store c.execute.new.self.conn.now) _ HasRuns HasGames c.execute.result
    c.execute.ensures.survives.clean (λ count before h. stage_games _ _ count before h) (λ before. before.inside) c.execute.ensures.runs
