use Rattle.std.proofs.Common.{rules}
use Rattle.std.specs.Prelude.{◌≡◌}
use Rattle.hb_keeper.specs.KeptGames.{id_of}
use Rattle.hb_keeper.proofs.IdLemmas.{id_from-some}
use Rattle.hb_keeper.proofs.kept.Kept.id.Goals as goal

pub returns-clause-within : goal.returns-clause-within
returns-clause-within c =
    let found : c.copied.result ≡ id_of c.args.self.now c.args.key.now = search rules in
    id_from-some c.args.key.now c.args.self.now.rows c.copied.result found
