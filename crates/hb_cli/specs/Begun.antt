-- What does a run of the program begin with, if it works with a keeper?
use Rattle.std.specs.Prelude.{ℕ}
use Rattle.std.specs.declared.result.Result.TheVariants.{Ok}
use Rattle.hb_keeper.specs.KeptGames.{open_run_on}
use Rattle.hb_house.specs.KeeperSteps.{Telling, Worked}

-- the keeper began a run of the server, with this number
pub record Begun (c : Telling) : Type 0 where
  pub run : ℕ
  pub keeper : Telling
  pub began : Worked open_run_on c (Ok run) keeper
