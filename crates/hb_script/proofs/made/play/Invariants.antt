use Rattle.std.proofs.Common.{◌≡◌, ◌-◌, length}
use Rattle.hb_rules.specs.Positions.{IsLegal}
use Rattle.hb_script.specs.MadeActs.{played_on}
use Rattle.hb_script.specs.MadeScripts.{table_asks}
use Rattle.hb_script.specs.MadeTables.{HasAsked}
use Rattle.hb_script.proofs.made.play.Given as goal

abbrev pub invariant-loop-taken : goal.invariant-loop-taken
invariant-loop-taken l = record {
  setup : l.game.setup ≡ l.initial.game.setup;
  legal : IsLegal l.game;
  acts : length l.game.past ≡ l.taken;
  played : played_on 160 l.initial.game ≡ played_on (160 - l.taken) l.game;
  asked : HasAsked l.lines l.initial.lines.table (table_asks l.game.setup.players l.game.past);
}
