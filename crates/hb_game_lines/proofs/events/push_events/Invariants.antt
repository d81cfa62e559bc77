use Rattle.std.proofs.Common.{◌≡◌, ◌-◌, ◌++◌, length, drop}
use Rattle.hb_rules.specs.Events.{observation}
use Rattle.hb_wire.specs.Lines.{event_lines}
use Rattle.hb_game_lines.proofs.events.push_events.Given as goal

abbrev pub invariant-loop-i : goal.invariant-loop-i
invariant-loop-i l = record {
  now : l.now ≡ record { setup = l.game.setup; past = drop (length l.game.past - l.i) l.game.past };
  written : l.out ≡ l.fn.out
      ++ event_lines (observation l.blind.bits l.game.setup (drop (length l.game.past - l.i) l.game.past));
}
