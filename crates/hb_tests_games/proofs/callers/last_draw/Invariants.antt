use Rattle.std.proofs.Common.{◌≡◌, ◌-◌, length, drop}
use Rattle.hb_tests_games.proofs.callers.last_draw.Given as goal

-- the game that goes on is that of the acts so far
abbrev pub invariant-loop-i : goal.invariant-loop-i
invariant-loop-i l = l.now ≡ record { setup = l.game.setup; past = drop (length l.game.past - l.i) l.game.past }
