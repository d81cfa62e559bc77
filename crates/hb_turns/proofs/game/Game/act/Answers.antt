use Rattle.hb_turns.proofs.game.Game.act.Goals as goal

pub returns-clause-drawn : goal.returns-clause-drawn
returns-clause-drawn c = c.drawn-drawn.ensures c.args.who
