use Rattle.hb_script.proofs.MadeLegality.{clue-breaks_none, discard-breaks_none, end-breaks_none, play-breaks_none}
use Rattle.hb_script.proofs.choices.next_action.Goals as goal

pub returns-in-Some-clause-legal : goal.returns-in-Some-clause-legal
returns-in-Some-clause-legal c = play-breaks_none c.args.game.now c.in-Some.play c.requires.runs c.in-Some.ensures.is

pub returns-in-Some-rank_clue-clause-legal : goal.returns-in-Some-rank_clue-clause-legal
returns-in-Some-rank_clue-clause-legal c =
    clue-breaks_none c.args.game.now c.in-Some-rank_clue.clue c.fitting_play.ensures.played.fair c.requires.variant
    c.requires.runs c.in-Some-rank_clue.ensures

pub returns-in-Some-lowest_discard-clause-legal : goal.returns-in-Some-lowest_discard-clause-legal
returns-in-Some-lowest_discard-clause-legal c =
    discard-breaks_none c.args.game.now c.in-Some-lowest_discard.discard c.requires.runs c.in-Some-lowest_discard.ensures

pub returns-in-None-clause-legal : goal.returns-in-None-clause-legal
returns-in-None-clause-legal c = end-breaks_none c.args.game.now c.fitting_play.ensures.played.fair c.requires.runs
