use Rattle.std.proofs.Common.{◌∙◌, ap, arith}
use Rattle.hb_rules.specs.Positions.{score}
use Rattle.hb_script.specs.MadeActs.{played_on}
use Rattle.hb_script.specs.MadeScripts.{table_asks}
use Rattle.hb_script.proofs.MadePlay.{asks-length, number-low}
use Rattle.hb_script.proofs.made.made_table.Goals as goal

pub closed-requires : goal.closed-requires
closed-requires c =
    let players = c.in_ok-game.game.setup.players in
    let past = c.play.new.game.past in
    let all = asks-length players past in
    number-low c.play.new.lines c.in_ok-lines.lines.table 0 (table_asks players past) c.in_ok-play.ensures.asked
    (omega (arith, all, c.act_count-acts.ensures.few, c.players.ensures.played.fair.six))

pub returns-clause-score : goal.returns-clause-score
returns-clause-score c =
    c.score-score.ensures.score ∙ ap score (c.in_ok-play.ensures.played ∙ ap (played_on 160) c.in_ok-game.ensures.start)
