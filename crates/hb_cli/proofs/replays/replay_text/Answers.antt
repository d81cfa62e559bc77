use Rattle.std.proofs.Common.{rules}
use Rattle.hb_cli.proofs.AskedLemmas.{IsStop-output, IsText-output}
use Rattle.hb_cli.proofs.replays.replay_text.Goals as goal

pub returns-clause-text : goal.returns-clause-text
returns-clause-text g c = λ words is.
    IsText-output (record { words = words; told = g.S.Source.left c.args.source.now }) c.args.command c.in_ok-input.input
    c.in_ok-replay.replay c.output.result is (search rules) (search rules) (search rules) c.output.ensures.text

pub returns-clause-stop : goal.returns-clause-stop
returns-clause-stop g c = λ words is.
    IsStop-output (record { words = words; told = g.S.Source.left c.args.source.now }) c.args.command c.in_ok-input.input
    c.in_ok-replay.replay c.output.result is (search rules) (search rules) (search rules) c.output.ensures.stop
