use Rattle.std.proofs.Common.{rules}
use Rattle.std.proofs.KnownBytes.{Appends-nil}
use Rattle.hb_cli.proofs.WorksLemmas.{is_script_asked, unread_stops}
use Rattle.hb_cli.proofs.scripts.script.Goals as goal

pub returns-in-Err-clause-stop : goal.returns-in-Err-clause-stop
returns-in-Err-clause-stop g c = λ store words is.
    rw c.from.ensures (unread_stops (record { words = words; told = g.S.Source.left c.args.source.now }) _ _ _ _ store c.in_ok-input.input
    c.in-Err.error is (search rules) (search rules) (search rules) (Appends-nil (g.O.Sink.held c.args.out.now)))

pub returns-clause-ok : goal.returns-clause-ok
returns-clause-ok g c = λ store words is.
    c.run_all.ensures.ok (record { words = words; told = g.S.Source.left c.args.source.now })
    (is_script_asked _ store c.in_ok-input.input c.in-Ok.script is (search rules) (search rules) (search rules))

pub returns-clause-stop : goal.returns-clause-stop
returns-clause-stop g c = λ store words is.
    c.run_all.ensures.stop (record { words = words; told = g.S.Source.left c.args.source.now })
    (is_script_asked _ store c.in_ok-input.input c.in-Ok.script is (search rules) (search rules) (search rules))
