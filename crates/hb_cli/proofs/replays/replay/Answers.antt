use Rattle.std.proofs.Common.{rules, inl, inr}
use Rattle.std.proofs.KnownBytes.{Appends-nil}
use Rattle.hb_house.proofs.ResultLemmas.{if_err, on_ok}
use Rattle.hb_cli.proofs.replays.replay.Goals as goal

pub returns-in-Ok-clause-ok : goal.returns-in-Ok-clause-ok
returns-in-Ok-clause-ok g c = λ words is.
    on_ok c.write.result (λ wrote. (c.in-Ok.text, c.in-Ok.ensures.text words is, (rw c.as_slice.ensures at wrote))) c.write.ensures.ok

pub returns-in-Ok-clause-stop : goal.returns-in-Ok-clause-stop
returns-in-Ok-clause-stop g c = λ words is.
    if_err c.write.result (λ why fails. inr (fails.0, (c.in-Ok.text, c.in-Ok.ensures.text words is, (rw c.as_slice.ensures at fails.1))))
    c.write.ensures.stop

pub returns-in-Err-clause-stop : goal.returns-in-Err-clause-stop
returns-in-Err-clause-stop g c = λ words is.
    inl (c.in-Err.ensures.stop words is, Appends-nil (g.O.Sink.held c.args.out.now))
