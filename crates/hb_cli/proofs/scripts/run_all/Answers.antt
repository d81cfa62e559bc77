use Rattle.std.proofs.Common.{ap}
use Rattle.std.proofs.KnownBytes.{Appends-nil}
use Rattle.std.specs.Prelude.{Err}
use Rattle.hb_keeper.specs.KeptGames.{open_run_on}
use Rattle.hb_cli.proofs.KeeperWorkLemmas.{halted, not_worn, ran, refused, run_refused, run_stops}
use Rattle.hb_cli.proofs.scripts.run_all.Goals as goal

pub returns-in-Err-clause-stop : goal.returns-in-Err-clause-stop
returns-in-Err-clause-stop g c = λ a asks.
    let nothing = Appends-nil (g.O.Sink.held c.args.out.now) in
    rw c.from.ensures (run_refused a _ _ _ _ c.in-Err.error (λ id e. c.in-Err.ensures.no_key id (ap Err e)) (
      c.args.script.now,
      asks,
      refused open_run_on _ _ _ _ _ c.in-Err.error _ c.in-Err.ensures.keeps c.in-Err.ensures.planned c.in-Err.ensures.plan nothing,
    )
    nothing)

pub returns-in-Ok-run_script-clause-ok : goal.returns-in-Ok-run_script-clause-ok
returns-in-Ok-run_script-clause-ok g c = λ a asks. (
  c.args.script.now,
  asks,
  ran _ _ _ _ _ _ _ _ _ c.args.script.now c.in-Ok.run' _ _ _ c.in-Ok-new.ensures.house c.in-Ok-new.ensures.count c.run_script.ensures.sure
      c.in-Ok.ensures.keeps c.in-Ok.ensures.plan c.in-Ok-new.ensures.empty c.in-Ok-run_script.faulted
      (λ f k stood told sure. rw c.as_slice.ensures at (c.in-Ok-run_script.ensures.ok f k stood told sure)),
)

pub returns-clause-stop : goal.returns-clause-stop
returns-clause-stop g c = λ a asks.
    rw c.stop_of.ensures (run_stops a _ _ _ _ c.in-Err-run_script.end (not_worn _ (λ e. c.in-Err-run_script.ensures.worn (cc e))) (
      c.args.script.now,
      asks,
      halted _ _ _ _ _ _ _ _ _ c.args.script.now c.in-Ok.run' _ _ _ c.in-Ok-new.ensures.house c.in-Ok-new.ensures.count
          c.run_script.ensures.sure c.in-Ok.ensures.keeps c.in-Ok.ensures.plan c.in-Ok-new.ensures.empty c.in-Err-run_script.end _ _
          (λ f k stood told sure. rw c.as_slice.ensures at (c.in-Err-run_script.ensures.err f k stood told sure)),
    ))
