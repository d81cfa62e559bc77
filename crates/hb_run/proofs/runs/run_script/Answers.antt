use Rattle.std.proofs.Common.{rules, ◌∙◌, None, IsTrue, subst, false, sym}
use Rattle.std.proofs.lemmas.Bool.{true≢false}
use Rattle.hb_club.specs.Fronts.{no_events}
use Rattle.hb_run.specs.RunLines.{first_state}
use Rattle.hb_run.proofs.RunsLemmas.{left-all, left-some, nothing-run, only-then}
use Rattle.hb_run.proofs.runs.run_script.Goals as goal

pub returns-in_default-clause-err : goal.returns-in_default-clause-err
returns-in_default-clause-err g c = λ f k stood told sure.
    nothing-run _ _ _ _ c.args.lines.now _ _ (record {
      outside = record { stands_for = stood; told = told };
      fault = λ met. absurd (true≢false (sym met));
    })

pub returns-in-Ok-run-clause-ok : goal.returns-in-Ok-run-clause-ok
returns-in-Ok-run-clause-ok g c = λ f k stood told sure.
    left-all _ _ _ _ _ c.args.lines.now (first_state f k) _ _
    (λ s at. record { outside = at.outside; answer = c.failed.ensures ∙ at.inside.faulted })
    (c.in-Ok-run.ensures.ok (first_state f k)
    (record { outside = record { stands_for = stood; told = told }; inside = c.in-Ok.ensures (g.H.Hall.house c.args.hall.now) f k }) sure)

pub returns-in-Ok-run-clause-fault : goal.returns-in-Ok-run-clause-fault
returns-in-Ok-run-clause-fault g c = λ failed.
    let new = c.in-Ok.ensures (g.H.Hall.house c.args.hall.now) no_events (record { content = None; plan = None }) in
    only-then _ _ new.faulted (c.run.ensures.fault (subst IsTrue c.failed.ensures failed))

pub returns-clause-err : goal.returns-clause-err
returns-clause-err g c = λ f k stood told sure.
    let new = c.in-Ok.ensures (g.H.Hall.house c.args.hall.now) f k in
    left-some _ _ _ _ _ c.args.lines.now (first_state f k) _ _ _
    (λ s at. record {
      outside = at.outside;
      fault = λ met. only-then _ _ new.faulted (c.run.ensures.fault (subst IsTrue (sym at.inside.faulted) met));
    })
    (c.in-Err.ensures.err (first_state f k) (record { outside = record { stands_for = stood; told = told }; inside = new }) sure)
