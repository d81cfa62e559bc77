use Rattle.std.proofs.Common.{rules, ap, ◌∙◌}
use Rattle.hb_turnstile.specs.declared.view.Stage.TheVariants.{Waiting}
use Rattle.hb_turnstile.specs.Rule.{at_stage}
use Rattle.hb_turnstile.proofs.Calling.{call-is}
use Rattle.hb_turnstile.proofs.turnstile.Turnstile.call.Goals as goal

pub returns-clause-place : goal.returns-clause-place
returns-clause-place g c =
    let v = c.pass.inside.seat.me.0 in
    let drew = c.in-Some.ensures.some ∙ λ i. (at_stage (Waiting c.in-Some.ticket) v, c.pass.invariant.1 i) in
    call-is _ _ _ _ c.serve.new.seat.table_id v _ _ _ _ _ c.serve.new.seat.me.0 c.args.pass.now
    (ap (λ t. t.start) c.self.view_is) (search rules) c.pass.view_is
    drew
    c.wait_for.ensures.found
    c.serve.ensures.legal
    (ap (λ m. m.0) c.serve.ensures.handed)
