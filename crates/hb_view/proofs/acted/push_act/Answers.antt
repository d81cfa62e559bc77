use Rattle.std.proofs.Common.{◌∙◌, append_assoc}
use Rattle.hb_view.proofs.acted.push_act.Goals as goal

pub returns-clause-texts : goal.returns-clause-texts
returns-clause-texts c = λ low same.
    (rw (
      c.in_ok-push_act_events.ensures,
      c.next_events-events.ensures.told,
      c.blind_for-blind.ensures low,
      same,
      c.clock_if-shown.ensures,
      c.options.ensures,
      c.next_events-events.ensures.next,
    ) at c.in_ok-push_standing.ensures) ∙ append_assoc c.args.out.now _ _
