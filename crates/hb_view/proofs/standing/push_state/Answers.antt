use Rattle.hb_view.proofs.standing.push_state.Goals as goal

pub returns : goal.returns
returns c = rw (c.from_string.ensures, c.in_ok-text.ensures c.args.blind.bits) at c.push.ensures.ok
