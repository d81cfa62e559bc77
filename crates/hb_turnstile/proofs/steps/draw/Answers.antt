use Rattle.std.proofs.Common.{rules, ◌≡◌, ◌<◌, refl, ap, ◌∙◌}
use Rattle.hb_turnstile.specs.declared.turnstile.TheConstants.{MOST_TICKETS}
use Rattle.hb_turnstile.specs.declared.view.Stage.TheVariants.{Idle}
use Rattle.hb_turnstile.proofs.DrawsLemmas.{load_ticket-allowed, draw-allowed}
use Rattle.hb_turnstile.proofs.steps.draw.Goals as goal

pub load-ticket-requires : goal.load-ticket-requires
load-ticket-requires g c = (search rules, search rules, load_ticket-allowed _ _ _ _ _)

pub compare_exchange-requires : goal.compare_exchange-requires
compare_exchange-requires g c =
    let small : c.load-ticket.result < MOST_TICKETS = search rules in
    let same = c.load-ticket.ensures.2.1 small ∙ c.loop.invariant.1 in
    let idle : c.load-ticket.new.seat.me.0.stage ≡ Idle = ap (λ m. m.0.stage) same ∙ c.requires.idle in
    (search rules, search rules, draw-allowed _ _ _ _ _ _ _ small refl idle)
