use Rattle.std.proofs.Common.{Err, ap, inl}
use Rattle.hb_hall.specs.TurnFronts.{house_of}
use Rattle.hb_server.proofs.OpeningLemmas.{began-run, opens-house, refused-none, refused-run, seed-of}
use Rattle.hb_server.proofs.houses.open_house.Goals as goal

pub returns-in-Err-clause-none : goal.returns-in-Err-clause-none
returns-in-Err-clause-none g c =
    rw c.not_begun.ensures (refused-none _ _ _ c.in-Err.error (λ id e. c.in-Err.ensures.no_key id (ap Err e))
    (refused-run _ _ _ _ _ c.in-Err.error c.in-Err.ensures.keeps c.in-Err.ensures.planned c.in-Err.ensures.plan))

pub returns-in_default-clause-none : goal.returns-in_default-clause-none
returns-in_default-clause-none g c = began-run _ _ _ _ _ c.in-Ok.run' c.in-Ok.ensures.keeps c.in-Ok.ensures.plan

pub returns-in-Ok-new-clause-opened : goal.returns-in-Ok-new-clause-opened
returns-in-Ok-new-clause-opened g c =
    let made = c.in-Ok-new.ensures.house in
    let h = house_of c.in-Ok-new.hall in
    let told = g.Z.Dice.next c.args.dice.now in
    opens-house _ _ _ _ _ c.in-Ok.run' told h c.in-Ok.ensures.keeps c.in-Ok.ensures.plan made.run
    (seed-of told h.seed c.in-Ok-seed.seed made.seed c.in-Ok-seed.ensures.next) made.written

pub returns-clause-none : goal.returns-clause-none
returns-clause-none g c = inl (began-run _ _ _ _ _ c.in-Ok.run' c.in-Ok.ensures.keeps c.in-Ok.ensures.plan)
