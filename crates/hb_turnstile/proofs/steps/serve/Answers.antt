use Rattle.std.proofs.Common.{rules, ◌≡◌, [], ◌∷◌, ◌++◌, Some, ap, sym, ◌∙◌, subst}
use Rattle.hb_turnstile.specs.History.{entry, Leads}
use Rattle.hb_turnstile.proofs.Histories.{leads-push}
use Rattle.hb_turnstile.proofs.Calling.{only_slot}
use Rattle.hb_turnstile.proofs.steps.serve.Goals as goal

pub exchange-requires : goal.exchange-requires
exchange-requires g c = (search rules, (_, only_slot _ _ c.requires.inside.3))

pub hand_on-requires-clause-turned : goal.hand_on-requires-clause-turned
hand_on-requires-clause-turned g c =
    let start = c.args.table.now.key.value in
    let is : c.requires.inside.1 ≡ c.in-Some.machine = search rules in
    let same : c.exchange-2.new.seat.me.0 ≡ c.args.seat.now.me.0 = search rules in
    let back : c.exchange-2.new.seat.me.1 ≡ (0, Some c.turn-reply.new.self) ∷ [] = search rules in
    let before = subst (Leads g.M.Machine.turns start c.args.seat.now.me.0.seen) is c.requires.inside.4 in (
      c.requires.inside.0,
      c.turn-reply.new.self,
      ap (λ v. v.stage) same ∙ c.requires.inside.2,
      back,
      subst
          (λ v.
          Leads g.M.Machine.turns start (v.seen ++ entry v.number c.args.call.now c.turn-reply.result ∷ [])
          c.turn-reply.new.self)
          (sym same)
          (leads-push _ _ _ _ _ _ _ _ before c.turn-reply.ensures),
    )
