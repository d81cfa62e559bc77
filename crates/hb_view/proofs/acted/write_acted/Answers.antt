use Rattle.std.proofs.Common.{◌≡◌, ◌∙◌, ap, true, None, arith}
use Rattle.std.specs.Prelude.{is_some}
use Rattle.hb_rules.specs.Positions.{rule}
use Rattle.hb_view.proofs.ActTextLemmas.{acted-kept, acted-legal, acted-nowhere, acted-writes}
use Rattle.hb_view.proofs.ShownGameLemmas.{not-both}
use Rattle.hb_view.proofs.acted.write_acted.Goals as goal

pub returns-in_default : goal.returns-in_default
returns-in_default c = acted-nowhere c.args.a.now c.args.act c.args.moment c.args.next.now c.args.out.now c.in_default.is

pub returns-in_default-game : goal.returns-in_default-game
returns-in_default-game c = λ w more before is shows all so.
    absurd (acted-kept c.args.a.now c.in-Some.whole c.args.act c.args.moment c.args.next.now w more before c.in-Some.is
    c.players-players.ensures.played c.in_default-game.is is shows all so)

pub returns-then-is_some : goal.returns-then-is_some
returns-then-is_some c = λ w more before is shows all so.
    let legal : rule c.in-Some-game.game c.args.act ≡ None =
    acted-legal c.args.a.now c.in-Some.whole c.in-Some-game.game c.args.act c.args.moment c.args.next.now w more before c.in-Some.is
    c.players-players.ensures.played c.in-Some-game.is is shows all so in
    let some : is_some c.broken.result ≡ true = grind (arith, c.is_some.ensures, c.if-is_some.true) in
    absurd (not-both some (ap is_some (c.broken.ensures ∙ legal)))

pub returns : goal.returns
returns c = rw c.in_ok-next.ensures.next
    (acted-writes c.args.a.now c.in-Some.whole c.in-Some-game.game c.args.act c.args.moment c.args.next.now c.in_ok-next.field-0
    c.args.out.now c.push_act.new.out c.in-Some.is c.players-players.ensures.played c.in-Some-game.is
    (λ seat same. c.in_ok-next.ensures.texts seat (c.players-players.ensures.players ∙ same)) c.in_ok-next.ensures.clock)
