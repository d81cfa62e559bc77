use Rattle.std.proofs.Common.{◌++◌, ◌∷◌, [], List, ℕ, sym, ◌∙◌, subst, ap, append-nil}
use Rattle.hb_house.proofs.ResultLemmas.{if_ok, if_ok_both}
use Rattle.hb_talk.specs.declared.errands.Errand.TheVariants as errand
use Rattle.hb_desk.specs.declared.desks.Desk.{Desk}
use Rattle.hb_desk.specs.AnswerSteps.{IsFor}
use Rattle.hb_desk.specs.Desks.{DeskTurned}
use Rattle.hb_desk.proofs.DeskLemmas.{quiet-turned}
use Rattle.hb_desk.proofs.desks.perform.Goals as goal

pub returns-in-Nothing-clause-ok : goal.returns-in-Nothing-clause-ok
returns-in-Nothing-clause-ok g c = λ f stood fit.
    let H = g.H.Hall in
    let hall = c.args.hall.now in
    let d = c.args.desk.now in
    let sent = c.args.sent.now in
    rw c.in-Nothing.is (subst (λ (k : Desk). DeskTurned H.stands (H.house hall) (H.count hall) (H.alone hall) hall f d errand.Nothing
    sent sent k) (sym c.same.ensures)
    (quiet-turned H.stands (H.house hall) (H.count hall) (H.alone hall) hall f d errand.Nothing sent sent stood fit tt
    (sym (append-nil sent))))

pub returns-in-Bad-clause-ok : goal.returns-in-Bad-clause-ok
returns-in-Bad-clause-ok g c = if_ok_both c.say.result c.say.ensures.texts c.say.ensures.left (λ left wrote is f stood fit.
    let H = g.H.Hall in
    let hall = c.args.hall.now in
    let d = c.args.desk.now in
    let task = errand.Bad c.in-Bad.why in
    rw c.in-Bad.is (subst (λ (k : Desk). DeskTurned H.stands (H.house hall) (H.count hall) (H.alone hall) hall f d task
    c.args.sent.now c.say.new.sent k) (sym is)
    (quiet-turned H.stands (H.house hall) (H.count hall) (H.alone hall) hall f d task c.args.sent.now c.say.new.sent stood fit tt
    wrote)))

pub returns-in-Denied-clause-ok : goal.returns-in-Denied-clause-ok
returns-in-Denied-clause-ok g c =
    if_ok_both c.say-in-Denied.result c.say-in-Denied.ensures.texts c.say-in-Denied.ensures.left (λ left wrote is f stood fit.
    let H = g.H.Hall in
    let hall = c.args.hall.now in
    let d = c.args.desk.now in
    let task = errand.Denied c.in-Denied.why in
    let line = wrote ∙ ap (λ (l : List ℕ). c.args.sent.now ++ l ∷ []) c.denied.ensures in
    rw c.in-Denied.is (subst (λ (k : Desk). DeskTurned H.stands (H.house hall) (H.count hall) (H.alone hall) hall f d task
    c.args.sent.now c.say-in-Denied.new.sent k) (sym is)
    (quiet-turned H.stands (H.house hall) (H.count hall) (H.alone hall) hall f d task c.args.sent.now c.say-in-Denied.new.sent stood
    fit tt line)))

pub returns-in-Enters-clause-ok : goal.returns-in-Enters-clause-ok
returns-in-Enters-clause-ok g c = if_ok c.enter.result c.enter.ensures.ok (λ left turned f stood fit.
    let unbound = subst (IsFor c.args.desk.now.session.name) c.in-Enters.is c.requires in
    rw c.in-Enters.is (turned f stood unbound fit))

pub returns-in-Calls-clause-ok : goal.returns-in-Calls-clause-ok
returns-in-Calls-clause-ok g c = if_ok c.call.result c.call.ensures.ok (λ left turned f stood fit.
    let named = subst (IsFor c.args.desk.now.session.name) c.in-Calls.is c.requires in
    rw c.in-Calls.is (turned f stood named fit))
