use Rattle.std.proofs.Common.{◌≡◌, refl, sym, ◌∙◌, ap, subst, true, false, Some}
use Rattle.std.specs.Prelude.{IfOk}
use Rattle.hb_io.specs.NameSpelling.{IsName}
use Rattle.hb_club.specs.declared.lobby.LobbyReply.TheVariants.{Welcome}
use Rattle.hb_house.proofs.BindingsLemmas.{bad-name, bound-with, known-name, looked-up, new-name}
use Rattle.hb_house.proofs.lobby.Lobby.enter.Goals as goal

pub returns-in_default-clause-reply : goal.returns-in_default-clause-reply
returns-in_default-clause-reply c =
    let bad : IsName c.args.e.now.name → ⊥ = λ name.
    let valid : false ≡ true = c.in_default.ensures.valid.1 (subst IsName (sym c.as_str.ensures) name) in cc in
    sym (bad-name c.args.self.now c.args.e.now bad).0

pub returns-in_default-clause-bound : goal.returns-in_default-clause-bound
returns-in_default-clause-bound c =
    let bad : IsName c.args.e.now.name → ⊥ = λ name.
    let valid : false ≡ true = c.in_default.ensures.valid.1 (subst IsName (sym c.as_str.ensures) name) in cc in
    sym (bad-name c.args.self.now c.args.e.now bad).1

pub returns-in-Some-true-clause-reply : goal.returns-in-Some-true-clause-reply
returns-in-Some-true-clause-reply c =
    let looked = looked-up c.args.e.now c.fits_key.result c.deref.result.now c.self.inside.bound.items c.args.self.now c.fits_key.ensures
    c.deref.ensures.value c.self.view_is in
    ap Welcome (c.in-Some.ensures.value ∙ c.as_str.ensures)
    ∙ sym (known-name c.args.self.now c.args.e.now true (subst IsName c.as_str.ensures (c.in-Some.ensures.valid.0 refl))
    (sym (c.in-Some-true.is ∙ ap Some c.in-Some-true.field-0-test) ∙ looked)).0

pub returns-in-Some-true-clause-bound : goal.returns-in-Some-true-clause-bound
returns-in-Some-true-clause-bound c =
    let looked = looked-up c.args.e.now c.fits_key.result c.deref.result.now c.self.inside.bound.items c.args.self.now c.fits_key.ensures
    c.deref.ensures.value c.self.view_is in
    sym (known-name c.args.self.now c.args.e.now true (subst IsName c.as_str.ensures (c.in-Some.ensures.valid.0 refl))
    (sym (c.in-Some-true.is ∙ ap Some c.in-Some-true.field-0-test) ∙ looked)).1

pub returns-in-Some-false-clause-reply : goal.returns-in-Some-false-clause-reply
returns-in-Some-false-clause-reply c =
    let looked = looked-up c.args.e.now c.fits_key.result c.deref.result.now c.self.inside.bound.items c.args.self.now c.fits_key.ensures
    c.deref.ensures.value c.self.view_is in
    sym (known-name c.args.self.now c.args.e.now false (subst IsName c.as_str.ensures (c.in-Some.ensures.valid.0 refl))
    (sym (c.in-Some-false.is ∙ ap Some c.in-Some-false.field-0-test) ∙ looked)).0

pub returns-in-Some-false-clause-bound : goal.returns-in-Some-false-clause-bound
returns-in-Some-false-clause-bound c =
    let looked = looked-up c.args.e.now c.fits_key.result c.deref.result.now c.self.inside.bound.items c.args.self.now c.fits_key.ensures
    c.deref.ensures.value c.self.view_is in
    sym (known-name c.args.self.now c.args.e.now false (subst IsName c.as_str.ensures (c.in-Some.ensures.valid.0 refl))
    (sym (c.in-Some-false.is ∙ ap Some c.in-Some-false.field-0-test) ∙ looked)).1

pub returns-in-None-clause-reply : goal.returns-in-None-clause-reply
returns-in-None-clause-reply c =
    let looked = looked-up c.args.e.now c.fits_key.result c.deref.result.now c.self.inside.bound.items c.args.self.now c.fits_key.ensures
    c.deref.ensures.value c.self.view_is in
    let new = new-name c.args.self.now c.args.e.now (subst IsName c.as_str.ensures (c.in-Some.ensures.valid.0 refl))
    (sym c.in-None.is ∙ looked) in
    subst (λ r. IfOk c.bind.result (λ reply. reply ≡ r)) (sym new.1) c.bind.ensures.reply

pub returns-in-None-clause-bound : goal.returns-in-None-clause-bound
returns-in-None-clause-bound c =
    let looked = looked-up c.args.e.now c.fits_key.result c.deref.result.now c.self.inside.bound.items c.args.self.now c.fits_key.ensures
    c.deref.ensures.value c.self.view_is in
    let new = new-name c.args.self.now c.args.e.now (subst IsName c.as_str.ensures (c.in-Some.ensures.valid.0 refl))
    (sym c.in-None.is ∙ looked) in
    bound-with c.bind.result c.args.self.now c.bind.new.self c.args.e.now _ c.bind.ensures.reply c.bind.ensures.bound new.1
