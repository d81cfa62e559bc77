use Rattle.std.proofs.Common.{◌<◌, length, arith, ap, set, refl, inl, inr}
use Rattle.std.proofs.lemmas.Option.{slice_get_read}
use Rattle.hb_house.proofs.ResultLemmas.{if_err, on_ok}
use Rattle.hb_run.proofs.TurnLinesLemmas.{said, said-cut, said-nothing}
use Rattle.hb_run.proofs.held.ScriptRun.say.Goals as goal

pub returns-in-Ok-clause-ok : goal.returns-in-Ok-clause-ok
returns-in-Ok-clause-ok g c = on_ok c.write_sent.result (λ wrote s at.
    let desks = c.args.self.now.desks.items in
    let within : c.args.conn < length desks = omega arith in
    let was = slice_get_read desks (length desks) c.args.conn c.index_mut.result.now refl within c.index_mut.ensures.value in
    said g.H.Hall.stands _ _ _ c.turn.new.hall s c.args.moment c.args.conn c.args.got.now c.turn.new.texts c.index_mut.result.now
    c.turn.new.self _ _ _ _ at.inside was
    (record { desks = refl; failed = refl; bytes = rw c.as_slice-texts.ensures at c.with_texts-self.ensures })
    (rw c.new-texts.ensures at (c.in-Ok.ensures.ok s.fronts at.outside.stands_for
    (at.inside.desks c.args.conn c.index_mut.result.now was).fits))
    (rw c.as_slice-texts.ensures at wrote)) c.write_sent.ensures.ok

pub returns-in-Ok-clause-err : goal.returns-in-Ok-clause-err
returns-in-Ok-clause-err g c = if_err c.write_sent.result (λ why cut s at.
    let desks = c.args.self.now.desks.items in
    let within : c.args.conn < length desks = omega arith in
    let was = slice_get_read desks (length desks) c.args.conn c.index_mut.result.now refl within c.index_mut.ensures.value in
    said-cut g.H.Hall.stands _ _ _ c.turn.new.hall s c.args.moment c.args.conn c.args.got.now c.turn.new.texts c.index_mut.result.now
    c.turn.new.self _ _ _ _ why at.inside was
    (record { desks = refl; failed = refl; bytes = rw c.as_slice-texts.ensures at c.with_texts-self.ensures })
    (rw c.new-texts.ensures at (c.in-Ok.ensures.ok s.fronts at.outside.stands_for
    (at.inside.desks c.args.conn c.index_mut.result.now was).fits))
    (rw c.as_slice-texts.ensures at cut)) c.write_sent.ensures.err

pub returns-in-Err-Worn-clause-err : goal.returns-in-Err-Worn-clause-err
returns-in-Err-Worn-clause-err g c = λ s at.
    let desks = c.args.self.now.desks.items in
    let within : c.args.conn < length desks = omega arith in
    let was = slice_get_read desks (length desks) c.args.conn c.index_mut.result.now refl within c.index_mut.ensures.value in
    said-nothing g.H.Hall.stands _ _ _ c.turn.new.hall s c.args.moment c.args.conn c.args.got.now c.index_mut.result.now _ _ _ _
    (inl refl) at.inside was (ap (set desks c.args.conn) c.in-Err-Worn.ensures.session) refl refl
    (c.turn.ensures.goes s.fronts at.outside.stands_for)

pub returns-clause-err : goal.returns-clause-err
returns-clause-err g c = λ s at.
    let desks = c.args.self.now.desks.items in
    let within : c.args.conn < length desks = omega arith in
    let was = slice_get_read desks (length desks) c.args.conn c.index_mut.result.now refl within c.index_mut.ensures.value in
    said-nothing g.H.Hall.stands _ _ _ c.turn.new.hall s c.args.moment c.args.conn c.args.got.now c.index_mut.result.now _ _ _ _
    (inr refl) at.inside was (ap (set desks c.args.conn) c.in-Err-NoMemory.ensures.session) refl refl
    (c.turn.ensures.goes s.fronts at.outside.stands_for)
