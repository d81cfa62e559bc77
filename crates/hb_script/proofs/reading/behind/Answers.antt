use Rattle.std.proofs.Common.{sym, ap, ◌∙◌, add-one, drop, suc, None, Some}
use Rattle.hb_script.specs.ScriptGrammar.{script_with}
use Rattle.hb_script.specs.ScriptReading.{feed_at}
use Rattle.hb_script.proofs.FirstLines.{behind-none, behind-some, unread}
use Rattle.hb_script.proofs.reading.behind.Goals as goal

pub returns-in-Ok-clause-ok : goal.returns-in-Ok-clause-ok
returns-in-Ok-clause-ok c = let d = rw c.place-end.ensures.is at c.in-Ok-None.ensures in
    behind-none c.args.seed c.args.rest.now (sym c.in-Ok-None.field-0-is ∙ d) ∙ ap (script_with c.args.seed None) c.in-Ok.ensures.ok

pub returns-in-Err-further-clause-err : goal.returns-in-Err-further-clause-err
returns-in-Err-further-clause-err c = let d = rw c.place-end.ensures.is at c.in-Ok-None.ensures in
    unread c.args.seed None 2 c.args.rest.now _ c.in-Err-further.e (behind-none c.args.seed c.args.rest.now (sym c.in-Ok-None.field-0-is
    ∙ d)) c.in-Err-further.ensures.err

pub returns-in-Ok-further-clause-ok : goal.returns-in-Ok-further-clause-ok
returns-in-Ok-further-clause-ok c = let d = rw c.place-end.ensures.is at c.in-Ok-Some.ensures in
    let n = rw (c.after-next.ensures, add-one, c.place-end.ensures.is) at c.in-Ok-further.ensures.ok in
    behind-some c.args.seed c.args.rest.now c.in-Ok-Some.cards (sym c.in-Ok-Some.field-0-is ∙ d)
    ∙ ap (script_with c.args.seed (Some c.in-Ok-Some.cards)) n

pub returns-in-Err-further-2-clause-err : goal.returns-in-Err-further-2-clause-err
returns-in-Err-further-2-clause-err c = let d = rw c.place-end.ensures.is at c.in-Ok-Some.ensures in
    let n = rw (c.after-next.ensures, add-one, c.place-end.ensures.is) at c.in-Err-further-2.ensures.err in
    unread c.args.seed (Some c.in-Ok-Some.cards) 3 (drop (suc (feed_at c.args.rest.now)) c.args.rest.now) _ c.in-Err-further-2.e
    (behind-some c.args.seed c.args.rest.now c.in-Ok-Some.cards (sym c.in-Ok-Some.field-0-is ∙ d)) n
