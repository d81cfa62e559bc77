use Rattle.std.proofs.Common.{◌≡◌, ℕ, min, rules, subst, sym, [], List, ◌∙◌}
use Rattle.hb_timer.specs.declared.timing.TheConstants.{MOMENT_LIMIT}
use Rattle.hb_talk.specs.Errands.{asked}
use Rattle.hb_desk.specs.Desks.{DeskTurned, session_of}
use Rattle.hb_session.specs.Conversations.{lists_after}
use Rattle.hb_session.specs.Talking.{SendsSome}
use Rattle.hb_session.proofs.TurnLemmas.{talks-closed, talks-cut, talks-more, talks-refused}
use Rattle.hb_session.proofs.turns.step.Goals as goal

pub returns-in-Err-clause-talks : goal.returns-in-Err-clause-talks
returns-in-Err-clause-talks g c first start told taken budget t =
    let H = g.H.Hall in
    let talk = g.L.Link.talk in
    let old = c.args.hall.now in
    rw c.ended_by.ensures
    (talks-refused H.stands (H.house old) (H.count old) (H.alone old) first start told taken budget old
    (g.C.Clock.coming c.args.clock.now) c.args.desk.now (talk c.args.link.now) t c.in-Err.e (talk c.recv.new.self)
    c.in-Err.ensures.talk)

pub returns-then-is_end-clause-talks : goal.returns-then-is_end-clause-talks
returns-then-is_end-clause-talks g c first start told taken budget t =
    let H = g.H.Hall in
    let talk = g.L.Link.talk in
    let old = c.args.hall.now in
    let moment : c.min-moment.result ≡ min c.now.result MOMENT_LIMIT = search rules in
    talks-closed H.stands (H.house old) (H.count old) (H.alone old) first start told taken budget old
    (g.C.Clock.coming c.args.clock.now) c.args.desk.now (talk c.args.link.now) t c.in-Ok.got
    (sym c.is_end.ensures ∙ c.if-is_end.true) (talk c.recv.new.self) c.in-Ok.ensures.talk c.now.result c.min-moment.result
    (g.C.Clock.coming c.now.new.self) c.now.ensures moment

pub returns-in-Ok-send_all-clause-talks : goal.returns-in-Ok-send_all-clause-talks
returns-in-Ok-send_all-clause-talks g c first start told taken budget t =
    let H = g.H.Hall in
    let talk = g.L.Link.talk in
    let old = c.args.hall.now in
    let moment : c.min-moment.result ≡ min c.now.result MOMENT_LIMIT = search rules in
    let texts = c.turn.new.texts in
    let turned : DeskTurned H.stands (H.house old) (H.count old) (H.alone old) c.turn.new.hall (lists_after first t.turns)
    c.args.desk.now (asked (session_of c.args.desk.now) c.min-moment.result c.in-Ok.got) [] texts c.turn.new.self =
    subst (λ (l : List (List ℕ)). DeskTurned H.stands (H.house old) (H.count old) (H.alone old) c.turn.new.hall
    (lists_after first t.turns) c.args.desk.now (asked (session_of c.args.desk.now) c.min-moment.result c.in-Ok.got) l
    texts c.turn.new.self) c.new-texts.ensures
    (c.in-Ok-turn.ensures.ok (lists_after first t.turns) t.stands_for t.fits) in
    talks-more H.stands (H.house old) (H.count old) (H.alone old) first start told taken budget old
    (g.C.Clock.coming c.args.clock.now) c.args.desk.now (talk c.args.link.now) t c.in-Ok.got (talk c.recv.new.self)
    c.in-Ok.ensures.talk c.now.result c.min-moment.result (g.C.Clock.coming c.now.new.self) c.now.ensures moment
    c.turn.new.hall c.turn.new.self texts (talk c.send_all.new.link) (sym c.is_end.ensures ∙ c.if-is_end.false) turned
    (rw (← c.as_slice.ensures) c.in-Ok-send_all.ensures.sent)

pub returns-in-Ok-turn-clause-talks : goal.returns-in-Ok-turn-clause-talks
returns-in-Ok-turn-clause-talks g c first start told taken budget t =
    let H = g.H.Hall in
    let talk = g.L.Link.talk in
    let old = c.args.hall.now in
    let moment : c.min-moment.result ≡ min c.now.result MOMENT_LIMIT = search rules in
    let texts = c.turn.new.texts in
    let turned : DeskTurned H.stands (H.house old) (H.count old) (H.alone old) c.turn.new.hall (lists_after first t.turns)
    c.args.desk.now (asked (session_of c.args.desk.now) c.min-moment.result c.in-Ok.got) [] texts c.turn.new.self =
    subst (λ (l : List (List ℕ)). DeskTurned H.stands (H.house old) (H.count old) (H.alone old) c.turn.new.hall
    (lists_after first t.turns) c.args.desk.now (asked (session_of c.args.desk.now) c.min-moment.result c.in-Ok.got) l
    texts c.turn.new.self) c.new-texts.ensures
    (c.in-Ok-turn.ensures.ok (lists_after first t.turns) t.stands_for t.fits) in
    rw c.ended_by-in-Err-send_all.ensures
    (talks-cut H.stands (H.house old) (H.count old) (H.alone old) first start told taken budget old
    (g.C.Clock.coming c.args.clock.now) c.args.desk.now (talk c.args.link.now) t c.in-Ok.got (talk c.recv.new.self)
    c.in-Ok.ensures.talk c.now.result c.min-moment.result (g.C.Clock.coming c.now.new.self) c.now.ensures moment
    c.turn.new.hall c.turn.new.self texts (talk c.send_all.new.link) (sym c.is_end.ensures ∙ c.if-is_end.false) turned
    c.in-Err-send_all.e
    (subst (λ (l : List (List ℕ)). SendsSome l (talk c.recv.new.self) (talk c.send_all.new.link)) c.as_slice.ensures
    c.in-Err-send_all.ensures.sent))
