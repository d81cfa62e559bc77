use denote.Param.Send.{sendable}
use Rattle.std.proofs.Common.{◌∙◌, Err, Ok, Some, refl, rules, sym}
use Rattle.hb_cli.specs.Written.{sent}
use Rattle.hb_house.specs.KeeperSteps.{Telling}
use Rattle.hb_server.proofs.CrossingLemmas.{room_send}
use Rattle.hb_server.proofs.EndLemmas.{differs-served, outcome-differs, own-status, says-unserved, unserved-other}
use Rattle.hb_server.proofs.SoundLemmas.{served-never}
use Rattle.hb_server.proofs.serves.serve.Goals as goal

pub work-requires-send-R : goal.work-requires-send-R
work-requires-send-R g c κs within = search (room_send, sendable)

pub returns-in-Ok-clause-sound : goal.returns-in-Ok-clause-sound
returns-in-Ok-clause-sound g c = λ clones x told below sure differs.
    let E = g.E.Sink in
    let o = c.in-Ok.outcome in
    let own = own-status (sent E.held E.faults c.args.err.now c.conclude.new.err) c.conclude.result (Ok o) (λ e. cc (differs, e)) (c.conclude.ensures.said (λ e. cc (differs, e))) in
    let end = differs-served _ (sym own ∙ differs) in
    let telling : Telling = record { content = Some x; plan = g.K.Keeper.plan c.args.keeper.now } in
    let did = c.in-Ok.ensures.did in
    served-never _ _ _ _ _ did.0.0.rooms end.0 o telling x refl below clones (did.0.2 telling (told, refl) sure)
    (outcome-differs o end.0 end.1)

pub returns-in-Err-clause-end : goal.returns-in-Err-clause-end
returns-in-Err-clause-end g c = let E = g.E.Sink in (
  Err c.in-Err.why,
  c.in-Err.ensures.did,
  (λ other. says-unserved (sent E.held E.faults c.args.err.now c.report.new.err) c.report.result c.in-Err.why (rw c.stop_unserved.ensures at (c.report.ensures.said other))),
  (λ fault. rw c.stop_unserved.ensures at (c.report.ensures.failed fault) (unserved-other c.in-Err.why)),
)
