use Rattle.std.proofs.Common.{◌≡◌, ◌∙◌, ℕ, inl, inr, subst, sym}
use Rattle.hb_cli.specs.declared.status.Stop.TheVariants as stop
use Rattle.hb_cli.specs.Statuses.{HasRead, status_of}
use Rattle.hb_cli.specs.Works.{Stops}
use Rattle.hb_cli.proofs.SoundStoresLemmas.{sound-never}
use Rattle.hb_cli.proofs.StatusOf.{is_output, other_refused, read_no_fault, read_no_memory, refused_no_fault, status_of-KeeperFault, status_of-StoreDiffers, status_of-Usage}
use Rattle.hb_cli.proofs.WorksLemmas.{none_reads}
use Rattle.hb_cli.proofs.runs.run.Goals as goal

pub returns-in-Ok-true-clause-stop : goal.returns-in-Ok-true-clause-stop
returns-in-Ok-true-clause-stop g c = λ refused.
    (stop.KeeperFault, inl (rw c.in-Ok-true.field-0-test at c.in-Ok-true.ensures.ok), c.report.ensures.said (refused_no_fault _ refused))

pub returns-in-Ok-true-clause-write_fault : goal.returns-in-Ok-true-clause-write_fault
returns-in-Ok-true-clause-write_fault g c = λ fault.
    let kept = rw c.in-Ok-true.field-0-test at c.in-Ok-true.ensures.no_output in
    inr (stop.KeeperFault, inl (rw c.in-Ok-true.field-0-test at c.in-Ok-true.ensures.ok), c.report.ensures.failed fault (λ e. cc), kept tt)

pub returns-in-Ok-false-clause-ok : goal.returns-in-Ok-false-clause-ok
returns-in-Ok-false-clause-ok g c = λ ok. rw c.in-Ok-false.field-0-test at c.in-Ok-false.ensures.ok

pub returns-in-Err-clause-no_output : goal.returns-in-Err-clause-no_output
returns-in-Err-clause-no_output g c = λ refused.
    c.in-Err.ensures.no_output (other_refused c.in-Err.stop (λ e. refused_no_fault _ refused (c.report-in-Err.ensures.output e)))

pub returns-in-Err-clause-unread : goal.returns-in-Err-clause-unread
returns-in-Err-clause-unread g c = λ usage.
    let own : c.report-in-Err.result ≡ status_of c.in-Err.stop =
    c.report-in-Err.ensures.status (λ e. cc (usage, e)) (λ e. cc (usage, e)) in
    let is : c.in-Err.stop ≡ stop.Usage = status_of-Usage c.in-Err.stop (sym own ∙ usage) in
    c.in-Err.ensures.unread (none_reads _ (subst (Stops _ _ _ _ _) is c.in-Err.ensures.stop).0)

pub returns-in-Err-clause-keeper_fault : goal.returns-in-Err-clause-keeper_fault
returns-in-Err-clause-keeper_fault g c = λ failed.
    let own : c.report-in-Err.result ≡ status_of c.in-Err.stop =
    c.report-in-Err.ensures.status (λ e. cc (failed, e)) (λ e. cc (failed, e)) in
    let is : c.in-Err.stop ≡ stop.KeeperFault = status_of-KeeperFault c.in-Err.stop (sym own ∙ failed) in
    c.in-Err.ensures.keeper_fault (cc is)

pub returns-in-Err-clause-sound : goal.returns-in-Err-clause-sound
returns-in-Err-clause-sound g c = λ x told below sure differs.
    let own : c.report-in-Err.result ≡ status_of c.in-Err.stop =
    c.report-in-Err.ensures.status (λ e. cc (differs, e)) (λ e. cc (differs, e)) in
    let is : (id : ℕ) × (c.in-Err.stop ≡ stop.StoreDiffers id) = status_of-StoreDiffers c.in-Err.stop (sym own ∙ differs) in
    sound-never _ _ _ _ _ _ is.0 x told below sure (subst (Stops _ _ _ _ _) is.1 c.in-Err.ensures.stop)

pub returns-in-Err-clause-write_fault : goal.returns-in-Err-clause-write_fault
returns-in-Err-clause-write_fault g c = λ fault. elim (is_output c.in-Err.stop) [
  | inl e ↦ inl (subst (Stops _ _ _ _ _) e c.in-Err.ensures.stop, c.in-Err.ensures.cause (cc e), c.report-in-Err.ensures.either e)
  | inr other ↦ inr (
    c.in-Err.stop,
    c.in-Err.ensures.stop,
    c.report-in-Err.ensures.failed fault other,
    c.in-Err.ensures.no_output (other_refused c.in-Err.stop other),
  )
]

pub returns-in-Err-clause-end : goal.returns-in-Err-clause-end
returns-in-Err-clause-end g c = λ read.
    let own : c.report-in-Err.result ≡ status_of c.in-Err.stop =
    c.report-in-Err.ensures.status (read_no_memory _ read) (read_no_fault _ read) in
    c.in-Err.ensures.end (subst HasRead own read)
