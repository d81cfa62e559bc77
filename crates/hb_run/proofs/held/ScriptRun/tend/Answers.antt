use Rattle.std.proofs.Common.{refl, inr}
use Rattle.hb_house.proofs.ResultLemmas.{if_err, on_ok}
use Rattle.hb_run.proofs.ClerkLinesLemmas.{faulted, faulted-cut, halted, tended, tended-cut}
use Rattle.hb_run.proofs.held.ScriptRun.tend.Goals as goal

pub returns-in-Ok-clause-ok : goal.returns-in-Ok-clause-ok
returns-in-Ok-clause-ok g c = on_ok c.write_report.result (λ wrote s at sure.
    tended _ _ _ _ _ c.args.moment s c.clerk.new.report _ _ _ at.inside
    (c.in-Ok.ensures.ok s.fronts s.keeper at.outside.stands_for at.outside.told sure) wrote) c.write_report.ensures.ok

pub returns-in-Ok-clause-err : goal.returns-in-Ok-clause-err
returns-in-Ok-clause-err g c = if_err c.write_report.result (λ why cut s at sure.
    tended-cut _ _ _ _ _ c.args.moment s c.clerk.new.report _ _ _ why at.inside
    (c.in-Ok.ensures.ok s.fronts s.keeper at.outside.stands_for at.outside.told sure) cut) c.write_report.ensures.err

pub returns-in-Err-KeeperFault-clause-ok : goal.returns-in-Err-KeeperFault-clause-ok
returns-in-Err-KeeperFault-clause-ok g c = on_ok c.write_fault.result (λ wrote s at sure.
    faulted _ _ _ _ _ c.args.moment s c.clerk.new.report _ _ _ _ at.inside refl refl refl
    (rw c.in-Err-KeeperFault.field-0-is at (c.in-Err-KeeperFault.ensures.err s.fronts s.keeper at.outside.stands_for at.outside.told sure))
    wrote) c.write_fault.ensures.ok

pub returns-in-Err-KeeperFault-clause-err : goal.returns-in-Err-KeeperFault-clause-err
returns-in-Err-KeeperFault-clause-err g c = if_err c.write_fault.result (λ why cut s at sure.
    faulted-cut _ _ _ _ _ c.args.moment s c.clerk.new.report _ _ _ _ why at.inside refl refl refl
    (rw c.in-Err-KeeperFault.field-0-is at (c.in-Err-KeeperFault.ensures.err s.fronts s.keeper at.outside.stands_for at.outside.told sure))
    cut) c.write_fault.ensures.err

pub returns-in-Err-KeyDiffers-clause-err : goal.returns-in-Err-KeyDiffers-clause-err
returns-in-Err-KeyDiffers-clause-err g c = λ s at sure.
    rw c.in-Err-KeyDiffers.id-is (halted _ _ _ _ _ c.args.moment s c.clerk.new.report _ _ _ _ (λ t ends. ends) at.inside
    (rw c.in-Err-KeyDiffers.field-0-is at (c.in-Err-KeyDiffers.ensures.err s.fronts s.keeper at.outside.stands_for at.outside.told sure)))

pub returns-in-Err-UsedUp-clause-err : goal.returns-in-Err-UsedUp-clause-err
returns-in-Err-UsedUp-clause-err g c = λ s at sure.
    halted _ _ _ _ _ c.args.moment s c.clerk.new.report _ _ _ _ (λ t ends. ends) at.inside
    (rw c.in-Err-UsedUp.field-0-is at (c.in-Err-UsedUp.ensures.err s.fronts s.keeper at.outside.stands_for at.outside.told sure))

pub returns-in-Err-Worn-clause-err : goal.returns-in-Err-Worn-clause-err
returns-in-Err-Worn-clause-err g c = λ s at sure.
    halted _ _ _ _ _ c.args.moment s c.clerk.new.report _ _ _ _ (λ t ends. inr ends) at.inside
    (rw c.in-Err-Worn.field-0-is at (c.in-Err-Worn.ensures.err s.fronts s.keeper at.outside.stands_for at.outside.told sure))

pub returns-in-Err-NoMemory-clause-err : goal.returns-in-Err-NoMemory-clause-err
returns-in-Err-NoMemory-clause-err g c = λ s at sure.
    halted _ _ _ _ _ c.args.moment s c.clerk.new.report _ _ _ _ (λ t ends. inr ends) at.inside
    (rw c.in-Err-NoMemory.field-0-is at (c.in-Err-NoMemory.ensures.err s.fronts s.keeper at.outside.stands_for at.outside.told sure))
