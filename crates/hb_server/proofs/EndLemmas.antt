-- By which end does a server answer a status, and how did it come to that end?
use Rattle.std.proofs.Common.{◌≡◌, ◌≢◌, ℕ, Bool, true, false, IsTrue, Some, None, Ok, Err, inl, inr, refl, sym}
use Rattle.std.specs.Prelude.{◌⊎◌, Option, Result}
use Rattle.hb_cli.specs.declared.status.Status.{Status}
use Rattle.hb_cli.specs.declared.status.Status.TheVariants as status
use Rattle.hb_cli.specs.declared.status.Stop.{Stop}
use Rattle.hb_cli.specs.declared.status.Stop.TheVariants as stop
use Rattle.hb_cli.specs.Written.{SaysLine, Sent}
use Rattle.hb_house.specs.declared.reports.ClerkError.{ClerkError}
use Rattle.hb_house.specs.declared.reports.ClerkError.TheVariants as clerk
use Rattle.hb_serve.specs.declared.accepts.Closing.{Closing}
use Rattle.hb_serve.specs.declared.accepts.Closing.TheVariants as closing
use Rattle.hb_serve.specs.declared.serving.Outcome.{Outcome}
use Rattle.hb_serve.specs.declared.verdicts.ServeEnd.{ServeEnd}
use Rattle.hb_serve.specs.declared.verdicts.ServeEnd.TheVariants as end
use Rattle.hb_serve.specs.Verdicts.{end_by, end_of}
use Rattle.hb_server.specs.declared.ends.Unserved.{Unserved}
use Rattle.hb_server.specs.declared.ends.Unserved.TheVariants as unserved
use Rattle.hb_server.specs.Ends.{SaysEnd, end_stop, status_at, stop_at, stop_unserved}

-- a status other than that of the want of memory is that of the end
pub own-status : (err : Sent) (result : Status) (e : Result Outcome Unserved) → result ≢ status.NoMemory → SaysEnd err result e
    → result ≡ status_at (end_stop e)
own-status err result e other (inl said) = said.0
own-status err result e other (inr none) = absurd (other none.0)

-- if no link was served, the line of the cause is what is said
pub says-unserved : (err : Sent) (result : Status) (why : Unserved) → SaysLine err result (stop_unserved why)
    → SaysEnd err result (Err why)
says-unserved err result why (inl said) = inl (sym said.0, said.1)
says-unserved err result why (inr none) = inr none

-- and the cause is never the output
pub unserved-other : (why : Unserved) → stop_unserved why ≢ stop.WriteFault
unserved-other unserved.Usage e = cc
unserved-other unserved.KeeperFault e = cc
unserved-other unserved.UsedUp e = cc
unserved-other unserved.DiceFault e = cc
unserved-other unserved.NoMemory e = cc

-- the end of a status

ok-served : (e : ServeEnd) → status_at (stop_at e) ≡ status.Ok → stop_at e ≡ None
ok-served end.Done is = refl
ok-served end.KeeperFault is = absurd cc
ok-served end.NoMemory is = absurd cc
ok-served (end.StoreDiffers id) is = absurd cc
ok-served end.DoorFault is = absurd cc
ok-served end.UsedUp is = absurd cc

ok-unserved : (why : Unserved) → status_at (Some (stop_unserved why)) ≡ status.Ok → Some (stop_unserved why) ≡ None
ok-unserved unserved.Usage is = absurd cc
ok-unserved unserved.KeeperFault is = absurd cc
ok-unserved unserved.UsedUp is = absurd cc
ok-unserved unserved.DiceFault is = absurd cc
ok-unserved unserved.NoMemory is = absurd cc

pub end-ok : (e : Result Outcome Unserved) → status_at (end_stop e) ≡ status.Ok → end_stop e ≡ None
end-ok (Ok o) is = ok-served (end_of o) is
end-ok (Err why) is = ok-unserved why is

keeper_fault-served : (e : ServeEnd) → status_at (stop_at e) ≡ status.KeeperFault → stop_at e ≡ Some stop.KeeperFault
keeper_fault-served end.Done is = absurd cc
keeper_fault-served end.KeeperFault is = refl
keeper_fault-served end.NoMemory is = absurd cc
keeper_fault-served (end.StoreDiffers id) is = absurd cc
keeper_fault-served end.DoorFault is = absurd cc
keeper_fault-served end.UsedUp is = absurd cc

keeper_fault-unserved : (why : Unserved) → status_at (Some (stop_unserved why)) ≡ status.KeeperFault → Some (stop_unserved why) ≡ Some stop.KeeperFault
keeper_fault-unserved unserved.Usage is = absurd cc
keeper_fault-unserved unserved.KeeperFault is = refl
keeper_fault-unserved unserved.UsedUp is = absurd cc
keeper_fault-unserved unserved.DiceFault is = absurd cc
keeper_fault-unserved unserved.NoMemory is = absurd cc

pub end-keeper_fault : (e : Result Outcome Unserved) → status_at (end_stop e) ≡ status.KeeperFault → end_stop e ≡ Some stop.KeeperFault
end-keeper_fault (Ok o) is = keeper_fault-served (end_of o) is
end-keeper_fault (Err why) is = keeper_fault-unserved why is

door_fault-served : (e : ServeEnd) → status_at (stop_at e) ≡ status.DoorFault → stop_at e ≡ Some stop.DoorFault
door_fault-served end.Done is = absurd cc
door_fault-served end.KeeperFault is = absurd cc
door_fault-served end.NoMemory is = absurd cc
door_fault-served (end.StoreDiffers id) is = absurd cc
door_fault-served end.DoorFault is = refl
door_fault-served end.UsedUp is = absurd cc

door_fault-unserved : (why : Unserved) → status_at (Some (stop_unserved why)) ≡ status.DoorFault → Some (stop_unserved why) ≡ Some stop.DoorFault
door_fault-unserved unserved.Usage is = absurd cc
door_fault-unserved unserved.KeeperFault is = absurd cc
door_fault-unserved unserved.UsedUp is = absurd cc
door_fault-unserved unserved.DiceFault is = absurd cc
door_fault-unserved unserved.NoMemory is = absurd cc

pub end-door_fault : (e : Result Outcome Unserved) → status_at (end_stop e) ≡ status.DoorFault → end_stop e ≡ Some stop.DoorFault
end-door_fault (Ok o) is = door_fault-served (end_of o) is
end-door_fault (Err why) is = door_fault-unserved why is

dice_fault-served : (e : ServeEnd) → status_at (stop_at e) ≡ status.DiceFault → stop_at e ≡ Some stop.DiceFault
dice_fault-served end.Done is = absurd cc
dice_fault-served end.KeeperFault is = absurd cc
dice_fault-served end.NoMemory is = absurd cc
dice_fault-served (end.StoreDiffers id) is = absurd cc
dice_fault-served end.DoorFault is = absurd cc
dice_fault-served end.UsedUp is = absurd cc

dice_fault-unserved : (why : Unserved) → status_at (Some (stop_unserved why)) ≡ status.DiceFault → Some (stop_unserved why) ≡ Some stop.DiceFault
dice_fault-unserved unserved.Usage is = absurd cc
dice_fault-unserved unserved.KeeperFault is = absurd cc
dice_fault-unserved unserved.UsedUp is = absurd cc
dice_fault-unserved unserved.DiceFault is = refl
dice_fault-unserved unserved.NoMemory is = absurd cc

pub end-dice_fault : (e : Result Outcome Unserved) → status_at (end_stop e) ≡ status.DiceFault → end_stop e ≡ Some stop.DiceFault
end-dice_fault (Ok o) is = dice_fault-served (end_of o) is
end-dice_fault (Err why) is = dice_fault-unserved why is

usage-served : (e : ServeEnd) → status_at (stop_at e) ≡ status.Usage → ⊥
usage-served end.Done is = absurd cc
usage-served end.KeeperFault is = absurd cc
usage-served end.NoMemory is = absurd cc
usage-served (end.StoreDiffers id) is = absurd cc
usage-served end.DoorFault is = absurd cc
usage-served end.UsedUp is = absurd cc

usage-unserved : (why : Unserved) → status_at (Some (stop_unserved why)) ≡ status.Usage → why ≡ unserved.Usage
usage-unserved unserved.Usage is = refl
usage-unserved unserved.KeeperFault is = absurd cc
usage-unserved unserved.UsedUp is = absurd cc
usage-unserved unserved.DiceFault is = absurd cc
usage-unserved unserved.NoMemory is = absurd cc

pub end-usage : (e : Result Outcome Unserved) → status_at (end_stop e) ≡ status.Usage → e ≡ Err unserved.Usage
end-usage (Ok o) is = absurd (usage-served (end_of o) is)
end-usage (Err why) is = let same : why ≡ unserved.Usage = usage-unserved why is in cc

pub differs-served : (e : ServeEnd) → status_at (stop_at e) ≡ status.StoreDiffers → (id : ℕ) × (e ≡ end.StoreDiffers id)
differs-served end.Done is = absurd cc
differs-served end.KeeperFault is = absurd cc
differs-served end.NoMemory is = absurd cc
differs-served (end.StoreDiffers id) is = (id, refl)
differs-served end.DoorFault is = absurd cc
differs-served end.UsedUp is = absurd cc

-- what came of the links

-- all was done
outcome-done-by : (x : Closing) (refused failed : Bool) (last : Option (Result (Unit {0}) ClerkError))
    → stop_at (end_by x refused failed last) ≡ None → (x ≡ closing.Closed) × (failed ≡ false) × (last ≢ Some (Err clerk.KeeperFault))
outcome-done-by closing.Closed true failed last is = absurd cc
outcome-done-by closing.Closed false true (Some (Ok done)) is = absurd cc
outcome-done-by closing.Closed false false (Some (Ok done)) is = (refl, refl, λ e. cc)
outcome-done-by closing.Closed false failed (Some (Err clerk.KeeperFault)) is = absurd cc
outcome-done-by closing.Closed false failed (Some (Err (clerk.KeyDiffers id))) is = absurd cc
outcome-done-by closing.Closed false failed (Some (Err clerk.UsedUp)) is = absurd cc
outcome-done-by closing.Closed false failed (Some (Err clerk.Worn)) is = absurd cc
outcome-done-by closing.Closed false failed (Some (Err clerk.NoMemory)) is = absurd cc
outcome-done-by closing.Closed false failed None is = absurd cc
outcome-done-by closing.DoorFault refused failed last is = absurd cc
outcome-done-by (closing.StoreDiffers id) refused failed last is = absurd cc
outcome-done-by closing.UsedUp refused failed last is = absurd cc
outcome-done-by closing.NoMemory refused failed last is = absurd cc

pub outcome-done : (o : Outcome) → stop_at (end_of o) ≡ None → (o.closing ≡ closing.Closed) × (o.failed ≡ false) × (o.last ≢ Some (Err clerk.KeeperFault))
outcome-done o is = outcome-done-by o.closing o.refused o.failed o.last is

-- the keeper met a fault
outcome-keeper_fault-by : (x : Closing) (refused failed : Bool) (last : Option (Result (Unit {0}) ClerkError))
    → stop_at (end_by x refused failed last) ≡ Some stop.KeeperFault → IsTrue failed ⊎ (last ≡ Some (Err clerk.KeeperFault))
outcome-keeper_fault-by closing.Closed true failed last is = absurd cc
outcome-keeper_fault-by closing.Closed false true (Some (Ok done)) is = inl refl
outcome-keeper_fault-by closing.Closed false false (Some (Ok done)) is = absurd cc
outcome-keeper_fault-by closing.Closed false failed (Some (Err clerk.KeeperFault)) is = inr refl
outcome-keeper_fault-by closing.Closed false failed (Some (Err (clerk.KeyDiffers id))) is = absurd cc
outcome-keeper_fault-by closing.Closed false failed (Some (Err clerk.UsedUp)) is = absurd cc
outcome-keeper_fault-by closing.Closed false failed (Some (Err clerk.Worn)) is = absurd cc
outcome-keeper_fault-by closing.Closed false failed (Some (Err clerk.NoMemory)) is = absurd cc
outcome-keeper_fault-by closing.Closed false failed None is = absurd cc
outcome-keeper_fault-by closing.DoorFault refused failed last is = absurd cc
outcome-keeper_fault-by (closing.StoreDiffers id) refused failed last is = absurd cc
outcome-keeper_fault-by closing.UsedUp refused failed last is = absurd cc
outcome-keeper_fault-by closing.NoMemory refused failed last is = absurd cc

pub outcome-keeper_fault : (o : Outcome) → stop_at (end_of o) ≡ Some stop.KeeperFault → IsTrue o.failed ⊎ (o.last ≡ Some (Err clerk.KeeperFault))
outcome-keeper_fault o is = outcome-keeper_fault-by o.closing o.refused o.failed o.last is

-- the door failed
outcome-door_fault-by : (x : Closing) (refused failed : Bool) (last : Option (Result (Unit {0}) ClerkError))
    → stop_at (end_by x refused failed last) ≡ Some stop.DoorFault → x ≡ closing.DoorFault
outcome-door_fault-by closing.Closed true failed last is = absurd cc
outcome-door_fault-by closing.Closed false true (Some (Ok done)) is = absurd cc
outcome-door_fault-by closing.Closed false false (Some (Ok done)) is = absurd cc
outcome-door_fault-by closing.Closed false failed (Some (Err clerk.KeeperFault)) is = absurd cc
outcome-door_fault-by closing.Closed false failed (Some (Err (clerk.KeyDiffers id))) is = absurd cc
outcome-door_fault-by closing.Closed false failed (Some (Err clerk.UsedUp)) is = absurd cc
outcome-door_fault-by closing.Closed false failed (Some (Err clerk.Worn)) is = absurd cc
outcome-door_fault-by closing.Closed false failed (Some (Err clerk.NoMemory)) is = absurd cc
outcome-door_fault-by closing.Closed false failed None is = absurd cc
outcome-door_fault-by closing.DoorFault refused failed last is = refl
outcome-door_fault-by (closing.StoreDiffers id) refused failed last is = absurd cc
outcome-door_fault-by closing.UsedUp refused failed last is = absurd cc
outcome-door_fault-by closing.NoMemory refused failed last is = absurd cc

pub outcome-door_fault : (o : Outcome) → stop_at (end_of o) ≡ Some stop.DoorFault → o.closing ≡ closing.DoorFault
outcome-door_fault o is = outcome-door_fault-by o.closing o.refused o.failed o.last is

-- a server that served never ends for its dice
outcome-dice_fault-by : (x : Closing) (refused failed : Bool) (last : Option (Result (Unit {0}) ClerkError))
    → stop_at (end_by x refused failed last) ≡ Some stop.DiceFault → ⊥
outcome-dice_fault-by closing.Closed true failed last is = absurd cc
outcome-dice_fault-by closing.Closed false true (Some (Ok done)) is = absurd cc
outcome-dice_fault-by closing.Closed false false (Some (Ok done)) is = absurd cc
outcome-dice_fault-by closing.Closed false failed (Some (Err clerk.KeeperFault)) is = absurd cc
outcome-dice_fault-by closing.Closed false failed (Some (Err (clerk.KeyDiffers id))) is = absurd cc
outcome-dice_fault-by closing.Closed false failed (Some (Err clerk.UsedUp)) is = absurd cc
outcome-dice_fault-by closing.Closed false failed (Some (Err clerk.Worn)) is = absurd cc
outcome-dice_fault-by closing.Closed false failed (Some (Err clerk.NoMemory)) is = absurd cc
outcome-dice_fault-by closing.Closed false failed None is = absurd cc
outcome-dice_fault-by closing.DoorFault refused failed last is = absurd cc
outcome-dice_fault-by (closing.StoreDiffers id) refused failed last is = absurd cc
outcome-dice_fault-by closing.UsedUp refused failed last is = absurd cc
outcome-dice_fault-by closing.NoMemory refused failed last is = absurd cc

pub outcome-dice_fault : (o : Outcome) → stop_at (end_of o) ≡ Some stop.DiceFault → ⊥
outcome-dice_fault o is = outcome-dice_fault-by o.closing o.refused o.failed o.last is

-- a kept game differs from one that is due
outcome-differs-by : (id : ℕ) (x : Closing) (refused failed : Bool) (last : Option (Result (Unit {0}) ClerkError))
    → end_by x refused failed last ≡ end.StoreDiffers id
    → (x ≡ closing.StoreDiffers id) ⊎ (last ≡ Some (Err (clerk.KeyDiffers id)))
outcome-differs-by id closing.Closed true failed last is = absurd cc
outcome-differs-by id closing.Closed false true (Some (Ok done)) is = absurd cc
outcome-differs-by id closing.Closed false false (Some (Ok done)) is = absurd cc
outcome-differs-by id closing.Closed false failed (Some (Err clerk.KeeperFault)) is = absurd cc
outcome-differs-by id closing.Closed false failed (Some (Err (clerk.KeyDiffers other))) is = inr cc
outcome-differs-by id closing.Closed false failed (Some (Err clerk.UsedUp)) is = absurd cc
outcome-differs-by id closing.Closed false failed (Some (Err clerk.Worn)) is = absurd cc
outcome-differs-by id closing.Closed false failed (Some (Err clerk.NoMemory)) is = absurd cc
outcome-differs-by id closing.Closed false failed None is = absurd cc
outcome-differs-by id closing.DoorFault refused failed last is = absurd cc
outcome-differs-by id (closing.StoreDiffers other) refused failed last is = inl cc
outcome-differs-by id closing.UsedUp refused failed last is = absurd cc
outcome-differs-by id closing.NoMemory refused failed last is = absurd cc

pub outcome-differs : (o : Outcome) (id : ℕ) → end_of o ≡ end.StoreDiffers id
    → (o.closing ≡ closing.StoreDiffers id) ⊎ (o.last ≡ Some (Err (clerk.KeyDiffers id)))
outcome-differs o id is = outcome-differs-by id o.closing o.refused o.failed o.last is
