-- Which cause does a status have?
use Rattle.std.proofs.Common.{◌≡◌, ◌≢◌, ℕ, inl, inr, refl, subst}
use Rattle.std.specs.Prelude.{◌⊎◌}
use Rattle.hb_replay.specs.declared.errors.ReplayError.{ReplayError}
use Rattle.hb_replay.specs.declared.errors.ReplayError.TheVariants as refusal
use Rattle.hb_cli.specs.declared.status.Status.{Status}
use Rattle.hb_cli.specs.declared.status.Status.TheVariants as status
use Rattle.hb_cli.specs.declared.status.Stop.{Stop}
use Rattle.hb_cli.specs.declared.status.Stop.TheVariants as stop
use Rattle.hb_cli.specs.Statuses.{HasRead, IsRefused, IsSilent, refusal_status, status_of}

refusal_status-Usage : (e : ReplayError) → refusal_status e ≡ status.Usage → ⊥
refusal_status-Usage refusal.Json is = cc
refusal_status-Usage (refusal.Shape place) is = cc
refusal_status-Usage refusal.Players is = cc
refusal_status-Usage refusal.Variant is = cc
refusal_status-Usage (refusal.Option name) is = cc
refusal_status-Usage refusal.Deck is = cc
refusal_status-Usage (refusal.Action k rule) is = cc
refusal_status-Usage refusal.Notes is = cc
refusal_status-Usage refusal.NoMemory is = cc

refusal_status-ReadFault : (e : ReplayError) → refusal_status e ≡ status.ReadFault → ⊥
refusal_status-ReadFault refusal.Json is = cc
refusal_status-ReadFault (refusal.Shape place) is = cc
refusal_status-ReadFault refusal.Players is = cc
refusal_status-ReadFault refusal.Variant is = cc
refusal_status-ReadFault (refusal.Option name) is = cc
refusal_status-ReadFault refusal.Deck is = cc
refusal_status-ReadFault (refusal.Action k rule) is = cc
refusal_status-ReadFault refusal.Notes is = cc
refusal_status-ReadFault refusal.NoMemory is = cc

refusal_status-KeeperFault : (e : ReplayError) → refusal_status e ≡ status.KeeperFault → ⊥
refusal_status-KeeperFault refusal.Json is = cc
refusal_status-KeeperFault (refusal.Shape place) is = cc
refusal_status-KeeperFault refusal.Players is = cc
refusal_status-KeeperFault refusal.Variant is = cc
refusal_status-KeeperFault (refusal.Option name) is = cc
refusal_status-KeeperFault refusal.Deck is = cc
refusal_status-KeeperFault (refusal.Action k rule) is = cc
refusal_status-KeeperFault refusal.Notes is = cc
refusal_status-KeeperFault refusal.NoMemory is = cc

refusal_status-StoreDiffers : (e : ReplayError) → refusal_status e ≡ status.StoreDiffers → ⊥
refusal_status-StoreDiffers refusal.Json is = cc
refusal_status-StoreDiffers (refusal.Shape place) is = cc
refusal_status-StoreDiffers refusal.Players is = cc
refusal_status-StoreDiffers refusal.Variant is = cc
refusal_status-StoreDiffers (refusal.Option name) is = cc
refusal_status-StoreDiffers refusal.Deck is = cc
refusal_status-StoreDiffers (refusal.Action k rule) is = cc
refusal_status-StoreDiffers refusal.Notes is = cc
refusal_status-StoreDiffers refusal.NoMemory is = cc

-- `Usage` is the status of no other cause
pub status_of-Usage : (why : Stop) → status_of why ≡ status.Usage → why ≡ stop.Usage
status_of-Usage stop.Usage is = refl
status_of-Usage stop.ReadFault is = cc
status_of-Usage stop.WriteFault is = cc
status_of-Usage stop.TooLong is = cc
status_of-Usage (stop.Refused e) is = absurd (refusal_status-Usage e is)
status_of-Usage (stop.Line number) is = cc
status_of-Usage stop.KeeperFault is = cc
status_of-Usage stop.NoSuchView is = cc
status_of-Usage stop.NoMemory is = cc
status_of-Usage (stop.StoreDiffers id) is = cc
status_of-Usage stop.DoorFault is = cc
status_of-Usage stop.DiceFault is = cc
status_of-Usage stop.UsedUp is = cc

-- `ReadFault` is the status of no other cause
pub status_of-ReadFault : (why : Stop) → status_of why ≡ status.ReadFault → why ≡ stop.ReadFault
status_of-ReadFault stop.Usage is = cc
status_of-ReadFault stop.ReadFault is = refl
status_of-ReadFault stop.WriteFault is = cc
status_of-ReadFault stop.TooLong is = cc
status_of-ReadFault (stop.Refused e) is = absurd (refusal_status-ReadFault e is)
status_of-ReadFault (stop.Line number) is = cc
status_of-ReadFault stop.KeeperFault is = cc
status_of-ReadFault stop.NoSuchView is = cc
status_of-ReadFault stop.NoMemory is = cc
status_of-ReadFault (stop.StoreDiffers id) is = cc
status_of-ReadFault stop.DoorFault is = cc
status_of-ReadFault stop.DiceFault is = cc
status_of-ReadFault stop.UsedUp is = cc

-- `KeeperFault` is the status of no other cause
pub status_of-KeeperFault : (why : Stop) → status_of why ≡ status.KeeperFault → why ≡ stop.KeeperFault
status_of-KeeperFault stop.Usage is = cc
status_of-KeeperFault stop.ReadFault is = cc
status_of-KeeperFault stop.WriteFault is = cc
status_of-KeeperFault stop.TooLong is = cc
status_of-KeeperFault (stop.Refused e) is = absurd (refusal_status-KeeperFault e is)
status_of-KeeperFault (stop.Line number) is = cc
status_of-KeeperFault stop.KeeperFault is = refl
status_of-KeeperFault stop.NoSuchView is = cc
status_of-KeeperFault stop.NoMemory is = cc
status_of-KeeperFault (stop.StoreDiffers id) is = cc
status_of-KeeperFault stop.DoorFault is = cc
status_of-KeeperFault stop.DiceFault is = cc
status_of-KeeperFault stop.UsedUp is = cc

-- `StoreDiffers` is the status of no other cause
pub status_of-StoreDiffers : (why : Stop) → status_of why ≡ status.StoreDiffers → (id : ℕ) × (why ≡ stop.StoreDiffers id)
status_of-StoreDiffers stop.Usage is = absurd cc
status_of-StoreDiffers stop.ReadFault is = absurd cc
status_of-StoreDiffers stop.WriteFault is = absurd cc
status_of-StoreDiffers stop.TooLong is = absurd cc
status_of-StoreDiffers (stop.Refused e) is = absurd (refusal_status-StoreDiffers e is)
status_of-StoreDiffers (stop.Line number) is = absurd cc
status_of-StoreDiffers stop.KeeperFault is = absurd cc
status_of-StoreDiffers stop.NoSuchView is = absurd cc
status_of-StoreDiffers stop.NoMemory is = absurd cc
status_of-StoreDiffers (stop.StoreDiffers id) is = (id, refl)
status_of-StoreDiffers stop.DoorFault is = absurd cc
status_of-StoreDiffers stop.DiceFault is = absurd cc
status_of-StoreDiffers stop.UsedUp is = absurd cc

refusal_refused : (e : ReplayError) → IsRefused (refusal_status e)
refusal_refused refusal.Json = tt
refusal_refused (refusal.Shape place) = tt
refusal_refused refusal.Players = tt
refusal_refused refusal.Variant = tt
refusal_refused (refusal.Option name) = tt
refusal_refused refusal.Deck = tt
refusal_refused (refusal.Action k rule) = tt
refusal_refused refusal.Notes = tt
refusal_refused refusal.NoMemory = tt

-- each cause that is not the output's has a status that says why the work was not done
pub other_refused : (why : Stop) → why ≢ stop.WriteFault → IsRefused (status_of why)
other_refused stop.Usage other = tt
other_refused stop.ReadFault other = tt
other_refused stop.WriteFault other = absurd (other refl)
other_refused stop.TooLong other = tt
other_refused (stop.Refused e) other = refusal_refused e
other_refused (stop.Line number) other = tt
other_refused stop.KeeperFault other = tt
other_refused stop.NoSuchView other = tt
other_refused stop.NoMemory other = tt
other_refused (stop.StoreDiffers id) other = tt
other_refused stop.DoorFault other = tt
other_refused stop.DiceFault other = tt
other_refused stop.UsedUp other = tt

-- a cause is the output's, or it is not
pub is_output : (why : Stop) → (why ≡ stop.WriteFault) ⊎ (why ≢ stop.WriteFault)
is_output stop.Usage = inr (λ e. cc)
is_output stop.ReadFault = inr (λ e. cc)
is_output stop.WriteFault = inl refl
is_output stop.TooLong = inr (λ e. cc)
is_output (stop.Refused e) = inr (λ e. cc)
is_output (stop.Line number) = inr (λ e. cc)
is_output stop.KeeperFault = inr (λ e. cc)
is_output stop.NoSuchView = inr (λ e. cc)
is_output stop.NoMemory = inr (λ e. cc)
is_output (stop.StoreDiffers id) = inr (λ e. cc)
is_output stop.DoorFault = inr (λ e. cc)
is_output stop.DiceFault = inr (λ e. cc)
is_output stop.UsedUp = inr (λ e. cc)

-- statuses that are none of two others

-- a status that says why the work was not done is not that of an output that failed
pub refused_no_fault : (s : Status) → IsRefused s → s ≢ status.WriteFault
refused_no_fault s refused = λ e. subst IsRefused e refused

-- a status before which no work begins is not that of an output that failed
pub silent_no_fault : (s : Status) → IsSilent s → s ≢ status.WriteFault
silent_no_fault s silent = λ e. subst IsSilent e silent

-- a status before which no work begins is not that of memory that ran out
pub silent_no_memory : (s : Status) → IsSilent s → s ≢ status.NoMemory
silent_no_memory s silent = λ e. subst IsSilent e silent

-- a status before which the input was read to its end is not that of an output that failed
pub read_no_fault : (s : Status) → HasRead s → s ≢ status.WriteFault
read_no_fault s read = λ e. subst HasRead e read

-- a status before which the input was read to its end is not that of memory that ran out
pub read_no_memory : (s : Status) → HasRead s → s ≢ status.NoMemory
read_no_memory s read = λ e. subst HasRead e read
