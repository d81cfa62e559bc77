-- What was written to the output and to the error output when a run ends?
use Rattle.std.specs.Prelude.{◌≡◌, ℕ, ◌<◌, ◌⊎◌, List, Option, length, take}
use Rattle.std.specs.Io.KnownBytes.{Appends}
use Rattle.hb_io.specs.Causes.{Rose}
use Rattle.hb_cli.specs.declared.status.Status.{Status}
use Rattle.hb_cli.specs.declared.status.Status.TheVariants as status
use Rattle.hb_cli.specs.declared.status.Stop.{Stop}
use Rattle.hb_cli.specs.declared.status.Stop.TheVariants as stop
use Rattle.hb_cli.specs.Statuses.{line_of, status_of}

-- what a sink tells before a run and after it: the bytes that it holds, and how many of its calls
-- failed
pub record Sent : Type 0 where
  pub held_before : Option (List ℕ)
  pub held : Option (List ℕ)
  pub faults_before : ℕ
  pub faults : ℕ

abbrev pub sent : {S : Type 0} → (S → Option (List ℕ)) → (S → ℕ) → S → S → Sent
sent held faults before now = record {
  held_before = held before;
  held = held now;
  faults_before = faults before;
  faults = faults now;
}

-- the whole text was written
abbrev pub Writes : Sent → List ℕ → Type 0
Writes s text = Appends s.held_before s.held text

-- the sink failed, after a front of the text was written
abbrev pub FailsIn : Sent → List ℕ → Type 0
FailsIn s text = (count : ℕ) × (count < length text)
    × Appends s.held_before s.held (take count text) × Rose s.faults_before s.faults

-- the line of a cause was written, with the cause's status; or, as there was no memory for it, the
-- line and the status of that
abbrev pub SaysLine : Sent → Status → Stop → Type 0
SaysLine err result why = ((status_of why ≡ result) × Writes err (line_of why))
    ⊎ ((result ≡ status.NoMemory) × Writes err (line_of stop.NoMemory))

-- the error output failed in the line of a cause, or in the one that says that there was no memory
-- for it
abbrev pub FailsLine : Sent → Stop → Type 0
FailsLine err why = FailsIn err (line_of why) ⊎ FailsIn err (line_of stop.NoMemory)
