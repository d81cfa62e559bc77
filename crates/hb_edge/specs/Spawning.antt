-- What does a spawner count?
use Rattle.std.specs.Prelude.{ℕ, ◌-◌, ◌^◌, nat_lt, if◌then◌else◌, Result, Ok, Err}
use Rattle.std.specs.declared.option.Option.{Option}
use Rattle.std.specs.declared.option.Option.TheVariants.{None, Some}
use Rattle.hb_edge.specs.declared.spawners.ThreadSpawner.{ThreadSpawner}

-- how many jobs were started by a start with this answer
abbrev pub started_in : {T E : Type 0} → Result T E → ℕ
started_in (Ok task) = 1
started_in (Err e) = 0

-- a number that is counted up to the largest u64, and told below that
abbrev pub told_below : ℕ → Option ℕ
told_below count = if nat_lt count (2 ^ 64 - 1) then Some count else None

-- how many jobs were refused
abbrev pub spawner_faults : {R : Type 0} → ThreadSpawner R → ℕ
spawner_faults spawner = spawner.faults

-- how many jobs were started
abbrev pub spawner_started : {R : Type 0} → ThreadSpawner R → ℕ
spawner_started spawner = spawner.started

-- for how many tasks was waited
abbrev pub spawner_waited : {R : Type 0} → ThreadSpawner R → ℕ
spawner_waited spawner = spawner.waited
