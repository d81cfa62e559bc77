-- Which front of a text was written, if writing it stopped?
use Rattle.std.specs.Prelude.{◌≡◌, ◌⊎◌, ◌≤◌, ℕ, List, Option, length, take}
use Rattle.std.specs.Io.KnownBytes.{Appends}
use Rattle.hb_run.specs.declared.ends.RunEnd.{RunEnd}
use Rattle.hb_run.specs.declared.ends.RunEnd.TheVariants.{NoMemory, WriteFault}

-- the first bytes of a text were written, and no other
pub record AppendsFront (before after : Option (List ℕ)) (text : List ℕ) : Type 0 where
  pub bytes : ℕ
  pub within : bytes ≤ length text
  pub written : Appends before after (take bytes text)

-- writing stopped: the sink failed, or there was no memory for a line
abbrev pub IsWriteEnd : RunEnd → Type 0
IsWriteEnd why = (why ≡ WriteFault) ⊎ (why ≡ NoMemory)
