-- What do the adapters over the system count?
use Rattle.std.specs.Prelude.{ℕ}
use Rattle.hb_edge.specs.declared.dice.SystemDice.{SystemDice}

-- how many calls of the system's dice failed
abbrev pub dice_faults : {R : Type 0} → SystemDice R → ℕ
dice_faults dice = dice.faults
