-- What is the game of the first acts?
use Rattle.std.specs.Prelude.{ℕ, ◌-◌, List, length, drop}
use Rattle.hb_rules.specs.declared.acts.Act.{Act}
use Rattle.hb_rules.specs.Setup.{Position}

-- the first acts of a history, which has the newest first
abbrev pub first_acts : ℕ → List Act → List Act
first_acts count past = drop (length past - count) past

-- the position after the first acts
abbrev pub prefix : Position → ℕ → Position
prefix p count = record p { past = first_acts count p.past }
