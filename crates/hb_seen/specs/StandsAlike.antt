-- When does a game stand alike in two setups, after the same acts?
use Rattle.std.specs.Prelude.{◌≡◌, ℕ, true, List}
use Rattle.hb_rules.specs.declared.acts.Act.{Act}
use Rattle.hb_rules.specs.declared.setups.Setup.{Setup}
use Rattle.hb_rules.specs.Hands.{drawn_count, hand, holder, is_gone, left}
use Rattle.hb_rules.specs.Result.{current, ended, height, lost, score, strikes, tokens}
use Rattle.hb_rules.specs.Setup.{card}

-- all counts are the same, and so is who holds what, and each card that was played or discarded
pub record StandsAlike (g h : Setup) (past : List Act) : Type 0 where
  pub turn : current g past ≡ current h past
  pub end : ended g past ≡ ended h past
  pub points : score g past ≡ score h past
  pub heights : (suit : ℕ) → height g past suit ≡ height h past suit
  pub strikes : strikes g past ≡ strikes h past
  pub tokens : tokens g past ≡ tokens h past
  pub left : left g past ≡ left h past
  pub drawn : drawn_count g past ≡ drawn_count h past
  pub holders : (order : ℕ) → holder g past order ≡ holder h past order
  pub hands : (seat : ℕ) → hand g past seat ≡ hand h past seat
  pub lost : lost g past ≡ lost h past
  pub gone : (order : ℕ) → is_gone past order ≡ true → card g order ≡ card h order
