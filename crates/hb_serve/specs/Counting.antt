-- What do the counts of a door and of a spawner say of the links that were served?
use Rattle.std.specs.Prelude.{◌≡◌, ◌⊎◌, ◌<◌, ◌≤◌, ◌+◌, ◌-◌, ◌^◌, ℕ, Bool, true, false, List, Option, IfSome, length}
use Rattle.hb_io.specs.Causes.{Rose}
use Rattle.hb_edge.specs.Telling.{Keeps, Tells}

-- so many were counted more, if that is told
abbrev pub CountsMore : ℕ → Option ℕ → Option ℕ → Type 0
CountsMore more before now = Tells before now (λ n. n + more)

-- so many stubs may be given back, if any may
abbrev pub HasRoom : {S : Type 0} → ℕ → Option ℕ → Option (List S) → Type 0
HasRoom more given back =
    IfSome given (λ links. IfSome back (λ stubs. 0 < more → length stubs + more ≤ links))

-- the count of faults rose by as many as were refused, or came to its greatest number
abbrev pub AreRefused : ℕ → (before now : ℕ) → Type 0
AreRefused refused before now = (before + refused ≤ now) ⊎ (2 ^ 64 - 1 ≤ now)

-- a job was started, or it was refused and that was counted
abbrev pub Begins : Bool → (jobs now : ℕ) → (started started' : Option ℕ)
    → (faults faults' : ℕ) → Type 0
Begins true jobs now started started' faults faults' =
    (now ≡ jobs + 1) × CountsMore 1 started started' × (faults' ≡ faults)
Begins false jobs now started started' faults faults' =
    (now ≡ jobs) × Keeps started started' × (faults ≤ faults') × Rose faults faults'

-- a number grew as what is told was counted
pub record GrowsBy (old new : ℕ) (told told' : Option ℕ) : Type 0 where
  pub more : ℕ
  pub is : new ≡ old + more
  pub counted : CountsMore more told told'

-- a number is as before, or one more
abbrev pub IsOneMore : ℕ → ℕ → Type 0
IsOneMore old new = (new ≡ old) ⊎ (new ≡ old + 1)
