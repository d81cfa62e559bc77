-- Whose word is it that no more links are accepted?
use Rattle.std.specs.Prelude.{ℕ, ⊤, Bool, true, false, Option, Some}
use Rattle.hb_club.specs.Fronts.{Fronts, House}
use Rattle.hb_house.specs.declared.reports.ClerkError.TheVariants as clerk
use Rattle.hb_house.specs.KeeperSteps.{Telling}
use Rattle.hb_serve.specs.declared.accepts.Closing.{Closing}
use Rattle.hb_serve.specs.declared.accepts.Closing.TheVariants as closing
use Rattle.hb_serve.specs.Clerking.{StoppedLater}

-- the door said that it is closed
abbrev pub says_closed : Option Closing → Bool
says_closed (Some closing.Closed) = true
says_closed _ = false

-- the door failed
abbrev pub is_door_fault : Option Closing → Bool
is_door_fault (Some closing.DoorFault) = true
is_door_fault _ = false

-- the clerk stopped at a room
abbrev pub is_by_clerk : Option Closing → Bool
is_by_clerk (Some (closing.StoreDiffers id)) = true
is_by_clerk (Some closing.UsedUp) = true
is_by_clerk _ = false

-- what the clerk did if it is the clerk's word, of lists that came before and of what the keeper
-- told with them
abbrev pub IsClerkWord : Option Closing → Bool → House → ℕ → Fronts → Telling → Type 0
IsClerkWord (Some (closing.StoreDiffers id)) alone h n f c =
    StoppedLater alone h n f c (clerk.KeyDiffers id)
IsClerkWord (Some closing.UsedUp) alone h n f c = StoppedLater alone h n f c clerk.UsedUp
IsClerkWord _ alone h n f c = ⊤
