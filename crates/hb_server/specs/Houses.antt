-- How does a server open its house, and why does it open none?
use Rattle.std.specs.Prelude.{◌≡◌, ◌⊎◌, ⊤, ℕ, List, Option, None, IfSome}
use Rattle.hb_keeper.specs.declared.errors.KeepError.{KeepError}
use Rattle.hb_keeper.specs.declared.errors.KeepError.TheVariants as keep
use Rattle.hb_keeper.specs.KeptGames.{open_run_on}
use Rattle.hb_club.specs.Fronts.{House}
use Rattle.hb_house.specs.KeeperSteps.{Failed, Telling}
use Rattle.hb_cli.specs.Begun.{Begun}
use Rattle.hb_cli.specs.Works.{AtTold}
use Rattle.hb_server.specs.declared.ends.Unserved.{Unserved}
use Rattle.hb_server.specs.declared.ends.Unserved.TheVariants as unserved

-- the house is that of a run which the keeper began, and its decks come from the seed that the dice
-- gave, if they tell it
pub record OpensHouse (Left : Telling → Type 0) (seed : Option (List ℕ)) (h : House)
    (c : Telling) : Type 0 where
  pub begun : Begun c
  pub told : Left begun.keeper
  pub run : h.run ≡ begun.run
  pub seed_is : IfSome seed (λ told. h.seed ≡ told)
  pub shuffled : h.written ≡ None

-- the keeper began a run
pub record BeganRun (Left : Telling → Type 0) (c : Telling) : Type 0 where
  pub begun : Begun c
  pub told : Left begun.keeper

-- the keeper refused to begin one
pub record RefusedRun (Left : Telling → Type 0) (refusal : KeepError) (c : Telling)
    : Type 0 where
  pub left : Telling
  pub told : Left left
  pub failed : Failed refusal open_run_on c left

-- why there is no house, if the keeper refuses to begin a run
abbrev pub not_begun : KeepError → Unserved
not_begun keep.Fault = unserved.KeeperFault
not_begun keep.UsedUp = unserved.UsedUp
not_begun (keep.KeyDiffers id) = unserved.NoMemory
not_begun keep.NoMemory = unserved.NoMemory

-- no house is opened for this cause
abbrev pub OpensNone : (Was Left : Telling → Type 0) → (sure : Type 0) → Unserved → Type 0
OpensNone Was Left sure unserved.Usage = ⊥
OpensNone Was Left sure unserved.KeeperFault = AtTold Was sure (RefusedRun Left keep.Fault)
OpensNone Was Left sure unserved.UsedUp = AtTold Was sure (RefusedRun Left keep.UsedUp)
OpensNone Was Left sure unserved.DiceFault = AtTold Was sure (BeganRun Left)
OpensNone Was Left sure unserved.NoMemory =
    AtTold Was sure (BeganRun Left) ⊎ AtTold Was sure (RefusedRun Left keep.NoMemory)
