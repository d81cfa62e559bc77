-- Do lists go on to themselves, and through two calls? Yes.
use Rattle.std.proofs.Common.{refl}
use Rattle.hb_club.specs.Fronts.{AllGoOn, Fronts}
use Rattle.hb_house.proofs.GoesOnLemmas.{goes_on-same, goes_on-trans}

-- lists go on to themselves
pub all_on-same : (f : Fronts) → AllGoOn f f
all_on-same f = record { rooms = (λ room. goes_on-same refl); lobby = goes_on-same refl }

-- what goes on twice goes on
pub all_on-trans : (f g k : Fronts) → AllGoOn f g → AllGoOn g k → AllGoOn f k
all_on-trans f g k first next = record {
  rooms = (λ room. goes_on-trans (first.rooms room) (next.rooms room));
  lobby = goes_on-trans first.lobby next.lobby;
}
