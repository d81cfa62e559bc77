use Rattle.std.proofs.Common.{length, ◌-◌}
use Rattle.hb_keeper.specs.Listing.{IsListed}
use Rattle.hb_keeper.proofs.listing.Listing.catch_up.Given as goal

abbrev pub invariant-loop-self : goal.invariant-loop-self
invariant-loop-self l = IsListed l.rows l.self.lists l.self.count

abbrev pub decreases-loop-self : goal.decreases-loop-self
decreases-loop-self l = length l.rows - l.self.count
