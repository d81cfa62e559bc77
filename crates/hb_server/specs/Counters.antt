-- What do the counts of the door, of the spawner and of the keeper say of what came of the links?
use Rattle.std.specs.Prelude.{◌≡◌, ◌≢◌, ◌⊎◌, ◌+◌, ℕ, false, IsTrue, Option, Some, Err, is_some}
use Rattle.hb_io.specs.Causes.{Rose}
use Rattle.hb_edge.specs.Counts.{Counts}
use Rattle.hb_house.specs.declared.reports.ClerkError.TheVariants as clerk
use Rattle.hb_serve.specs.declared.accepts.Closing.TheVariants as closing
use Rattle.hb_serve.specs.declared.serving.Outcome.{Outcome}
use Rattle.hb_serve.specs.Closings.{is_door_fault, says_closed}
use Rattle.hb_serve.specs.Counting.{AreRefused, CountsMore}
use Rattle.hb_serve.specs.Serving.{has_last_round}

-- a count before a call and behind it
pub record Count (N : Type 0) : Type 0 where
  pub before : N
  pub now : N

abbrev pub counted : {A N : Type 0} → (A → N) → A → A → Count N
counted count before now = record { before = count before; now = count now }

-- the links that the door gave, how often it said that it is closed, and its faults; the jobs that
-- the spawner started, those for which was waited, and those that it refused; the keeper's faults
pub record Counters : Type 0 where
  pub given : Count (Option ℕ)
  pub closes : Count ℕ
  pub door : Count ℕ
  pub started : Count (Option ℕ)
  pub waited : Count (Option ℕ)
  pub refused : Count ℕ
  pub keeper : Count ℕ

-- the counts say so of what came of the links
pub record Counted (o : Outcome) (x : Counters) : Type 0 where
  -- each link that was given was served or turned away, unless memory ran out
  pub links : o.closing ≢ closing.NoMemory
      → CountsMore (o.served + o.turned) x.given.before x.given.now
  pub closes : Counts (says_closed (Some o.closing)) x.closes.before x.closes.now
  pub door : Counts (is_door_fault (Some o.closing)) x.door.before x.door.now
  pub started : CountsMore o.served x.started.before x.started.now
  pub waited : CountsMore o.served x.waited.before x.waited.now
  pub turned : AreRefused o.turned x.refused.before x.refused.now
  -- the clerk was called behind the last session if the door was closed, or failed
  pub last : is_some o.last ≡ has_last_round o.closing
  -- the keeper met a fault exactly if a call of the clerk did
  pub keeper_fault : IsTrue o.failed ⊎ (o.last ≡ Some (Err clerk.KeeperFault))
      → Rose x.keeper.before x.keeper.now
  pub no_keeper_fault : o.failed ≡ false → o.last ≢ Some (Err clerk.KeeperFault)
      → x.keeper.now ≡ x.keeper.before
