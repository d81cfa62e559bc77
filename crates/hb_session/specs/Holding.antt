-- What does a session do that is held on a link of its own, to its end?
use Rattle.std.specs.Prelude.{◌≡◌, ℕ, Bool, Option}
use Rattle.hb_club.specs.Fronts.{Fronts, House}
use Rattle.hb_edge.specs.Counts.{Counts}
use Rattle.hb_edge.specs.Talk.{Talk}
use Rattle.hb_session.specs.declared.ends.End.{End}
use Rattle.hb_session.specs.declared.holds.TheConstants.{SESSION_BUDGET}
use Rattle.hb_session.specs.Conversations.{Converses}
use Rattle.hb_session.specs.Ends.{is_link_fault}

-- the hall that is given back is of the house that it was of, and a session was held over it; what
-- was told, and the counts of faults, are those of the link and of its stub
pub record IsHeld {S : Type 0} (stands : S → Fronts → Type 0) (house : S → House)
    (count : S → ℕ) (alone : S → Bool) (before after : S) (clock : Option (ℕ → ℕ))
    (told told' : Option Talk) (faults faults' : ℕ) (how : End) : Type 0 where
  pub same_house : house after ≡ house before
  pub same_count : count after ≡ count before
  pub same_alone : alone after ≡ alone before
  pub converses : (f : Fronts) → stands before f
      → Converses stands (house before) (count before) (alone before) after f clock SESSION_BUDGET
      told told' how
  pub cause : Counts (is_link_fault how) faults faults'
