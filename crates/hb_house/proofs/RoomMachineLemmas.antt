-- For which lists does a room stand that has the same facts? For the same.
use Rattle.std.proofs.Common.{List, sym, subst}
use Rattle.hb_club.specs.RoomEvents.{RoomEvent, Site}
use Rattle.hb_table.specs.declared.room.Room.{Room}
use Rattle.hb_table.specs.Changes.{SameFacts}
use Rattle.hb_table.specs.Keeps.{Keeps, StandsFor, site_in}
use Rattle.hb_table.specs.State.{state_at}
use Rattle.hb_table.proofs.RoomKeepsLemmas.{same-facts-keeps}

-- with the same facts a room stands for each list for which it stood
pub same-facts-stands : (a b : Room) → SameFacts a b → (events : List RoomEvent) → StandsFor a events → StandsFor b events
same-facts-stands a b facts events stands = record {
  keeps = subst (λ (s : Site). Keeps (state_at s events) b) (sym facts.site)
      (same-facts-keeps (state_at (site_in a) events) a b facts stands.keeps);
  whole = stands.whole;
}
