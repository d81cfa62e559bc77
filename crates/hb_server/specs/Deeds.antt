-- What did a server do, by how it ended?
--
-- `Was` and `Left` are what the keeper tells before the server's call and behind it, and `sure` is
-- whether a content that it tells can be relied on; `clones` is that clones of the clock tell what
-- the clock has still to give.
use Rattle.std.specs.Prelude.{◌≡◌, ⊤, ℕ, false, List, Option, Some, Result, Ok, Err}
use Rattle.hb_club.specs.Fronts.{House, no_events}
use Rattle.hb_edge.specs.Talk.{Talk}
use Rattle.hb_house.specs.KeeperSteps.{Telling}
use Rattle.hb_cli.specs.Works.{AtTold}
use Rattle.hb_serve.specs.declared.serving.Outcome.{Outcome}
use Rattle.hb_serve.specs.Closings.{IsClerkWord}
use Rattle.hb_serve.specs.Serving.{Served}
use Rattle.hb_words.specs.declared.servers.ServerCommand.{ServerCommand}
use Rattle.hb_words.specs.Servers.{IsServer}
use Rattle.hb_server.specs.declared.ends.Unserved.{Unserved}
use Rattle.hb_server.specs.declared.ends.Unserved.TheVariants as unserved
use Rattle.hb_server.specs.Counters.{Counted, Counters}
use Rattle.hb_server.specs.Houses.{OpensHouse, OpensNone}

-- what is told of a server: its words, the seed of its dice and the moments of its clock, the stubs
-- of links before it and behind it, and counts
pub record Told (S : Type 0) : Type 0 where
  pub words : List (List ℕ)
  pub seed : Option (List ℕ)
  pub clock : Option (ℕ → ℕ)
  pub back : Option (List S)
  pub back_now : Option (List S)
  pub counters : Counters

-- a house of so many rooms was opened, and the links were served in it, from no events on
pub record ServesHouse {S : Type 0} (Left : Telling → Type 0) (clones : Type 0)
    (talk : S → Option Talk) (faults : S → ℕ) (t : Told S) (rooms : ℕ) (o : Outcome)
    (c : Telling) : Type 0 where
  pub house : House
  pub opens : OpensHouse (λ begun. ⊤) t.seed house c
  pub sessions : clones → Served (λ after. ⊤) Left talk faults false house rooms t.clock no_events
      opens.begun.keeper o.served o.refused o.last t.back t.back_now
  pub stopped : IsClerkWord (Some o.closing) false house rooms no_events opens.begun.keeper

-- the words ask for a server, of whose command this holds
abbrev pub AsksServer : List (List ℕ) → (ServerCommand → Type 0) → Type 0
AsksServer words P = (command : ServerCommand) × IsServer words command × P command

-- links were served, or none was for this cause
abbrev pub Did : {S : Type 0} → (Was Left : Telling → Type 0) → (sure clones : Type 0)
    → (talk : S → Option Talk) → (faults : S → ℕ) → Told S → Result Outcome Unserved → Type 0
Did Was Left sure clones talk faults t (Ok o) =
    AsksServer t.words (λ command.
    AtTold Was sure (ServesHouse Left clones talk faults t command.rooms o))
    × Counted o t.counters
Did Was Left sure clones talk faults t (Err unserved.Usage) = AsksServer t.words (λ command. ⊤) → ⊥
Did Was Left sure clones talk faults t (Err why) =
    AsksServer t.words (λ command. OpensNone Was Left sure why)
