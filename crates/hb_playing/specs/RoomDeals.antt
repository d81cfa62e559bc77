-- Which game is dealt at a table, and why is none?
use Rattle.std.specs.Prelude.{◌≡◌, ℕ, ⊤, true, false, List, [], Some, None}
use Rattle.hb_rules.specs.declared.acts.Options.{Options}
use Rattle.hb_rules.specs.Setup.{Position}
use Rattle.hb_rules.specs.Start.{are_options, are_players}
use Rattle.hb_suits.specs.VariantNames.{variant_of}
use Rattle.hb_club.specs.declared.shoes.Shoe.{Shoe}
use Rattle.hb_club.specs.RoomEvents.{Site}
use Rattle.hb_club.specs.TableFacts.{setup_when}
use Rattle.hb_playing.specs.declared.deals.DealError.{DealError}
use Rattle.hb_playing.specs.declared.deals.DealError.TheVariants as error

-- what a room was made with
abbrev pub site_with : Shoe → ℕ → ℕ → Site
site_with shoe room run =
    record { room = room; seed = shoe.seed; written = shoe.written; run = run }

-- the game that starts at a table of so many players, which was opened with a variant's name and
-- options
pub record IsDealt (s : Site) (serial : ℕ) (opened : List ℕ × Options) (count : ℕ)
    (p : Position) : Type 0 where
  pub setup : setup_when true s serial opened count ≡ Some p.setup
  pub past : p.past ≡ []

-- why a game of so many players does not start with a deck of its variant: the first cause that
-- holds; out of memory says nothing
abbrev pub IsNoStart : Options → ℕ → DealError → Type 0
IsNoStart o count error.Variant = ⊥
IsNoStart o count error.Players = are_players count ≡ false
IsNoStart o count error.Options = (are_players count ≡ true) × (are_options count o ≡ false)
IsNoStart o count error.NoMemory = ⊤

-- why none is dealt: the name is that of no variant, or the game does not start
abbrev pub IsNotDealt : List ℕ × Options → ℕ → DealError → Type 0
IsNotDealt opened count error.Variant = variant_of opened.0 ≡ None
IsNotDealt opened count error.Players = IsNoStart opened.1 count error.Players
IsNotDealt opened count error.Options = IsNoStart opened.1 count error.Options
IsNotDealt opened count error.NoMemory = IsNoStart opened.1 count error.NoMemory
