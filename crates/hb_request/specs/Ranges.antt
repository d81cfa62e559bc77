-- Which requests are in their ranges?
use Rattle.std.specs.Prelude.{◌≡◌, ◌≤◌, ℕ, ◌-◌, ◌^◌, List, length, true, is_some, Option, None, Some, ⊤}
use Rattle.hb_rules.specs.declared.acts.Options.{Options}
use Rattle.hb_rules.specs.declared.limits.TheConstants.{HIGHEST_RANK}
use Rattle.hb_suits.specs.VariantNames.{variant_of}
use Rattle.hb_json.specs.WrittenModes.{AreModes}
use Rattle.hb_request.specs.declared.limits.TheConstants.{HIGHEST_COLOR, HIGHEST_ID, HIGHEST_ORDER, HIGHEST_SEAT, KEY_LIMIT}
use Rattle.hb_request.specs.declared.requests.WireClue.{WireClue}
use Rattle.hb_request.specs.declared.requests.WireClue.TheVariants as clue
use Rattle.hb_request.specs.declared.requests.WireAction.{WireAction}
use Rattle.hb_request.specs.declared.requests.WireAction.TheVariants as action
use Rattle.hb_request.specs.declared.requests.Ask.{Ask}
use Rattle.hb_request.specs.declared.requests.Ask.TheVariants as ask
use Rattle.hb_request.specs.declared.requests.Request.{Request}
use Rattle.hb_request.specs.declared.requests.Request.TheVariants as request
use Rattle.hb_request.specs.Opening.{opening_options}

-- from 1 to 2^32 - 1
abbrev pub IsPositive : ℕ → Type 0
IsPositive n = (1 ≤ n) × (n ≤ 2 ^ 32 - 1)

-- an index of a clue colour, or a rank
abbrev pub IsClue : WireClue → Type 0
IsClue (clue.Color index) = index ≤ HIGHEST_COLOR
IsClue (clue.Rank rank) = (1 ≤ rank) × (rank ≤ HIGHEST_RANK)

-- numbers of one byte
abbrev pub IsAction : WireAction → Type 0
IsAction (action.Play order) = order ≤ 2 ^ 8 - 1
IsAction (action.Discard order) = order ≤ 2 ^ 8 - 1
IsAction (action.Color to index) = (to ≤ 2 ^ 8 - 1) × (index ≤ 2 ^ 8 - 1)
IsAction (action.Rank to rank) = (to ≤ 2 ^ 8 - 1) × (rank ≤ 2 ^ 8 - 1)

-- a seat, or none
abbrev pub IsShadow : Option ℕ → Type 0
IsShadow None = ⊤
IsShadow (Some seat) = seat ≤ HIGHEST_SEAT

-- the variant is one, and the options are in their ranges
abbrev pub IsOpening : List ℕ → Options → Type 0
IsOpening variant o = (is_some (variant_of variant) ≡ true) × AreModes o

-- what is asked of a table is in its ranges
abbrev pub IsAsk : Ask → Type 0
IsAsk (ask.Open variant empty_clues extra_card less_card timed base_s per_turn_s) =
    IsOpening variant
    (opening_options empty_clues extra_card less_card timed base_s per_turn_s)
IsAsk ask.Sit = ⊤
IsAsk ask.Rise = ⊤
IsAsk ask.Start = ⊤
IsAsk (ask.Play order) = order ≤ HIGHEST_ORDER
IsAsk (ask.Discard order) = order ≤ HIGHEST_ORDER
IsAsk (ask.Clue to clue) = (to ≤ HIGHEST_SEAT) × IsClue clue
IsAsk (ask.Note order text) = order ≤ HIGHEST_ORDER
IsAsk ask.Pause = ⊤
IsAsk ask.Resume = ⊤
IsAsk ask.Terminate = ⊤
IsAsk (ask.Watch shadow) = IsShadow shadow
IsAsk ask.Leave = ⊤
IsAsk (ask.Load id) = (1 ≤ id) × (id ≤ HIGHEST_ID)
IsAsk (ask.Go turn) = turn ≤ 2 ^ 16 - 1
IsAsk (ask.Hypo action) = IsAction action
IsAsk ask.Undo = ⊤
IsAsk ask.Close = ⊤

-- each field is in its range
abbrev pub IsRequest : Request → Type 0
IsRequest (request.Hello name key) = (1 ≤ length key) × (length key ≤ KEY_LIMIT)
IsRequest (request.Look room) = room ≤ 2 ^ 32 - 1
IsRequest (request.Room room table number ask) =
    (room ≤ 2 ^ 32 - 1) × IsPositive table × IsPositive number × IsAsk ask
