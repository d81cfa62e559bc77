-- Why is a JSON value no replay? This is the table of refusals, a line for each row. The first row
-- that holds is the refusal.
use Rattle.std.specs.Prelude.{◌≡◌, ℕ, zero, suc, ◌+◌, ◌<◌, ◌≤◌, List, [], ◌∷◌, length, codes, Bool, Option, None, Some, true, false, ◌&&◌, ◌==◌, ◌⊎◌}
use Rattle.serde_json.specs.Data.{Data, array, object, Items, no_items, item, Members}
use Rattle.serde_json.specs.Find.{get}
use Rattle.hb_json.specs.declared.modes.WrittenModes.{WrittenModes}
use Rattle.hb_json.specs.declared.option_keys.OptionKey.{OptionKey}
use Rattle.hb_json.specs.declared.option_keys.OptionKey.TheVariants as understood
use Rattle.hb_json.specs.OptionKey.{option_name}
use Rattle.hb_json.specs.JsonReading.{present}
use Rattle.hb_rules.specs.declared.limits.TheConstants.{FEWEST_PLAYERS, MOST_PLAYERS, MOST_SECONDS}
use Rattle.hb_rules.specs.declared.acts.EndHow.{EndHow}
use Rattle.hb_rules.specs.declared.acts.Rule.{Rule}
use Rattle.hb_rules.specs.declared.variants.Variant.{Variant}
use Rattle.hb_rules.specs.Cards.{IsDeck}
use Rattle.hb_rules.specs.Numbers.{end_number}
use Rattle.hb_rules.specs.Setup.{Position}
use Rattle.hb_rules.specs.Positions.{after, rule}
use Rattle.hb_suits.specs.VariantNames.{variant_of}
use Rattle.hb_replay.specs.declared.fields.TheConstants.{KINDS}
use Rattle.hb_replay.specs.declared.place.Place.{Place}
use Rattle.hb_replay.specs.declared.place.Part.TheVariants as part
use Rattle.hb_replay.specs.declared.place.PlaceField.TheVariants as field
use Rattle.hb_replay.specs.declared.errors.OptName.TheVariants as option
use Rattle.hb_replay.specs.declared.errors.ReplayError.{ReplayError}
use Rattle.hb_replay.specs.declared.errors.ReplayError.TheVariants as fault
use Rattle.hb_replay.specs.declared.written.WrittenAction.{WrittenAction}
use Rattle.hb_replay.specs.declared.written.WrittenReplay.{WrittenReplay}
use Rattle.hb_replay.specs.Contents.{notes_fit}
use Rattle.hb_replay.specs.Places.{index, part_place, member_place, field_place, option_place, note_place}
use Rattle.hb_replay.specs.Says.{IsText, IsWhole, IsFlag, HasBelow, HasByte, Says}
use Rattle.hb_replay.specs.WrittenReplay.{opened, act_of, says_end}

-- a row: this holds, and this is what is refused
abbrev pub row : {F : Type 0} → F → Type 0 → F → Type 0
row refused Holds e = Holds × (e ≡ refused)

-- the rows on the left, and those on the right if none on the left holds
infixr 5 ◌otherwise◌
abbrev pub ◌otherwise◌ : {F : Type 0} → (F → Type 0) → (F → Type 0) → F → Type 0
P otherwise Q = λ e. P e ⊎ (((earlier : _) → ¬ P earlier) × Q e)

-- the rows of each member of a list in turn, from the index k on
abbrev pub members_rows : {F : Type 0} → (ℕ → Data → F → Type 0) → ℕ → Items → F → Type 0
members_rows Rows k no_items = λ e. ⊥
members_rows Rows k (item d ds) = Rows k d otherwise members_rows Rows (k + 1) ds

-- the rows of a list, which has to be there
abbrev pub list_rows : Place → (ℕ → Data → Place → Type 0) → Option Data → Place → Type 0
list_rows place Rows found =
    row place (¬ ((ds : Items) × (found ≡ Some (array ds))))
    otherwise (λ wrong. (ds : Items) × (found ≡ Some (array ds)) × members_rows Rows 0 ds wrong)

-- the rows of what may be absent or null
abbrev pub present_rows : (Data → Place → Type 0) → Option Data → Place → Type 0
present_rows Rows found wrong = (d : Data) × (present found ≡ Some d) × Rows d wrong

-- an object, a text, a whole number, true or false
abbrev pub IsObject : Data → Type 0
IsObject d = (ms : Members) × (d ≡ object ms)

abbrev pub IsSomeText : Data → Type 0
IsSomeText d = (text : List ℕ) × IsText d text

abbrev pub IsSomeWhole : Data → Type 0
IsSomeWhole d = (n : ℕ) × IsWhole d n

abbrev pub IsSomeFlag : Data → Type 0
IsSomeFlag d = (b : Bool) × IsFlag d b

-- the value has no whole number below the bound under the key
abbrev pub HasNoBelow : ℕ → List ℕ → Data → Type 0
HasNoBelow bound key d = ¬ ((n : ℕ) × HasBelow bound key d n)

-- a player's name
abbrev pub player_rows : ℕ → Data → Place → Type 0
player_rows k d = row (member_place part.Players k) (¬ IsSomeText d)

-- a card
abbrev pub card_rows : ℕ → Data → Place → Type 0
card_rows k d =
    row (member_place part.Deck k) (¬ IsObject d)
    otherwise row (field_place part.Deck k field.SuitIndex) (HasNoBelow 256 (codes "suitIndex") d)
    otherwise row (field_place part.Deck k field.Rank) (HasNoBelow 256 (codes "rank") d)

-- the value of a clue is no number, or that of a called end is no end's number
abbrev pub HasWrongValue : Data → Type 0
HasWrongValue d =
    (HasByte (codes "type") d 2 ⊎ HasByte (codes "type") d 3)
    × HasNoBelow 256 (codes "value") d
    ⊎ HasByte (codes "type") d 4 × (¬ ((how : EndHow) × HasByte (codes "value") d (end_number how)))

-- an action
abbrev pub action_rows : ℕ → Data → Place → Type 0
action_rows k d =
    row (member_place part.Actions k) (¬ IsObject d)
    otherwise row (field_place part.Actions k field.Kind) (HasNoBelow KINDS (codes "type") d)
    otherwise row (field_place part.Actions k field.Target) (HasNoBelow 256 (codes "target") d)
    otherwise row (field_place part.Actions k field.Value) (HasWrongValue d)

-- an option
abbrev pub option_rows : (Data → Type 0) → OptionKey → Data → Place → Type 0
option_rows IsRight key d =
    present_rows (λ v. row (option_place key) (¬ IsRight v)) (get (option_name key) d)

-- the options
abbrev pub options_rows : Data → Place → Type 0
options_rows d =
    row (part_place part.Options) (¬ IsObject d)
    otherwise option_rows IsSomeText understood.Variant d
    otherwise option_rows IsSomeWhole understood.StartingPlayer d
    otherwise option_rows IsSomeFlag understood.EmptyClues d
    otherwise option_rows IsSomeFlag understood.OneExtraCard d
    otherwise option_rows IsSomeFlag understood.OneLessCard d
    otherwise option_rows IsSomeFlag understood.Timed d
    otherwise option_rows IsSomeWhole understood.TimeBase d
    otherwise option_rows IsSomeWhole understood.TimePerTurn d

-- a note, and a list of notes
abbrev pub note_rows : ℕ → ℕ → Data → Place → Type 0
note_rows k j d = present_rows (λ v. row (note_place k j) (¬ IsSomeText v)) (Some d)

abbrev pub note_list_rows : ℕ → Data → Place → Type 0
note_list_rows k d =
    present_rows (λ v. list_rows (member_place part.Notes k) (note_rows k) (Some v)) (Some d)

-- the lists of notes
abbrev pub notes_rows : Data → Place → Type 0
notes_rows d = list_rows (part_place part.Notes) note_list_rows (Some d)

-- the places of a value that have not the shape of a replay, the first one first
abbrev pub shape_rows : Data → Place → Type 0
shape_rows d =
    row (part_place part.Root) (¬ IsObject d)
    otherwise list_rows (part_place part.Players) player_rows (get (codes "players") d)
    otherwise list_rows (part_place part.Deck) card_rows (get (codes "deck") d)
    otherwise list_rows (part_place part.Actions) action_rows (get (codes "actions") d)
    otherwise present_rows options_rows (get (codes "options") d)
    otherwise present_rows notes_rows (get (codes "notes") d)

-- the time of a timed game is above the limit
abbrev pub IsTooLong : Bool → ℕ → Type 0
IsTooLong timed seconds = (timed ≡ true) × (MOST_SECONDS < seconds)

-- the options except the variant and the starting player
abbrev pub mode_rows : WrittenModes → ReplayError → Type 0
mode_rows m =
    row (fault.Option option.OneLessCard) ((m.extra_card ≡ true) × (m.less_card ≡ true))
    otherwise row (fault.Option option.TimeBase) (IsTooLong m.timed m.base_s)
    otherwise row (fault.Option option.TimePerTurn) (IsTooLong m.timed m.per_turn_s)

-- an option that is true and not understood
abbrev pub other_rows : Option (List ℕ) → ReplayError → Type 0
other_rows other e = (name : List ℕ) × (other ≡ Some name) × (e ≡ fault.Option (option.Other name))

-- the action at an index breaks this rule, and none before it breaks one; a last one that says the
-- end that the game has come to breaks none
abbrev pub Breaks : Position → List WrittenAction → ℕ → Rule → Type 0
Breaks p [] k broken = ⊥
Breaks p (a ∷ rest) zero broken =
    ((length rest == 0 && says_end p a) ≡ false) × (rule p (act_of p a) ≡ Some broken)
Breaks p (a ∷ rest) (suc k) broken =
    (rule p (act_of p a) ≡ None) × Breaks (after p (act_of p a)) rest k broken

-- the first action that breaks a rule
abbrev pub broken_rows : Position → List WrittenAction → ReplayError → Type 0
broken_rows p actions e =
    (k : ℕ) × (broken : Rule) × Breaks p actions k broken × (e ≡ fault.Action (index k) broken)

-- what is refused of a written replay once its variant is known
abbrev pub played_rows : Variant → WrittenReplay → ReplayError → Type 0
played_rows v w =
    row fault.Deck (¬ IsDeck v w.deck)
    otherwise broken_rows (opened v w) w.actions
    otherwise row fault.Notes (notes_fit w.notes ≡ false)

-- what is refused of a written replay
abbrev pub written_rows : WrittenReplay → ReplayError → Type 0
written_rows w =
    row fault.Players (¬ ((FEWEST_PLAYERS ≤ length w.players) × (length w.players ≤ MOST_PLAYERS)))
    otherwise row fault.Variant (variant_of w.options.variant ≡ None)
    otherwise row (fault.Option option.StartingPlayer) (length w.players ≤ w.options.starting)
    otherwise mode_rows w.options.modes
    otherwise other_rows w.options.other
    otherwise (λ e. (v : Variant) × (variant_of w.options.variant ≡ Some v) × played_rows v w e)

-- why a JSON value is no replay
abbrev pub RefusalOf : Data → ReplayError → Type 0
RefusalOf d =
    (λ e. (place : Place) × shape_rows d place × (e ≡ fault.Shape place))
    otherwise (λ e. (w : WrittenReplay) × Says d w × written_rows w e)
