-- What does a JSON value of the right shape say, by the cases of the value? No order of checks
-- matters here, and no place is named.
use Rattle.std.specs.Prelude.{◌≡◌, ℕ, ◌<◌, List, [], ◌∷◌, codes, Option, None, Some, Bool, true, false, ◌⊎◌, ⊤}
use Rattle.serde_json.specs.Data.{Data, boolean, string, array, object, Items, no_items, item, Members, no_members, member}
use Rattle.serde_json.specs.Find.{get, get_member}
use Rattle.hb_json.specs.Values.{whole}
use Rattle.hb_json.specs.declared.option_keys.OptionKey.{OptionKey}
use Rattle.hb_json.specs.declared.option_keys.OptionKey.TheVariants as option
use Rattle.hb_json.specs.OptionKey.{option_name, is_understood}
use Rattle.hb_json.specs.JsonReading.{present}
use Rattle.hb_rules.specs.declared.suits.Identity.{Identity}
use Rattle.hb_rules.specs.declared.acts.Clue.TheVariants as clue
use Rattle.hb_rules.specs.Numbers.{end_number}
use Rattle.hb_rules.specs.Start.{default_options}
use Rattle.hb_replay.specs.declared.written.WrittenAction.{WrittenAction}
use Rattle.hb_replay.specs.declared.written.WrittenAction.TheVariants as written
use Rattle.hb_replay.specs.declared.written.WrittenOptions.{WrittenOptions}
use Rattle.hb_replay.specs.declared.written.WrittenReplay.{WrittenReplay}

-- a text, a whole number, true or false
abbrev pub IsText : Data → List ℕ → Type 0
IsText d text = d ≡ string text

abbrev pub IsWhole : Data → ℕ → Type 0
IsWhole d n = d ≡ whole n

abbrev pub IsFlag : Data → Bool → Type 0
IsFlag d b = d ≡ boolean b

-- the members of the list are these, one by one
abbrev pub Each : {X : Type 0} → (Data → X → Type 0) → Items → List X → Type 0
Each R no_items [] = ⊤
Each R no_items (x ∷ xs) = ⊥
Each R (item d ds) [] = ⊥
Each R (item d ds) (x ∷ xs) = R d x × Each R ds xs

-- a list of these
abbrev pub IsListOf : {X : Type 0} → (Data → X → Type 0) → Data → List X → Type 0
IsListOf R d xs = (ds : Items) × (d ≡ array ds) × Each R ds xs

-- the value has such a list under the key
abbrev pub HasListOf : {X : Type 0} → (Data → X → Type 0) → List ℕ → Data → List X → Type 0
HasListOf R key d xs = (ds : Items) × (get key d ≡ Some (array ds)) × Each R ds xs

-- the value has this whole number under the key, and it is below the bound
abbrev pub HasBelow : ℕ → List ℕ → Data → ℕ → Type 0
HasBelow bound key d n = (get key d ≡ Some (whole n)) × (n < bound)

abbrev pub HasByte : List ℕ → Data → ℕ → Type 0
HasByte key d n = HasBelow 256 key d n

-- a card
abbrev pub IsCard : Data → Identity → Type 0
IsCard d id = HasByte (codes "suitIndex") d id.suit × HasByte (codes "rank") d id.rank

-- an action
abbrev pub IsAction : Data → WrittenAction → Type 0
IsAction d (written.Play order) = HasByte (codes "type") d 0 × HasByte (codes "target") d order
IsAction d (written.Discard order) = HasByte (codes "type") d 1 × HasByte (codes "target") d order
IsAction d (written.Clue to (clue.Color c)) =
    HasByte (codes "type") d 2 × HasByte (codes "target") d to × HasByte (codes "value") d c
IsAction d (written.Clue to (clue.Rank r)) =
    HasByte (codes "type") d 3 × HasByte (codes "target") d to × HasByte (codes "value") d r
IsAction d (written.End who how) =
    HasByte (codes "type") d 4 × HasByte (codes "target") d who
    × HasByte (codes "value") d (end_number how)

-- what is there, or the default if nothing is
abbrev pub IsOr : {X : Type 0} → X → (Data → X → Type 0) → Option Data → X → Type 0
IsOr default R None x = x ≡ default
IsOr default R (Some d) x = R d x

-- a note; null is the empty text
abbrev pub IsNote : Data → List ℕ → Type 0
IsNote d text = IsOr [] IsText (present (Some d)) text

-- a list of notes; null is the empty list
abbrev pub IsNoteList : Data → List (List ℕ) → Type 0
IsNoteList d texts = IsOr [] (IsListOf IsNote) (present (Some d)) texts

-- the option is true, and this server does not understand it
abbrev pub IsOther : List ℕ → Data → Type 0
IsOther key d = (d ≡ boolean true) × (is_understood key ≡ false)

-- the first such option, if there is one; the members of an object stand in byte order of their
-- keys
abbrev pub IsFirstOther : Members → Option (List ℕ) → Type 0
IsFirstOther no_members found = found ≡ None
IsFirstOther (member key d ms) found =
    IsOther key d × (found ≡ Some key) ⊎ (¬ IsOther key d) × IsFirstOther ms found

-- the option says this, or is absent or null and this is the default
abbrev pub SaysOption : {X : Type 0} → OptionKey → X → (Data → X → Type 0) → Members → X → Type 0
SaysOption key default R ms x = IsOr default R (present (get_member (option_name key) ms)) x

-- an option that is true or false, and false by default
abbrev pub SaysFlag : OptionKey → Members → Bool → Type 0
SaysFlag key ms b = SaysOption key false IsFlag ms b

-- an object says these options
pub record SaysOptions (ms : Members) (o : WrittenOptions) : Type 0 where
  pub variant : SaysOption option.Variant (codes "No Variant") IsText ms o.variant
  pub starting : SaysOption option.StartingPlayer default_options.starting IsWhole ms o.starting
  pub empty_clues : SaysFlag option.EmptyClues ms o.modes.empty_clues
  pub extra_card : SaysFlag option.OneExtraCard ms o.modes.extra_card
  pub less_card : SaysFlag option.OneLessCard ms o.modes.less_card
  pub timed : SaysFlag option.Timed ms o.modes.timed
  pub base_s : SaysOption option.TimeBase default_options.base_s IsWhole ms o.modes.base_s
  pub per_turn_s :
      SaysOption option.TimePerTurn default_options.per_turn_s IsWhole ms o.modes.per_turn_s
  pub other : IsFirstOther ms o.other

-- these options are said; if none are, they are those of an empty object
abbrev pub AreOptions : Option Data → WrittenOptions → Type 0
AreOptions None o = SaysOptions no_members o
AreOptions (Some d) o = (ms : Members) × (d ≡ object ms) × SaysOptions ms o

-- the value has the shape of a replay, and says this
pub record Says (d : Data) (w : WrittenReplay) : Type 0 where
  pub players : HasListOf IsText (codes "players") d w.players
  pub deck : HasListOf IsCard (codes "deck") d w.deck
  pub actions : HasListOf IsAction (codes "actions") d w.actions
  pub options : AreOptions (present (get (codes "options") d)) w.options
  pub notes : IsOr [] (IsListOf IsNoteList) (present (get (codes "notes") d)) w.notes
