-- What is written reads back.
use Rattle.std.proofs.Common.{◌≡◌, ℕ, ◌+◌, ◌<◌, List, [], ◌∷◌, length, map, reverse, Result, Ok, Bool, true, false, refl, arith, sym}
use Rattle.std.specs.Prelude.{nat_lt, not, ◌==◌, if◌then◌else◌}
use Rattle.std.specs.declared.option.Option.TheVariants.{None, Some}
use Rattle.serde_json.specs.Data.{Data, string}
use Rattle.serde_json.specs.View.{items_of}
use Rattle.hb_json.specs.Values.{texts_data}
use Rattle.hb_rules.specs.declared.suits.Identity.{Identity}
use Rattle.hb_rules.specs.declared.acts.Act.{Act}
use Rattle.hb_rules.specs.declared.acts.Action.{Action}
use Rattle.hb_rules.specs.declared.acts.Action.TheVariants as action
use Rattle.hb_rules.specs.declared.acts.Clue.TheVariants as clue
use Rattle.hb_rules.specs.declared.acts.EndHow.TheVariants.{Normal, Strikeout, Timeout, Terminated}
use Rattle.hb_rules.specs.declared.acts.Options.{Options}
use Rattle.hb_rules.specs.Start.{are_options}
use Rattle.hb_replay.specs.declared.written.WrittenOptions.{WrittenOptions}
use Rattle.hb_replay.specs.declared.written.WrittenReplay.{WrittenReplay}
use Rattle.hb_replay.specs.Contents.{Contents, IsReplay, HasTimes}
use Rattle.hb_replay.specs.Shape.{each_at, player_at, players_of, card_at, cards_of, action_at, actions_of, note_at, note_list_at, notes_of, options_in, shape_of}
use Rattle.hb_replay.specs.WrittenReplay.{game_options}
use Rattle.hb_replay.specs.Refusals.{replay_of}
use Rattle.hb_json.specs.Values.{action_data, options_data}
use Rattle.hb_json.proofs.OptionsData.{modes_of, SaysBack-options_data}
use Rattle.hb_replay.specs.Canonical.{card_data, act_data, notes_data, replay_data}
use Rattle.hb_rules.proofs.IsDeal.{deck-tests}
use Rattle.hb_replay.proofs.Found.{Found, game_in-gives}
use Rattle.hb_replay.proofs.LeadsLemmas.{written_action, written_act, legal-leads, leads-played}
use Rattle.hb_replay.proofs.IsByteAct.{Every, IsByteCard, IsByteAction, IsByteAct, byte-cards, byte-acts}
use Rattle.hb_replay.proofs.ReplayOfLemmas.{are_options-allowed}

-- a list whose items read back reads back
each-back : {X Y E : Type 0} (f : ℕ → Data → Result Y E) (g : X → Data) (h : X → Y) (P : X → Type 0)
    → ((k : ℕ) (x : X) → P x → f k (g x) ≡ Ok (h x)) → (k : ℕ) (xs : List X) → Every P xs
    → each_at f k (items_of (map g xs)) ≡ Ok (map h xs)
each-back f g h P back k [] all = refl
each-back f g h P back k (x ∷ xs) all = rw (back k x all.0, each-back f g h P back (k + 1) xs all.1) refl

each-same : {X E : Type 0} (f : ℕ → Data → Result X E) (g : X → Data) → ((k : ℕ) (x : X) → f k (g x) ≡ Ok x) → (k : ℕ) (xs : List X)
    → each_at f k (items_of (map g xs)) ≡ Ok xs
each-same f g back k [] = refl
each-same f g back k (x ∷ xs) = rw (back k x, each-same f g back (k + 1) xs) refl

players-back : (names : List (List ℕ)) → players_of (items_of (map string names)) ≡ Ok names
players-back names = each-same player_at string (λ k s. refl) 0 names

note-list-back : (k : ℕ) (texts : List (List ℕ)) → note_list_at k (texts_data texts) ≡ Ok texts
note-list-back k texts = each-same (note_at k) string (λ j s. refl) 0 texts

notes-back : (notes : List (List (List ℕ))) → notes_of (Some (notes_data notes)) ≡ Ok notes
notes-back notes = each-same note_list_at texts_data note-list-back 0 notes

nat_lt-byte : (n : ℕ) → n < 256 → nat_lt n 256 ≡ true
nat_lt-byte n h = grind arith

map-same : {X : Type 0} (xs : List X) → map (λ x. x) xs ≡ xs
map-same [] = refl
map-same (x ∷ xs) = rw (map-same xs) refl

card-back : (k : ℕ) (id : Identity) → IsByteCard id → card_at k (card_data id) ≡ Ok id
card-back k id h = rw (nat_lt-byte id.suit h.0, nat_lt-byte id.rank h.1) refl

cards-back : (cards : List Identity) → Every IsByteCard cards → cards_of (items_of (map card_data cards)) ≡ Ok cards
cards-back cards all = rw (each-back card_at card_data (λ id. id) IsByteCard card-back 0 cards all, map-same cards) refl

action-back : (k who : ℕ) (a : Action) → IsByteAction who a → action_at k (action_data who a) ≡ Ok (written_action who a)
action-back k who (action.Play order) h = rw (nat_lt-byte order h) refl
action-back k who (action.Discard order) h = rw (nat_lt-byte order h) refl
action-back k who (action.Clue to (clue.Color c)) h = rw (nat_lt-byte to h.0, nat_lt-byte c h.1) refl
action-back k who (action.Clue to (clue.Rank r)) h = rw (nat_lt-byte to h.0, nat_lt-byte r h.1) refl
action-back k who (action.End Normal) h = rw (nat_lt-byte who h) refl
action-back k who (action.End Strikeout) h = rw (nat_lt-byte who h) refl
action-back k who (action.End Timeout) h = rw (nat_lt-byte who h) refl
action-back k who (action.End Terminated) h = rw (nat_lt-byte who h) refl

actions-back : (acts : List Act) → Every IsByteAct acts → actions_of (items_of (map act_data acts)) ≡ Ok (map written_act acts)
actions-back acts all = each-back action_at act_data written_act IsByteAct (λ k act h. action-back k act.who act.action h) 0 acts all

-- the options as they read back
abbrev written_options : List ℕ → Options → WrittenOptions
written_options name o = record { variant = name; starting = o.starting; modes = modes_of o; other = None }

options-back : (name : List ℕ) (o : Options) → options_in (options_data name o) ≡ Ok (written_options name o)
unfolding options_in
options-back name o = let h = SaysBack-options_data name o in rw (h.variant, h.starting, h.modes, h.others) refl

-- a replay as it reads back
abbrev written_replay : Contents → WrittenReplay
written_replay r = record {
  players = r.players;
  deck = r.game.setup.deck.items;
  actions = map written_act
      (reverse r.game.past);
  options = written_options r.name r.game.setup.options;
  notes = r.notes;
}

length-zero : {X : Type 0} (xs : List X) → not (length xs == 0) ≡ false → xs ≡ []
length-zero [] e = refl
length-zero (x ∷ xs) e = absurd (grind arith)

shape-back : (r : Contents) → Every IsByteCard r.game.setup.deck.items → Every IsByteAct (reverse r.game.past)
    → shape_of (replay_data r) ≡ Ok (written_replay r)
unfolding shape_of replay_data
shape-back r cards acts = pick (not (length r.notes == 0)) refl
  where
    o : Options
    o = r.game.setup.options

    pick : (b : Bool) → not (length r.notes == 0) ≡ b → shape_of (replay_data r) ≡ Ok (written_replay r)
    pick true e = rw (
      e,
      players-back r.players,
      cards-back r.game.setup.deck.items cards,
      actions-back (reverse r.game.past) acts,
      options-back r.name o,
      notes-back r.notes,
    ) refl
    pick false e = rw (
      e,
      players-back r.players,
      cards-back r.game.setup.deck.items cards,
      actions-back (reverse r.game.past) acts,
      options-back r.name o,
      length-zero r.notes e,
    ) refl

-- the options of a replay are those that are written
time-back : (timed : Bool) (time default : ℕ) → (timed ≡ false → time ≡ default)
    → (if timed then (if timed then time else default) else default) ≡ time
time-back true time default h = refl
time-back false time default h = sym (h refl)

options-same : (name : List ℕ) (o : Options) → HasTimes o → game_options (written_options name o) ≡ o
options-same name o h = rw (time-back o.timed o.base_s 120 (λ e. (h e).0), time-back o.timed o.per_turn_s 20 (λ e. (h e).1)) refl

options-at : (n m : ℕ) (o q : Options) → n ≡ m → q ≡ o → are_options m o ≡ true → are_options n q ≡ true
options-at n m o q e f h = rw (e, f) h

found-back : (r : Contents) → IsReplay r → Found (written_replay r) r.game
found-back r h =
    let o : Options = r.game.setup.options in
    let seats : length r.players ≡ r.game.setup.players = h.matches.seats in
    let same : game_options (written_options r.name o) ≡ o = options-same r.name o h.matches.times in
    let can : are_options (length r.players) (game_options (written_options r.name o)) ≡ true =
    options-at (length r.players) r.game.setup.players o (game_options (written_options r.name o)) seats same h.played.can.options in
    record {
      players = rw seats h.played.can.players;
      variant = r.game.setup.variant;
      named = h.matches.named;
      options = are_options-allowed (length r.players) (written_options r.name o) can refl;
      deck = deck-tests r.game.setup.variant r.game.setup.deck.items h.played.can.full;
      acts = rw (seats, same)
          (leads-played 0 _ (map written_act (reverse r.game.past)) r.game (legal-leads r.game.setup r.game.past h.played.legal));
      notes = h.matches.notes;
    }

-- what is written of a replay reads back as it
pub replay-back : (r : Contents) → IsReplay r → replay_of (replay_data r) ≡ Ok r
replay-back r h =
    let can = h.played.can in
    rw (
      shape-back r (byte-cards r.game.setup.variant r.game.setup.deck.items can.full)
          (byte-acts r.game.setup r.game.past can h.played.legal),
      game_in-gives (written_replay r) r.game (found-back r h),
    ) refl
