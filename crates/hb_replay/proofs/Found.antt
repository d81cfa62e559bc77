-- What the steps of a reading found, where all of them found something.
use Rattle.std.proofs.Common.{◌≡◌, ℕ, List, Bool, true, false, Result, Ok, Err, Option, None, Some, refl, sym, ◌∙◌}
use Rattle.std.specs.Prelude.{length, nat_lt}
use Rattle.hb_rules.specs.declared.suits.Identity.{Identity}
use Rattle.hb_rules.specs.declared.variants.Variant.{Variant}
use Rattle.hb_rules.specs.declared.acts.Options.{Options}
use Rattle.hb_rules.specs.Setup.{Position}
use Rattle.hb_rules.specs.Start.{are_players, started}
use Rattle.hb_suits.specs.VariantNames.{variant_of}
use Rattle.hb_replay.specs.declared.written.WrittenReplay.{WrittenReplay}
use Rattle.hb_json.specs.declared.modes.OptionFault.{OptionFault}
use Rattle.hb_json.specs.declared.modes.WrittenModes.{WrittenModes}
use Rattle.hb_json.specs.WrittenModes.{modes_fault, options_with, unless_fault}
use Rattle.hb_replay.specs.declared.errors.OptName.TheVariants as option
use Rattle.hb_replay.specs.declared.written.WrittenOptions.{WrittenOptions}
use Rattle.hb_replay.specs.declared.errors.ReplayError.TheVariants as fault
use Rattle.hb_replay.specs.Contents.{notes_fit}
use Rattle.hb_replay.specs.WrittenReplay.{game_options}
use Rattle.hb_replay.specs.Errors.{refused_mode}
use Rattle.hb_replay.specs.Refusals.{in_range, no_other, options_for, opening, played, game_in}
use Rattle.hb_json.specs.Results.{◌>>=◌, found_or, must}
use Rattle.hb_rules.specs.Cards.{is_deck}

-- an error is no value
pub err-is_ok : {A E : Type 0} (e : E) (x : A) → (let a : Result A E = Err e in a ≡ Ok x) → ⊥
err-is_ok e x h = cc

-- a step finds one value
pub same-ok : {A E : Type 0} (x y : A) → (let a : Result A E = Ok x in a ≡ Ok y) → x ≡ y
same-ok x y h = cc

-- what two steps found, the first one found
pub bind-ok : {A B E P : Type 0} (m : Result A E) (f : A → Result B E) (y : B) → (m >>= f) ≡ Ok y
    → ((x : A) → m ≡ Ok x → f x ≡ Ok y → P) → P
bind-ok (Ok x) f y h then = then x refl h
bind-ok (Err e) f y h then = absurd (err-is_ok e y h)

-- what must hold and is found holds
pub must-ok : {E : Type 0} (e : E) (b : Bool) (u : Unit {0}) → must e b ≡ Ok u → b ≡ true
must-ok e true u h = refl
must-ok e false u h = absurd (err-is_ok e u h)

-- what must be there and is found is there
pub found_or-ok : {A E : Type 0} (e : E) (o : Option A) (x : A) → found_or e o ≡ Ok x → o ≡ Some x
found_or-ok e None x h = absurd (err-is_ok e x h)
found_or-ok e (Some y) x h = let same : y ≡ x = same-ok y x h in rw same refl

-- modes in their range
pub modes-ok : (m : WrittenModes) (o q : Options) → in_range (unless_fault (modes_fault m) o) ≡ Ok q → (modes_fault m ≡ None) × (q ≡ o)
modes-ok m o q h = pick (modes_fault m) h
  where
    pick : (f : Option OptionFault) → in_range (unless_fault f o) ≡ Ok q → (f ≡ None) × (q ≡ o)
    pick None e = (refl, sym (same-ok o q e))
    pick (Some mode) e = absurd (err-is_ok (fault.Option (refused_mode mode)) q e)

other-ok : (other : Option (List ℕ)) (u : Unit {0}) → no_other other ≡ Ok u → other ≡ None
other-ok None u h = refl
other-ok (Some name) u h = absurd (err-is_ok (fault.Option (option.Other name)) u h)

-- a game that is opened has a deck
pub opening-ok : (v : Variant) (o : Options) (n : ℕ) (deck : List Identity) (p : Position) → opening v o n deck ≡ Ok p
    → (is_deck v deck ≡ true) × (p ≡ started v o n deck)
opening-ok v o n deck p h = bind-ok (must fault.Deck (is_deck v deck)) _ p h (λ u full e. (
  must-ok fault.Deck (is_deck v deck) u full,
  sym (same-ok (started v o n deck) p e),
))

-- what was found of the options
pub record Allowed (n : ℕ) (o : WrittenOptions) : Type 0 where
  pub seat : nat_lt o.starting n ≡ true
  pub modes : modes_fault o.modes ≡ None
  pub other : o.other ≡ None

-- options that are found are allowed, and are those of the game
pub allowed-ok : (n : ℕ) (o : WrittenOptions) (q : Options) → options_for n o ≡ Ok q → Allowed n o × (q ≡ game_options o)
unfolding options_for
allowed-ok n o q h =
    bind-ok (must (fault.Option option.StartingPlayer) (nat_lt o.starting n)) _ q h (λ u seat h0.
    bind-ok (in_range (unless_fault (modes_fault o.modes) (options_with o.starting o.modes))) _ q h0 (λ found modes h1.
    bind-ok (no_other o.other) _ q h1 (λ v other h2.
    let in_modes = modes-ok o.modes (options_with o.starting o.modes) found modes in
    let is : found ≡ q = same-ok found q h2 in (
      record {
        seat = must-ok (fault.Option option.StartingPlayer)
            (nat_lt o.starting n) u seat;
        modes = in_modes.0;
        other = other-ok o.other v other;
      },
      sym is ∙ in_modes.1,
    ))))

-- what was found on the way to a game
pub record Found (w : WrittenReplay) (q : Position) : Type 0 where
  pub players : are_players (length w.players) ≡ true
  pub variant : Variant
  pub named : variant_of w.options.variant ≡ Some variant
  pub options : Allowed (length w.players) w.options
  pub deck : is_deck variant w.deck ≡ true
  pub acts : played 0 (started variant (game_options w.options) (length w.players) w.deck) w.actions ≡ Ok q
  pub notes : notes_fit w.notes ≡ true

-- a game that is found has all of this
pub game_in-found : (w : WrittenReplay) (q : Position) → game_in w ≡ Ok q → Found w q
unfolding game_in
game_in-found w q h =
    bind-ok (must fault.Players (are_players (length w.players))) _ q h (λ u players h0.
    bind-ok (found_or fault.Variant (variant_of w.options.variant)) _ q h0 (λ v named h1.
    bind-ok (options_for (length w.players) w.options) _ q h1 (λ o allowed h2.
    bind-ok (opening v o (length w.players) w.deck) _ q h2 (λ p opened h3.
    bind-ok (played 0 p w.actions) _ q h3 (λ r acts h4.
    bind-ok (must fault.Notes (notes_fit w.notes)) _ q h4 (λ t notes h5.
    let options = allowed-ok (length w.players) w.options o allowed in
    let start = opening-ok v o (length w.players) w.deck p opened in
    let first : p ≡ started v (game_options w.options) (length w.players) w.deck = rw (sym options.1) start.1 in
    let last : r ≡ q = same-ok r q h5 in
    record {
      players = must-ok fault.Players (are_players (length w.players)) u players;
      variant = v;
      named = found_or-ok fault.Variant (variant_of w.options.variant) v named;
      options = options.0;
      deck = start.0;
      acts = rw (sym first, sym last) acts;
      notes = must-ok fault.Notes (notes_fit w.notes) t notes;
    }))))))

-- and all of this gives a game
pub game_in-gives : (w : WrittenReplay) (q : Position) → Found w q → game_in w ≡ Ok q
unfolding game_in options_for
game_in-gives w q h = rw (h.players, h.named, h.options.seat, h.options.modes, h.options.other, h.deck, h.acts, h.notes) refl
