-- The first row that holds of a written replay is what the checks refuse, and so is that of a value.
use Rattle.std.proofs.Common.{◌≡◌, ℕ, zero, suc, ◌+◌, ◌<◌, ◌≤◌, List, [], ◌∷◌, length, cond, Bool, true, false, Result, Ok, Err, refl, arith, sym, ap, ◌∙◌}
use Rattle.std.specs.Prelude.{◌↔◌, ◌&&◌, ◌==◌, nat_lt, IfErr}
use Rattle.std.proofs.lemmas.Bool.{and_parts}
use Rattle.std.specs.declared.option.Option.{Option}
use Rattle.std.specs.declared.option.Option.TheVariants.{None, Some}
use Rattle.serde_json.specs.Data.{Data}
use Rattle.hb_json.specs.Results.{◌>>=◌, found_or, must}
use Rattle.hb_json.specs.declared.modes.OptionFault.TheVariants as mode
use Rattle.hb_json.specs.declared.modes.WrittenModes.{WrittenModes}
use Rattle.hb_json.specs.WrittenModes.{modes_fault, options_with, unless_fault}
use Rattle.hb_rules.specs.declared.acts.Options.{Options}
use Rattle.hb_rules.specs.declared.acts.Rule.{Rule}
use Rattle.hb_rules.specs.declared.variants.Variant.{Variant}
use Rattle.hb_rules.specs.Cards.{IsDeck, is_deck}
use Rattle.hb_rules.specs.Positions.{after, rule}
use Rattle.hb_rules.specs.Setup.{Position}
use Rattle.hb_rules.specs.Start.{are_players, started}
use Rattle.hb_suits.specs.VariantNames.{variant_of}
use Rattle.hb_replay.specs.declared.errors.OptName.TheVariants as option
use Rattle.hb_replay.specs.declared.errors.ReplayError.{ReplayError}
use Rattle.hb_replay.specs.declared.errors.ReplayError.TheVariants as fault
use Rattle.hb_replay.specs.declared.place.Place.{Place}
use Rattle.hb_replay.specs.declared.written.WrittenAction.{WrittenAction}
use Rattle.hb_replay.specs.declared.written.WrittenReplay.{WrittenReplay}
use Rattle.hb_replay.specs.Contents.{Contents, notes_fit}
use Rattle.hb_replay.specs.ReplayReading.{Gives, IsRefusal, ReadsAs}
use Rattle.hb_replay.specs.Places.{index}
use Rattle.hb_replay.specs.Refusals.{in_range, no_other, options_for, opening, played, game_in, shaped, replay_in, replay_of}
use Rattle.hb_replay.specs.RefusalOf.{row, ◌otherwise◌, shape_rows, mode_rows, other_rows, Breaks, broken_rows, played_rows, written_rows, RefusalOf}
use Rattle.hb_replay.specs.Says.{Says}
use Rattle.hb_replay.specs.Shape.{shape_of}
use Rattle.hb_replay.specs.WrittenReplay.{game_options, opened, act_of, says_end, contents_of}
use Rattle.hb_replay.proofs.ReplayOfLemmas.{shape-to, shape-from, shaped-ok}
use Rattle.hb_rules.proofs.IsDeal.{deck-tests}
use Rattle.hb_replay.proofs.DeckTest.{deck-not}
use Rattle.hb_replay.proofs.Found.{same-ok, found_or-ok, modes-ok, opening-ok}
use Rattle.hb_replay.proofs.ShapeRows.{refuses-shape}
use Rattle.hb_replay.proofs.Refuses.{Refuses, same-err, not-err, refuses-then, refuses-map, refuses-none, refuses-must, refuses-known, refuses-if, refuses-last-if, bind-bind}
use Rattle.hb_replay.proofs.ValueKinds.{none-is_some, same-some}

-- the number of players
players-row : (n : ℕ) → (((2 ≤ n) × (n ≤ 6)) → ⊥) ↔ (are_players n ≡ false)
players-row n = (pick (are_players n) refl, λ h k. let low = k.0 in let high = k.1 in absurd (grind arith))
  where
    pick : (b : Bool) → are_players n ≡ b → (((2 ≤ n) × (n ≤ 6)) → ⊥) → b ≡ false
    pick false e h = refl
    pick true e h = absurd (h (grind arith, grind arith))

-- the variant
refuses-absent-one : {A F : Type 0} (refused : F) (o : Option A) → Refuses (row refused (o ≡ None)) (found_or refused o)
refuses-absent-one refused None e = (λ h. rw h.1 refl, λ h. (refl, sym (same-err refused e h)))
refuses-absent-one refused (Some x) e = (λ h. absurd (none-is_some x (sym h.0)), λ h. absurd (not-err x e h))

-- the options
both-true : (a b : Bool) → ((a ≡ true) × (b ≡ true)) ↔ ((a && b) ≡ true)
both-true true true = (λ h. refl, λ h. (refl, refl))
both-true true false = (λ h. h.1, λ h. (refl, h))
both-true false b = (λ h. h.0, λ h. absurd (grind arith))

too-long : (timed : Bool) (n : ℕ) → ((timed ≡ true) × (1000000 < n)) ↔ ((timed && nat_lt 1000000 n) ≡ true)
too-long true n = (λ h. let high = h.1 in grind arith, λ h. (refl, grind arith))
too-long false n = (λ h. h.0, λ h. absurd (grind arith))

seat-row : (n m : ℕ) → (n ≤ m) ↔ (nat_lt m n ≡ false)
seat-row n m = (λ h. grind arith, λ h. grind arith)

in-range-if : (a b c : Bool) (o : Options)
    → in_range (unless_fault (cond a (Some mode.OneLessCard) (cond b (Some mode.TimeBase) (cond c (Some mode.TimePerTurn) None))) o)
    ≡ cond a (Err (fault.Option option.OneLessCard))
    (cond b (Err (fault.Option option.TimeBase)) (cond c (Err (fault.Option option.TimePerTurn)) (Ok o)))
in-range-if true b c o = refl
in-range-if false true c o = refl
in-range-if false false true o = refl
in-range-if false false false o = refl

refuses-modes : (m : WrittenModes) (o : Options) → Refuses (mode_rows m) (in_range (unless_fault (modes_fault m) o))
refuses-modes m o =
    rw (in-range-if (m.extra_card && m.less_card) (m.timed && nat_lt 1000000 m.base_s) (m.timed && nat_lt 1000000 m.per_turn_s) o)
    (refuses-if (m.extra_card && m.less_card) (fault.Option option.OneLessCard) ((m.extra_card ≡ true) × (m.less_card ≡ true)) _ _
    (both-true m.extra_card m.less_card)
    (refuses-if (m.timed && nat_lt 1000000 m.base_s) (fault.Option option.TimeBase) ((m.timed ≡ true) × (1000000 < m.base_s)) _ _
    (too-long m.timed m.base_s)
    (refuses-last-if (m.timed && nat_lt 1000000 m.per_turn_s) (fault.Option option.TimePerTurn)
    ((m.timed ≡ true) × (1000000 < m.per_turn_s)) o (too-long m.timed m.per_turn_s))))

refuses-other : (other : Option (List ℕ)) → Refuses (other_rows other) (no_other other)
refuses-other None e = refuses-none (other_rows None) tt (λ e h. none-is_some h.0 h.1) e
refuses-other (Some name) e = (to, λ h. (name, refl, sym (same-err (fault.Option (option.Other name)) e h)))
  where
    to : ((n : List ℕ) × (Some name ≡ Some n) × (e ≡ fault.Option (option.Other n)))
        → (let m : Result (Unit {0}) ReplayError = Err (fault.Option (option.Other name)) in m ≡ Err e)
    to h = let same : name ≡ h.0 = same-some name h.0 h.1 in rw (h.2, same) refl

-- the deck
deck-row : (v : Variant) (w : WrittenReplay) → (IsDeck v w.deck → ⊥) ↔ (is_deck v w.deck ≡ false)
deck-row v w = (deck-not v w.deck, λ h full. clash (sym (deck-tests v w.deck full) ∙ h))
  where
    clash : true ≡ false → ⊥
    clash f = cc

-- the first action that breaks a rule
abbrev BrokenFrom : ℕ → Position → List WrittenAction → ReplayError → Type 0
BrokenFrom j p actions e = (k : ℕ) × (broken : Rule) × Breaks p actions k broken × (e ≡ fault.Action (index (j + k)) broken)

none-broken : (p : Position) (a : WrittenAction) (rest : List WrittenAction) → (length rest == 0 && says_end p a) ≡ true
    → (k : ℕ) (broken : Rule) → Breaks p (a ∷ rest) k broken → ⊥
none-broken p a rest last zero broken h = let counts = h.0 in absurd (grind arith)
none-broken p a [] last (suc k) broken h = h.1
none-broken p a (b ∷ rest) last (suc k) broken h = too-many (and_parts (length (b ∷ rest) == 0) (says_end p a) last).0
  where
    too-many : (length (b ∷ rest) == 0) ≡ true → ⊥
    too-many e = absurd (grind arith)

refuses-here : (j : ℕ) (p : Position) (a : WrittenAction) (rest : List WrittenAction) (r : Rule)
    → (length rest == 0 && says_end p a) ≡ false → rule p (act_of p a) ≡ Some r
    → (let m : Result Position ReplayError = Err (fault.Action (index j) r) in Refuses (BrokenFrom j p (a ∷ rest)) m)
refuses-here j p a rest r counts broken e = (
  λ h. to h.0 h.1 h.2 h.3,
  λ h. (
    zero,
    r,
    (counts, broken),
    rw (plus j) (sym (same-err (fault.Action (index j) r) e h)),
  ),
)
  where
    plus : (j : ℕ) → j + zero ≡ j
    plus j = omega arith

    to : (k : ℕ) (s : Rule) → Breaks p (a ∷ rest) k s → e ≡ fault.Action (index (j + k)) s
        → (let m : Result Position ReplayError = Err (fault.Action (index j) r) in m ≡ Err e)
    to zero s h is = let same : r ≡ s = same-some r s (rw broken at h.1) in rw (is, plus j, same) refl
    to (suc k) s h is = absurd (none-is_some r (sym h.0 ∙ broken))

refuses-later : (j : ℕ) (p : Position) (a : WrittenAction) (rest : List WrittenAction) (m : Result Position ReplayError)
    → rule p (act_of p a) ≡ None
    → Refuses (BrokenFrom (j + 1) (after p (act_of p a)) rest) m → Refuses (BrokenFrom j p (a ∷ rest)) m
refuses-later j p a rest m legal later e = (λ h. to h.0 h.1 h.2 h.3, from)
  where
    plus : (k : ℕ) → j + suc k ≡ j + 1 + k
    plus k = omega arith

    to : (k : ℕ) (s : Rule) → Breaks p (a ∷ rest) k s → e ≡ fault.Action (index (j + k)) s → m ≡ Err e
    to zero s h is = absurd (none-is_some s (sym legal ∙ h.1))
    to (suc k) s h is = (later e).0 (k, s, h.1, is ∙ ap (λ i. fault.Action (index i) s) (plus k))

    from : m ≡ Err e → BrokenFrom j p (a ∷ rest) e
    from h = let found = (later e).1 h in (
      suc found.0,
      found.1,
      (legal, found.2),
      found.3 ∙ ap (λ i. fault.Action (index i) found.1) (sym (plus found.0)),
    )

refuses-played : (j : ℕ) (p : Position) (actions : List WrittenAction) → Refuses (BrokenFrom j p actions) (played j p actions)
refuses-played j p [] = refuses-none _ p (λ e h. h.2)
refuses-played j p (a ∷ rest) = pick (length rest == 0 && says_end p a) refl (refuses-played (j + 1) (after p (act_of p a)) rest)
  where
    pick : (b : Bool) → (length rest == 0 && says_end p a) ≡ b
        → Refuses (BrokenFrom (j + 1) (after p (act_of p a)) rest) (played (j + 1) (after p (act_of p a)) rest)
        → Refuses (BrokenFrom j p (a ∷ rest)) (played j p (a ∷ rest))
    pick true last later = rw last (refuses-none _ p (λ e h. none-broken p a rest last h.0 h.1 h.2))
    pick false counts later = broken (rule p (act_of p a)) refl
      where
        broken : (o : Option Rule) → rule p (act_of p a) ≡ o → Refuses (BrokenFrom j p (a ∷ rest)) (played j p (a ∷ rest))
        broken None legal = rw (counts, legal) (refuses-later j p a rest (played (j + 1) (after p (act_of p a)) rest) legal later)
        broken (Some r) wrong = rw (counts, wrong) (refuses-here j p a rest r counts wrong)

refuses-acts : (p : Position) (actions : List WrittenAction) → Refuses (broken_rows p actions) (played 0 p actions)
refuses-acts p actions e = (
  λ h. both.0 (h.0, h.1, h.2, h.3 ∙ ap (λ i. fault.Action (index i) h.1) (plus h.0)),
  λ h. let found = both.1 h in (found.0, found.1, found.2, found.3 ∙ ap (λ i. fault.Action (index i) found.1) (sym (plus found.0))),
)
  where
    both : BrokenFrom 0 p actions e ↔ (played 0 p actions ≡ Err e)
    both = refuses-played 0 p actions e

    plus : (k : ℕ) → k ≡ 0 + k
    plus k = omega arith

-- the game of a written replay whose variant and options are known
refuses-acted : (w : WrittenReplay) (v : Variant) (o : Options) → o ≡ game_options w.options
    → Refuses (played_rows v w) (opening v o (length w.players) w.deck >>= λ p.
    (played 0 p w.actions >>= λ q. (must fault.Notes (notes_fit w.notes) >>= λ _. Ok q)))
refuses-acted w v o same =
    refuses-then _ _ (opening v o (length w.players) w.deck) _
    (refuses-map _ (must fault.Deck (is_deck v w.deck)) _ (refuses-must fault.Deck _ (is_deck v w.deck) (deck-row v w))) (λ p opens.
    let first : p ≡ opened v w = (opening-ok v o (length w.players) w.deck p opens).1 ∙ ap
    (λ (q : Options). started v q (length w.players) w.deck) same in
    refuses-then _ _ (played 0 p w.actions) _ (rw first (refuses-acts (opened v w) w.actions)) (λ q acts.
    refuses-map _ (must fault.Notes (notes_fit w.notes)) _ (refuses-must fault.Notes _ (notes_fit w.notes) (λ h. h, λ h. h))))

-- the options, and what comes after them
refuses-options : (w : WrittenReplay) (Rows : ReplayError → Type 0) (f : Options → Result Position ReplayError)
    → Refuses Rows (f (game_options w.options))
    → Refuses (row (fault.Option option.StartingPlayer) (length w.players ≤ w.options.starting) otherwise mode_rows w.options.modes
    otherwise other_rows w.options.other otherwise Rows)
    (options_for (length w.players) w.options >>= f)
unfolding options_for
refuses-options w Rows f after =
    let n : ℕ = length w.players in
    let o : Options = options_with w.options.starting w.options.modes in
    rw (bind-bind (must (fault.Option option.StartingPlayer) (nat_lt w.options.starting n))
    (λ _. (in_range (unless_fault (modes_fault w.options.modes) o) >>= λ found. (no_other w.options.other >>= λ _. Ok found))) f)
    (refuses-then _ _ (must (fault.Option option.StartingPlayer) (nat_lt w.options.starting n)) _
    (refuses-must (fault.Option option.StartingPlayer) _ (nat_lt w.options.starting n) (seat-row n w.options.starting)) (λ u seat.
    rw (bind-bind (in_range (unless_fault (modes_fault w.options.modes) o)) (λ found. (no_other w.options.other >>= λ _. Ok found)) f)
    (refuses-then _ _ (in_range (unless_fault (modes_fault w.options.modes) o)) _ (refuses-modes w.options.modes o) (λ found modes.
    let same : found ≡ o = (modes-ok w.options.modes o found modes).1 in
    rw (bind-bind (no_other w.options.other) (λ _. Ok found) f)
    (refuses-then _ _ (no_other w.options.other) _ (refuses-other w.options.other) (λ v other. rw same after))))))

-- a written replay
refuses-game : (w : WrittenReplay) → Refuses (written_rows w) (game_in w)
unfolding game_in
refuses-game w =
    refuses-then _ _ (must fault.Players (are_players (length w.players))) _
    (refuses-must fault.Players _ (are_players (length w.players)) (players-row (length w.players))) (λ u are.
    refuses-then _ _ (found_or fault.Variant (variant_of w.options.variant)) _
    (refuses-absent-one fault.Variant (variant_of w.options.variant)) (λ v named.
    let is_named : variant_of w.options.variant ≡ Some v = found_or-ok fault.Variant (variant_of w.options.variant) v named in
    refuses-options w (λ e. (x : Variant) × (variant_of w.options.variant ≡ Some x) × played_rows x w e) _
    (refuses-known (λ x. variant_of w.options.variant ≡ Some x) (λ x. played_rows x w) v _ is_named
    (λ x h. same-some x v (sym h ∙ is_named))
    (refuses-acted w v (game_options w.options) refl))))

-- a value
refuses-shaped : {X : Type 0} (Rows : Place → Type 0) (m : Result X Place) → Refuses Rows m
    → Refuses (λ e. (place : Place) × Rows place × (e ≡ fault.Shape place)) (shaped m)
refuses-shaped Rows (Ok x) rows e =
    refuses-none (λ f. (place : Place) × Rows place × (f ≡ fault.Shape place)) x (λ e h. not-err x h.0 ((rows h.0).0 h.1)) e
refuses-shaped {X} Rows (Err place) rows e = (to, λ h. (place, (rows place).1 refl, sym (same-err (fault.Shape place) e h)))
  where
    to : ((p : Place) × Rows p × (e ≡ fault.Shape p)) → (let m : Result X ReplayError = Err (fault.Shape place) in m ≡ Err e)
    to h = let same : place ≡ h.0 = same-err place h.0 ((rows h.0).0 h.1) in rw (h.2, same) refl

-- a value is refused by the first row that holds
pub refuses-value-of : (d : Data) → Refuses (RefusalOf d) (replay_of d)
refuses-value-of d =
    refuses-then _ _ (shaped (shape_of d)) replay_in (refuses-shaped (shape_rows d) (shape_of d) (refuses-shape d)) (λ w is.
    let said : shape_of d ≡ Ok w = shaped-ok (shape_of d) w is in
    refuses-known (Says d) written_rows w (replay_in w) (shape-from d w said) (λ x h. same-ok x w (sym (shape-to d x h) ∙ said))
    (refuses-map (written_rows w) (game_in w) (contents_of w) (refuses-game w)))

-- what is refused of bytes is what is refused of their value
pub read-refusal : (bytes : List ℕ) (d : Data) (result : Result Contents ReplayError) → ReadsAs bytes d → Gives result (replay_of d)
    → IfErr result (IsRefusal bytes)
read-refusal bytes d (Ok r) reads given = tt
read-refusal bytes d (Err fault.Json) reads given = absurd given
read-refusal bytes d (Err fault.NoMemory) reads given = tt
read-refusal bytes d (Err (fault.Shape place)) reads given = (d, reads, (refuses-value-of d (fault.Shape place)).1 given)
read-refusal bytes d (Err fault.Players) reads given = (d, reads, (refuses-value-of d fault.Players).1 given)
read-refusal bytes d (Err fault.Variant) reads given = (d, reads, (refuses-value-of d fault.Variant).1 given)
read-refusal bytes d (Err (fault.Option name)) reads given = (d, reads, (refuses-value-of d (fault.Option name)).1 given)
read-refusal bytes d (Err fault.Deck) reads given = (d, reads, (refuses-value-of d fault.Deck).1 given)
read-refusal bytes d (Err (fault.Action k rule)) reads given = (d, reads, (refuses-value-of d (fault.Action k rule)).1 given)
read-refusal bytes d (Err fault.Notes) reads given = (d, reads, (refuses-value-of d fault.Notes).1 given)
