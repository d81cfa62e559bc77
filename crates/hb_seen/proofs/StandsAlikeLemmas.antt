-- Does a game stand by what is seen of it as it does, and does an act break the same rule? Yes.
use Rattle.std.proofs.Common.{◌≡◌, ℕ, Bool, true, false, cond, List, [], ◌∷◌, ◌++◌, refl, ap, ◌∙◌, length}
use Rattle.std.specs.Prelude.{◌==◌, ◌||◌, not, filter, IsTrue}
use Rattle.std.specs.List.{range_with_len}
use Rattle.hb_rules.specs.declared.acts.Act.{Act}
use Rattle.hb_rules.specs.declared.acts.Action.{Action}
use Rattle.hb_rules.specs.declared.acts.Action.TheVariants as action
use Rattle.hb_rules.specs.declared.acts.Clue.{Clue}
use Rattle.hb_rules.specs.declared.setups.Setup.{Setup}
use Rattle.hb_rules.specs.declared.suits.Identity.{Identity}
use Rattle.hb_rules.specs.Cards.{suit_count}
use Rattle.hb_rules.specs.Observed.{observed}
use Rattle.hb_rules.specs.Setup.{Position, by, card}
use Rattle.hb_rules.specs.Touch.{touches}
use Rattle.hb_rules.specs.Hands.{holder, is_at, is_gone}
use Rattle.hb_rules.specs.Result.{height}
use Rattle.hb_rules.specs.Events.{in_blind}
use Rattle.hb_rules.specs.Legality.{is_empty, rule, touched}
use Rattle.hb_sight.specs.Seen.{seen_deck}
use Rattle.hb_rules.proofs.Copies.{sum_by-same}
use Rattle.hb_sight.proofs.Agreement.{SameCounts, SameGone, ended-same, gone-before, hand-same, holder-same, same-counts, with_cards}
use Rattle.hb_sight.proofs.SeenLemmas.{seen_deck-gone, seen_deck-long, seen_deck-shown}
use Rattle.hb_seen.specs.SeenSetup.{HasCards, can_tell, seen_setup}
use Rattle.hb_seen.specs.StandsAlike.{StandsAlike}
use Rattle.hb_seen.proofs.ShowsLemmas.{shows-held, shows-more}

-- the game after these acts
abbrev pub game_after : Setup → List Act → Position
game_after g past = record { setup = g; past = past }

-- the deck that is seen when these acts were made
abbrev pub deck_after : ℕ → Setup → List Act → List Identity
deck_after blind g past = seen_deck (observed blind (game_after g past))

-- it is as long as the game's own
pub deck_after-long : (blind : ℕ) (g : Setup) (past : List Act) → HasCards g
    → length (deck_after blind g past) ≡ length g.deck.items
deck_after-long blind g past many = seen_deck-long blind (game_after g past) many

-- what was gone stays gone
is_gone-more : (more past : List Act) (order : ℕ) → is_gone past order ≡ true → is_gone (more ++ past) order ≡ true
is_gone-more [] past order h = h
is_gone-more (act ∷ more) past order h = gone-before (more ++ past) act order (is_gone-more more past order h)

-- so it has each card that was played or discarded after the first acts
deck_after-gone : (blind : ℕ) (g : Setup) (more past : List Act) → HasCards g → SameGone g past (deck_after blind g (more ++ past))
deck_after-gone blind g more past many order gone =
    seen_deck-gone blind (game_after g (more ++ past)) many order (is_gone-more more past order gone)

-- and the counts after the first acts are the game's own
deck_after-counts : (blind : ℕ) (g : Setup) (more past : List Act) → HasCards g
    → SameCounts (with_cards g (deck_after blind g (more ++ past))) g past
deck_after-counts blind g more past many =
    same-counts g (deck_after blind g (more ++ past)) (deck_after-long blind g (more ++ past) many) past
    (deck_after-gone blind g more past many)

-- a game stands in the setup that is seen as it does
pub stands-alike : (blind : ℕ) (g : Setup) (more past : List Act) → HasCards g
    → StandsAlike (seen_setup blind g (more ++ past)) g past
stands-alike blind g more past many =
    let deck : List Identity = deck_after blind g (more ++ past) in
    let long : length deck ≡ length g.deck.items = deck_after-long blind g (more ++ past) many in
    let counts : SameCounts (with_cards g deck) g past = deck_after-counts blind g more past many in
    record {
      turn = refl;
      end = ended-same g deck past counts;
      points = rw (
        ended-same g deck past counts,
        sum_by-same (height (with_cards g deck) past) (height g past) counts.heights (range_with_len 0 (suit_count g.variant)),
      ) refl;
      heights = counts.heights;
      strikes = counts.strikes;
      tokens = counts.tokens;
      left = rw long refl;
      drawn = rw long refl;
      holders = holder-same g deck long past;
      hands = hand-same g deck long past;
      lost = counts.lost;
      gone = deck_after-gone blind g more past many;
    }

-- two tests that agree on what passes a first test
filter-filter : (r p q : ℕ → Bool) → ((k : ℕ) → r k ≡ true → p k ≡ q k) → (xs : List ℕ)
    → filter p (filter r xs) ≡ filter q (filter r xs)
filter-filter r p q e [] = refl
filter-filter r p q e (x ∷ xs) = pick (r x) refl (filter-filter r p q e xs)
  where
    pick : (b : Bool) → r x ≡ b → filter p (filter r xs) ≡ filter q (filter r xs)
        → filter p (cond b (x ∷ filter r xs) (filter r xs)) ≡ filter q (cond b (x ∷ filter r xs) (filter r xs))
    pick true here ih = rw (e x here, ih) refl
    pick false here ih = ih

-- a clue touches the same cards of a hand that is seen
pub touched-seen : (blind : ℕ) (g : Setup) (more past : List Act) (to : ℕ) (clue : Clue) → HasCards g → in_blind blind to ≡ false
    → touched (seen_setup blind g (more ++ past)) past to clue ≡ touched g past to clue
touched-seen blind g more past to clue many seen =
    let deck : List Identity = deck_after blind g (more ++ past) in
    let long : length deck ≡ length g.deck.items = deck_after-long blind g (more ++ past) many in
    ap (filter (λ order. touches g.variant clue (card (with_cards g deck) order))) (hand-same g deck long past to)
    ∙ filter-filter (λ order. is_at (holder g past order) to)
    (λ order. touches g.variant clue (card (with_cards g deck) order)) (λ order. touches g.variant clue (card g order))
    (λ order held. ap (touches g.variant clue)
    (seen_deck-shown blind (game_after g (more ++ past)) order many
    (shows-more blind g order more past (shows-held blind g order to past held seen))))
    (range_with_len 0 (length g.deck.items))

-- a clue breaks the same rule, if it is to its giver or its receiver's hand is seen
rule-clue : (blind : ℕ) (g : Setup) (more past : List Act) (who to : ℕ) (clue : Clue) → HasCards g
    → (to == who || not (in_blind blind to)) ≡ true
    → rule (seen_setup blind g (more ++ past)) past (by who (action.Clue to clue)) ≡ rule g past (by who (action.Clue to clue))
unfolding rule
rule-clue blind g more past who to clue many tell = pick (to == who) refl tell
  where
    alike : StandsAlike (seen_setup blind g (more ++ past)) g past
    alike = stands-alike blind g more past many

    not-blind : (b : Bool) → not b ≡ true → b ≡ false
    not-blind true h = cc
    not-blind false h = refl

    pick : (b : Bool) → (to == who) ≡ b → (b || not (in_blind blind to)) ≡ true
        → rule (seen_setup blind g (more ++ past)) past (by who (action.Clue to clue)) ≡ rule g past (by who (action.Clue to clue))
    pick true self h = rw (alike.end, alike.tokens, self) refl
    pick false other h = rw (
      alike.end,
      alike.tokens,
      ap is_empty (touched-seen blind g more past to clue many (not-blind (in_blind blind to) h)),
    ) refl

-- and so does each action of which the blind set can tell
pub rule-seen : (blind : ℕ) (g : Setup) (more past : List Act) (who : ℕ) (a : Action) → HasCards g → IsTrue (can_tell blind who a)
    → rule (seen_setup blind g (more ++ past)) past (by who a) ≡ rule g past (by who a)
unfolding rule
rule-seen blind g more past who (action.Play order) many tell =
    let alike : StandsAlike (seen_setup blind g (more ++ past)) g past = stands-alike blind g more past many in
    rw (alike.end, alike.holders order) refl
rule-seen blind g more past who (action.Discard order) many tell =
    let alike : StandsAlike (seen_setup blind g (more ++ past)) g past = stands-alike blind g more past many in
    rw (alike.end, alike.tokens, alike.holders order) refl
rule-seen blind g more past who (action.Clue to clue) many tell = rule-clue blind g more past who to clue many tell
rule-seen blind g more past who (action.End how) many tell =
    let alike : StandsAlike (seen_setup blind g (more ++ past)) g past = stands-alike blind g more past many in
    rw alike.end refl
