-- Which setup is seen once a game has ended? Its own, since an end shows the whole deck.
use Rattle.std.proofs.Common.{◌≡◌, ℕ, ◌≤◌, ◌<◌, true, false, List, [], ◌∷◌, ◌++◌, zero, suc, refl, ap, ◌∙◌, arith, length, Some, None, Option}
use Rattle.std.proofs.Math.Bool.{or-true}
use Rattle.std.specs.Prelude.{◌||◌, is_some, slice_get, slice_index_or, IsSome}
use Rattle.hb_rules.specs.declared.acts.Act.{Act}
use Rattle.hb_rules.specs.declared.acts.EndHow.{EndHow}
use Rattle.hb_rules.specs.declared.events.Event.{Event}
use Rattle.hb_rules.specs.declared.setups.Setup.{Setup}
use Rattle.hb_rules.specs.declared.suits.Identity.{Identity}
use Rattle.hb_rules.specs.Hands.{joins}
use Rattle.hb_rules.specs.Result.{ended}
use Rattle.hb_rules.specs.Events.{blank, caller, draws, ends, observation, told}
use Rattle.hb_sight.proofs.Agreement.{with_cards}
use Rattle.hb_sight.proofs.Beginning.{start-runs}
use Rattle.hb_sight.proofs.SeenLemmas.{act-observation, seen_deck-shown, shows, shows-append}
use Rattle.hb_seen.specs.SeenSetup.{HasCards, seen_setup}
use Rattle.hb_seen.proofs.ShowsLemmas.{shows-more}
use Rattle.hb_seen.proofs.StandsAlikeLemmas.{deck_after, deck_after-long, game_after}

slice_get-some : (xs : List Identity) (k : ℕ) → k < length xs → is_some (slice_get xs k) ≡ true
slice_get-some [] k low = absurd (omega arith)
slice_get-some (x ∷ xs) zero low = refl
slice_get-some (x ∷ xs) (suc k) low = slice_get-some xs k (omega arith)

-- an end shows each card of the deck
shows-ends : (blind : ℕ) (g : Setup) (past : List Act) (order : ℕ) (by : Option ℕ) (how : Option EndHow) → is_some how ≡ true
    → order < length g.deck.items → shows order (blank blind (ends g past by how)) ≡ true
shows-ends blind g past order by None some low = cc
shows-ends blind g past order by (Some how) some low = rw (slice_get-some g.deck.items order low) refl

-- so an observation that begins with the end of a game shows it
shows-ended : (blind : ℕ) (g : Setup) (past : List Act) (act : Act) (order : ℕ) → is_some (ended g (act ∷ past)) ≡ true
    → order < length g.deck.items → shows order (observation blind g (act ∷ past)) ≡ true
shows-ended blind g past act order over low =
    let t : List Event = blank blind (told g past act.who act.action) in
    let d : List Event = blank blind (draws g act.who (joins g past act)) in
    let e : List Event = blank blind (ends g (act ∷ past) (caller act.who act.action) (ended g (act ∷ past))) in
    let shown : shows order e ≡ true =
    shows-ends blind g (act ∷ past) order (caller act.who act.action) (ended g (act ∷ past)) over low in
    ap (shows order) (act-observation blind g past act) ∙ (shows-append order (observation blind g past) (t ++ d ++ e)
    ∙ (ap (λ b. shows order (observation blind g past) || b) (shows-append order (t ++ d) e
    ∙ (ap (λ b. shows order (t ++ d) || b) shown ∙ or-true _)) ∙ or-true _))

-- two lists of one length with the same cards at each place
lists-equal : (xs ys : List Identity) (d : Identity) → length xs ≡ length ys
    → ((k : ℕ) → k < length ys → slice_index_or xs k d ≡ slice_index_or ys k d) → xs ≡ ys
lists-equal [] [] d long same = refl
lists-equal [] (y ∷ ys) d long same = absurd (omega arith)
lists-equal (x ∷ xs) [] d long same = absurd (omega arith)
lists-equal (x ∷ xs) (y ∷ ys) d long same =
    let here : x ≡ y = same 0 (omega arith) in
    let rest : xs ≡ ys = lists-equal xs ys d (omega arith) (λ k low. same (suc k) (omega arith)) in
    rw (here, rest) refl

-- the setup that is seen behind an act that ended the game is the game's own
seen_setup-over : (blind : ℕ) (g : Setup) (more past : List Act) (act : Act) → HasCards g → is_some (ended g (act ∷ past)) ≡ true
    → seen_setup blind g (more ++ act ∷ past) ≡ g
seen_setup-over blind g more past act many over =
    let same : deck_after blind g (more ++ act ∷ past) ≡ g.deck.items =
    lists-equal (deck_after blind g (more ++ act ∷ past)) g.deck.items (record { suit = 0; rank = 0 })
    (deck_after-long blind g (more ++ act ∷ past) many)
    (λ order low. seen_deck-shown blind (game_after g (more ++ act ∷ past)) order many
    (shows-more blind g order more (act ∷ past) (shows-ended blind g past act order over low))) in
    ap (with_cards g) same

-- and so it is of each game that has ended
pub seen_setup-ended : (blind : ℕ) (g : Setup) (more past : List Act) → HasCards g → 2 ≤ g.players → IsSome (ended g past)
    → seen_setup blind g (more ++ past) ≡ g
seen_setup-ended blind g more [] many two over =
    let no : is_some (ended g []) ≡ false = start-runs g two in let yes : is_some (ended g []) ≡ true = over in cc
seen_setup-ended blind g more (act ∷ past) many two over = seen_setup-over blind g more past act many over
