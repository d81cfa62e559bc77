-- The acts of a made game break no rule.
use Rattle.std.proofs.Common.{◌≡◌, ℕ, zero, suc, ◌+◌, ◌%◌, ◌<◌, ◌≤◌, Bool, true, false, not, cond, ◌&&◌, ◌==◌, List, [], ◌∷◌, Option, Some, None, arith, refl, sym, ap, subst, ◌∙◌, filter, length, is_some, nat_le, nat_lt, option_map, slice_get, eq-eqb, ne_eqb, eqb-true}
use Rattle.std.specs.List.{find, range_with_len}
use Rattle.std.proofs.lemmas.List.Sums.{get_or-le-sum_by}
use Rattle.std.proofs.Math.Nat.{mod_self, mod-eq_of_lt}
use Rattle.hb_rules.specs.declared.acts.Act.{Act}
use Rattle.hb_rules.specs.declared.acts.Action.{Action}
use Rattle.hb_rules.specs.declared.acts.Action.TheVariants as action
use Rattle.hb_rules.specs.declared.acts.Clue.TheVariants as clue
use Rattle.hb_rules.specs.declared.acts.EndHow.TheVariants.{Terminated}
use Rattle.hb_rules.specs.declared.setups.Setup.{Setup}
use Rattle.hb_rules.specs.declared.suits.Identity.{Identity}
use Rattle.hb_rules.specs.declared.suits.Kind.TheVariants.{Plain}
use Rattle.hb_rules.specs.declared.variants.Variant.{Variant}
use Rattle.hb_rules.specs.Cards.{cards, copies, count_of, same_identity, suit_at}
use Rattle.hb_rules.specs.Hands.{hand, holder, is_at}
use Rattle.hb_rules.specs.Legality.{Legal, is_empty, rule, touched}
use Rattle.hb_rules.specs.Result.{called, current, ended, fits, tokens, turns}
use Rattle.hb_rules.specs.Setup.{Position, by, card}
use Rattle.hb_rules.specs.Touch.{offers, suit_kind, touches}
use Rattle.hb_rules.proofs.Identities.{same_identity-refl}
use Rattle.hb_rules.proofs.Rules.{may_runs}
use Rattle.hb_turns.specs.GameInvariant.{IsFair}
use Rattle.hb_turns.proofs.Bounds.{not-called}
use Rattle.hb_turns.proofs.Fair.{at-below}
use Rattle.hb_script.specs.MadeActs.{fitting_play, lowest, lowest_discard, made_action, may_clue, next_seat, rank_clue, rank_clue_of}
use Rattle.hb_script.specs.MadeScripts.{no_variant}

-- what is found in a list, or stands first in it, passes the tests

found-passes : (q p : ℕ → Bool) (xs : List ℕ) (x : ℕ) → find q (filter p xs) ≡ Some x → p x ≡ true
found-passes q p [] x e = cc
found-passes q p (y ∷ ys) x e = pick (p y) refl (λ f. found-passes q p ys x f) e
  where
    among : (b : Bool) → p y ≡ true → (find q (filter p ys) ≡ Some x → p x ≡ true) → cond b (Some y) (find q (filter p ys)) ≡ Some x
        → p x ≡ true
    among true h ih f = let same : y ≡ x = cc in subst (λ (z : ℕ). p z ≡ true) same h
    among false h ih f = ih f

    pick : (b : Bool) → p y ≡ b → (find q (filter p ys) ≡ Some x → p x ≡ true)
        → find q (cond b (y ∷ filter p ys) (filter p ys)) ≡ Some x → p x ≡ true
    pick true h ih f = among (q y) h ih f
    pick false h ih f = ih f

first-passes : (p : ℕ → Bool) (xs : List ℕ) (x : ℕ) → slice_get (filter p xs) 0 ≡ Some x → p x ≡ true
first-passes p [] x e = cc
first-passes p (y ∷ ys) x e = pick (p y) refl (λ f. first-passes p ys x f) e
  where
    pick : (b : Bool) → p y ≡ b → (slice_get (filter p ys) 0 ≡ Some x → p x ≡ true)
        → slice_get (cond b (y ∷ filter p ys) (filter p ys)) 0 ≡ Some x → p x ≡ true
    pick true h ih f = let same : y ≡ x = cc in subst (λ (z : ℕ). p z ≡ true) same h
    pick false h ih f = ih f

-- a list whose first item passes has items that do
some-pass : (p : ℕ → Bool) (xs : List ℕ) (x : ℕ) → slice_get xs 0 ≡ Some x → p x ≡ true → is_empty (filter p xs) ≡ false
some-pass p [] x e h = cc
some-pass p (y ∷ ys) x e h = let same : x ≡ y = cc in let passes : p y ≡ true = subst (λ (z : ℕ). p z ≡ true) same h in rw passes refl

-- the rules, by kinds of action

runs : (g : Setup) (past : List Act) → ended g past ≡ None → is_some (ended g past) ≡ false
runs g past e = rw e refl

self-turn : (g : Setup) (past : List Act) → not (current g past == current g past) ≡ false
self-turn g past = let t : (current g past == current g past) ≡ true = eq-eqb (current g past) (current g past) refl in rw t refl

play-legal : (g : Setup) (past : List Act) (order : ℕ) → ended g past ≡ None → is_at (holder g past order) (current g past) ≡ true
    → rule g past (by (current g past) (action.Play order)) ≡ None
unfolding rule
play-legal g past order e h = let a = runs g past e in let b = self-turn g past in
    let c : not (is_at (holder g past order) (current g past)) ≡ false = rw h refl in
    rw (a, b, c) refl

discard-legal : (g : Setup) (past : List Act) (order : ℕ) → ended g past ≡ None → is_at (holder g past order) (current g past) ≡ true
    → (tokens g past == 8) ≡ false → rule g past (by (current g past) (action.Discard order)) ≡ None
unfolding rule
discard-legal g past order e h t = let a = runs g past e in let b = self-turn g past in
    let c : not (is_at (holder g past order) (current g past)) ≡ false = rw h refl in
    rw (a, b, c, t) refl

end-legal : (g : Setup) (past : List Act) → ended g past ≡ None → nat_le g.players (current g past) ≡ false
    → rule g past (by (current g past) (action.End Terminated)) ≡ None
unfolding rule
end-legal g past e s = let a = runs g past e in rw (a, s) refl

clue-legal : (g : Setup) (past : List Act) (to rank : ℕ) → ended g past ≡ None → (tokens g past == 0) ≡ false
    → nat_le g.players to ≡ false → (to == current g past) ≡ false → offers g.variant (clue.Rank rank) ≡ true
    → is_empty (touched g past to (clue.Rank rank)) ≡ false
    → rule g past (by (current g past) (action.Clue to (clue.Rank rank))) ≡ None
unfolding rule
clue-legal g past to rank e t s o f n = let a = runs g past e in let b = self-turn g past in
    let off : not (offers g.variant (clue.Rank rank)) ≡ false = rw f refl in
    let empty : (is_empty (touched g past to (clue.Rank rank)) && not g.options.empty_clues) ≡ false = rw n refl in
    rw (a, b, t, s, o, off, empty) refl

-- the cards of the variant

sixth : (rank : ℕ) → copies no_variant (record { suit = 5; rank = rank }) ≡ 0
unfolding copies cards
sixth rank = refl

plain : (s : ℕ) → s < 5 → suit_kind (suit_at no_variant s) ≡ Plain
plain zero low = refl
plain (suc zero) low = refl
plain (suc (suc zero)) low = refl
plain (suc (suc (suc zero))) low = refl
plain (suc (suc (suc (suc zero)))) low = refl
plain (suc (suc (suc (suc (suc s))))) low = absurd (omega (arith, low))

-- a card of the deck is not of a sixth suit

not-sixth : (id : Identity) → id.suit < 6 → 1 ≤ copies no_variant id → id.suit < 5
not-sixth id six some = apart (id.suit == 5) refl
  where
    apart : (b : Bool) → (id.suit == 5) ≡ b → id.suit < 5
    apart true e = let s : id.suit ≡ 5 = eqb-true id.suit 5 e in
        let none : copies no_variant id ≡ 0 =
        subst (λ (n : ℕ). copies no_variant (record { suit = n; rank = id.rank }) ≡ 0) (sym s) (sixth id.rank) in
        absurd (omega (arith, some, none))
    apart false e = grind (arith, e, six)

suit-low : (g : Setup) (order : ℕ) → IsFair g → g.variant ≡ no_variant → order < length g.deck.items → (card g order).suit < 5
suit-low g order fair v low =
    let some : cond (same_identity (card g order) (card g order)) 1 0 ≤ count_of (card g order) g.deck.items =
    get_or-le-sum_by (λ y. cond (same_identity (card g order) y) 1 0) g.deck.items order (record { suit = 0; rank = 0 }) low in
    let one : 1 ≤ count_of (card g order) g.deck.items = rw same_identity-refl at some in
    let is : count_of (card g order) g.deck.items ≡ copies no_variant (card g order) =
    subst (λ (w : Variant). count_of (card g order) g.deck.items ≡ copies w (card g order)) v (fair.full (card g order)) in
    not-sixth (card g order) (fair.suits order low) (omega (arith, one, is))

-- the clue of its rank touches it, and is offered
rank-offered : (v : ℕ) → 1 ≤ v → v < 6 → offers no_variant (clue.Rank v) ≡ true
rank-offered v one six = grind arith

rank-touches : (id : Identity) → id.suit < 5 → touches no_variant (clue.Rank id.rank) id ≡ true
rank-touches id low = let k = plain id.suit low in let same : (id.rank == id.rank) ≡ true = eq-eqb id.rank id.rank refl in rw (k, same) refl

-- the next seat is another one
next-other : (n c : ℕ) → 2 ≤ n → c < n → ((c + 1) % n == c) ≡ false
next-other n c two low = pick (nat_lt (c + 1) n) refl
  where
    pick : (b : Bool) → nat_lt (c + 1) n ≡ b → ((c + 1) % n == c) ≡ false
    pick true h = let in_range : c + 1 < n = grind (arith, h) in
        let m : (c + 1) % n ≡ c + 1 = mod-eq_of_lt in_range in
        ne_eqb ((c + 1) % n) c (λ e. absurd (omega (arith, m, e)))
    pick false h = let last : c + 1 ≡ n = grind (arith, h, low) in
        let m : (c + 1) % n ≡ 0 = ap (λ (k : ℕ). k % n) last ∙ mod_self n in
        ne_eqb ((c + 1) % n) c (λ e. absurd (omega (arith, m, e, two, last)))

-- the seat whose turn it is, is one
current-low : (g : Setup) (past : List Act) → 2 ≤ g.players → current g past < g.players
current-low g past two = omega arith

-- the three choices, and the last one

-- while the game runs, the current player breaks no rule by playing the lowest card that fits
pub play-breaks_none : (p : Position) (a : Action) → ended p.setup p.past ≡ None → Some a ≡ fitting_play p
    → rule p.setup p.past (by (current p.setup p.past) a) ≡ None
play-breaks_none p a e f = pick (find (fits p.setup p.past) (hand p.setup p.past (current p.setup p.past))) refl f
  where
    pick : (o : Option ℕ) → find (fits p.setup p.past) (hand p.setup p.past (current p.setup p.past)) ≡ o
        → Some a ≡ option_map action.Play o
        → rule p.setup p.past (by (current p.setup p.past) a) ≡ None
    pick None h g = cc
    pick (Some order) h g =
        let same : action.Play order ≡ a = cc in
        let held : is_at (holder p.setup p.past order) (current p.setup p.past) ≡ true =
        found-passes (fits p.setup p.past) (λ k. is_at (holder p.setup p.past k) (current p.setup p.past)) (range_with_len 0 (length
        p.setup.deck.items)) order h in
        subst (λ (z : Action). rule p.setup p.past (by (current p.setup p.past) z) ≡ None) same (play-legal p.setup p.past order e held)

clue-of_card : (p : Position) (order : ℕ) → IsFair p.setup → p.setup.variant ≡ no_variant → ended p.setup p.past ≡ None → may_clue p ≡ true
    → lowest p (next_seat p) ≡ Some order → rule p.setup p.past (by (current p.setup p.past) (rank_clue_of p order)) ≡ None
clue-of_card p order fair v e m h =
    let held : is_at (holder p.setup p.past order) (next_seat p) ≡ true =
    first-passes (λ k. is_at (holder p.setup p.past k) (next_seat p)) (range_with_len 0 (length p.setup.deck.items)) order h in
    let low : order < length p.setup.deck.items = at-below p.setup p.past order (next_seat p) fair held in
    let id : Identity = card p.setup order in
    let suit : id.suit < 5 = suit-low p.setup order fair v low in
    let offered : offers p.setup.variant (clue.Rank id.rank) ≡ true =
    subst (λ (w : Variant). offers w (clue.Rank id.rank)
    ≡ true) (sym v) (rank-offered id.rank (fair.ranks order low).0 (fair.ranks order low).1) in
    let touching : touches p.setup.variant (clue.Rank id.rank) id ≡ true =
    subst (λ (w : Variant). touches w (clue.Rank id.rank) id ≡ true) (sym v) (rank-touches id suit) in
    let some : is_empty (touched p.setup p.past (next_seat p) (clue.Rank id.rank)) ≡ false =
    some-pass (λ k. touches p.setup.variant (clue.Rank id.rank) (card p.setup k)) (hand p.setup p.past (next_seat p)) order h touching in
    clue-legal p.setup p.past (next_seat p) id.rank e (grind (arith, m)) (seat-there p.setup.players (current p.setup p.past) fair.two)
    (next-other p.setup.players (current p.setup p.past) fair.two (current-low p.setup p.past fair.two)) offered some
  where
    seat-there : (n c : ℕ) → 2 ≤ n → nat_le n ((c + 1) % n) ≡ false
    seat-there n c two = let low : (c + 1) % n < n = omega arith in grind arith

-- while a fair game of the five plain suits runs, the chosen clue of a rank breaks no rule
pub clue-breaks_none : (p : Position) (a : Action) → IsFair p.setup → p.setup.variant ≡ no_variant → ended p.setup p.past ≡ None
    → Some a ≡ rank_clue p → rule p.setup p.past (by (current p.setup p.past) a) ≡ None
clue-breaks_none p a fair v e f = pick (may_clue p) (lowest p (next_seat p)) refl refl f
  where
    pick : (b : Bool) (o : Option ℕ) → may_clue p ≡ b → lowest p (next_seat p) ≡ o → Some a ≡ cond b (option_map (rank_clue_of p) o) None
        → rule p.setup p.past (by (current p.setup p.past) a) ≡ None
    pick true None m h g = cc
    pick false o m h g = cc
    pick true (Some order) m h g =
        let same : rank_clue_of p order ≡ a = cc in
        subst (λ (z : Action). rule p.setup p.past (by (current p.setup p.past) z) ≡ None) same (clue-of_card p order fair v e m h)

-- while the game runs, the current player breaks no rule by the chosen discard of the lowest card
pub discard-breaks_none : (p : Position) (a : Action) → ended p.setup p.past ≡ None → Some a ≡ lowest_discard p
    → rule p.setup p.past (by (current p.setup p.past) a) ≡ None
discard-breaks_none p a e f = pick (nat_lt (tokens p.setup p.past) 8) (lowest p (current p.setup p.past)) refl refl f
  where
    pick : (b : Bool) (o : Option ℕ) → nat_lt (tokens p.setup p.past) 8 ≡ b → lowest p (current p.setup p.past) ≡ o
        → Some a ≡ cond b (option_map action.Discard o) None
        → rule p.setup p.past (by (current p.setup p.past) a) ≡ None
    pick true None m h g = cc
    pick false o m h g = cc
    pick true (Some order) m h g =
        let same : action.Discard order ≡ a = cc in
        let held : is_at (holder p.setup p.past order) (current p.setup p.past) ≡ true =
        first-passes (λ k. is_at (holder p.setup p.past k) (current p.setup p.past)) (range_with_len 0 (length p.setup.deck.items)) order
        h in
        let room : (tokens p.setup p.past == 8) ≡ false = grind (arith, m) in
        subst (λ (z : Action). rule p.setup p.past (by (current p.setup p.past) z)
        ≡ None) same (discard-legal p.setup p.past order e held room)

-- while a fair game runs, the current player breaks no rule by terminating it
pub end-breaks_none : (p : Position) → IsFair p.setup → ended p.setup p.past ≡ None
    → rule p.setup p.past (by (current p.setup p.past) (action.End Terminated)) ≡ None
end-breaks_none p fair e =
    let low : current p.setup p.past < p.setup.players = current-low p.setup p.past fair.two in
    end-legal p.setup p.past e (there p.setup.players (current p.setup p.past) low)
  where
    there : (n c : ℕ) → c < n → nat_le n c ≡ false
    there n c low = grind arith

-- which choice is the first

-- if there is a card that fits, the made action is to play it
pub made-play : (p : Position) (a : Action) → Some a ≡ fitting_play p → a ≡ made_action p
made-play p a f = let s = sym f in rw s refl

-- if no card fits and a clue of a rank may be given, the made action is that clue
pub made-clue : (p : Position) (a : Action) → None ≡ fitting_play p → Some a ≡ rank_clue p → a ≡ made_action p
made-clue p a n f = let m = sym n in let s = sym f in rw (m, s) refl

-- if no card fits, no clue may be given and a card may be discarded, the made action is that discard
pub made-discard : (p : Position) (a : Action) → None ≡ fitting_play p → None ≡ rank_clue p → Some a ≡ lowest_discard p → a ≡ made_action p
made-discard p a n o f = let m = sym n in let k = sym o in let s = sym f in rw (m, k, s) refl

-- if there is no play, no clue and no discard to choose, the made action is to terminate the game
pub made-end : (p : Position) → None ≡ fitting_play p → None ≡ rank_clue p → None ≡ lowest_discard p → action.End Terminated ≡ made_action p
made-end p n o f = let m = sym n in let k = sym o in let s = sym f in rw (m, k, s) refl

-- while a game runs each act is a turn
pub turns-all : (g : Setup) (past : List Act) → Legal g past → is_some (ended g past) ≡ false → length past ≡ turns past
turns-all g [] legal running = refl
turns-all g (act ∷ past) legal running =
    step act.action (turns-all g past legal.1 (may_runs g past act.who act.action legal.0)) (not-called g (act ∷ past) running).0
  where
    step : (a : Action) → length past ≡ turns past → called (by act.who a ∷ past) ≡ None → length (act ∷ past) ≡ turns (by act.who a ∷ past)
    step (action.Play order) ih uncalled = omega arith
    step (action.Discard order) ih uncalled = omega arith
    step (action.Clue to given) ih uncalled = omega arith
    step (action.End how) ih uncalled = cc
