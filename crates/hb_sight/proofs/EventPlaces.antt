-- Which event of a game stands at a place, and how many stand before an act's?
use Rattle.std.proofs.Common.{◌≡◌, ℕ, ◌+◌, ◌-◌, ◌/◌, ◌<◌, ◌≤◌, List, [], ◌∷◌, ◌++◌, refl, ap, arith, sym, ◌∙◌, length, Some, None, zero, suc, drop, length-append}
use Rattle.std.specs.Prelude.{map, slice_get}
use Rattle.std.specs.List.{range_with_len}
use Rattle.std.specs.Option.{option_map}
use Rattle.std.proofs.lemmas.List.{drop_all}
use Rattle.std.proofs.lemmas.Option.{slice_get-map, slice_get_past}
use Rattle.hb_rules.specs.declared.acts.Act.{Act}
use Rattle.hb_rules.specs.declared.events.Event.{Event}
use Rattle.hb_rules.specs.declared.setups.Setup.{Setup}
use Rattle.hb_rules.specs.Setup.{deal_size, hand_size}
use Rattle.hb_rules.specs.Events.{events, act_events, deal, drawn_event, blanked, observation}

long-range : {X : Type 0} (f : ℕ → X) (a n : ℕ) → length (map f (range_with_len a n)) ≡ n
long-range f a zero = refl
long-range f a (suc n) = let ih : length (map f (range_with_len (a + 1) n)) ≡ n = long-range f (a + 1) n in omega arith

-- before the first act there is the deal
pub start-length : (g : Setup) (past : List Act) → length (events g (drop (length past - 0) past)) ≡ deal_size g
start-length g past = let e : drop (length past - 0) past ≡ [] = drop_all (length past - 0) past (omega arith) in
    ap (λ p. length (events g p)) e ∙ long-range (λ order. drawn_event g (order / hand_size g) order) 0 (deal_size g)

get-left : (xs ys : List Event) (k : ℕ) → k < length xs → slice_get (xs ++ ys) k ≡ slice_get xs k
get-left [] ys k low = absurd (omega arith)
get-left (x ∷ xs) ys zero low = refl
get-left (x ∷ xs) ys (suc k) low = get-left xs ys k (omega arith)

get-right : (xs ys : List Event) (k : ℕ) → length xs ≤ k → slice_get (xs ++ ys) k ≡ slice_get ys (k - length xs)
get-right [] ys k far = let e : k - 0 ≡ k = omega arith in ap (slice_get ys) (sym e)
get-right (x ∷ xs) ys zero far = absurd (omega arith)
get-right (x ∷ xs) ys (suc k) far = let e : k - length xs ≡ suc k - suc (length xs) = omega arith in
    get-right xs ys k (omega arith) ∙ ap (slice_get ys) e

events-le : (g : Setup) (past : List Act) (m : ℕ) → length (events g (drop m past)) ≤ length (events g past)
events-le g past zero = omega arith
events-le g [] (suc m) = omega arith
events-le g (act ∷ past) (suc m) = let ih : length (events g (drop m past)) ≤ length (events g past) = events-le g past m in
    omega (arith, ih, length-append (events g past) (act_events g past act))

-- the events of the first acts stand first
get-first : (g : Setup) (past : List Act) (m k : ℕ) → k < length (events g (drop m past))
    → slice_get (events g past) k ≡ slice_get (events g (drop m past)) k
get-first g past zero k low = refl
get-first g [] (suc m) k low = refl
get-first g (act ∷ past) (suc m) k low = let le : length (events g (drop m past)) ≤ length (events g past) = events-le g past m in
    get-left (events g past) (act_events g past act) k (omega arith) ∙ get-first g past m k low

get-range : {X : Type 0} (f : ℕ → X) (a n k : ℕ) → k < n → slice_get (map f (range_with_len a n)) k ≡ Some (f (a + k))
get-range f a zero k low = absurd (omega arith)
get-range f a (suc n) zero low = let e : a ≡ a + 0 = omega arith in ap (λ i. Some (f i)) e
get-range f a (suc n) (suc k) low = let e : a + 1 + k ≡ a + suc k = omega arith in
    get-range f (a + 1) n k (omega arith) ∙ ap (λ i. Some (f i)) e

-- an event of the deal
pub dealt-at : (b : ℕ) (g : Setup) (past : List Act) (k : ℕ) → k < deal_size g
    → slice_get (observation b g past) k ≡ Some (blanked b (drawn_event g (k / hand_size g) k))
dealt-at b g past k low =
    let e : drop (length past) past ≡ [] = drop_all (length past) past (omega arith) in
    let f : ℕ → Event = λ order. drawn_event g (order / hand_size g) order in
    let long : length (events g (drop (length past) past)) ≡ deal_size g =
    ap (λ p. length (events g p)) e ∙ long-range f 0 (deal_size g) in
    let z : 0 + k ≡ k = omega arith in
    let here : slice_get (deal g) k ≡ Some (f k) = get-range f 0 (deal_size g) k low ∙ ap (λ i. Some (f i)) z in
    slice_get-map (blanked b) (events g past) k
    ∙ ap (option_map (blanked b)) (get-first g past (length past) k (omega arith) ∙ (ap (λ p. slice_get (events g p) k) e ∙ here))

-- an event of an act
pub act-at : (b : ℕ) (g : Setup) (past : List Act) (m n from k : ℕ) (act : Act) → drop n past ≡ act ∷ drop m past
    → from ≡ length (events g (drop m past)) → from ≤ k
    → k < from + length (act_events g (drop m past) act)
    → slice_get (observation b g past) k ≡ option_map (blanked b) (slice_get (act_events g (drop m past) act) (k - from))
act-at b g past m n from k act next before far low =
    let told : List Event = act_events g (drop m past) act in
    let long : length (events g (drop n past)) ≡ from + length told =
    ap (λ p. length (events g p)) next ∙ (length-append (events g (drop m past)) told ∙ ap (λ j. j + length told) (sym before)) in
    slice_get-map (blanked b) (events g past) k
    ∙ ap (option_map (blanked b)) (get-first g past n k (omega arith) ∙ (ap (λ p. slice_get (events g p) k) next
    ∙ (get-right (events g (drop m past)) told k (omega arith) ∙ ap (λ j. slice_get told (k - j)) (sym before))))

-- there is none from the count up
pub none-at : (b : ℕ) (g : Setup) (past : List Act) (k : ℕ) → length (events g past) ≤ k → slice_get (observation b g past) k ≡ None
none-at b g past k far = slice_get-map (blanked b) (events g past) k ∙ ap (option_map (blanked b)) (slice_get_past (events g past) k far)
