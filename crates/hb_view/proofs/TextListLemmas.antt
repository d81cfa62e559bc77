-- What does a list of texts come to, one text on, and behind calls that append to it?
use Rattle.std.proofs.Common.{◌≡◌, ℕ, ◌+◌, List, [], ◌∷◌, ◌++◌, ap, sym, ◌∙◌, arith, map, append_assoc}
use Rattle.std.specs.Prelude.{OnOk, Result}
use Rattle.std.proofs.lemmas.Result.{on_ok_weaker}
use Rattle.std.proofs.lemmas.List.{map-append}
use Rattle.std.proofs.lemmas.List.FromFn.{map-range_with_len_more}
use Rattle.std.specs.List.{range_with_len}
use Rattle.hb_rules.specs.declared.events.Event.{Event}
use Rattle.hb_rules.specs.Events.{blank, blanked}
use Rattle.hb_wire.specs.Lines.{event_line}

-- one more item behind those of a list
pub append-one : {A : Type 0} (base before after old new : List A) (x : A) → before ≡ base ++ old
    → after ≡ before ++ x ∷ [] → new ≡ old ++ x ∷ [] → after ≡ base ++ new
append-one base before after old new x first next grown =
    next ∙ (ap (λ front. front ++ x ∷ []) first
    ∙ (append_assoc base old (x ∷ []) ∙ ap (λ rest. base ++ rest) (sym grown)))

-- the items of the numbers below n + 1
pub map-below_more : {A : Type 0} (f : ℕ → A) (n : ℕ)
    → map f (range_with_len 0 (n + 1)) ≡ map f (range_with_len 0 n) ++ f n ∷ []
map-below_more f n = let e : 0 + n ≡ n = omega arith in map-range_with_len_more f 0 n n e

-- the texts of the events of the numbers below n + 1
pub map-events_more : (blind : ℕ) (f : ℕ → Event) (n : ℕ)
    → map event_line (blank blind (map f (range_with_len 0 (n + 1))))
    ≡ map event_line (blank blind (map f (range_with_len 0 n))) ++ event_line (blanked blind (f n)) ∷ []
map-events_more blind f n =
    ap (λ es. map event_line (blank blind es)) (map-below_more f n)
    ∙ (ap (map event_line) (map-append (blanked blind) (map f (range_with_len 0 n)) (f n ∷ []))
    ∙ map-append event_line (blank blind (map f (range_with_len 0 n))) (blanked blind (f n) ∷ []))

-- what a call appended behind what another one had
pub on_ok-two_parts : {A T E : Type 0} (r : Result T E) (new old xs ys zs : List A) → zs ≡ xs ++ ys
    → OnOk r (new ≡ (old ++ xs) ++ ys) → OnOk r (new ≡ old ++ zs)
on_ok-two_parts r new old xs ys zs e ok =
    on_ok_weaker r (λ is. is ∙ (append_assoc old xs ys ∙ ap (λ rest. old ++ rest) (sym e))) ok

-- the same behind two others
pub on_ok-three_parts : {A T E : Type 0} (r : Result T E) (new old xs ys zs all : List A) → all ≡ xs ++ (ys ++ zs)
    → OnOk r (new ≡ ((old ++ xs) ++ ys) ++ zs) → OnOk r (new ≡ old ++ all)
on_ok-three_parts r new old xs ys zs all e ok = on_ok_weaker r
    (λ is. is ∙ (append_assoc (old ++ xs) ys zs ∙ (append_assoc old xs (ys ++ zs) ∙ ap (λ rest. old ++ rest) (sym e)))) ok
