-- Histories: beginnings of one list, the calls of one pass, and legal ones.
use Rattle.std.proofs.Common.{◌≡◌, ◌≢◌, ℕ, ◌<◌, ◌≤◌, eqb, ltb, Bool, true, false, cond, List, [], ◌∷◌, ◌++◌, length, refl, ap, sym, ◌∙◌, subst, arith, append_assoc, append-nil, length-append, eq-eqb, ne_eqb, ltb-true, ltb-false}
use Rattle.std.proofs.lemmas.List.Elements.{filter-append}
use mathlib.Core.List.{IsPrefix}
use Rattle.hb_turnstile.specs.declared.view.Entry.{Entry}
use Rattle.hb_turnstile.specs.History.{entry, calls_by, Leads, IsLegal}
use Rattle.hb_turnstile.specs.Known.{longer}

-- a list begins itself
pub prefix_self : {A : Type 0} (xs : List A) → IsPrefix xs xs
prefix_self xs = ([], append-nil xs)

-- the empty list begins each
pub prefix_none : {A : Type 0} (xs : List A) → IsPrefix [] xs
prefix_none xs = (xs, refl)

-- what begins a list begins a longer one
pub prefix_more : {A : Type 0} (xs ys zs : List A) → IsPrefix xs ys → IsPrefix xs (ys ++ zs)
prefix_more xs ys zs p = (p.0 ++ zs, sym (append_assoc xs p.0 zs) ∙ ap (λ w. w ++ zs) p.1)

-- of two beginnings of one list the shorter begins the longer
pub prefix_shorter : {A : Type 0} (xs ys zs : List A) → IsPrefix xs zs → IsPrefix ys zs → length xs ≤ length ys → IsPrefix xs ys
prefix_shorter [] ys zs p q le = (ys, refl)
prefix_shorter (x ∷ xs) [] zs p q le = absurd (omega arith)
prefix_shorter (x ∷ xs) (y ∷ ys) [] p q le = absurd (cc (p.1))
prefix_shorter (x ∷ xs) (y ∷ ys) (z ∷ zs) p q le =
    let heads : x ≡ y = cc (p.1, q.1) in
    let rest = prefix_shorter xs ys zs (p.0, cc (p.1)) (q.0, cc (q.1)) (omega arith) in
    (rest.0, cc (heads, rest.1))

-- what holds of the longer of two lists
pub longer_is : {A : Type 0} (P : List A → Type 0) (xs ys : List A) → (length xs < length ys → P ys)
    → (length ys ≤ length xs → P xs) → P (longer xs ys)
longer_is P xs ys more less = by_test (ltb (length xs) (length ys)) refl
  where
    by_test : (b : Bool) → ltb (length xs) (length ys) ≡ b → P (cond b ys xs)
    by_test true e = more (ltb-true (length xs) (length ys) e)
    by_test false e = less (ltb-false (length xs) (length ys) e)

no_items : {A : Type 0} (xs : List A) → length xs ≡ 0 → xs ≡ []
no_items [] e = refl
no_items (x ∷ xs) e = absurd (omega arith)

module _ {C R : Type 0} where
  -- a pass's calls in two lists, one behind the other
  pub calls_by-append : (n : ℕ) (xs ys : List (Entry C R)) → calls_by n (xs ++ ys) ≡ calls_by n xs ++ calls_by n ys
  calls_by-append n xs ys = filter-append (λ e. eqb e.pass n) xs ys

  -- a pass's call is its own
  pub calls_by-own : (n : ℕ) (c : C) (r : R) → calls_by n (entry n c r ∷ []) ≡ entry n c r ∷ []
  calls_by-own n c r = ap (λ b. cond b (entry n c r ∷ []) []) (eq-eqb n n refl)

  -- one more call, of another pass
  pub calls_by-push_other : (n j : ℕ) (c : C) (r : R) (xs : List (Entry C R)) → j ≢ n → calls_by j (xs ++ entry n c r ∷ []) ≡ calls_by j xs
  calls_by-push_other n j c r xs ne =
      let other : calls_by j (entry n c r ∷ []) ≡ [] = ap (λ b. cond b (entry n c r ∷ []) []) (ne_eqb n j (λ e. ne (sym e))) in
      calls_by-append j xs (entry n c r ∷ []) ∙ (ap (λ l. calls_by j xs ++ l) other ∙ append-nil (calls_by j xs))

  -- where the whole has no more calls of a pass than a beginning, the rest has none
  pub none_behind : (n : ℕ) (xs ys : List (Entry C R)) → calls_by n (xs ++ ys) ≡ calls_by n xs → calls_by n ys ≡ []
  none_behind n xs ys e =
      let both = ap length (sym (calls_by-append n xs ys) ∙ e) in
      no_items (calls_by n ys) (omega (arith, length-append (calls_by n xs) (calls_by n ys)))

  -- where the whole has no call of a pass, a beginning has none
  pub none_before : (n : ℕ) (xs zs : List (Entry C R)) → IsPrefix xs zs → calls_by n zs ≡ [] → calls_by n xs ≡ []
  none_before n xs zs p e =
      let parts = ap length (sym (calls_by-append n xs p.0) ∙ (ap (calls_by n) p.1 ∙ e)) in
      no_items (calls_by n xs) (omega (arith, length-append (calls_by n xs) (calls_by n p.0)))

  -- where the whole has no more calls of a pass than a beginning, a list between the two has the same
  pub own_between : (n : ℕ) (xs ys zs : List (Entry C R)) → IsPrefix xs ys → IsPrefix ys zs
      → calls_by n zs ≡ calls_by n xs → calls_by n ys ≡ calls_by n xs
  own_between n xs ys zs p q e =
      let whole : xs ++ (p.0 ++ q.0) ≡ zs = sym (append_assoc xs p.0 q.0) ∙ (ap (λ l. l ++ q.0) p.1 ∙ q.1) in
      let behind : calls_by n (p.0 ++ q.0) ≡ [] = none_behind n xs (p.0 ++ q.0) (ap (calls_by n) whole ∙ e) in
      let first : calls_by n p.0 ≡ [] = none_before n p.0 (p.0 ++ q.0) (q.0, refl) behind in
      ap (calls_by n) (sym p.1) ∙ (calls_by-append n xs p.0 ∙ (ap (λ l. calls_by n xs ++ l) first ∙ append-nil (calls_by n xs)))

module _ {M C R : Type 0} (turns : M → C → R → M → Type 0) where
  -- one more turn
  pub leads-push : (m n k : M) (xs : List (Entry C R)) (p : ℕ) (c : C) (r : R) → Leads turns m xs n
      → turns n c r k → Leads turns m (xs ++ entry p c r ∷ []) k
  leads-push m n k [] p c r same t = (k, subst (λ (x : M). turns x c r k) (sym same) t, refl)
  leads-push m n k (e ∷ xs) p c r l t = (l.0, l.1, leads-push l.0 n k xs p c r l.2 t)

  legal-append : (m n : M) (xs ys : List (Entry C R)) → Leads turns m (xs ++ ys) n → IsLegal turns m xs
  legal-append m n [] ys l = (m, refl)
  legal-append m n (e ∷ xs) ys l = let rest = legal-append l.0 n xs ys l.2 in (rest.0, (l.0, l.1, rest.1))

  -- a beginning of a legal history is legal
  pub legal-prefix : (m : M) (xs zs : List (Entry C R)) → IsPrefix xs zs → IsLegal turns m zs → IsLegal turns m xs
  legal-prefix m xs zs p l = legal-append m l.0 xs p.0 (subst (λ es. Leads turns m es l.0) (sym p.1) l.1)
