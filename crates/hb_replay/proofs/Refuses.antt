-- Steps of a reader and the rows of a table that say what they refuse.
use Rattle.std.proofs.Common.{◌≡◌, ℕ, ◌+◌, Bool, true, false, cond, Result, Ok, Err, refl, sym, inl, inr}
use Rattle.std.specs.Prelude.{◌↔◌, ◌⊎◌, ◌∷◌}
use Rattle.std.specs.declared.option.Option.{Option}
use Rattle.std.specs.declared.option.Option.TheVariants.{None, Some}
use Rattle.serde_json.specs.Data.{Data, Items, no_items, item}
use Rattle.hb_json.specs.Results.{◌>>=◌, found_or, must}
use Rattle.hb_replay.specs.Shape.{each_at}
use Rattle.hb_replay.specs.RefusalOf.{row, ◌otherwise◌, members_rows}
use Rattle.hb_replay.proofs.ValueKinds.{none-is_some}

-- the rows say which errors there are
abbrev pub Refuses : {A F : Type 0} → (F → Type 0) → Result A F → Type 0
Refuses {A} {F} Rows m = (e : F) → Rows e ↔ (m ≡ Err e)

-- a step refuses one thing
pub same-err : {A F : Type 0} (x y : F) → (let a : Result A F = Err x in a ≡ Err y) → x ≡ y
same-err x y h = cc

-- a value is no error
pub not-err : {A F : Type 0} (x : A) (e : F) → (let a : Result A F = Ok x in a ≡ Err e) → ⊥
not-err x e h = cc

-- one step after another
then-ok : {B F : Type 0} (P Q : F → Type 0) (r : Result B F) → ((e : F) → P e → ⊥) → Refuses Q r → Refuses (P otherwise Q) r
then-ok {B} {F} P Q r none q e = (to, λ h. inr (none, (q e).1 h))
  where
    to : P e ⊎ (((earlier : F) → P earlier → ⊥) × Q e) → r ≡ Err e
    to (inl p) = absurd (none e p)
    to (inr h) = (q e).0 h.1

then-err : {A B F : Type 0} (P Q : F → Type 0) (x : F) → (let m : Result A F = Err x in Refuses P m)
    → (let r : Result B F = Err x in Refuses (P otherwise Q) r)
then-err {A} {B} {F} P Q x p e = (to, from)
  where
    to : P e ⊎ (((earlier : F) → P earlier → ⊥) × Q e) → (let r : Result B F = Err x in r ≡ Err e)
    to (inl h) = let same : x ≡ e = same-err x e ((p e).0 h) in rw same refl
    to (inr h) = absurd (h.0 x ((p x).1 refl))

    from : (let r : Result B F = Err x in r ≡ Err e) → P e ⊎ (((earlier : F) → P earlier → ⊥) × Q e)
    from h = let same : x ≡ e = same-err x e h in inl ((p e).1 (rw same refl))

-- rows of two steps, one after another
pub refuses-then : {A B F : Type 0} (P Q : F → Type 0) (m : Result A F) (f : A → Result B F) → Refuses P m
    → ((x : A) → m ≡ Ok x → Refuses Q (f x)) → Refuses (P otherwise Q) (m >>= f)
refuses-then P Q (Ok x) f p q = then-ok P Q (f x) (λ e h. not-err x e ((p e).0 h)) (q x refl)
refuses-then P Q (Err x) f p q = then-err P Q x p

-- a last step that refuses nothing
pub refuses-map : {A B F : Type 0} (P : F → Type 0) (m : Result A F) (g : A → B) → Refuses P m → Refuses P (m >>= λ x. Ok (g x))
refuses-map P (Ok x) g p e = (λ h. absurd (not-err x e ((p e).0 h)), λ h. absurd (not-err (g x) e h))
refuses-map P (Err x) g p e = (
  λ h. let same : x ≡ e = same-err x e ((p e).0 h) in rw same refl,
  λ h. let same : x ≡ e = same-err x e h in (p e).1 (rw same refl),
)

-- a step that refuses nothing first
pub refuses-after : {A B F : Type 0} (P : F → Type 0) (x : A) (m : Result A F) (f : A → Result B F) → m ≡ Ok x → Refuses P (f x)
    → Refuses P (m >>= f)
refuses-after P x m f is p = rw is p

-- nothing is refused
pub refuses-none : {A F : Type 0} (P : F → Type 0) (x : A) → ((e : F) → P e → ⊥) → (let m : Result A F = Ok x in Refuses P m)
refuses-none P x none e = (λ h. absurd (none e h), λ h. absurd (not-err x e h))

-- what has to be there
pub refuses-found : {A F : Type 0} (refused : F) (R : A → Type 0) (o : Option A) → ((x : A) → R x ↔ (o ≡ Some x))
    → Refuses (row refused (((x : A) × R x) → ⊥)) (found_or refused o)
refuses-found refused R None same e = (λ h. rw h.1 refl, λ h. (λ s. none-is_some s.0 ((same s.0).0 s.1), sym (same-err refused e h)))
refuses-found refused R (Some x) same e = (λ h. absurd (h.0 (x, (same x).1 refl)), λ h. absurd (not-err x e h))

-- what must hold
pub refuses-must : {F : Type 0} (refused : F) (Broken : Type 0) (b : Bool) → (Broken ↔ (b ≡ false))
    → Refuses (row refused Broken) (must refused b)
refuses-must refused Broken true same e = (λ h. absurd (clash ((same).0 h.0)), λ h. absurd (not-err _ e h))
  where
    clash : true ≡ false → ⊥
    clash f = cc
refuses-must refused Broken false same e = (λ h. rw h.1 refl, λ h. (same.1 refl, sym (same-err refused e h)))

-- what is said of a value that is known
pub refuses-known : {X A F : Type 0} (R : X → Type 0) (P : X → F → Type 0) (x : X) (m : Result A F) → R x → ((y : X) → R y → y ≡ x)
    → Refuses (P x) m → Refuses (λ e. (y : X) × R y × P y e) m
refuses-known {X} {A} {F} R P x m here only p e = (to, λ h. (x, here, (p e).1 h))
  where
    to : ((y : X) × R y × P y e) → m ≡ Err e
    to h = let same : h.0 ≡ x = only h.0 h.1 in (p e).0 (rw same at h.2)

-- each member of a list in turn
pub refuses-each : {X F : Type 0} (Rows : ℕ → Data → F → Type 0) (f : ℕ → Data → Result X F)
    → ((k : ℕ) (d : Data) → Refuses (Rows k d) (f k d)) → (k : ℕ) (ds : Items) → Refuses (members_rows Rows k ds) (each_at f k ds)
refuses-each Rows f each k no_items = refuses-none (λ e. ⊥) _ (λ e h. h)
refuses-each Rows f each k (item d ds) = refuses-then (Rows k d) (members_rows Rows (k + 1) ds) (f k d) _ (each k d)
    (λ x is. refuses-map (members_rows Rows (k + 1) ds) (each_at f (k + 1) ds) (λ xs. x ∷ xs) (refuses-each Rows f each (k + 1) ds))

-- a fault if a test holds
pub refuses-if : {A F : Type 0} (b : Bool) (refused : F) (Holds : Type 0) (P : F → Type 0) (m : Result A F) → (Holds ↔ (b ≡ true))
    → Refuses P m
    → Refuses (row refused Holds otherwise P) (cond b (Err refused) m)
refuses-if {A} true refused Holds P m same p =
    then-err {A = A} (row refused Holds) P refused (λ e. (λ h. rw h.1 refl, λ h. (same.1 refl, sym (same-err refused e h))))
refuses-if false refused Holds P m same p = then-ok (row refused Holds) P m (λ e h. clash (same.0 h.0)) p
  where
    clash : false ≡ true → ⊥
    clash f = cc

-- a fault if a test holds, and else a value
pub refuses-last-if : {A F : Type 0} (b : Bool) (refused : F) (Holds : Type 0) (x : A) → (Holds ↔ (b ≡ true))
    → Refuses (row refused Holds) (cond b (Err refused) (Ok x))
refuses-last-if true refused Holds x same e = (λ h. rw h.1 refl, λ h. (same.1 refl, sym (same-err refused e h)))
refuses-last-if false refused Holds x same e = (λ h. absurd (clash (same.0 h.0)), λ h. absurd (not-err x e h))
  where
    clash : false ≡ true → ⊥
    clash f = cc

-- the steps of a step are steps
pub bind-bind : {A B C F : Type 0} (m : Result A F) (f : A → Result B F) (g : B → Result C F) → ((m >>= f) >>= g) ≡ (m >>= λ x. (f x >>= g))
bind-bind (Ok x) f g = refl
bind-bind (Err x) f g = refl
