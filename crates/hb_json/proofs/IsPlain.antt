-- Data that hold no float and nest little: their compact text is exact and reads back.
use Rattle.std.proofs.Common.{◌≡◌, ℕ, ◌+◌, ◌≤◌, List, [], ◌∷◌, map, Bool, true, false, refl, arith}
use Rattle.std.specs.Prelude.{not, ◌==◌, Option, None, Some}
use Rattle.std.specs.Ordering.{nat_cmp, match_ordering}
use Rattle.std.specs.declared.cmp.Ordering.{Ordering}
use Rattle.std.specs.declared.cmp.Ordering.TheVariants.{Less, Equal, Greater}
use Rattle.std.specs.Cmp.Lexicographic.{slice_cmp}
use Rattle.serde_json.specs.Data.{Data, string, boolean, array, object, Members, no_members, member, put, depth, members_depth}
use Rattle.serde_json.specs.View.{items_of}
use Rattle.serde_json.specs.Written.{has_float, members_have_float}
use Rattle.hb_rules.specs.declared.acts.Action.{Action}
use Rattle.hb_rules.specs.declared.acts.Action.TheVariants as action
use Rattle.hb_rules.specs.declared.acts.Clue.TheVariants as clue
use Rattle.hb_rules.specs.declared.acts.Options.{Options}
use Rattle.hb_json.specs.Values.{whole, wholes_data, texts_data, put_if, options_members, options_data, seat_data, action_data}

-- no float, and at most n deep
pub record IsPlain (n : ℕ) (d : Data) : Type 0 where
  pub exact : has_float d ≡ false
  pub low : depth d ≤ n

-- members whose values have no float and are at most n deep
pub record ArePlain (n : ℕ) (ms : Members) : Type 0 where
  pub exact : members_have_float ms ≡ false
  pub low : members_depth ms ≤ n

-- a member that is put in
pub ArePlain-put : (n : ℕ) (k : List ℕ) (d : Data) (ms : Members) → IsPlain n d → ArePlain n ms → ArePlain n (put k d ms)
ArePlain-put n k d no_members h g = record { exact = rw h.exact refl; low = omega (arith, h.low) }
ArePlain-put n k d (member l e ms) h g =
    let first : has_float e ≡ false = grind (arith, g.exact) in
    let rest : ArePlain n ms = record { exact = grind (arith, g.exact); low = omega (arith, g.low) } in
    pick (slice_cmp nat_cmp k l) first rest (ArePlain-put n k d ms h rest)
  where
    pick : (o : Ordering) → has_float e ≡ false → ArePlain n ms → ArePlain n (put k d ms)
        → ArePlain n (match_ordering o (member k d (member l e ms)) (member l d ms) (member l e (put k d ms)))
    pick Less first rest more = record { exact = rw (h.exact, first, rest.exact) refl; low = omega (arith, h.low, g.low) }
    pick Equal first rest more = record { exact = rw (h.exact, rest.exact) refl; low = omega (arith, h.low, rest.low) }
    pick Greater first rest more = record { exact = rw (first, more.exact) refl; low = omega (arith, g.low, more.low) }

-- a member that is put in if it is written
pub ArePlain-put_if : (n : ℕ) (b : Bool) (k : List ℕ) (d : Data) (ms : Members) → IsPlain n d → ArePlain n ms → ArePlain n (put_if b k d ms)
ArePlain-put_if n true k d ms h g = ArePlain-put n k d ms h g
ArePlain-put_if n false k d ms h g = g

-- no members
pub ArePlain-no_members : (n : ℕ) → ArePlain n no_members
ArePlain-no_members n = record { exact = refl; low = omega arith }

-- a list of plain data
pub IsPlain-array : {X : Type 0} (f : X → Data) (n : ℕ) → ((x : X) → IsPlain n (f x))
    → (xs : List X) → IsPlain (n + 1) (array (items_of (map f xs)))
IsPlain-array f n h [] = record { exact = refl; low = omega arith }
IsPlain-array f n h (x ∷ xs) =
    let ih : IsPlain (n + 1) (array (items_of (map f xs))) = IsPlain-array f n h xs in
    let one : IsPlain n (f x) = h x in
    record { exact = rw (one.exact, ih.exact) refl; low = omega (arith, one.low, ih.low) }

-- an object of plain members
pub IsPlain-object : (n : ℕ) (ms : Members) → ArePlain n ms → IsPlain (n + 1) (object ms)
IsPlain-object n ms h = record { exact = h.exact; low = omega (arith, h.low) }

-- a bound that is not below another does as well
pub IsPlain_deeper : (m n : ℕ) (d : Data) → m ≤ n → IsPlain m d → IsPlain n d
IsPlain_deeper m n d le h = record { exact = h.exact; low = omega (arith, h.low, le) }

-- a whole number
pub IsPlain-whole : (n k : ℕ) → IsPlain k (whole n)
IsPlain-whole n k = record { exact = refl; low = omega arith }

-- a text
pub IsPlain-string : (k : ℕ) (s : List ℕ) → IsPlain k (string s)
IsPlain-string k s = record { exact = refl; low = omega arith }

-- the value true
pub IsPlain-true : (k : ℕ) → IsPlain k (boolean true)
IsPlain-true k = record { exact = refl; low = omega arith }

-- the canonical options object
pub IsPlain-options_data : (name : List ℕ) (o : Options) → IsPlain 1 (options_data name o)
IsPlain-options_data name o = IsPlain-object 0 (options_members name o)
    (ArePlain-put_if 0 o.timed _ _ _ (IsPlain-whole o.per_turn_s 0)
    (ArePlain-put_if 0 o.timed _ _ _ (IsPlain-whole o.base_s 0)
    (ArePlain-put_if 0 o.timed _ _ _ (IsPlain-true 0)
    (ArePlain-put_if 0 (not (o.starting == 0)) _ _ _ (IsPlain-whole o.starting 0)
    (ArePlain-put_if 0 o.less_card _ _ _ (IsPlain-true 0)
    (ArePlain-put_if 0 o.extra_card _ _ _ (IsPlain-true 0)
    (ArePlain-put_if 0 o.empty_clues _ _ _ (IsPlain-true 0)
    (ArePlain-put 0 _ _ _ (IsPlain-string 0 name) (ArePlain-no_members 0)))))))))

-- a list of whole numbers
pub IsPlain-wholes_data : (numbers : List ℕ) → IsPlain 1 (wholes_data numbers)
IsPlain-wholes_data numbers = IsPlain-array whole 0 (λ n. IsPlain-whole n 0) numbers

-- a list of texts
pub IsPlain-texts_data : (texts : List (List ℕ)) → IsPlain 1 (texts_data texts)
IsPlain-texts_data texts = IsPlain-array string 0 (IsPlain-string 0) texts

-- a seat, or null
pub IsPlain-seat_data : (k : ℕ) (seat : Option ℕ) → IsPlain k (seat_data seat)
IsPlain-seat_data k None = record { exact = refl; low = omega arith }
IsPlain-seat_data k (Some seat) = IsPlain-whole seat k

-- an action
pub IsPlain-action_data : (who : ℕ) (a : Action) → IsPlain 1 (action_data who a)
IsPlain-action_data who (action.Play order) = record { exact = refl; low = omega arith }
IsPlain-action_data who (action.Discard order) = record { exact = refl; low = omega arith }
IsPlain-action_data who (action.Clue to (clue.Color c)) = record { exact = refl; low = omega arith }
IsPlain-action_data who (action.Clue to (clue.Rank r)) = record { exact = refl; low = omega arith }
IsPlain-action_data who (action.End how) = record { exact = refl; low = omega arith }
