-- Of which kind is a JSON value that reads as a text, a number, a list or an object?
use Rattle.std.proofs.Common.{◌≡◌, ℕ, ◌<◌, List, Ok, Bool, true, false, refl, arith, sym}
use Rattle.std.specs.Prelude.{nat_lt}
use Rattle.std.specs.declared.option.Option.{Option}
use Rattle.std.specs.declared.option.Option.TheVariants.{None, Some}
use Rattle.serde_json.specs.Data.{Data, unsigned, negative, float, null, boolean, number, string, array, object, Items, Members}
use Rattle.serde_json.specs.Find.{get, as_str, as_bool, as_array, as_object}
use Rattle.hb_json.specs.Values.{whole}
use Rattle.hb_replay.specs.declared.place.Place.{Place}
use Rattle.hb_json.specs.JsonReading.{whole_of, below_of}
use Rattle.hb_replay.specs.Shape.{number_at}
use Rattle.hb_replay.proofs.Found.{err-is_ok, found_or-ok}

-- nothing is no value
pub none-is_some : {A : Type 0} (x : A) → (let o : Option A = None in o ≡ Some x) → ⊥
none-is_some x h = cc

-- there is one value
pub same-some : {A : Type 0} (x y : A) → (let o : Option A = Some x in o ≡ Some y) → x ≡ y
same-some x y h = cc

-- values by their kinds
pub text-is : (d : Data) (s : List ℕ) → as_str d ≡ Some s → d ≡ string s
text-is null s h = absurd (none-is_some s h)
text-is (boolean b) s h = absurd (none-is_some s h)
text-is (number n) s h = absurd (none-is_some s h)
text-is (string t) s h = let e : t ≡ s = same-some t s h in rw e refl
text-is (array ds) s h = absurd (none-is_some s h)
text-is (object ms) s h = absurd (none-is_some s h)

-- what is found to be true or false is that
pub flag-is : (d : Data) (b : Bool) → as_bool d ≡ Some b → d ≡ boolean b
flag-is null b h = absurd (none-is_some b h)
flag-is (boolean c) b h = let e : c ≡ b = same-some c b h in rw e refl
flag-is (number n) b h = absurd (none-is_some b h)
flag-is (string t) b h = absurd (none-is_some b h)
flag-is (array ds) b h = absurd (none-is_some b h)
flag-is (object ms) b h = absurd (none-is_some b h)

-- what is found to be a list is that list
pub list-is : (d : Data) (ds : Items) → as_array d ≡ Some ds → d ≡ array ds
list-is null ds h = absurd (none-is_some ds h)
list-is (boolean b) ds h = absurd (none-is_some ds h)
list-is (number n) ds h = absurd (none-is_some ds h)
list-is (string t) ds h = absurd (none-is_some ds h)
list-is (array es) ds h = let e : es ≡ ds = same-some es ds h in rw e refl
list-is (object ms) ds h = absurd (none-is_some ds h)

-- what is found to be an object is that object
pub object-is : (d : Data) (ms : Members) → as_object d ≡ Some ms → d ≡ object ms
object-is null ms h = absurd (none-is_some ms h)
object-is (boolean b) ms h = absurd (none-is_some ms h)
object-is (number n) ms h = absurd (none-is_some ms h)
object-is (string t) ms h = absurd (none-is_some ms h)
object-is (array ds) ms h = absurd (none-is_some ms h)
object-is (object ns) ms h = let e : ns ≡ ms = same-some ns ms h in rw e refl

-- what is found to be a whole number is that number
pub whole-is : (d : Data) (n : ℕ) → whole_of d ≡ Some n → d ≡ whole n
whole-is null n h = absurd (none-is_some n h)
whole-is (boolean b) n h = absurd (none-is_some n h)
whole-is (number (unsigned m)) n h = let e : m ≡ n = same-some m n h in rw e refl
whole-is (number (negative z)) n h = absurd (none-is_some n h)
whole-is (number (float x)) n h = absurd (none-is_some n h)
whole-is (string t) n h = absurd (none-is_some n h)
whole-is (array ds) n h = absurd (none-is_some n h)
whole-is (object ms) n h = absurd (none-is_some n h)

-- what has a key is an object
pub object-there : (key : List ℕ) (d v : Data) → get key d ≡ Some v → (ms : Members) × (as_object d ≡ Some ms)
object-there key null v h = absurd (none-is_some v h)
object-there key (boolean b) v h = absurd (none-is_some v h)
object-there key (number n) v h = absurd (none-is_some v h)
object-there key (string t) v h = absurd (none-is_some v h)
object-there key (array ds) v h = absurd (none-is_some v h)
object-there key (object ms) v h = (ms, refl)

-- numbers
pub below-is : (n m : ℕ) (d : Data) → below_of n d ≡ Some m → (d ≡ whole m) × (m < n)
below-is n m d h = pick (whole_of d) refl
  where
    pick : (o : Option ℕ) → whole_of d ≡ o → (d ≡ whole m) × (m < n)
    pick None e = absurd (none-is_some m (rw e at h))
    pick (Some x) e = low (nat_lt x n) refl
      where
        low : (b : Bool) → nat_lt x n ≡ b → (d ≡ whole m) × (m < n)
        low true t = let same : x ≡ m = same-some x m (rw (e, t) at h) in let below : x < n =
            grind arith in rw (sym same) (whole-is d x e, below)
        low false t = absurd (none-is_some m (rw (e, t) at h))

-- a number that is found stands under the key, below the bound
pub number-from : (place : Place) (n : ℕ) (key : List ℕ) (d : Data) (m : ℕ) → number_at place n key d ≡ Ok m
    → (get key d ≡ Some (whole m)) × (m < n)
number-from place n key d m h = pick (get key d) refl
  where
    pick : (o : Option Data) → get key d ≡ o → (get key d ≡ Some (whole m)) × (m < n)
    pick None e = absurd (err-is_ok place m (rw e at h))
    pick (Some v) e =
        let is = below-is n m v (found_or-ok place (below_of n v) m (rw e at h)) in
        (rw (e, is.0) refl, is.1)

-- a number below the bound is found
pub number-to : (place : Place) (n : ℕ) (key : List ℕ) (d : Data) (m : ℕ) → get key d ≡ Some (whole m) → m < n
    → number_at place n key d ≡ Ok m
number-to place n key d m h low = let small : nat_lt m n ≡ true = grind arith in rw (h, small) refl
