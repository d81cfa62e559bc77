-- Does the lobby's test pass exactly the names? Yes.
use Rattle.std.proofs.Common.{◌≡◌, ℕ, ◌<◌, ◌≤◌, ◌⊎◌, inl, inr, true, List, [], ◌∷◌, zero, suc, arith, length}
use Rattle.std.specs.Prelude.{◌↔◌, ◌==◌, ◌||◌, ◌&&◌, Contains, IsTrue, codes, nat_le, slice_index_or}
use Rattle.std.specs.Char.{IsAsciiAlphanumeric, is_ascii_alphanumeric}
use Rattle.std.specs.Int.{IsInRange, is_in_range}
use Rattle.std.specs.List.{AllPass, list_all, list_any}
use Rattle.std.proofs.lemmas.Bool.{and_from, and_parts, or_cases, or_left, or_right}
use Rattle.std.proofs.lemmas.List.Sums.{AllPass-from_list_all, list_all-from_AllPass}
use Rattle.hb_io.specs.declared.names.TheConstants.{NAME_LIMIT}
use Rattle.hb_io.specs.NameSpelling.{IsName, IsNameByte}
use Rattle.hb_club.specs.Lobby.{is_name, is_name_byte}

in_range-is : (lo hi c : ℕ) → is_in_range lo hi c ≡ true → IsInRange lo hi c
in_range-is lo hi c h = (grind arith, grind arith)

in_range-test : (lo hi c : ℕ) → IsInRange lo hi c → is_in_range lo hi c ≡ true
in_range-test lo hi c is = let low : lo ≤ c = is.0 in let high : c ≤ hi = is.1 in grind arith

alphanumeric-is : (b : ℕ) → is_ascii_alphanumeric b ≡ true → IsAsciiAlphanumeric b
alphanumeric-is b h = either (or_cases (is_in_range 48 57 b || is_in_range 65 90 b) (is_in_range 97 122 b) h)
  where
    first : (is_in_range 48 57 b ≡ true) ⊎ (is_in_range 65 90 b ≡ true) → IsInRange 48 57 b ⊎ IsInRange 65 90 b
    first (inl digit) = inl (in_range-is 48 57 b digit)
    first (inr upper) = inr (in_range-is 65 90 b upper)

    either : ((is_in_range 48 57 b || is_in_range 65 90 b) ≡ true) ⊎ (is_in_range 97 122 b ≡ true) → IsAsciiAlphanumeric b
    either (inl rest) = inl (first (or_cases (is_in_range 48 57 b) (is_in_range 65 90 b) rest))
    either (inr lower) = inr (in_range-is 97 122 b lower)

alphanumeric-test : (b : ℕ) → IsAsciiAlphanumeric b → is_ascii_alphanumeric b ≡ true
alphanumeric-test b (inl (inl digit)) = or_left _ _ (or_left _ _ (in_range-test 48 57 b digit))
alphanumeric-test b (inl (inr upper)) =
    or_left _ _ (or_right (is_in_range 48 57 b) (is_in_range 65 90 b) (in_range-test 65 90 b upper))
alphanumeric-test b (inr lower) =
    or_right (is_in_range 48 57 b || is_in_range 65 90 b) (is_in_range 97 122 b) (in_range-test 97 122 b lower)

-- a test finds what stands in a list of numbers
any-is : (b : ℕ) (xs : List ℕ) → list_any (λ c. c == b) xs ≡ true → Contains xs b
any-is b [] h = cc
any-is b (x ∷ xs) h = pick (or_cases (x == b) (list_any (λ c. c == b) xs) h) (any-is b xs)
  where
    more : Contains xs b → Contains (x ∷ xs) b
    more (k, low, is) = (suc k, omega (arith, low), is)

    pick : ((x == b) ≡ true) ⊎ (list_any (λ c. c == b) xs ≡ true) → (list_any (λ c. c == b) xs ≡ true → Contains xs b)
        → Contains (x ∷ xs) b
    pick (inl here) ih = (0, omega arith, grind arith)
    pick (inr there) ih = more (ih there)

same-number : (x b : ℕ) → x ≡ b → (x == b) ≡ true
same-number x b is = grind arith

any-test : (b : ℕ) (xs : List ℕ) (k : ℕ) → k < length xs → slice_index_or xs k b ≡ b → list_any (λ c. c == b) xs ≡ true
any-test b [] k low is = absurd (omega (arith, low))
any-test b (x ∷ xs) zero low is = or_left (x == b) (list_any (λ c. c == b) xs) (same-number x b is)
any-test b (x ∷ xs) (suc k) low is = or_right (x == b) (list_any (λ c. c == b) xs) (any-test b xs k (omega (arith, low)) is)

-- a byte passes if and only if a name may have it
name_byte-is : (b : ℕ) → is_name_byte b ≡ true → IsNameByte b
name_byte-is b h = pick (or_cases (is_ascii_alphanumeric b) (list_any (λ c. c == b) (codes "_-")) h)
  where
    pick : (is_ascii_alphanumeric b ≡ true) ⊎ (list_any (λ c. c == b) (codes "_-") ≡ true) → IsNameByte b
    pick (inl letter) = inl (alphanumeric-is b letter)
    pick (inr mark) = inr (any-is b (codes "_-") mark)

name_byte-test : (b : ℕ) → IsNameByte b → is_name_byte b ≡ true
name_byte-test b (inl letter) = or_left _ _ (alphanumeric-test b letter)
name_byte-test b (inr (k, low, is)) =
    or_right (is_ascii_alphanumeric b) (list_any (λ c. c == b) (codes "_-")) (any-test b (codes "_-") k low is)

-- a text passes if it is a name
name-is : (text : List ℕ) → is_name text ≡ true → IsName text
name-is text h =
    let parts : ((nat_le 1 (length text) && nat_le (length text) NAME_LIMIT) ≡ true) × (list_all is_name_byte text ≡ true) =
    and_parts _ _ h in
    let sizes : (nat_le 1 (length text) ≡ true) × (nat_le (length text) NAME_LIMIT ≡ true) = and_parts _ _ parts.0 in
    let pass : AllPass is_name_byte text = AllPass-from_list_all is_name_byte text parts.1 in record {
      not_empty = let some : nat_le 1 (length text) ≡ true = sizes.0 in grind arith;
      fits = let few : nat_le (length text) NAME_LIMIT ≡ true = sizes.1 in grind arith;
      bytes = λ k d low. name_byte-is (slice_index_or text k d) (pass k d low);
    }

-- and only then
name-test : (text : List ℕ) → IsName text → is_name text ≡ true
name-test text is =
    let some : 0 < length text = is.not_empty in
    let few : length text ≤ NAME_LIMIT = is.fits in
    let pass : AllPass is_name_byte text = λ k d low. name_byte-test (slice_index_or text k d) (is.bytes k d low) in
    let low : nat_le 1 (length text) ≡ true = grind arith in
    let high : nat_le (length text) NAME_LIMIT ≡ true = grind arith in
    and_from (nat_le 1 (length text) && nat_le (length text) NAME_LIMIT) (list_all is_name_byte text)
    (and_from (nat_le 1 (length text)) (nat_le (length text) NAME_LIMIT) low high) (list_all-from_AllPass is_name_byte text pass)

-- so the test says what a name is
pub is_name-tests : (text : List ℕ) → IsTrue (is_name text) ↔ IsName text
is_name-tests text = (name-is text, name-test text)
