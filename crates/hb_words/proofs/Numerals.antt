-- Which words does `parse` read as the numbers that they are written for?
use Rattle.std.proofs.Common.{◌≡◌, ℕ, ◌<◌, ◌^◌, List, [], ◌∷◌, length, sym, ap, ◌∙◌, arith, refl, subst, suc, zero}
use Rattle.std.specs.Prelude.{Result, Some, decimal, slice_index, unwrap_or}
use Rattle.std.specs.declared.result.Result.TheVariants.{Ok}
use Rattle.std.specs.Str.Parse.{AllDigits, ParsesUnsigned, digits_value}
use Rattle.std.specs.Result.{OkIff}
use Rattle.std.proofs.lemmas.Fmt.{decimal-digits_value, digits_value-decimal, decimal_digit, first_decimal, parse-decimal}
use Rattle.std.proofs.lemmas.Str.Parse.{IsNumeralModel, numerals_by_value, tells_digits, parse_plain}
use Rattle.hb_words.specs.PlainWords.{IsPlain}
use Rattle.hb_words.specs.Unpadded.{IsUnpadded}

-- what is there is the same where the options are
pub some_same : {X : Type 0} {a b : X} → Some a ≡ Some b → a ≡ b
some_same {X} {a} {b} e = ap (λ o. unwrap_or o a) e

-- a text does not begin with `-` if its first byte is larger
first_above : (bs : List ℕ) → 48 < slice_index bs 0 → IsPlain bs
first_above [] high = λ e. absurd (omega (arith, high))
first_above (b ∷ bs) high = λ e. let same : b ≡ 45 = some_same e in omega (arith, high, same)

digits-model : IsNumeralModel (AllDigits 10) (digits_value 10)
digits-model = numerals_by_value (AllDigits 10) tells_digits

-- the number of 64 bits that `parse` reads, without a plus and leading zeros, is written so
pub decimal-parse : (bs : List ℕ) (n : ℕ) → ParsesUnsigned {E = ℕ} 64 10 bs (Ok n) → IsUnpadded bs
    → (bs ≡ decimal n) × (n < 2 ^ 64)
decimal-parse bs n parses plain = pick (parse_plain digits-model {E = ℕ} 64 bs (Ok n) parses plain.0)
  where
    pick : OkIff {E = ℕ} (Ok n) (AllDigits 10 bs × (0 < length bs) × (digits_value 10 bs < 2 ^ 64)) (digits_value 10 bs)
        → (bs ≡ decimal n) × (n < 2 ^ 64)
    pick ((digits, some, small), value) =
        let written : bs ≡ decimal (digits_value 10 bs) = sym (decimal-digits_value digits-model bs digits some plain.1 small) in
        (written ∙ ap decimal (sym value), omega (arith, small, value))

-- a number is written without a plus and leading zeros
pub decimal-unpadded : (n : ℕ) → n < 2 ^ 64 → IsUnpadded (decimal n)
decimal-unpadded zero small = rw (decimal_digit zero (omega arith)) (λ plus. omega (arith, plus), λ first. refl)
decimal-unpadded (suc n) small =
    let high : 48 < slice_index (decimal (suc n)) 0 = first_decimal (suc n) (omega arith) small in
    (λ plus. omega (arith, high, plus), λ first. absurd (omega (arith, high, first)))

-- what is written of a number has no plus and no leading zeros, and `parse` reads it as that number
pub parse-decimal-unpadded : (E : Type 0) (bs : List ℕ) (n : ℕ) (r : Result ℕ E) → n < 2 ^ 64 → bs ≡ decimal n
    → ParsesUnsigned 64 10 bs r → (r ≡ Ok n) × IsUnpadded bs
parse-decimal-unpadded E bs n r small written parses =
    (parse-decimal 64 n bs r small small written parses, subst IsUnpadded (sym written) (decimal-unpadded n small))

-- the value of a number as it is written
pub value-decimal : (n : ℕ) → n < 2 ^ 64 → digits_value 10 (decimal n) ≡ n
value-decimal n small = digits_value-decimal digits-model n small

-- numbers that are written alike are the same
pub decimal-same : (n m : ℕ) → n < 2 ^ 64 → m < 2 ^ 64 → decimal n ≡ decimal m → n ≡ m
decimal-same n m small also alike = sym (value-decimal n small) ∙ ap (digits_value 10) alike ∙ value-decimal m also

-- a number as it is written does not begin with `-`
pub decimal-plain : (n : ℕ) → n < 2 ^ 64 → IsPlain (decimal n)
decimal-plain zero small = rw (decimal_digit zero (omega arith)) (λ e. omega (arith, some_same e))
decimal-plain (suc n) small = first_above (decimal (suc n)) (first_decimal (suc n) (omega arith) small)
