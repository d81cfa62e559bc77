-- The number of an end, there and back.
use Rattle.std.proofs.Common.{◌≡◌, ℕ, Bool, true, false, refl, arith, sym}
use Rattle.std.specs.Prelude.{◌==◌}
use Rattle.std.specs.declared.option.Option.TheVariants.{Some}
use Rattle.hb_rules.specs.declared.acts.EndHow.{EndHow}
use Rattle.hb_rules.specs.declared.acts.EndHow.TheVariants.{Normal, Strikeout, Timeout, Terminated}
use Rattle.hb_rules.specs.Numbers.{end_of, end_number}
use Rattle.hb_replay.proofs.ValueKinds.{none-is_some, same-some}

-- actions
pub end-to : (how : EndHow) → end_of (end_number how) ≡ Some how
end-to Normal = refl
end-to Strikeout = refl
end-to Timeout = refl
end-to Terminated = refl

-- the number of an end that is found is its number
pub end-from : (n : ℕ) (how : EndHow) → end_of n ≡ Some how → n ≡ end_number how
end-from n how h = one (n == 1) refl
  where
    one : (b : Bool) → (n == 1) ≡ b → n ≡ end_number how
    one true e = let same : Normal ≡ how = same-some Normal how (rw e at h) in rw (sym same) (grind arith)
    one false e = two (n == 2) refl
      where
        two : (b : Bool) → (n == 2) ≡ b → n ≡ end_number how
        two true f = let same : Strikeout ≡ how = same-some Strikeout how (rw (e, f) at h) in rw (sym same) (grind arith)
        two false f = three (n == 3) refl
          where
            three : (b : Bool) → (n == 3) ≡ b → n ≡ end_number how
            three true g = let same : Timeout ≡ how = same-some Timeout how (rw (e, f, g) at h) in rw (sym same) (grind arith)
            three false g = four (n == 4) refl
              where
                four : (b : Bool) → (n == 4) ≡ b → n ≡ end_number how
                four true k = let same : Terminated ≡ how = same-some Terminated how (rw (e, f, g, k) at h) in rw (sym same) (grind arith)
                four false k = absurd (none-is_some how (rw (e, f, g, k) at h))
