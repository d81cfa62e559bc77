-- How do the counts of a door and of a spawner go on?
use Rattle.std.proofs.Common.{◌≡◌, ◌⊎◌, ℕ, ◌+◌, ◌-◌, ◌<◌, ◌≤◌, ◌^◌, zero, suc, Bool, true, false, nat_lt, List, [], ◌∷◌, ◌++◌, length, length-append, Option, Some, None, refl, arith, inl, inr, ap, sym, ◌∙◌, append_assoc, append-nil, subst, IsTrue}
use Rattle.std.proofs.lemmas.Bool.Decides.{nat_tests}
use Rattle.hb_io.specs.Causes.{Rose}
use Rattle.hb_edge.specs.Telling.{FewerBack, Keeps, NoMoreBack, Tells}
use Rattle.hb_serve.specs.Counting.{AreRefused, CountsMore, GrowsBy, HasRoom}

-- what is told

-- what was kept twice is kept
pub keeps-trans : {X : Type 0} (a b c : Option X) → Keeps a b → Keeps b c → Keeps a c
keeps-trans a b None first next = tt
keeps-trans a None (Some z) first next = absurd next
keeps-trans None (Some y) (Some z) first next = absurd first
keeps-trans (Some x) (Some y) (Some z) first next = next ∙ first

-- what does not change is kept
pub keeps-same : {X : Type 0} (a : Option X) → Keeps a a
keeps-same None = tt
keeps-same (Some x) = refl

-- two counts one after the other
pub counts-trans : (m n : ℕ) (a b c : Option ℕ) → CountsMore m a b → CountsMore n b c → CountsMore (m + n) a c
counts-trans m n a b None first next = tt
counts-trans m n a None (Some z) first next = absurd next
counts-trans m n None (Some y) (Some z) first next = absurd first
counts-trans m n (Some x) (Some y) (Some z) first next = omega (arith, first, next)

-- nothing more was counted
pub counts-none : (a b : Option ℕ) → Keeps a b → CountsMore 0 a b
counts-none a None same = tt
counts-none None (Some y) same = absurd same
counts-none (Some x) (Some y) same = omega (arith, same)

-- a list that is told, and more behind it
pub lists-trans : {S : Type 0} (xs ys : List S) (a b c : Option (List S)) → Tells a b (λ old. old ++ xs)
    → Tells b c (λ old. old ++ ys) → Tells a c (λ old. old ++ (xs ++ ys))
lists-trans xs ys a b None first next = tt
lists-trans xs ys a None (Some z) first next = absurd next
lists-trans xs ys None (Some y) (Some z) first next = absurd first
lists-trans xs ys (Some x) (Some y) (Some z) first next = next ∙ (ap (λ l. l ++ ys) first ∙ append_assoc x xs ys)

-- no stub more
pub lists-none : {S : Type 0} (a : Option (List S)) → Tells a a (λ old. old ++ [])
lists-none None = tt
lists-none (Some x) = sym (append-nil x)

-- numbers that grow as they are counted

-- twice
pub grows-trans : (l m n : ℕ) (a b c : Option ℕ) → GrowsBy l m a b → GrowsBy m n b c → GrowsBy l n a c
grows-trans l m n a b c first next = record {
  more = first.more + next.more;
  is = omega (arith, first.is, next.is);
  counted = counts-trans first.more next.more a b c first.counted next.counted;
}

-- not at all
pub grows-none : (n m : ℕ) (a b : Option ℕ) → m ≡ n → Keeps a b → GrowsBy n m a b
grows-none n m a b is same = record { more = 0; is = omega (arith, is); counted = counts-none a b same }

-- stubs that may be given back

-- none are to be given back
pub room-none : {S : Type 0} (given : Option ℕ) (back : Option (List S)) → HasRoom 0 given back
room-none None back = tt
room-none (Some links) None = tt
room-none (Some links) (Some stubs) = λ some. absurd (omega (arith, some))

-- one may be given back now
pub room-now : {S : Type 0} (more : ℕ) (given : Option ℕ) (back : Option (List S)) → HasRoom (more + 1) given back
    → FewerBack given back
room-now more None back room = tt
room-now more (Some links) None room = tt
room-now more (Some links) (Some stubs) room =
    let some : 0 < more + 1 = omega arith in let all = room some in omega (arith, all)

-- one was given back
pub room-less : {S : Type 0} (more : ℕ) (stub : S) (given given' : Option ℕ) (back back' : Option (List S))
    → HasRoom (more + 1) given back → Keeps given given' → Tells back back' (λ stubs. stubs ++ stub ∷ [])
    → HasRoom more given' back'
room-less more stub given None back back' room same one = tt
room-less more stub None (Some links') back back' room same one = absurd same
room-less more stub (Some links) (Some links') back None room same one = tt
room-less more stub (Some links) (Some links') None (Some stubs') room same one = absurd one
room-less more stub (Some links) (Some links') (Some stubs) (Some stubs') room same one = λ any.
    let some : 0 < more + 1 = omega arith in
    let all = room some in
    let size = ap length one ∙ length-append stubs (stub ∷ []) in
    omega (arith, all, same, size)

-- more links were given, and no stub was given back
pub room-given : {S : Type 0} (jobs more : ℕ) (given given' : Option ℕ) (back back' : Option (List S)) → HasRoom jobs given back
    → CountsMore more given given' → Keeps back back' → HasRoom jobs given' back'
room-given jobs more given None back back' room counted same = tt
room-given jobs more None (Some links') back back' room counted same = absurd counted
room-given jobs more (Some links) (Some links') back None room counted same = tt
room-given jobs more (Some links) (Some links') None (Some stubs') room counted same = absurd same
room-given jobs more (Some links) (Some links') (Some stubs) (Some stubs') room counted same = λ any.
    let all = room any in let size = ap length same in omega (arith, all, counted, size)

-- a link was given, for which a job was started
pub room-more : {S : Type 0} (jobs : ℕ) (given given' : Option ℕ) (back back' : Option (List S)) → HasRoom jobs given back
    → NoMoreBack given back → CountsMore 1 given given' → Keeps back back' → HasRoom (jobs + 1) given' back'
room-more jobs given None back back' room within counted same = tt
room-more jobs None (Some links') back back' room within counted same = absurd counted
room-more jobs (Some links) (Some links') back None room within counted same = tt
room-more jobs (Some links) (Some links') None (Some stubs') room within counted same = absurd same
room-more zero (Some links) (Some links') (Some stubs) (Some stubs') room within counted same = λ any.
    let size = ap length same in omega (arith, within, counted, size)
room-more (suc jobs) (Some links) (Some links') (Some stubs) (Some stubs') room within counted same = λ any.
    let some : 0 < suc jobs = omega arith in
    let all = room some in
    let size = ap length same in
    omega (arith, all, counted, size)

-- jobs that were refused

-- none
pub refused-none : (count : ℕ) → AreRefused 0 count count
refused-none count = inl (omega arith)

-- none more
pub refused-same : (refused first before now : ℕ) → now ≡ before → AreRefused refused first before → AreRefused refused first now
refused-same refused first before now same is = rw same is

low-or-high : (n m : ℕ) (less : Bool) → nat_lt n m ≡ less → (n + 1 ≤ m) ⊎ (m ≤ n)
low-or-high n m true is = let low : n < m = grind (arith, nat_tests) in inl (omega (arith, low))
low-or-high n m false is = let high : m ≤ n = grind (arith, nat_tests) in inr high

-- one more
pub refused-more : (refused first before now : ℕ) → before ≤ now → Rose before now → AreRefused refused first before
    → AreRefused (refused + 1) first now
refused-more refused first before now later rose (inr many) = inr (omega (arith, later, many))
refused-more refused first before now later rose (inl few) =
    rises (low-or-high before (2 ^ 64 - 1) (nat_lt before (2 ^ 64 - 1)) refl)
  where
    rises : (before + 1 ≤ 2 ^ 64 - 1) ⊎ (2 ^ 64 - 1 ≤ before) → AreRefused (refused + 1) first now
    rises (inl low) = inl (omega (arith, rose, low, few))
    rises (inr high) = inr (omega (arith, rose, high, later))

-- a number that grew further is counted further
pub counts-grow : (m n : ℕ) (a b c : Option ℕ) → CountsMore m a b → GrowsBy m n b c → CountsMore n a c
counts-grow m n a b c first next =
    subst (λ k. CountsMore k a c) (sym next.is) (counts-trans m next.more a b c first next.counted)

-- a count that rose has risen when it goes on
pub rose-later : (a b c : ℕ) → Rose a b → b ≤ c → Rose a c
rose-later a b c rose later = omega (arith, rose, later)

-- and from any earlier number
pub rose-earlier : (a b c : ℕ) → a ≤ b → Rose b c → Rose a c
rose-earlier a b c later rose = omega (arith, later, rose)

-- a fault that was met before or now raised the count
pub failed-rose : (failed was : Bool) (a b c : ℕ) → a ≤ b → b ≤ c → (IsTrue was → Rose a b)
    → (IsTrue failed → IsTrue was ⊎ Rose b c) → IsTrue failed → Rose a c
failed-rose failed was a b c start later before now is = by (now is)
  where
    by : IsTrue was ⊎ Rose b c → Rose a c
    by (inl old) = rose-later a b c (before old) later
    by (inr new) = rose-earlier a b c start new
