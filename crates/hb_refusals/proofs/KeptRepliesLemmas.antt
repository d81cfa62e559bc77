-- What is kept once one more entry has been answered?
use Rattle.std.proofs.Common.{◌≡◌, ℕ, ◌+◌, Bool, true, false, List, refl, ap, sym, ◌∙◌, arith, subst, Some, None}
use Rattle.std.specs.Prelude.{◌&&◌, ◌==◌, bytes_eq, is_none, if◌then◌else◌, Result, Ok, Err, IsOk, OnOk}
use Rattle.std.specs.Option.{option_or}
use Rattle.std.proofs.Math.Bool.{and-false, and-true}
use Rattle.std.proofs.lemmas.Bool.{and_parts}
use Rattle.hb_club.proofs.TableLoadsLemmas.{same-name}
use Rattle.hb_refusals.specs.declared.kept_replies.KeptReplies.{KeptReplies}
use Rattle.hb_refusals.specs.declared.kept_replies.KeptReply.{KeptReply}
use Rattle.hb_refusals.specs.KeptReplies.{KeepsFirst, count_at, is_first, is_keepable, kept_at}
use Rattle.hb_refusals.proofs.OptionLemmas.{none-same, option_or-none, option_or-some}

-- what holds if a call succeeds holds once it has
pub on_ok : {T E P : Type 0} (r : Result T E) → IsOk r → OnOk r P → P
on_ok (Ok x) ok p = p
on_ok (Err e) ok p = cc

same-number : (a b : ℕ) → (a == b) ≡ true → a ≡ b
same-number a b h = grind arith

-- at the number that is put, nothing was kept
pub kept_at-first : (old : KeptReplies) (member : List ℕ) (number : ℕ) (k : KeptReply) (m : List ℕ) (n : ℕ)
    → is_first old member number k ≡ true
    → (if bytes_eq member m && number == n then Some k else kept_at old m n)
    ≡ option_or (kept_at old m n) (if bytes_eq member m && number == n && is_keepable k then Some k else None)
kept_at-first old member number k m n first = by (bytes_eq member m && number == n) refl
  where
    parts : (is_keepable k ≡ true) × (is_none (kept_at old member number) ≡ true)
    parts = and_parts _ _ first

    by : (here : Bool) → (bytes_eq member m && number == n) ≡ here
        → (if here then Some k else kept_at old m n)
        ≡ option_or (kept_at old m n) (if here && is_keepable k then Some k else None)
    by false elsewhere = sym (option_or-none (kept_at old m n))
    by true here =
        let same : (bytes_eq member m ≡ true) × ((number == n) ≡ true) = and_parts _ _ here in
        let free : kept_at old m n ≡ None =
        subst (λ (o : List ℕ). kept_at old o n ≡ None) (same-name member m same.0)
        (subst (λ (i : ℕ). kept_at old member i ≡ None) (same-number number n same.1)
        (none-same (kept_at old member number) parts.1)) in
        rw (free, parts.0) refl

-- if it is not the first to be kept, nothing changes
pub kept_at-later : (old : KeptReplies) (member : List ℕ) (number : ℕ) (k : KeptReply) (m : List ℕ) (n : ℕ)
    → is_first old member number k ≡ false
    → kept_at old m n
    ≡ option_or (kept_at old m n) (if bytes_eq member m && number == n && is_keepable k then Some k else None)
kept_at-later old member number k m n later = by (is_keepable k) refl (bytes_eq member m && number == n) refl
  where
    by : (keeps : Bool) → is_keepable k ≡ keeps → (here : Bool) → (bytes_eq member m && number == n) ≡ here
        → kept_at old m n ≡ option_or (kept_at old m n) (if here && keeps then Some k else None)
    by keeps is false elsewhere = sym (option_or-none (kept_at old m n))
    by false is true here = sym (option_or-none (kept_at old m n))
    by true is true here =
        let same : (bytes_eq member m ≡ true) × ((number == n) ≡ true) = and_parts _ _ here in
        let some : is_none (kept_at old member number) ≡ false = rw is at later in
        let some-here : is_none (kept_at old m n) ≡ false =
        subst (λ (o : List ℕ). is_none (kept_at old o n) ≡ false) (same-name member m same.0)
        (subst (λ (i : ℕ). is_none (kept_at old member i) ≡ false) (same-number number n same.1) some) in
        sym (option_or-some (kept_at old m n) (Some k) some-here)

-- whether it is the first to be kept is the same for the member by any equal name
pub is_first-same : (old : KeptReplies) (member m : List ℕ) (number : ℕ) (k : KeptReply)
    → (bytes_eq member m && is_first old m number k) ≡ (bytes_eq member m && is_first old member number k)
is_first-same old member m number k = by (bytes_eq member m) refl
  where
    by : (same : Bool) → bytes_eq member m ≡ same → (same && is_first old m number k) ≡ (same && is_first old member number k)
    by false other = refl
    by true same = ap (λ (o : List ℕ). is_first old o number k) (sym (same-name member m same))

nothing-more : (n : ℕ) → n + 0 ≡ n
nothing-more n = omega arith

-- what is put where nothing was kept is kept too
pub kept-first : (member : List ℕ) (number : ℕ) (k : KeptReply) (old new : KeptReplies) → is_first old member number k ≡ true
    → ((m : List ℕ) (n : ℕ) → kept_at new m n ≡ (if bytes_eq member m && number == n then Some k else kept_at old m n))
    → ((m : List ℕ) → count_at new m ≡ count_at old m + (if bytes_eq member m then 1 else 0))
    → KeepsFirst member number k old new
kept-first member number k old new first replies counts = record {
  replies = λ m n. replies m n ∙ kept_at-first old member number k m n first;
  counts = λ m. counts m ∙ ap (λ (b : Bool). count_at old m + (if b then 1 else 0))
      (sym (is_first-same old member m number k ∙ rw first (and-true (bytes_eq member m))));
}

-- and nothing else is kept where something was, or where it is not to be kept
pub kept-later : (member : List ℕ) (number : ℕ) (k : KeptReply) (old : KeptReplies) → is_first old member number k ≡ false
    → KeepsFirst member number k old old
kept-later member number k old later = record {
  replies = λ m n. kept_at-later old member number k m n later;
  counts = λ m. sym (ap (λ (b : Bool). count_at old m + (if b then 1 else 0)) (never m) ∙ nothing-more (count_at old m));
} where
  never : (m : List ℕ) → (bytes_eq member m && is_first old m number k) ≡ false
  never m = is_first-same old member m number k ∙ rw later (and-false (bytes_eq member m))
