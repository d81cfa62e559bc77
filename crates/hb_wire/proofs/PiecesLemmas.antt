-- A text that is made piece by piece.
use Rattle.std.proofs.Common.{◌≡◌, ◌∙◌, ℕ, List, ◌++◌, append_assoc, if◌then◌else◌}
use Rattle.std.specs.Prelude.{Result, Ok, Err, OnOk, is_ok}

-- a text that is changed only if the call succeeds
pub on_ok : {T E : Type 0} (r : Result T E) (text done kept wanted : List ℕ)
    → text ≡ (if is_ok r then done else kept) → done ≡ wanted → OnOk r (text ≡ wanted)
on_ok (Ok x) text done kept wanted is same = is ∙ same
on_ok (Err e) text done kept wanted is same = tt

-- three pieces behind a text
pub three-pieces : (old one two a b c : List ℕ) → one ≡ old ++ a → two ≡ one ++ b → two ++ c ≡ old ++ (a ++ (b ++ c))
three-pieces old one two a b c first second = rw (second, first) (simp append_assoc)
