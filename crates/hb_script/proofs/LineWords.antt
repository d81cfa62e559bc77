-- What the fields of a line are.
use Rattle.std.proofs.Common.{◌≡◌, ◌≢◌, ℕ, ◌+◌, ◌-◌, ◌≤◌, ◌==◌, Bool, true, false, List, [], ◌∷◌, suc, add-one, arith, length-drop, refl, sym, ap, ◌∙◌, length, drop, take, IsUtf8, bytes_eq, codes, option_map}
use Rattle.std.specs.declared.option.Option.{Option}
use Rattle.std.specs.declared.option.Option.TheVariants.{Some, None}
use Rattle.std.proofs.lemmas.Grind.{common_steps}
use Rattle.std.proofs.lemmas.Bool.{true≢false}
use Rattle.std.proofs.Math.Seq.{take-length}
use Rattle.std.proofs.lemmas.Str.{IsUtf8-from_is_utf8, is_utf8-from_IsUtf8}
use Rattle.std.specs.Str.{is_utf8}
use Rattle.hb_io.specs.declared.got.Got.{Got}
use Rattle.hb_io.specs.declared.got.Got.TheVariants as got
use Rattle.hb_talk.specs.declared.scripts.ScriptLine.TheVariants as line
use Rattle.hb_timer.specs.declared.timing.TheConstants.{MOMENT_LIMIT}
use Rattle.hb_script.specs.ScriptLines.{at_space, conn_of, got_of, line_at, line_of, moment_of, number_of, said_by, said_in, within}
use Rattle.hb_script.specs.ScriptReading.{place_of}
use Rattle.hb_script.proofs.BytePlaces.{space-cut, space-none}

-- a number within bounds is at most the upper one
pub within-most : (least most n : ℕ) (o : Option ℕ) → Some n ≡ within least most o → n ≤ most
within-most least most n None e = cc
within-most least most n (Some k) e = grind (arith, common_steps, e)

conn-none : (n : Option ℕ) → None ≡ within 0 256 n → within 1 256 n ≡ None
conn-none None e = refl
conn-none (Some k) e = grind (arith, common_steps, e)

conn-zero : (n : Option ℕ) (k : ℕ) → Some k ≡ within 0 256 n → k ≡ 0 → within 1 256 n ≡ None
conn-zero None k e z = refl
conn-zero (Some m) k e z = grind (arith, common_steps, e, z)

conn-some : (n : Option ℕ) (k : ℕ) → Some k ≡ within 0 256 n → k ≢ 0 → within 1 256 n ≡ Some k
conn-some None k e z = sym e
conn-some (Some m) k e z = grind (arith, common_steps, e, z)

-- a line with no space behind its moment says nothing of a connection
pub said-no_space : (moment at : ℕ) (rest : List ℕ) → at ≡ place_of 32 rest → at ≡ length rest → None ≡ said_in moment (at_space rest)
said-no_space moment at rest p q = let e = space-none rest (omega (arith, p, q)) in rw e refl

said-at : (moment at : ℕ) (rest : List ℕ) → at ≡ place_of 32 rest → at ≢ length rest → at ≤ length rest
    → said_in moment (at_space rest) ≡ said_by moment (conn_of (take at rest)) (drop (suc at) rest)
said-at moment at rest p q w = let e = space-cut rest (omega (arith, p, q, w)) in rw (e, p) refl

-- a line whose word for the connection is no number up to the highest connection says nothing
pub said-no_number : (moment at : ℕ) (rest : List ℕ) → at ≡ place_of 32 rest → at ≢ length rest → at ≤ length rest
    → None ≡ within 0 256 (number_of (take at rest)) → None ≡ said_in moment (at_space rest)
said-no_number moment at rest p q w n = let e = said-at moment at rest p q w in let c = conn-none (number_of (take at rest)) n in
    rw (e, c) refl

-- a line of connection 0 says nothing, as connections are numbered from 1
pub said-zero : (moment at k : ℕ) (rest : List ℕ) → at ≡ place_of 32 rest → at ≢ length rest → at ≤ length rest
    → Some k ≡ within 0 256 (number_of (take at rest)) → k ≡ 0 → None ≡ said_in moment (at_space rest)
said-zero moment at k rest p q w n z = let e = said-at moment at rest p q w in let c = conn-zero (number_of (take at rest)) k n z in
    rw (e, c) refl

-- a line of a moment, a connection other than 0 and a message says what that connection gives then
pub said-got : (moment at k : ℕ) (rest : List ℕ) (given : Option Got) → at ≡ place_of 32 rest → at ≢ length rest → at ≤ length rest
    → Some k ≡ within 0 256 (number_of (take at rest)) → k ≢ 0
    → given ≡ got_of (drop (suc at) rest) → option_map (line.Says moment k) given ≡ said_in moment (at_space rest)
said-got moment at k rest given p q w n z g = let e = said-at moment at rest p q w in
    let c = conn-some (number_of (take at rest)) k n z in rw (e, c) (ap (option_map (line.Says moment k)) g)

-- a line without a space is outside the grammar
pub line-no_space : (at : ℕ) (text : List ℕ) → at ≡ place_of 32 text → at ≡ length text → None ≡ line_of text
unfolding line_of
line-no_space at text p q = let e = space-none text (omega (arith, p, q)) in rw e refl

-- a line with a space is read as the moment before the first space and the rest behind it
pub line-on : (at : ℕ) (text : List ℕ) → at ≡ place_of 32 text → at ≢ length text → at ≤ length text
    → line_of text ≡ line_at (moment_of (take at text)) (drop (suc at) text)
unfolding line_of
line-on at text p q w = let e = space-cut text (omega (arith, p, q, w)) in rw (e, p) refl

-- a line whose first word is no number up to the highest moment is outside the grammar
pub line-no_number : (at : ℕ) (text : List ℕ) → at ≡ place_of 32 text → at ≢ length text → at ≤ length text
    → None ≡ within 0 MOMENT_LIMIT (number_of (take at text)) → None ≡ line_of text
line-no_number at text p q w n = let e = line-on at text p q w in let m : moment_of (take at text) ≡ None = sym n in rw (e, m) refl

-- a moment followed by the word clerk is a line of the clerk at that moment
pub line-clerk : (at k : ℕ) (text : List ℕ) → at ≡ place_of 32 text → at ≢ length text → at ≤ length text
    → Some k ≡ within 0 MOMENT_LIMIT (number_of (take at text)) → bytes_eq (drop (suc at) text) (codes "clerk") ≡ true
    → Some (line.Clerk k) ≡ line_of text
line-clerk at k text p q w n b = let e = line-on at text p q w in let m : moment_of (take at text) ≡ Some k = sym n in rw (e, m, b) refl

-- a moment followed by anything but the word clerk is read as a connection and its message
pub line-said : (at k : ℕ) (text : List ℕ) → at ≡ place_of 32 text → at ≢ length text → at ≤ length text
    → Some k ≡ within 0 MOMENT_LIMIT (number_of (take at text)) → bytes_eq (drop (suc at) text) (codes "clerk") ≡ false
    → said_in k (at_space (drop (suc at) text)) ≡ line_of text
line-said at k text p q w n b = let e = line-on at text p q w in let m : moment_of (take at text) ≡ Some k = sym n in rw (e, m, b) refl

-- an empty message gives nothing that a line may hold
pub got-none : (m : List ℕ) → m ≡ [] → None ≡ got_of m
got-none m e = rw e refl

-- a message that is not empty, not a tilde and valid text is given as that text
pub got-text : (m t : List ℕ) → false ≡ (length m == 0) → bytes_eq m (codes "~") ≡ false → IsUtf8 m → t ≡ m → Some (got.Text t) ≡ got_of m
got-text [] t low b u e = absurd (true≢false (sym low))
got-text (x ∷ m) t low b u e = let v = is_utf8-from_IsUtf8 (x ∷ m) u in rw (b, v) (ap (λ (l : List ℕ). Some (got.Text l)) e)

-- a message that is neither a tilde nor valid text gives nothing that a line may hold
pub got-bad : (m : List ℕ) → bytes_eq m (codes "~") ≡ false → ¬ (IsUtf8 m) → None ≡ got_of m
got-bad [] b u = refl
got-bad (x ∷ m) b u = bad_by (is_utf8 (x ∷ m)) refl
  where
    bad_by : (is : Bool) → is_utf8 (x ∷ m) ≡ is → None ≡ got_of (x ∷ m)
    bad_by true e = absurd (u (IsUtf8-from_is_utf8 (x ∷ m) e))
    bad_by false e = rw (b, e) refl

-- what stands behind a place, as the rest of a slice
pub rest-is : (at : ℕ) (text : List ℕ) → take (length text - (at + 1)) (drop (at + 1) text) ≡ drop (suc at) text
rest-is at text = rw add-one (ap (λ (n : ℕ). take n (drop (suc at) text)) (sym (length-drop (suc at) text))
    ∙ take-length (drop (suc at) text))
