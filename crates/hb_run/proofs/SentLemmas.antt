-- What is a connection sent with one text more, and what is a front of texts behind others?
use Rattle.std.proofs.Common.{◌≡◌, ℕ, suc, ◌+◌, ◌<◌, ◌≤◌, List, [], ◌∷◌, ◌++◌, refl, sym, ap, subst, ◌∙◌, append_assoc, append-nil, length, take, get_or, arith, length-append}
use Rattle.std.specs.Prelude.{Option, codes, decimal}
use Rattle.std.proofs.lemmas.List.{take-append-le}
use Rattle.std.proofs.Math.Seq.{take-append-add, take-suc}
use Rattle.std.proofs.KnownBytes.{Appends-trans}
use Rattle.std.specs.Io.KnownBytes.{Appends}
use Rattle.hb_talk.specs.Scripts.{sent}
use Rattle.hb_run.specs.WrittenFronts.{AppendsFront}

-- the line of one text, in pieces
abbrev sent_line : ℕ → List ℕ → List ℕ
sent_line conn text = decimal conn ++ (codes " " ++ (text ++ codes "\n"))

four-are : (a b c d : List ℕ) → a ++ b ++ c ++ d ≡ a ++ (b ++ (c ++ d))
four-are a b c d = append_assoc (a ++ b) c d ∙ append_assoc a b (c ++ d)

sent-cons : (conn : ℕ) (x : List ℕ) (xs : List (List ℕ)) → sent conn (x ∷ xs) ≡ sent_line conn x ++ sent conn xs
sent-cons conn x xs = ap (λ (l : List ℕ). l ++ sent conn xs) (four-are (decimal conn) (codes " ") x (codes "\n"))

sent-append : (conn : ℕ) (xs ys : List (List ℕ)) → sent conn (xs ++ ys) ≡ sent conn xs ++ sent conn ys
sent-append conn [] ys = refl
sent-append conn (x ∷ xs) ys = sent-cons conn x (xs ++ ys) ∙ ap (λ l. sent_line conn x ++ l) (sent-append conn xs ys)
    ∙ sym (append_assoc (sent_line conn x) (sent conn xs) (sent conn ys)) ∙ ap (λ l. l ++ sent conn ys) (sym (sent-cons conn x xs))

-- one text more
pub sent-suc : (conn i : ℕ) (texts : List (List ℕ)) (d : List ℕ) → i < length texts
    → sent conn (take (suc i) texts) ≡ sent conn (take i texts) ++ (decimal conn ++ (codes " " ++ (get_or texts i d ++ codes "\n")))
sent-suc conn i texts d within =
    ap (sent conn) (take-suc texts i d within) ∙ sent-append conn (take i texts) (get_or texts i d ∷ [])
    ∙ ap (λ l. sent conn (take i texts) ++ l) (sent-cons conn (get_or texts i d) [] ∙ append-nil (sent_line conn (get_or texts i d)))

-- a front of what comes behind a written front
pub front-behind : (a b c : Option (List ℕ)) (first next rest : List ℕ) → Appends a b first → AppendsFront b c next
    → AppendsFront a c (first ++ (next ++ rest))
front-behind a b c first next rest p q =
    let fits = q.within in
    let within : length first + q.bytes ≤ length (first ++ (next ++ rest)) = grind (arith, length-append, fits) in
    let same : take (length first + q.bytes) (first ++ (next ++ rest)) ≡ first ++ take q.bytes next =
    take-append-add first (next ++ rest) q.bytes ∙ ap (λ l. first ++ l) (take-append-le q.bytes next rest q.within) in
    record {
      bytes = length first + q.bytes;
      within = within;
      written = subst (Appends a c) (sym same)
          (Appends-trans a b c _ _ p q.written);
    }
