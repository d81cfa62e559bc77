-- Lines that are read one by one.
use Rattle.std.proofs.Common.{◌≡◌, ℕ, ◌+◌, ◌-◌, ◌<◌, List, [], ◌∷◌, ◌++◌, suc, arith, refl, sym, ap, subst, ◌∙◌, append_assoc, append-nil, length, drop, take, length-drop, Result, Ok, Err}
use Rattle.std.proofs.Math.Seq.{take-length}
use Rattle.std.proofs.lemmas.List.{drop-drop}
use Rattle.std.specs.declared.option.Option.{Option}
use Rattle.std.specs.declared.option.Option.TheVariants.{Some, None}
use Rattle.hb_talk.specs.declared.scripts.ScriptLine.{ScriptLine}
use Rattle.hb_script.specs.ScriptGrammar.{read_lines, with_line}
use Rattle.hb_script.specs.ScriptLines.{line_of, lines_of}
use Rattle.hb_script.specs.ScriptReading.{feed_at, lines_behind}
use Rattle.hb_script.proofs.BytePlaces.{lines-cut}

lines_here : (rest : List ℕ) → 0 < length rest → lines_of rest ≡ take (feed_at rest) rest ∷ lines_of (drop (suc (feed_at rest)) rest)
lines_here [] low = absurd (omega (arith, low))
lines_here (b ∷ rest) low = lines-cut b rest

-- the first line of a text that is not empty
pub first-line : (number end : ℕ) (rest : List ℕ) → 0 < length rest → end ≡ feed_at rest
    → read_lines number (lines_of rest)
    ≡ with_line number (line_of (take end rest)) (read_lines (number + 1) (lines_of (drop (suc end) rest)))
first-line number end rest low e = let cut = lines_here rest low in rw (cut, e) refl

behind_one : (before : List ScriptLine) (said : ScriptLine) (number : ℕ) (r : Result (List ScriptLine) ℕ)
    → lines_behind before (with_line number (Some said) r) ≡ lines_behind (before ++ said ∷ []) r
behind_one before said number (Ok lines) = ap (λ (l : List ScriptLine). (let r : Result (List ScriptLine) ℕ = Ok l in
    r)) (sym (append_assoc before (said ∷ []) lines))
behind_one before said number (Err bad) = refl

-- if the next line says something, that is added to what was read, and reading goes on behind the line
pub line-more : (first number end : ℕ) (bytes rest : List ℕ) (before : List ScriptLine) (said : ScriptLine) → 0 < length rest
    → end ≡ feed_at rest
    → read_lines first (lines_of bytes) ≡ lines_behind before (read_lines number (lines_of rest)) → Some said ≡ line_of (take end rest)
    → read_lines first (lines_of bytes) ≡ lines_behind (before ++ said ∷ []) (read_lines (number + 1) (lines_of (drop (suc end) rest)))
line-more first number end bytes rest before said low e so is =
    so ∙ ap (lines_behind before) (first-line number end rest low e
    ∙ ap (λ (l : Option ScriptLine). with_line number l (read_lines (number + 1) (lines_of (drop (suc end) rest)))) (sym is))
    ∙ behind_one before said number (read_lines (number + 1) (lines_of (drop (suc end) rest)))

-- if the next line is outside the grammar, the reading of all lines fails with the number of that line
pub line-bad : (first number end : ℕ) (bytes rest : List ℕ) (before : List ScriptLine) → 0 < length rest → end ≡ feed_at rest
    → read_lines first (lines_of bytes) ≡ lines_behind before (read_lines number (lines_of rest)) → None ≡ line_of (take end rest)
    → read_lines first (lines_of bytes) ≡ Err number
line-bad first number end bytes rest before low e so is =
    so ∙ ap (lines_behind before) (first-line number end rest low e
    ∙ ap (λ (l : Option ScriptLine). with_line number l (read_lines (number + 1) (lines_of (drop (suc end) rest)))) (sym is))

-- when no bytes are left, the lines read so far are all lines of the text
pub lines-end : (first number : ℕ) (bytes : List ℕ) (before : List ScriptLine)
    → read_lines first (lines_of bytes) ≡ lines_behind before (read_lines number (lines_of []))
    → read_lines first (lines_of bytes) ≡ Ok before
lines-end first number bytes before so = so ∙ ap (λ (l : List ScriptLine). (let r : Result (List ScriptLine) ℕ = Ok l in
    r)) (append-nil before)

-- what stands from a place on, as a slice
pub tail-is : (at : ℕ) (bytes : List ℕ) → take (length bytes - at) (drop at bytes) ≡ drop at bytes
tail-is at bytes = ap (λ (n : ℕ). take n (drop at bytes)) (sym (length-drop at bytes)) ∙ take-length (drop at bytes)

-- from a place within the bytes on, there is at least one byte
pub tail-low : (at : ℕ) (bytes : List ℕ) → at < length bytes → 0 < length (drop at bytes)
tail-low at bytes low = let d = length-drop at bytes in omega (arith, d, low)

-- what holds behind a line of the tail holds behind the same place counted from the start of all bytes
pub tail_after : (at end : ℕ) (bytes : List ℕ) (P : List ℕ → Type 0) → P (drop (suc end) (drop at bytes)) → P (drop (at + (end + 1)) bytes)
tail_after at end bytes P p = let same : at + (end + 1) ≡ at + suc end = omega arith in
    subst (λ (n : ℕ). P (drop n bytes)) (sym same) (subst P (drop-drop (suc end) at bytes) p)
