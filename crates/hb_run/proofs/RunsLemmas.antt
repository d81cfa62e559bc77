-- How do lines come behind lines, and how do they stop behind them?
use Rattle.std.proofs.Common.{◌≡◌, ◌<◌, ◌≤◌, ℕ, suc, Bool, true, false, IsTrue, List, [], ◌∷◌, ◌++◌, refl, sym, ap, subst, ◌∙◌, append_assoc, append-nil, arith, length, take, inl, inr, Some}
use Rattle.std.proofs.lemmas.Option.{get_or_from_slice_get, slice_get_within}
use Rattle.std.proofs.Math.Seq.{take-length, take-suc}
use Rattle.std.proofs.KnownBytes.{Appends-nil, Appends-trans}
use Rattle.std.specs.Io.KnownBytes.{Appends}
use Rattle.std.specs.Prelude.{◌⊎◌, Option, slice_get}
use Rattle.hb_io.specs.Causes.{Rose}
use Rattle.hb_club.specs.Fronts.{House}
use Rattle.hb_talk.specs.declared.scripts.ScriptLine.{ScriptLine}
use Rattle.hb_run.specs.declared.ends.RunEnd.{RunEnd}
use Rattle.hb_run.specs.declared.ends.RunEnd.TheVariants.{NoMemory}
use Rattle.hb_run.specs.RunLines.{LineRuns, RunState}
use Rattle.hb_run.specs.RunSteps.{RunsLine, StopsLine}
use Rattle.hb_run.specs.ScriptRuns.{HaltsBy, Runs, RunsAll, RunsSome}
use Rattle.hb_run.specs.WrittenFronts.{AppendsFront}
use Rattle.hb_run.proofs.SentLemmas.{front-behind}

-- other lines behind lines
pub runs-join : (h : House) (count : ℕ) (alone : Bool) (lines others : List ScriptLine) (s t u : RunState) (text more : List ℕ)
    → Runs h count alone lines s t text → Runs h count alone others t u more → Runs h count alone (lines ++ others) s u (text ++ more)
runs-join h count alone [] others s t u text more first next =
    subst (λ (l : List ℕ). Runs h count alone others s u (l ++ more)) (sym first.1)
    (subst (λ (k : RunState). Runs h count alone others k u more) first.0 next)
runs-join h count alone (l ∷ lines) others s t u text more first next = record {
  between = first.between;
  first = first.first;
  line = first.line;
  rest = first.rest ++ more;
  others = runs-join h count alone lines others first.between t u first.rest more first.others next;
  joined = ap (λ (x : List ℕ). x ++ more) first.joined ∙ append_assoc first.first first.rest more;
}

-- one line
runs-one : (h : House) (count : ℕ) (alone : Bool) (l : ScriptLine) (s t : RunState) (text : List ℕ) → LineRuns h count alone l s t text
    → Runs h count alone (l ∷ []) s t text
runs-one h count alone l s t text ran =
    record { between = t; first = text; line = ran; rest = []; others = (refl, refl); joined = sym (append-nil text) }

-- one line more of a list
pub runs-more : (h : House) (count : ℕ) (alone : Bool) (lines : List ScriptLine) (i : ℕ) (l : ScriptLine) (s t u : RunState)
    (text more : List ℕ) → slice_get lines i ≡ Some l → Runs h count alone (take i lines) s t text → LineRuns h count alone l t u more
    → Runs h count alone (take (suc i) lines) s u (text ++ more)
runs-more h count alone lines i l s t u text more is first next =
    let here : take (suc i) lines ≡ take i lines ++ l ∷ [] =
    take-suc lines i l (slice_get_within lines i l is)
    ∙ ap (λ (x : ScriptLine). take i lines ++ x ∷ []) (get_or_from_slice_get lines i l l is) in
    subst (λ (x : List ScriptLine). Runs h count alone x s u (text ++ more)) (sym here)
    (runs-join h count alone (take i lines) (l ∷ []) s t u text more first (runs-one h count alone l t u more next))

-- the run with one line more
pub line-more : (Left Next : RunState → Type 0) (h : House) (count : ℕ) (alone : Bool) (lines : List ScriptLine) (i : ℕ)
    (l : ScriptLine) (begin : RunState) (b m a : Option (List ℕ)) → slice_get lines i ≡ Some l
    → (p : RunsAll Left h count alone (take i lines) begin b m) → RunsLine Next h count alone l p.state m a
    → RunsAll Next h count alone (take (suc i) lines) begin b a
line-more Left Next h count alone lines i l begin b m a is p w = record {
  state = w.state;
  text = p.text ++ w.text;
  runs = runs-more h count alone lines i l begin p.state w.state p.text w.text is p.runs w.runs;
  left = w.left;
  written = Appends-trans b m a p.text w.text p.written w.written;
}

-- the run that stops at a line
pub stops-more : (Left Next : RunState → Type 0) (h : House) (count : ℕ) (alone : Bool) (lines : List ScriptLine) (i : ℕ)
    (l : ScriptLine) (begin : RunState) (why : RunEnd) (b m a : Option (List ℕ)) → slice_get lines i ≡ Some l
    → (p : RunsAll Left h count alone (take i lines) begin b m) → StopsLine Next h count alone l p.state m a why
    → RunsSome Next h count alone lines begin b a why
stops-more Left Next h count alone lines i l begin why b m a is p (inl w) =
    let within : i < length lines = slice_get_within lines i l is in
    let low : i ≤ length lines = omega (arith, within) in
    record {
      done = i;
      within = low;
      state = p.state;
      text = p.text;
      runs = p.runs;
      rest = w.rest;
      left = w.left;
      ends = inl (record {
        halts = subst (λ (x : Option ScriptLine). HaltsBy h count alone why x p.state w.rest) (sym is) w.halts;
        written = subst (Appends b a) (append-nil p.text) (Appends-trans b m a p.text [] p.written w.written);
      });
    }
stops-more Left Next h count alone lines i l begin why b m a is p (inr w) =
    let within : i < length lines = slice_get_within lines i l is in
    let low : suc i ≤ length lines = omega (arith, within) in
    record {
      done = suc i;
      within = low;
      state = w.state;
      text = p.text ++ w.text;
      runs = runs-more h count alone lines i l begin p.state w.state p.text w.text is p.runs w.runs;
      rest = w.state;
      left = w.left;
      ends = inr (record {
        writing = w.writing;
        same = refl;
        written = subst (λ (x : List ℕ). AppendsFront b a (p.text ++ x)) (append-nil w.text)
            (front-behind b m a p.text w.text [] p.written w.written);
      });
    }

-- the run of all lines
pub whole : (Left : RunState → Type 0) (h : House) (count : ℕ) (alone : Bool) (lines : List ScriptLine) (i : ℕ) (begin : RunState)
    (b a : Option (List ℕ)) → i ≡ length lines → RunsAll Left h count alone (take i lines) begin b a
    → RunsAll Left h count alone lines begin b a
whole Left h count alone lines i begin b a is p =
    let same : take i lines ≡ lines = ap (λ n. take n lines) is ∙ take-length lines in
    subst (λ (l : List ScriptLine). RunsAll Left h count alone l begin b a) same p

-- no memory was there for a run
pub nothing-run : (Left : RunState → Type 0) (h : House) (count : ℕ) (alone : Bool) (lines : List ScriptLine) (begin : RunState)
    (b : Option (List ℕ)) → Left begin → RunsSome Left h count alone lines begin b b NoMemory
nothing-run Left h count alone lines begin b left = record {
  done = 0;
  within = omega arith;
  state = begin;
  text = [];
  runs = (refl, refl);
  rest = begin;
  left = left;
  ends = inr (record {
    writing = inr refl;
    same = refl;
    written = record { bytes = 0; within = omega arith; written = Appends-nil b };
  });
}

-- the same runs, if something else holds of what is left
pub left-all : (Left Next : RunState → Type 0) (h : House) (count : ℕ) (alone : Bool) (lines : List ScriptLine) (begin : RunState)
    (b a : Option (List ℕ)) → ((s : RunState) → Left s → Next s) → RunsAll Left h count alone lines begin b a
    → RunsAll Next h count alone lines begin b a
left-all Left Next h count alone lines begin b a go p =
    record { state = p.state; text = p.text; runs = p.runs; left = go p.state p.left; written = p.written }

-- the same first lines and the same stop, if something else holds of the state that is left
pub left-some : (Left Next : RunState → Type 0) (h : House) (count : ℕ) (alone : Bool) (lines : List ScriptLine) (begin : RunState)
    (b a : Option (List ℕ)) (why : RunEnd) → ((s : RunState) → Left s → Next s) → RunsSome Left h count alone lines begin b a why
    → RunsSome Next h count alone lines begin b a why
left-some Left Next h count alone lines begin b a why go p = record {
  done = p.done;
  within = p.within;
  state = p.state;
  text = p.text;
  runs = p.runs;
  rest = p.rest;
  left = go p.rest p.left;
  ends = p.ends;
}

-- counts of faults

-- the keeper met a fault in the lines before, or in the last one
pub fault-more : (X Y Z : Type 0) (a b c : ℕ) → (Y → X ⊎ Rose a b) → (Z → Y ⊎ Rose b c) → a ≤ b → b ≤ c → Z → X ⊎ Rose a c
fault-more X Y Z a b c first last ab bc z = by (last z)
  where
    later : X ⊎ Rose a b → X ⊎ Rose a c
    later (inl x) = inl x
    later (inr rose) = let r : Rose a b = rose in inr (omega (arith, r, bc))

    by : Y ⊎ Rose b c → X ⊎ Rose a c
    by (inl y) = later (first y)
    by (inr rose) = let r : Rose b c = rose in inr (omega (arith, r, ab))

-- it met one in the last lines, if it had met none before
pub only-then : (b : Bool) (X : Type 0) → b ≡ false → IsTrue b ⊎ X → X
only-then b X is (inl yes_b) = let both : true ≡ false = sym yes_b ∙ is in absurd cc
only-then b X is (inr x) = x
