-- What does the parser make of words?
use Rattle.std.proofs.Common.{◌≡◌, ◌∙◌, ◌++◌, Bool, cond, true, false, refl, sym, ap, ap₂, subst, List, [], ◌∷◌}
use Rattle.std.proofs.Common.{Option, Some, None, inl, inr, codes, append-nil, append_assoc, is_some}
use Rattle.std.specs.List.{fold, find}
use Rattle.std.specs.Str.{bytes_eq}
use Rattle.std.proofs.lemmas.Bool.{cases_Bool}
use Rattle.std.proofs.lemmas.Slice.Eq.{bytes_eq-Decides}
use Rattle.std.specs.Prelude.{slice_get, ⊤, option_map}
use Rattle.std.specs.Option.{option_map_or}
use Rattle.clap.specs.Words.{App, Row, Shape, Text, fault_of, subcommand_of, first_of}
use Rattle.clap.specs.Walk.{Held, Names, Walk, idle, walk, walked, subcommand_met, nothing_held, finished, settled, answers_to}
use Rattle.clap.specs.Simple.{rows_at as named_rows, built, names_of, label_of, entered}
use Rattle.clap.specs.Kinds.{Kinds, or_else}
use Rattle.clap.specs.Faults.{walk_fault, turn_fault, settle_fault, defaults_fault, check_fault, entered_fault}
use Rattle.clap.specs.declared.error.kind.ErrorKind.TheVariants.{UnknownArgument, InvalidSubcommand}
use Rattle.clap.proofs.OnLiterals.{clap_on_literals}
use Rattle.hb_words.specs.Interface.{all_commands, bare, with_one, with_two, first_id, second_id}
use Rattle.hb_words.specs.PlainWords.{IsPlain}
use Rattle.hb_words.proofs.ParserWords.{at, fault_step}
use Rattle.hb_words.proofs.ParserValues.{leaf, fault_at, rows_at, some_fault}
use Rattle.hb_words.proofs.ParserValues.{none_taken, none_first, none_second, none_refused}
use Rattle.hb_words.proofs.ParserValues.{one_missing, one_taken, one_first, one_second, one_more}
use Rattle.hb_words.proofs.ParserValues.{two_missing, two_lacking, both_taken, both_first, both_second, both_more}

-- ---- the word of a command

abbrev whole : App
whole = built all_commands

abbrev names : Names
names = names_of whole

abbrev stopped_at : Text → List Text → Walk
stopped_at name words = record (at nothing_held 1) { stopped = Some (name, words) }

stopped : (name : Text) (front rest : List Text)
    → fold (walked whole.top.rules names) (stopped_at name front) rest ≡ stopped_at name (front ++ rest)
unfolding walked
stopped name front [] = ap (stopped_at name) (sym (append-nil front))
stopped name front (x ∷ rest) = stopped name (front ++ x ∷ []) rest ∙ ap (stopped_at name) (append_assoc front (x ∷ []) rest)

stopped_fault : (name : Text) (front rest : List Text) → walk_fault whole.top names (stopped_at name front) rest ≡ []
unfolding walk_fault walked
stopped_fault name front [] = refl
stopped_fault name front (x ∷ rest) = stopped_fault name (front ++ x ∷ []) rest

abbrev top_end : List Text → Walk
top_end words = walk whole.top.rules names nothing_held words

abbrev top_faults : List Text → Kinds
top_faults words = walk_fault whole.top names (at nothing_held 1) words

-- what the top comes to, by the faults on the way, the command that is entered and what is held
abbrev top_at : Kinds → Kinds → Held → Bool → Kinds
top_at faults below held is_entered =
    or_else faults (or_else below (or_else (settle_fault whole.top.rules whole.top.args_override_self held)
    (or_else (defaults_fault (settled whole.top.rules held).rows whole.top.rules)
    (check_fault whole.top (finished whole.top.rules held) is_entered))))

abbrev of_end : Kinds → Walk → Kinds
of_end faults end = top_at faults (entered_fault whole end.stopped) end.held (is_some (entered whole end.stopped))

by_top : (words : List Text) → fault_of all_commands words ≡ of_end (top_faults words) (top_end words)
by_top words = refl

or_else_none : (k : Kinds) → or_else k [] ≡ k
or_else_none [] = refl
or_else_none (k ∷ ks) = refl

module _ (name : Text) (s : Shape) (first : walked whole.top.rules names (at nothing_held 1) name ≡ stopped_at name [])
    (turn : turn_fault whole.top names (at nothing_held 1) name ≡ [])
    (found : find (λ c. answers_to name (label_of c)) whole.subs ≡ Some s) (rest : List Text) where
  end_is : top_end (name ∷ rest) ≡ stopped_at name rest
  end_is = ap (λ w. fold (walked whole.top.rules names) w rest) first ∙ stopped name [] rest

  faults_are : top_faults (name ∷ rest) ≡ []
  unfolding walk_fault
  faults_are = ap₂ (λ k w. or_else k (walk_fault whole.top names w rest)) turn first ∙ stopped_fault name [] rest

  abbrev entering : Option Shape → Kinds
  entering o = top_at [] (option_map_or (λ c. fault_at c rest) o []) nothing_held (is_some (option_map (λ c. named_rows c rest) o))

  entered_is : entering (Some s) ≡ fault_at s rest
  unfolding clap_on_literals
  entered_is = or_else_none (fault_at s rest)

  enters : fault_of all_commands (name ∷ rest) ≡ fault_at s rest
  enters = ap₂ of_end faults_are end_is ∙ ap entering found ∙ entered_is

  enters_rows : subcommand_of all_commands (name ∷ rest) ≡ Some (s.name, rows_at s rest)
  enters_rows = ap (λ (w : Walk). entered whole w.stopped) end_is ∙ ap (option_map (λ c. named_rows c rest)) found

no_word : fault_of all_commands [] ≡ [] → ⊥
unfolding clap_on_literals
no_word e = some_fault _ [] e

unknown : (w : Text) (rest : List Text) → subcommand_met names idle w ≡ None → IsPlain w → fault_of all_commands (w ∷ rest) ≡ [] → ⊥
unknown w rest none plain e =
    let faults = fault_step names w none plain whole.top 1 nothing_held rest in
    some_fault UnknownArgument (InvalidSubcommand ∷ []) (sym (ap (λ k. of_end k (top_end (w ∷ rest))) faults) ∙ e)

-- ---- all words

abbrev no_values : List Text → Bool
no_values [] = true
no_values (a ∷ rest) = false

abbrev one_value : List Text → Bool
one_value [] = false
one_value (a ∷ rest) = no_values rest

abbrev two_values : List Text → Bool
two_values [] = false
two_values (a ∷ rest) = one_value rest

-- the words are those of a command, as far as their number goes
abbrev pub has_form : List Text → Bool
has_form [] = false
has_form (w ∷ rest) =
    cond (bytes_eq (codes "watch") w) (one_value rest) (cond (bytes_eq (codes "look") w) (two_values rest)
    (cond (bytes_eq (codes "check") w) (no_values rest) (cond (bytes_eq (codes "copy") w) (no_values rest)
    (cond (bytes_eq (codes "script") w) (one_value rest) (cond (bytes_eq (codes "games") w) (two_values rest)
    (cond (bytes_eq (codes "make") w) (two_values rest) false))))))

-- no word begins with a dash
abbrev pub AllPlain : List Text → Type 0
AllPlain [] = ⊤
AllPlain (w ∷ rest) = IsPlain w × AllPlain rest

-- what the parser does with words, none of which has a hyphen in front
pub data Verdict (words : List Text) : Type 0 where
  taken : (name : Text) → (values : List Text) → (rows : List Row) → words ≡ name ∷ values
      → fault_of all_commands words ≡ [] → subcommand_of all_commands words ≡ Some (name, rows)
      → first_of first_id rows ≡ slice_get values 0 → first_of second_id rows ≡ slice_get values 1
      → slice_get values 2 ≡ None → Verdict words
  refused : (fault_of all_commands words ≡ [] → ⊥) → has_form words ≡ false → Verdict words

module _ (name : Text) where
  abbrev Enters : App → Type 0
  Enters a = (rest : List Text) → (fault_of all_commands (name ∷ rest) ≡ fault_at (leaf a) rest)
      × (subcommand_of all_commands (name ∷ rest) ≡ Some (name, rows_at (leaf a) rest))

  verdict_none : Enters (bare name) → ((rest : List Text) → has_form (name ∷ rest) ≡ no_values rest)
      → (rest : List Text) → AllPlain rest → Verdict (name ∷ rest)
  verdict_none enter form [] plain =
      taken name [] (rows_at (leaf (bare name)) []) refl ((enter []).0 ∙ none_taken name) (enter []).1
      (none_first name) (none_second name) refl
  verdict_none enter form (a ∷ rest) plain =
      refused (λ e. none_refused name a rest plain.0 (sym (enter (a ∷ rest)).0 ∙ e)) (form (a ∷ rest))

  verdict_one : Enters (with_one name) → ((rest : List Text) → has_form (name ∷ rest) ≡ one_value rest)
      → (rest : List Text) → AllPlain rest → Verdict (name ∷ rest)
  verdict_one enter form [] plain = refused (λ e. one_missing name (sym (enter []).0 ∙ e)) (form [])
  verdict_one enter form (a ∷ []) plain =
      let here = enter (a ∷ []) in
      taken name (a ∷ []) (rows_at (leaf (with_one name)) (a ∷ [])) refl (here.0 ∙ one_taken name a plain.0) here.1
      (one_first name a plain.0) (one_second name a plain.0) refl
  verdict_one enter form (a ∷ b ∷ rest) plain =
      refused (λ e. one_more name a plain.0 b rest plain.1.0 (sym (enter (a ∷ b ∷ rest)).0 ∙ e)) (form (a ∷ b ∷ rest))

  verdict_two : Enters (with_two name) → ((rest : List Text) → has_form (name ∷ rest) ≡ two_values rest)
      → (rest : List Text) → AllPlain rest → Verdict (name ∷ rest)
  verdict_two enter form [] plain = refused (λ e. two_missing name (sym (enter []).0 ∙ e)) (form [])
  verdict_two enter form (a ∷ []) plain = refused (λ e. two_lacking name a plain.0 (sym (enter (a ∷ [])).0 ∙ e)) (form (a ∷ []))
  verdict_two enter form (a ∷ b ∷ []) plain =
      let here = enter (a ∷ b ∷ []) in
      taken name (a ∷ b ∷ []) (rows_at (leaf (with_two name)) (a ∷ b ∷ [])) refl
      (here.0 ∙ both_taken name a plain.0 b plain.1.0) here.1
      (both_first name a plain.0 b plain.1.0) (both_second name a plain.0 b plain.1.0) refl
  verdict_two enter form (a ∷ b ∷ d ∷ rest) plain =
      refused (λ e. both_more name a plain.0 b plain.1.0 d rest plain.1.1.0 (sym (enter (a ∷ b ∷ d ∷ rest)).0 ∙ e))
      (form (a ∷ b ∷ d ∷ rest))

-- the word is this one, or another
split : (n w : Text) (P : Text → Type 0) → P n → (bytes_eq n w ≡ false → P w) → P w
split n w P here other = elim (cases_Bool (bytes_eq n w)) [
  | inl same ↦ subst P ((bytes_eq-Decides n w).0 same) here
  | inr differs ↦ other differs
]

abbrev enter : (name : Text) (a : App) → walked whole.top.rules names (at nothing_held 1) name ≡ stopped_at name []
    → turn_fault whole.top names (at nothing_held 1) name ≡ []
    → find (λ c. answers_to name (label_of c)) whole.subs ≡ Some (leaf a) → (leaf a).name ≡ name → Enters name a
enter name a first turn found named rest = (
  enters name (leaf a) first turn found rest,
  enters_rows name (leaf a) first turn found rest ∙ ap (λ n. Some (n, rows_at (leaf a) rest)) named,
)

module _ (rest : List Text) (plain : AllPlain rest) where
  watch : Verdict (codes "watch" ∷ rest)
  unfolding clap_on_literals
  watch = verdict_one (codes "watch") (enter (codes "watch") (with_one (codes "watch")) refl refl refl refl) (λ rest. refl) rest plain

  look : Verdict (codes "look" ∷ rest)
  unfolding clap_on_literals
  look = verdict_two (codes "look") (enter (codes "look") (with_two (codes "look")) refl refl refl refl) (λ rest. refl) rest plain

  check : Verdict (codes "check" ∷ rest)
  unfolding clap_on_literals
  check = verdict_none (codes "check") (enter (codes "check") (bare (codes "check")) refl refl refl refl) (λ rest. refl) rest plain

  copy : Verdict (codes "copy" ∷ rest)
  unfolding clap_on_literals
  copy = verdict_none (codes "copy") (enter (codes "copy") (bare (codes "copy")) refl refl refl refl) (λ rest. refl) rest plain

  script : Verdict (codes "script" ∷ rest)
  unfolding clap_on_literals
  script = verdict_one (codes "script") (enter (codes "script") (with_one (codes "script")) refl refl refl refl) (λ rest. refl) rest plain

  games : Verdict (codes "games" ∷ rest)
  unfolding clap_on_literals
  games = verdict_two (codes "games") (enter (codes "games") (with_two (codes "games")) refl refl refl refl) (λ rest. refl) rest plain

  make : Verdict (codes "make" ∷ rest)
  unfolding clap_on_literals
  make = verdict_two (codes "make") (enter (codes "make") (with_two (codes "make")) refl refl refl refl) (λ rest. refl) rest plain

  other : (w : Text) → IsPlain w → bytes_eq (codes "watch") w ≡ false → bytes_eq (codes "look") w ≡ false
      → bytes_eq (codes "check") w ≡ false → bytes_eq (codes "copy") w ≡ false → bytes_eq (codes "script") w ≡ false
      → bytes_eq (codes "games") w ≡ false → bytes_eq (codes "make") w ≡ false → Verdict (w ∷ rest)
  other w bare_w n1 n2 n3 n4 n5 n6 n7 =
      let none : subcommand_met names idle w ≡ None = rw (n1, n2, n3, n4, n5, n6, n7) refl in
      let form : has_form (w ∷ rest) ≡ false = rw (n1, n2, n3, n4, n5, n6, n7) refl in
      refused (unknown w rest none bare_w) form

  first_word : (w : Text) → IsPlain w → Verdict (w ∷ rest)
  first_word w bare_w =
      let P : Text → Type 0 = λ v. Verdict (v ∷ rest) in
      split (codes "watch") w P watch (λ n1. split (codes "look") w P look (λ n2. split (codes "check") w P check (λ n3.
      split (codes "copy") w P copy (λ n4. split (codes "script") w P script (λ n5. split (codes "games") w P games (λ n6.
      split (codes "make") w P make (λ n7. other w bare_w n1 n2 n3 n4 n5 n6 n7)))))))

-- what the parser does with words
pub verdict : (words : List Text) → AllPlain words → Verdict words
verdict [] plain = refused no_word refl
verdict (w ∷ rest) plain = first_word rest plain.1 w plain.0
