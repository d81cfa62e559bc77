-- What does the parser make of the values behind the word of a command?
use Rattle.std.proofs.Common.{◌≡◌, ◌∙◌, false, true≢false, refl, sym, ap, ap₂, List, [], ◌∷◌, Some, None, is_some}
use Rattle.std.specs.Prelude.{slice_get}
use Rattle.clap.specs.Words.{App, Row, Shape, Text, first_of}
use Rattle.clap.specs.Walk.{Held, Walk, walk, walked, to_positional, arg_by_index, nothing_held, finished, settled, rows_after}
use Rattle.clap.specs.Simple.{built, built_leaf, inherited}
use Rattle.clap.specs.Kinds.{Kinds, or_else}
use Rattle.clap.specs.Faults.{walk_fault, settle_fault, defaults_fault, check_fault, level_fault}
use Rattle.clap.specs.declared.error.kind.ErrorKind.{ErrorKind}
use Rattle.clap.specs.declared.error.kind.ErrorKind.TheVariants.{UnknownArgument}
use Rattle.clap.proofs.OnLiterals.{clap_on_literals}
use Rattle.hb_words.specs.Interface.{all_commands, bare, with_one, with_two, first_id, second_id}
use Rattle.hb_words.specs.PlainWords.{IsPlain}
use Rattle.hb_words.proofs.ParserWords.{at, walk_step, fault_step}

-- what building the program makes of one of its commands
abbrev pub leaf : App → Shape
leaf a = built_leaf (inherited (built all_commands).top a.top)

-- the faults that the parser finds in the words behind a command's word
abbrev pub fault_at : Shape → List Text → Kinds
fault_at s words = level_fault s [] nothing_held words false []

-- the values that it finds there
abbrev pub rows_at : Shape → List Text → List Row
rows_at s words = rows_after s.rules [] words

abbrev end_of : Shape → List Text → Walk
end_of s words = walk s.rules [] nothing_held words

-- what a level comes to, by the end of the walk and the faults on the way
abbrev level_at : Shape → Kinds → Held → Kinds
level_at s faults end = or_else faults (or_else [] (or_else (settle_fault s.rules s.args_override_self end)
    (or_else (defaults_fault (settled s.rules end).rows s.rules) (check_fault s (finished s.rules end) false))))

by_walk : (s : Shape) (words : List Text) → fault_at s words ≡ level_at s (walk_fault s [] (at nothing_held 1) words) (end_of s words).held
by_walk s words = refl

-- a fault is not none
pub some_fault : (k : ErrorKind) (ks : Kinds) → k ∷ ks ≡ [] → ⊥
some_fault k ks e = true≢false (ap is_some (ap (λ xs. slice_get xs 0) e))

refused_by : (s : Shape) (words : List Text) (k : ErrorKind)
    → walk_fault s [] (at nothing_held 1) words ≡ k ∷ [] → fault_at s words ≡ [] → ⊥
refused_by s words k is e = some_fault k [] (sym (ap (λ faults. level_at s faults (end_of s words).held) is) ∙ e)

module _ (name : Text) where
  -- a command of no value is taken without words
  pub none_taken : fault_at (leaf (bare name)) [] ≡ []
  unfolding clap_on_literals
  none_taken = refl

  -- it has no first value
  pub none_first : first_of first_id (rows_at (leaf (bare name)) []) ≡ None
  none_first = refl

  -- it has no second value
  pub none_second : first_of second_id (rows_at (leaf (bare name)) []) ≡ None
  none_second = refl

  -- with a word it is refused
  pub none_refused : (a : Text) (rest : List Text) → IsPlain a → fault_at (leaf (bare name)) (a ∷ rest) ≡ [] → ⊥
  none_refused a rest plain = refused_by (leaf (bare name)) (a ∷ rest) UnknownArgument
      (fault_step [] a refl plain (leaf (bare name)) 1 nothing_held rest)

  abbrev one : Shape
  one = leaf (with_one name)

  abbrev held_one : Text → Held
  held_one a = record { rows = []; pending = Some (first_id, a ∷ []); skip = 0 }

  -- a command of one value is refused without words
  pub one_missing : fault_at one [] ≡ [] → ⊥
  unfolding clap_on_literals
  one_missing e = some_fault _ [] e

  module _ (a : Text) (plain : IsPlain a) where
    one_walk : end_of one (a ∷ []) ≡ at (held_one a) 2
    one_walk = walk_step [] a refl plain one.rules 1 nothing_held

    one_faults : (rest : List Text) → walk_fault one [] (at nothing_held 1) (a ∷ rest) ≡ walk_fault one [] (at (held_one a) 2) rest
    one_faults rest = fault_step [] a refl plain one 1 nothing_held rest

    one_none : walk_fault one [] (at nothing_held 1) (a ∷ []) ≡ []
    unfolding walk_fault
    one_none = one_faults []

    one_end : level_at one [] (held_one a) ≡ []
    unfolding clap_on_literals
    one_end = refl

    -- with one word it is taken
    pub one_taken : fault_at one (a ∷ []) ≡ []
    one_taken = ap₂ (λ faults (w : Walk). level_at one faults w.held) one_none one_walk ∙ one_end

    -- the word is its first value
    pub one_first : first_of first_id (rows_at one (a ∷ [])) ≡ Some a
    one_first = ap (λ (w : Walk). first_of first_id (finished one.rules w.held)) one_walk

    -- it has no second value
    pub one_second : first_of second_id (rows_at one (a ∷ [])) ≡ None
    one_second = ap (λ (w : Walk). first_of second_id (finished one.rules w.held)) one_walk

    -- with more words than one it is refused
    pub one_more : (b : Text) (rest : List Text) → IsPlain b → fault_at one (a ∷ b ∷ rest) ≡ [] → ⊥
    one_more b rest plain' = refused_by one (a ∷ b ∷ rest) UnknownArgument
        (one_faults (b ∷ rest) ∙ fault_step [] b refl plain' one 2 (held_one a) rest)

  abbrev two : Shape
  two = leaf (with_two name)

  -- a command of two values is refused without words
  pub two_missing : fault_at two [] ≡ [] → ⊥
  unfolding clap_on_literals
  two_missing e = some_fault _ [] e

  module _ (a : Text) (plain : IsPlain a) where
    two_walk : end_of two (a ∷ []) ≡ at (held_one a) 2
    two_walk = walk_step [] a refl plain two.rules 1 nothing_held

    two_faults : (rest : List Text) → walk_fault two [] (at nothing_held 1) (a ∷ rest) ≡ walk_fault two [] (at (held_one a) 2) rest
    two_faults rest = fault_step [] a refl plain two 1 nothing_held rest

    two_none : walk_fault two [] (at nothing_held 1) (a ∷ []) ≡ []
    unfolding walk_fault
    two_none = two_faults []

    two_short : level_at two [] (held_one a) ≡ [] → ⊥
    unfolding clap_on_literals
    two_short e = some_fault _ [] e

    -- with one word it is refused
    pub two_lacking : fault_at two (a ∷ []) ≡ [] → ⊥
    two_lacking e = two_short (sym (ap₂ (λ faults (w : Walk). level_at two faults w.held) two_none two_walk) ∙ e)

    module _ (b : Text) (plain' : IsPlain b) where
      abbrev held_two : Held
      held_two = (to_positional two.rules (arg_by_index two.rules 2) b (at (held_one a) 2) (held_one a)).held

      both_walk : end_of two (a ∷ b ∷ []) ≡ at held_two 3
      both_walk = ap (λ w. walked two.rules [] w b) two_walk ∙ walk_step [] b refl plain' two.rules 2 (held_one a)

      both_faults : (rest : List Text) → walk_fault two [] (at nothing_held 1) (a ∷ b ∷ rest) ≡ walk_fault two [] (at held_two 3) rest
      both_faults rest = two_faults (b ∷ rest) ∙ fault_step [] b refl plain' two 2 (held_one a) rest

      both_none : walk_fault two [] (at nothing_held 1) (a ∷ b ∷ []) ≡ []
      unfolding walk_fault
      both_none = both_faults []

      both_end : level_at two [] held_two ≡ []
      unfolding clap_on_literals
      both_end = refl

      -- with two words it is taken
      pub both_taken : fault_at two (a ∷ b ∷ []) ≡ []
      both_taken = ap₂ (λ faults (w : Walk). level_at two faults w.held) both_none both_walk ∙ both_end

      -- the first word is its first value
      pub both_first : first_of first_id (rows_at two (a ∷ b ∷ [])) ≡ Some a
      both_first = ap (λ (w : Walk). first_of first_id (finished two.rules w.held)) both_walk

      -- the second word is its second value
      pub both_second : first_of second_id (rows_at two (a ∷ b ∷ [])) ≡ Some b
      both_second = ap (λ (w : Walk). first_of second_id (finished two.rules w.held)) both_walk

      -- with more words than two it is refused
      pub both_more : (d : Text) (rest : List Text) → IsPlain d → fault_at two (a ∷ b ∷ d ∷ rest) ≡ [] → ⊥
      both_more d rest plain'' = refused_by two (a ∷ b ∷ d ∷ rest) UnknownArgument
          (both_faults (d ∷ rest) ∙ fault_step [] d refl plain'' two 3 held_two rest)
