-- Which parts of the words does a parse that succeeds find?
use Rattle.std.proofs.Common.{◌≡◌, ◌∙◌, ◌++◌, true≢false, refl, sym, ap, ap₂, List, [], ◌∷◌, Option, Some, None, true, false, is_some}
use Rattle.std.specs.Prelude.{Box, IfNone, IfSome, IsSomeAnd, slice_get, option_map}
use Rattle.std.specs.Option.{option_to_list}
use Rattle.std.specs.Box.{box_value}
use Rattle.clap.specs.Words.{Row, Text, fault_of, subcommand_of, subcommand_rows}
use Rattle.clap.specs.declared.parser.matches.ArgMatches.TheViews.{out-SubCommand}
use Rattle.clap.specs.declared.parser.matches.SubCommand.{SubCommand}
use Rattle.hb_words.specs.Interface.{all_commands, row_texts}
use Rattle.hb_words.proofs.ParserCommands.{AllPlain, Verdict, has_form, taken, refused, verdict}

-- words that the parser takes, and what it found of them
pub record Found (words : List Text) : Type 0 where
  pub name : Text
  pub rows : List Row
  pub met : subcommand_of all_commands words ≡ Some (name, rows)
  pub parts : words ≡ name ∷ row_texts rows

at_most_two : (xs : List Text) → slice_get xs 2 ≡ None → xs ≡ option_to_list (slice_get xs 0) ++ option_to_list (slice_get xs 1)
at_most_two [] e = refl
at_most_two (a ∷ []) e = refl
at_most_two (a ∷ b ∷ []) e = refl
at_most_two (a ∷ b ∷ c ∷ rest) e = absurd (true≢false (ap is_some e))

-- plain words that the parser takes have the parts that it finds
pub found : (words : List Text) → AllPlain words → fault_of all_commands words ≡ [] → Found words
found words plain passes = pick (verdict words plain)
  where
    pick : Verdict words → Found words
    pick (taken name values rows is passed met first second none) = record {
      name = name;
      rows = rows;
      met = met;
      parts = is ∙ ap (λ vs. name ∷ vs) (at_most_two values none ∙ sym (ap₂ (λ a b. option_to_list a ++ option_to_list b) first second));
    }
    pick (refused fails form) = absurd (fails passes)

-- words that the parser refuses have not the form of a command
pub formless : (words : List Text) → AllPlain words → (fault_of all_commands words ≡ [] → ⊥) → has_form words ≡ false
formless words plain fails = pick (verdict words plain)
  where
    pick : Verdict words → has_form words ≡ false
    pick (taken name values rows is passed met first second none) = absurd (fails passed)
    pick (refused fails form) = form

-- the subcommand that was met, its name and its rows, each by itself
module _ {Z : Type 0} where
  -- a command whose name and values were found was met
  pub is_met : (o : Option (Box SubCommand Z)) (name : Text) (rows : List Row) → subcommand_rows o ≡ Some (name, rows) → is_some o ≡ true
  is_met None name rows e = ap is_some e
  is_met (Some b) name rows e = refl

  -- its name is the one that was found
  pub name_met : (o : Option (Box SubCommand Z)) (name : Text) (rows : List Row) → subcommand_rows o ≡ Some (name, rows)
      → option_map (λ b. (out-SubCommand (box_value b)).name.now) o ≡ Some name
  name_met None name rows e = absurd (true≢false (sym (ap is_some e)))
  name_met (Some b) name rows e = ap (option_map (λ p. p.0)) e

-- what is there, and has a property
pub weaken : {X : Type 0} (o : Option X) (P Q : X → Type 0) → ((x : X) → P x → Q x) → IsSomeAnd o P → IfSome o Q
weaken None P Q imply there = absurd there
weaken (Some x) P Q imply there = imply x there

-- where something holds of what is there, it is not absent
pub is_there : {X : Type 0} (o : Option X) (P : X → Type 0) (A : Type 0) → IsSomeAnd o P → IfNone o A
is_there None P A there = absurd there
is_there (Some x) P A there = tt
