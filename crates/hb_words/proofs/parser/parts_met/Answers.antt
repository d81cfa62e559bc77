use Rattle.std.proofs.Common.{◌≡◌, ◌∙◌, ◌∷◌, ◌++◌, ap, ap₂, option_map}
use Rattle.std.specs.Option.{option_to_list}
use Rattle.clap.specs.Words.{first_of, found_of, rows_of}
use Rattle.clap.specs.declared.parser.matches.ArgMatches.TheViews.{out-ArgMatches}
use Rattle.clap.proofs.WalkLemmas.{first_value-rows}
use Rattle.hb_words.specs.Interface.{first_id, second_id}
use Rattle.hb_words.proofs.Numerals.{some_same}
use Rattle.hb_words.proofs.PartsFound.{name_met}
use Rattle.hb_words.proofs.parser.parts_met.Goals as goal

pub returns : goal.returns
returns c = λ name rows met.
    let name_is : c.in_ok-name.name.now ≡ name =
    some_same (c.in_ok-name.ensures.name ∙ name_met (out-ArgMatches c.args.matches.now).subcommand name rows met) in
    let rows_are : rows_of (found_of c.in_ok-name.found.now) ≡ rows =
    some_same (c.in_ok-name.ensures.rows ∙ ap (option_map (λ p. p.1)) met) in
    let first : option_map (λ s. s.now) c.get_str.result ≡ first_of first_id rows =
    c.get_str.ensures ∙ first_value-rows (found_of c.in_ok-name.found.now) first_id ∙ ap (first_of first_id) rows_are in
    let second : option_map (λ s. s.now) c.get_str-2.result ≡ first_of second_id rows =
    c.get_str-2.ensures ∙ first_value-rows (found_of c.in_ok-name.found.now) second_id ∙ ap (first_of second_id) rows_are in
    ap₂ (λ n vs. n ∷ vs) name_is (c.values-values.ensures ∙ ap₂ (λ a b. option_to_list a ++ option_to_list b) first second)
