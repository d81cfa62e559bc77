use Rattle.std.proofs.Common.{Some, None, sym, ◌∙◌, lit<}
use Rattle.std.proofs.lemmas.Str.Pattern.{strip_prefix_char}
use Rattle.hb_suits.proofs.Answered.{variant_of-spelled, variant_of-listed, named-by, refused-by, error-by, other-error, unknown-by, spells-by, spelled-by, unspelled-by}
use Rattle.hb_suits.proofs.names.variant.Goals as goal

pub returns-in-Some-clause-named : goal.returns-in-Some-clause-named
returns-in-Some-clause-named c =
    let form =
    variant_of-spelled c.args.name.now c.in-Some.text.now
    (strip_prefix_char 61 c.args.name.now (Some c.in-Some.text) c.in-Some.ensures.cases (lit< tt)) in
    rw c.ok_or.ensures.value (named-by _ _ _ (form.1 ∙ sym c.spelled.ensures))

pub returns-in-Some-clause-refused : goal.returns-in-Some-clause-refused
returns-in-Some-clause-refused c =
    let form =
    variant_of-spelled c.args.name.now c.in-Some.text.now
    (strip_prefix_char 61 c.args.name.now (Some c.in-Some.text) c.in-Some.ensures.cases (lit< tt)) in
    rw c.ok_or.ensures.value (refused-by _ _ _ (form.1 ∙ sym c.spelled.ensures))

pub returns-in-Some-clause-misspelled : goal.returns-in-Some-clause-misspelled
returns-in-Some-clause-misspelled c =
    let form =
    variant_of-spelled c.args.name.now c.in-Some.text.now
    (strip_prefix_char 61 c.args.name.now (Some c.in-Some.text) c.in-Some.ensures.cases (lit< tt)) in
    rw c.ok_or.ensures.value (error-by _ _ _ _ (form.1 ∙ sym c.spelled.ensures) form.0)

pub returns-in-None-clause-named : goal.returns-in-None-clause-named
returns-in-None-clause-named c =
    let form = variant_of-listed c.args.name.now (strip_prefix_char 61 c.args.name.now None c.in-None.ensures.cases (lit< tt)) in
    rw c.ok_or-in-None.ensures.value (named-by _ _ _ (form.1 ∙ sym c.listed.ensures))

pub returns-in-None-clause-refused : goal.returns-in-None-clause-refused
returns-in-None-clause-refused c =
    let form = variant_of-listed c.args.name.now (strip_prefix_char 61 c.args.name.now None c.in-None.ensures.cases (lit< tt)) in
    rw c.ok_or-in-None.ensures.value (refused-by _ _ _ (form.1 ∙ sym c.listed.ensures))

pub returns-in-None-clause-unknown : goal.returns-in-None-clause-unknown
returns-in-None-clause-unknown c =
    let form = variant_of-listed c.args.name.now (strip_prefix_char 61 c.args.name.now None c.in-None.ensures.cases (lit< tt)) in
    rw c.ok_or-in-None.ensures.value (unknown-by _ _ (sym c.listed.ensures) form.0)

pub returns-in-None-clause-misspelled : goal.returns-in-None-clause-misspelled
returns-in-None-clause-misspelled c =
    let form = variant_of-listed c.args.name.now (strip_prefix_char 61 c.args.name.now None c.in-None.ensures.cases (lit< tt)) in
    rw c.ok_or-in-None.ensures.value (other-error c.args.name.now c.listed.result form.0)

pub returns-in-Some-clause-spells : goal.returns-in-Some-clause-spells
returns-in-Some-clause-spells c = rw c.ok_or.ensures.value
    (spells-by c.args.name.now c.in-Some.text.now _
    (strip_prefix_char 61 c.args.name.now (Some c.in-Some.text) c.in-Some.ensures.cases (lit< tt))
    (sym c.spelled.ensures))

pub returns-in-Some-clause-spelled : goal.returns-in-Some-clause-spelled
returns-in-Some-clause-spelled c = rw c.ok_or.ensures.value
    (spelled-by c.args.name.now c.in-Some.text.now _
    (strip_prefix_char 61 c.args.name.now (Some c.in-Some.text) c.in-Some.ensures.cases (lit< tt))
    (sym c.spelled.ensures))

pub returns-in-None-clause-spells : goal.returns-in-None-clause-spells
returns-in-None-clause-spells c = λ suits e. absurd (strip_prefix_char 61 c.args.name.now None c.in-None.ensures.cases (lit< tt) _ e)

pub returns-in-None-clause-spelled : goal.returns-in-None-clause-spelled
returns-in-None-clause-spelled c =
    let form = variant_of-listed c.args.name.now (strip_prefix_char 61 c.args.name.now None c.in-None.ensures.cases (lit< tt)) in
    rw c.ok_or-in-None.ensures.value (unspelled-by c.args.name.now c.listed.result form.0)
