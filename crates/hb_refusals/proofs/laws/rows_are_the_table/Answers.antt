use Rattle.std.specs.Prelude.{refl}
use Rattle.hb_refusals.proofs.OptionLemmas.{is_none-not}
use Rattle.hb_refusals.proofs.RowLemmas.{rows_on-loading}
use Rattle.hb_refusals.proofs.laws.rows_are_the_table.Goals as goal

pub returns-clause-shown : goal.returns-clause-shown
returns-clause-shown c = λ t own e. rw (is_none-not t.loaded) refl

pub returns-clause-loads : goal.returns-clause-loads
returns-clause-loads c = rows_on-loading
