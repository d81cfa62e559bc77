use Rattle.std.proofs.Common.{◌∙◌, ap, sym}
use Rattle.std.specs.Prelude.{[], unwrap_or}
use Rattle.hb_playing.proofs.notes.Notebook.reserve.Goals as goal

pub invariant_of-self : goal.invariant_of-self
invariant_of-self c = let was = c.self.invariant in record {
  texts = λ name order. ap (λ o. unwrap_or o []) (c.reserve.ensures.entries.2 (name, order)) ∙ was.texts name order;
  none = (λ zero. was.none.0 (sym c.reserve.ensures.entries.1 ∙ zero), λ nil. c.reserve.ensures.entries.1 ∙ was.none.1 nil);
}
