use Rattle.std.proofs.Common.{append-nil, arith, refl, sym}
use Rattle.std.proofs.lemmas.Grind.{common_steps}
use Rattle.hb_wire.proofs.ItemsLemmas.{between_all, between_more, between_nil, has_item_more}
use Rattle.hb_wire.proofs.spelling.push_wholes.Goals as goal

pub loop-n-init : goal.loop-n-init
loop-n-init c = record { text = rw between_nil (sym (append-nil _)); comma = refl }

pub loop-n-preserved : goal.loop-n-preserved
loop-n-preserved c = record {
  text = grind (arith, common_steps, between_more);
  comma = grind (arith, common_steps, has_item_more);
}

pub returns : goal.returns
returns c = grind (arith, common_steps, between_all)
