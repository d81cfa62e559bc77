use Rattle.std.proofs.Common.{arith}
use Rattle.hb_suits.proofs.PlacesLemmas.{is_variant-placed}
use Rattle.hb_suits.proofs.variants.is_variant.Goals as goal

pub returns-then-have_color : goal.returns-then-have_color
returns-then-have_color c = rw is_variant-placed (grind arith)

pub returns-else-have_color : goal.returns-else-have_color
returns-else-have_color c = rw is_variant-placed (grind arith)
