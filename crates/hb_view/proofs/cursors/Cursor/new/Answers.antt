use Rattle.hb_view.proofs.PumpLemmas.{new-written}
use Rattle.hb_view.proofs.cursors.Cursor.new.Goals as goal

pub returns : goal.returns
returns c = λ w same. new-written w c.args.viewer same
