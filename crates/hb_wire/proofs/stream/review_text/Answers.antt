use Rattle.hb_wire.proofs.HasFloat.{has_float-review_data}
use Rattle.hb_wire.proofs.stream.review_text.Goals as goal

pub line_text-requires : goal.line_text-requires
line_text-requires c = rw c.in_ok-value.ensures (has_float-review_data c.args.action c.args.hypos c.args.turn)
