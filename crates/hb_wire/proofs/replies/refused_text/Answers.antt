use Rattle.hb_wire.proofs.HasFloat.{has_float-refused_data}
use Rattle.hb_wire.proofs.replies.refused_text.Goals as goal

pub line_text-requires : goal.line_text-requires
line_text-requires c = rw c.in_ok-value.ensures (has_float-refused_data c.args.code c.args.number c.args.review c.args.rule c.args.table)
