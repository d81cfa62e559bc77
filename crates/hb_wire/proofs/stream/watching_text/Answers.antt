use Rattle.hb_wire.proofs.HasFloat.{has_float-watching_data}
use Rattle.hb_wire.proofs.stream.watching_text.Goals as goal

pub line_text-requires : goal.line_text-requires
line_text-requires c = rw c.in_ok-value.ensures (has_float-watching_data c.args.name c.args.shadow)
