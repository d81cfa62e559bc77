use Rattle.hb_wire.proofs.HasFloat.{has_float-clock_data}
use Rattle.hb_wire.proofs.stream.clock_text.Goals as goal

pub line_text-requires : goal.line_text-requires
line_text-requires c = rw c.in_ok-value.ensures (has_float-clock_data c.args.banks.now c.args.moment c.args.running)
