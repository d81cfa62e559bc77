use Rattle.hb_wire.proofs.HasFloat.{has_float-opened_data}
use Rattle.hb_wire.proofs.stream.opened_text.Goals as goal

pub line_text-requires : goal.line_text-requires
line_text-requires c = rw c.in_ok-value.ensures (has_float-opened_data c.args.host c.args.variant_name.now c.args.options.now)
