use Rattle.hb_wire.proofs.HasFloat.{has_float-viewer_data}
use Rattle.hb_wire.proofs.stream.viewer_text.Goals as goal

pub line_text-requires : goal.line_text-requires
line_text-requires c = rw c.in_ok-value.ensures (has_float-viewer_data c.args.role c.args.room c.args.table)
