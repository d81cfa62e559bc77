use Rattle.std.proofs.Common.{◌≡◌, drop}
use Rattle.hb_club.specs.TableRefusals.{first_reply}
use Rattle.hb_refusals.proofs.rows.first_row.Given as goal

abbrev pub invariant-loop-row : goal.invariant-loop-row
invariant-loop-row l = first_reply (drop l.row-index l.rows) ≡ first_reply l.fn.rows
