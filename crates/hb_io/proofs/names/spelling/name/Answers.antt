use Rattle.std.proofs.Common.{rules}
use Rattle.hb_io.proofs.NameText.{HoldsName-copied}
use Rattle.hb_io.proofs.names.spelling.name.Goals as goal

pub invariant_of-result : goal.invariant_of-result
invariant_of-result c =
    rw c.copy_from_slice.ensures.after
    (HoldsName-copied _ (record { not_empty = search rules; fits = search rules; bytes = search rules }))
