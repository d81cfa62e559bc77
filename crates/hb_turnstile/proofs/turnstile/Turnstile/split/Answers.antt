use Rattle.std.proofs.Common.{rules}
use Rattle.hb_turnstile.proofs.SplitsAndJoins.{split-allowed}
use Rattle.hb_turnstile.proofs.turnstile.Turnstile.split.Goals as goal

pub split_seat-seat-requires : goal.split_seat-seat-requires
split_seat-seat-requires g c = (search rules, search rules, split-allowed _ _ _ _ c.pass.invariant.0)
