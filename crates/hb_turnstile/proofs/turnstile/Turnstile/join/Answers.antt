use Rattle.std.proofs.Common.{rules}
use Rattle.hb_turnstile.proofs.SplitsAndJoins.{join-allowed}
use Rattle.hb_turnstile.proofs.turnstile.Turnstile.join.Goals as goal

pub join_seat-requires : goal.join_seat-requires
join_seat-requires g c = (search rules, search rules, search rules, search rules, join-allowed _ _ _ _ _ _)
