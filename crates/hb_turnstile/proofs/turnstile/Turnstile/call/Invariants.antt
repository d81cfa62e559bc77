use Rattle.std.proofs.Common.{Some}
use Rattle.hb_turnstile.proofs.turnstile.Turnstile.call.Given as goal

abbrev pub ghosts-wait_for : goal.ghosts-wait_for
ghosts-wait_for g a = record { start = Some a.table.now.key.value }
