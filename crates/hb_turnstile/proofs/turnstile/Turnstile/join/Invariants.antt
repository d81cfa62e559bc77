use Rattle.std.proofs.Common.{Some}
use Rattle.hb_turnstile.proofs.turnstile.Turnstile.join.Given as goal

abbrev pub ghosts-see_joined : goal.ghosts-see_joined
ghosts-see_joined g a = record { start = Some a.table.now.key.value }
