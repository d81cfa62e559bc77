use Rattle.std.proofs.Common.{◌≡◌}
use Rattle.hb_tests_parts.proofs.turnstile.thousand_calls.Given as goal

abbrev pub invariant-loop : goal.invariant-loop
invariant-loop g l = l.pass.table ≡ l.turnstile.table
