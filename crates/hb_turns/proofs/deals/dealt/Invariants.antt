use Rattle.std.proofs.Common.{◌≡◌, length}
use Rattle.hb_turns.specs.Dealt.{IsDealt}
use Rattle.hb_turns.proofs.deals.dealt.Given as goal

abbrev pub invariant-loop-order : goal.invariant-loop-order
invariant-loop-order l = record { many : length l.holders ≡ 60; all : IsDealt l.setup l.order l.holders }
