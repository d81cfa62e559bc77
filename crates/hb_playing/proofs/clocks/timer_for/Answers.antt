use Rattle.std.proofs.Common.{ap, arith}
use Rattle.hb_rules.specs.declared.acts.Options.{Options}
use Rattle.hb_playing.proofs.ClocksLemmas.{are_options-times}
use Rattle.hb_playing.proofs.clocks.timer_for.Goals as goal

pub overflow_mul-per_turn_ms : goal.overflow_mul-per_turn_ms
overflow_mul-per_turn_ms c =
    let g = c.args.game.now.setup in
    omega (
      arith,
      are_options-times g.players g.options c.players-seats.ensures.played.fair.can.options,
      c.from-per_turn_ms.ensures,
      ap (λ (o : Options). o.per_turn_s) c.options-options.ensures,
    )
