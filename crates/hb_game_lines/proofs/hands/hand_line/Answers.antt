use Rattle.std.specs.Prelude.{string_bytes}
use Rattle.std.proofs.lemmas.Result.{IfOk-weaker}
use Rattle.hb_game_lines.proofs.PossibleLists.{hand_line_of-sets}
use Rattle.hb_game_lines.proofs.hands.hand_line.Goals as goal

pub returns : goal.returns
returns c = IfOk-weaker c.hand_text.result _ _ (λ s is. hand_line_of-sets c.args.blind.bits c.args.seat c.args.game.now
    c.hand_sets-cards.result.items (string_bytes s) c.hand_sets-cards.ensures.played.fair.full
    (rw c.with.ensures.bits at c.hand_sets-cards.ensures.sets) (rw c.as_slice.ensures.value at is)) c.hand_text.ensures
