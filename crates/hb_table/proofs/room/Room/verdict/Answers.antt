use Rattle.std.proofs.Common.{◌∙◌, ℕ, ap}
use Rattle.hb_playing.specs.Games.{rule_by}
use Rattle.hb_playing.specs.Seats.{seat_in}
use Rattle.hb_table.proofs.VerdictLemmas.{verdict-parts}
use Rattle.hb_table.proofs.room.Room.verdict.Goals as goal

pub returns : goal.returns
returns c =
    verdict-parts c.args.self.now c.args.e.now c.first_reply.result c.known-known.result c.facts-facts.result c.kept_count-count.result
    c.broken-rule.result c.review_refusal-review.result c.first_reply.ensures c.facts-facts.ensures c.known-known.ensures
    c.kept_count-count.ensures
    (c.broken-rule.ensures ∙ (ap (λ (n : ℕ). rule_by c.args.self.now.game n c.asked_action.result) c.seat.ensures
    ∙ ap (rule_by c.args.self.now.game (seat_in c.args.self.now.names c.args.e.now.member)) c.asked_action.ensures))
    c.review_refusal-review.ensures
