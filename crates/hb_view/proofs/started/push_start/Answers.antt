use Rattle.std.proofs.Common.{refl, map, Some}
use Rattle.hb_rules.specs.Events.{blank, deal}
use Rattle.hb_rules.specs.Observed.{observed}
use Rattle.hb_wire.specs.Lines.{event_line}
use Rattle.hb_club.specs.Views.{blind_of}
use Rattle.hb_talk.specs.Streams.{standing_lines}
use Rattle.hb_view.specs.StreamClocks.{clock_if, clock_texts}
use Rattle.hb_view.proofs.TextListLemmas.{on_ok-two_parts}
use Rattle.hb_view.proofs.started.push_start.Goals as goal

pub returns : goal.returns
returns c = λ low. on_ok-two_parts c.push_standing.result _ c.args.out.now
    (map event_line (blank (blind_of c.args.viewer c.args.game.now.setup.players) (deal c.args.game.now.setup)))
    (standing_lines (observed (blind_of c.args.viewer c.args.game.now.setup.players) c.args.game.now)
    (clock_texts (clock_if c.args.game.now.setup.options.timed (Some c.args.clock)) c.args.game.now.setup.players c.args.moment)) _
    (rw c.requires refl)
    (rw (c.in_ok-push_deal.ensures, c.blind_for-blind.ensures low, c.players.ensures.players, c.clock_if-clock.ensures, c.options.ensures)
    at c.push_standing.ensures)
