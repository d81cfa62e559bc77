use Rattle.hb_sight.proofs.ActParts.{event_list-parts, parts-from}
use Rattle.hb_sight.proofs.acts.next_events.Goals as goal

pub returns-clause-parts : goal.returns-clause-parts
returns-clause-parts c =
    parts-from c.args.game.now c.apply.new.self c.args.act c.caller.result _ c.apply.ensures c.caller.ensures
    c.action_event-action.ensures c.draw_event-draw.ensures c.end_events-end.ensures.end c.end_events-end.ensures.deck

pub returns-clause-told : goal.returns-clause-told
returns-clause-told c = event_list-parts c.args.game.now c.args.act _ (returns-clause-parts c)
