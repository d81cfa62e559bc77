use Rattle.hb_view.proofs.StartTextLemmas.{started-nowhere, started-writes}
use Rattle.hb_view.proofs.started.write_started.Goals as goal

pub returns-in_default-game : goal.returns-in_default-game
returns-in_default-game c = started-nowhere c.args.a.now c.args.names.now c.args.moment c.in-Some.head c.args.next.now
    c.args.out.now c.push_game.new.out c.in-Some.is c.in_default-game.is
    (rw (c.as_str.ensures, c.as_slice.ensures, c.in_ok-players.ensures) at c.in_ok-push_game.ensures)

pub returns : goal.returns
returns c = rw c.start_of-game.ensures
    (started-writes c.args.a.now c.in-Some-game.whole c.args.names.now c.args.moment c.in-Some.head c.args.next.now
    c.start_clock-clock.result c.args.out.now c.push_start.new.out c.in-Some.is c.in-Some-game.is c.start_clock-clock.ensures.played
    (rw (c.in_ok-push_game.ensures, c.as_str.ensures, c.as_slice.ensures, c.in_ok-players.ensures, c.start_of-game.ensures)
    at c.in_ok-push_start.ensures)
    c.start_clock-clock.ensures.clock)
