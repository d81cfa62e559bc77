use Rattle.std.proofs.lemmas.Result.{on_ok_weaker}
use Rattle.hb_view.proofs.LoadedTextLemmas.{loaded-writes}
use Rattle.hb_view.proofs.loaded.write_loaded.Goals as goal

pub returns : goal.returns
returns c = on_ok_weaker c.push_whole.result
    (λ texts. loaded-writes c.args.a.now c.args.id c.in-Some.head c.in-Some-game.name c.in-Some-game.players c.in-Some-game-2.game
    c.args.out.now c.push_whole.new.out c.in-Some.is c.in-Some-game.is c.in-Some-game-2.is texts)
    (rw (c.in_ok-push_line.ensures, c.as_str.ensures, c.as_slice.ensures) at c.push_whole.ensures)
