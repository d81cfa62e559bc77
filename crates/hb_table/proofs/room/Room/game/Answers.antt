use Rattle.std.proofs.Common.{◌∙◌}
use Rattle.hb_table.proofs.RoomShowsLemmas.{game_of-in}
use Rattle.hb_table.proofs.room.Room.game.Goals as goal

pub returns : goal.returns
returns c = λ events stands. c.shown_game.ensures ∙ game_of-in c.args.self.now events stands
