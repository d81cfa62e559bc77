use Rattle.std.proofs.Common.{◌≡◌, ℕ, length, rules, subst}
use Rattle.hb_playing.specs.RoomDeals.{IsDealt}
use Rattle.hb_table.specs.Keeps.{site_in}
use Rattle.hb_table.proofs.room.Room.deal_game.Goals as goal

pub returns-in-Ok : goal.returns-in-Ok
returns-in-Ok c =
    let count : c.len-seats.result ≡ length c.args.self.now.seats.items = search rules in
    subst (λ (n : ℕ). IsDealt (site_in c.args.self.now) c.args.self.now.latest (c.args.self.now.name, c.args.self.now.options) n
    c.in-Ok.game)
    count (c.in-Ok.ensures.dealt c.args.self.now.run)
