use Rattle.std.proofs.Common.{[], refl}
use Rattle.hb_club.specs.Fronts.{with_entry}
use Rattle.hb_house.specs.PlainHalls.{house_with}
use Rattle.hb_house.proofs.PlainStandsLemmas.{lobby-stands}
use Rattle.hb_house.proofs.plain.PlainHallHall.lobby.Goals as goal

pub returns-in-Ok-clause-ok : goal.returns-in-Ok-clause-ok
returns-in-Ok-clause-ok g c = λ f whole.
    let hall = c.args.self.now in
    let done = lobby-stands g.R.RoomMachine.site g.R.RoomMachine.stands (house_with hall.shoe.value hall.run) hall.rooms.items hall.lobby
    c.enter.new.self c.args.e.now c.in-Ok.reply f whole c.in-Ok.ensures.reply c.in-Ok.ensures.bound in
    record {
      after = with_entry c.args.e.now f;
      stands_for = done.0;
      takes = record { others = []; quiet = (λ _. refl); front = refl; rooms = (λ _. refl) };
      answer = done.1;
    }
