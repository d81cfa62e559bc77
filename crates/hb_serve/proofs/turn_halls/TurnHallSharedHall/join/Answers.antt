use Rattle.hb_serve.proofs.turn_halls.TurnHallSharedHall.join.Goals as goal

pub returns-clause-lists : goal.returns-clause-lists
returns-clause-lists g c = λ f h own other.
    let joined = c.join.ensures.lists f h own other in
    record {
      after = joined.after;
      stands_for = joined.stands_for;
      own_on = joined.own_on;
      other_on = joined.other_on;
    }
