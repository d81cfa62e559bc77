use Rattle.hb_sight.proofs.NamedActs.{acts_of-observation}
use Rattle.hb_seen.proofs.PiecesLemmas.{length-pieces, piece_events-drop, take-observation}
use Rattle.hb_seen.proofs.laws.pieces_are_seen.Goals as goal

pub returns-clause-events : goal.returns-clause-events
returns-clause-events c = piece_events-drop

pub returns-clause-grow : goal.returns-clause-grow
returns-clause-grow c = take-observation

pub returns-clause-counted : goal.returns-clause-counted
returns-clause-counted c = length-pieces

pub returns-clause-acts : goal.returns-clause-acts
returns-clause-acts c = acts_of-observation
