use Rattle.hb_club.proofs.SeenGameLemmas.{acts-shown, first-told, loaded-seen, piece_events-first, reviewed_game-seen, seen_game-answered, seen_game-seen, timeout-seen}
use Rattle.hb_club.proofs.laws.views_see_the_game.Goals as goal

pub returns-clause-played : goal.returns-clause-played
returns-clause-played c = seen_game-seen

pub returns-clause-loaded : goal.returns-clause-loaded
returns-clause-loaded c = λ s t v is. loaded-seen t.loaded is.loaded

pub returns-clause-time : goal.returns-clause-time
returns-clause-time c = timeout-seen

pub returns-clause-observed : goal.returns-clause-observed
returns-clause-observed c = piece_events-first

pub returns-clause-answered : goal.returns-clause-answered
returns-clause-answered c = seen_game-answered

pub returns-clause-acts : goal.returns-clause-acts
returns-clause-acts c = acts-shown

pub returns-clause-pieces : goal.returns-clause-pieces
returns-clause-pieces c = first-told

pub returns-clause-reviewed : goal.returns-clause-reviewed
returns-clause-reviewed c = reviewed_game-seen
