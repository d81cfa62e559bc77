use Rattle.hb_view.proofs.StreamLawLemmas.{cursors-go-on, views-are-streams}
use Rattle.hb_view.proofs.laws.views_are_streams.Goals as goal

pub returns-clause-streams : goal.returns-clause-streams
returns-clause-streams c = views-are-streams

pub returns-clause-cursors : goal.returns-clause-cursors
returns-clause-cursors c = cursors-go-on
