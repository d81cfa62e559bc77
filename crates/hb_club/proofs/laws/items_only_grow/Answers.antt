use Rattle.hb_club.proofs.NotedLoadsLemmas.{past_of-apart}
use Rattle.hb_club.proofs.RoomsLemmas.{items-go-on}
use Rattle.hb_club.proofs.TableRecordLemmas.{latest_items-record}
use Rattle.hb_club.proofs.laws.items_only_grow.Goals as goal

pub returns-clause-grow : goal.returns-clause-grow
returns-clause-grow c = items-go-on

pub returns-clause-records : goal.returns-clause-records
returns-clause-records c = latest_items-record

pub returns-clause-apart : goal.returns-clause-apart
returns-clause-apart c = λ s events. record { waits = (past_of-apart s events).waits; apart = (past_of-apart s events).apart }
