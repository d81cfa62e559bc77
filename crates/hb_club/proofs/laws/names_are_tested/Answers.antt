use Rattle.hb_club.proofs.LobbyLemmas.{is_name-tests}
use Rattle.hb_club.proofs.laws.names_are_tested.Goals as goal

pub returns : goal.returns
returns c = is_name-tests
