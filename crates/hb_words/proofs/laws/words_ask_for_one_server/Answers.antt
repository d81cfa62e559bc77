use Rattle.hb_words.proofs.ServerWords.{no_command, one_server}
use Rattle.hb_words.proofs.laws.words_ask_for_one_server.Goals as goal

pub returns-clause-one : goal.returns-clause-one
returns-clause-one c = one_server

pub returns-clause-alone : goal.returns-clause-alone
returns-clause-alone c = no_command
