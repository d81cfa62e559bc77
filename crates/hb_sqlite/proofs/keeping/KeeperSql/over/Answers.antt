use Rattle.hb_sqlite.proofs.keeping.KeeperSql.over.Goals as goal

pub returns-in-Ok-clause-version : goal.returns-in-Ok-clause-version
returns-in-Ok-clause-version g c = λ clean n holds. (c.in-Ok.ensures.version clean n holds).ok.0

pub returns-in-Err-clause-refused : goal.returns-in-Err-clause-refused
returns-in-Err-clause-refused g c = λ clean n holds m is. ((c.in-Err.ensures.version clean n holds).version m cc).0
