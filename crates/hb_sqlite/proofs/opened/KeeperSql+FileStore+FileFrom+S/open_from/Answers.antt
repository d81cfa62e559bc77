use Rattle.sqlite_wal.specs.Files.{image_at}
use Rattle.sqlite.specs.Files.{file_state}
use Rattle.hb_sqlite.proofs.StoreFileLemmas.{content_opened, no_table_opened, version_opened}
use Rattle.hb_sqlite.proofs.opened.KeeperSql+FileStore+FileFrom+S.open_from.Goals as goal

pub returns-in-Ok-clause-tells : goal.returns-in-Ok-clause-tells
returns-in-Ok-clause-tells g c =
    content_opened (file_state c.in-Ok.conn) (image_at g.S.Start) (λ k. file_state k.conn) c.adopt.result c.in-Ok.ensures.opened
    c.in-Ok.ensures.found c.adopt.ensures.clean c.adopt.ensures.kept

pub returns-in-Ok-clause-new : goal.returns-in-Ok-clause-new
returns-in-Ok-clause-new g c =
    no_table_opened (file_state c.in-Ok.conn) (image_at g.S.Start) (λ k. file_state k.conn) c.adopt.result c.in-Ok.ensures.opened
    c.in-Ok.ensures.found c.adopt.ensures.clean c.adopt.ensures.new

pub returns-in-Ok-clause-version : goal.returns-in-Ok-clause-version
returns-in-Ok-clause-version g c =
    version_opened (file_state c.in-Ok.conn) (image_at g.S.Start) (λ k. file_state k.conn) c.adopt.result c.in-Ok.ensures.opened
    c.in-Ok.ensures.found c.adopt.ensures.clean c.adopt.ensures.version
