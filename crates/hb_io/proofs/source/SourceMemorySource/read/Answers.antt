use Rattle.hb_io.proofs.Reading.{read_front}
use Rattle.hb_io.proofs.source.SourceMemorySource.read.Goals as goal

pub returns-clause-bytes : goal.returns-clause-bytes
returns-clause-bytes c =
    rw (← c.self.view_is)
    (read_front c.self.inside.bytes.items c.copy_from_slice.new.self c.args.buf.now c.self.inside.at
    c.self.inside.piece_len c.min-count.result
    c.self.invariant.1 (rw (c.min.ensures, c.deref.ensures.value) at c.min-count.ensures)
    (rw c.deref.ensures.value at c.copy_from_slice.ensures.after))
