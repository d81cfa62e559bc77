use Rattle.hb_words.specs.Interface.{bare}
use Rattle.hb_words.proofs.interface.one.Goals as goal

pub returns : goal.returns
returns c = c.with_value.ensures (bare c.args.name.now) (record { shape = c.new.ensures.app; local = c.new.ensures.local })
