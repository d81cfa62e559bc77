use Rattle.hb_words.specs.Interface.{with_one}
use Rattle.hb_words.proofs.interface.two.Goals as goal

pub returns : goal.returns
returns c = c.with_value.ensures (with_one c.args.name.now) c.in_ok-one.ensures
