use Rattle.std.proofs.Common.{rules}
use Rattle.hb_io.proofs.NameText.{IsName-utf8}
use Rattle.hb_io.proofs.names.Name.as_str.Goals as goal

pub unwrap-requires : goal.unwrap-requires
unwrap-requires c = let text = IsName-utf8 _ c.self.invariant.name in search rules
