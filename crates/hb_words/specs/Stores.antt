-- By which word is a store named?
use Rattle.std.specs.Prelude.{ℕ, List, codes}
use Rattle.hb_words.specs.declared.commands.Store.{Store}
use Rattle.hb_words.specs.declared.commands.Store.TheVariants.{Memory, File}

abbrev pub word_of : Store → List ℕ
word_of Memory = codes "mem"
word_of (File path) = path.now
