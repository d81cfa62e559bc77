use Rattle.std.proofs.Common.{◌∙◌, sym}
use Rattle.hb_words.proofs.Decoded.{is_decoded}
use Rattle.hb_words.proofs.laws.words_ask_for_one.Goals as goal

pub returns : goal.returns
returns c = λ words first second asks also. is_decoded words first asks ∙ sym (is_decoded words second also)
