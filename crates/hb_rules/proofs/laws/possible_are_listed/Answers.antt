use Rattle.hb_rules.proofs.IsDeal.{deal-is, deal-tests}
use Rattle.hb_rules.proofs.Possible.{possible-listed, possible-rises}
use Rattle.hb_rules.proofs.laws.possible_are_listed.Goals as goal

pub returns-clause-deals : goal.returns-clause-deals
returns-clause-deals c = λ seen deck. (deal-is seen deck, deal-tests seen deck)

pub returns-clause-possible : goal.returns-clause-possible
returns-clause-possible c = λ seen order. record {
  ascending = possible-rises seen order;
  exact = possible-listed seen order;
}
