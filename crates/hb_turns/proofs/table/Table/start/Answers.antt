use Rattle.std.proofs.Common.{refl, ◌+◌, ◌*◌, length}
use Rattle.hb_rules.specs.Cards.{has_number}
use Rattle.hb_rules.specs.Setup.{deal_size}
use Rattle.hb_turns.proofs.StartLemmas.{slice_index-replicate, all-marked, start-emptied}
use Rattle.hb_turns.proofs.table.Table.start.Goals as goal

pub returns : goal.returns
returns c = record {
  many_holders = c.dealt.ensures.many;
  many_hands = c.dealt_hands.ensures.many;
  many_stacks = refl;
  many_lost = refl;
  many_gone = refl;
  many_marks = refl;
  holders = c.dealt.ensures.all;
  hands = c.dealt_hands.ensures.all;
  stacks = λ s low. slice_index-replicate 6 s;
  lost = λ s r s_low r_low. slice_index-replicate 30 (s * 5 + r);
  gone = λ s r s_low r_low. slice_index-replicate 30 (s * 5 + r);
  marks = all-marked c.args.masks.now.all (has_number c.args.setup.now.variant) c.requires.masks.all;
  removed = refl;
  turns = refl;
  tokens = refl;
  strikes = refl;
  emptied = rw (c.then_some.ensures, c.len.ensures.value, c.deal_size.ensures.size)
      (start-emptied (length c.args.setup.now.deck.items) (deal_size c.args.setup.now));
  called = refl;
}
