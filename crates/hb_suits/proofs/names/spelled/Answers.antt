use Rattle.std.proofs.Common.{◌≡◌, true, arith, length, sym, ◌∙◌, lit<}
use Rattle.std.proofs.lemmas.List.{length_push}
use Rattle.std.proofs.lemmas.Iterator.Splits.{YieldsList-from_str_split}
use Rattle.std.proofs.lemmas.Iterator.Consumers.{YieldsList-turn, YieldsList-end}
use Rattle.std.proofs.Math.ListN.{length-set}
use Rattle.hb_rules.specs.declared.suits.Suit.{Suit}
use Rattle.hb_suits.specs.VariantNames.{are_suits, pieces}
use Rattle.hb_suits.proofs.Spellings.{spelled-unnamed, spelled-long, spelled-named, are_suits-push, named-push}
use Rattle.hb_suits.proofs.names.spelled.Goals as goal

pub returns-in_err-suit : goal.returns-in_err-suit
returns-in_err-suit c =
    let turn =
    YieldsList-turn (YieldsList-from_str_split 43 c.args.text.now (lit< tt) (cc) (cc) (cc))
    c.loop-name.yielded _ c.loop-name.yielded_by _ _ c.in-Some.name c.in-Some.is c.next.ensures.steps in
    c.from_residual.ensures
    ∙ sym
    (spelled-unnamed c.args.text.now (length c.loop-name.yielded) c.in-Some.name.now turn.0 turn.1
    (sym c.in_err-suit.ensures))

pub returns-then-count-eq-MOST_SUITS : goal.returns-then-count-eq-MOST_SUITS
returns-then-count-eq-MOST_SUITS c =
    let turn =
    YieldsList-turn (YieldsList-from_str_split 43 c.args.text.now (lit< tt) (cc) (cc) (cc))
    c.loop-name.yielded _ c.loop-name.yielded_by _ _ c.in-Some.name c.in-Some.is c.next.ensures.steps in
    sym (spelled-long c.args.text.now (omega (arith, turn.0)))

pub loop-name-preserved : goal.loop-name-preserved
loop-name-preserved c = record {
  named = are_suits-push c.loop-name.yielded c.in-Some.name c.in_ok-suit.suit c.loop-name.invariant.named (sym c.in_ok-suit.ensures);
  kept = named-push c.loop-name.suits c.loop-name.count c.in_ok-suit.suit c.loop-name.yielded c.in-Some.name
      (omega arith) c.loop-name.invariant.kept (sym c.in_ok-suit.ensures);
  counted = omega (arith, length_push c.loop-name.yielded c.in-Some.name);
  few = omega arith;
  long = omega (arith, length-set {A = Suit});
}

pub returns : goal.returns
returns c =
    let all =
    YieldsList-end (YieldsList-from_str_split 43 c.args.text.now (lit< tt) (cc) (cc) (cc))
    c.loop-name.yielded _ c.loop-name.yielded_by _ _ c.in-None.is c.next.ensures.steps in
    let named : are_suits (pieces c.args.text.now) ≡ true = rw all.0 at c.loop-name.invariant.named in
    (rw (c.loop-name.invariant.kept, all.0) at c.variant_with.ensures) ∙ sym (spelled-named c.args.text.now named)
