use Rattle.std.proofs.Common.{◌≡◌, ◌+◌, ◌*◌, ◌<◌, ◌≤◌, [], Some, add-one, ap, arith, drop, length, suc, ◌∙◌}
use Rattle.std.proofs.lemmas.List.{drop_all}
use Rattle.hb_script.specs.ScriptGrammar.{by_pairs, identity_of}
use Rattle.hb_script.proofs.PairLemmas.{deck-none, deck-whole, pair-item, pairs-end, pairs-first, too-few, too-many}
use Rattle.hb_script.proofs.heads.deck_by.Goals as goal
use Rattle.hb_script.proofs.heads.deck_by.Goals.{then-letters-ne0-via-then-letters-ne0, then-letters-ne0-via-else-letters-ne0+then-count-lt-FEWEST_CARDS, then-letters-ne0-via-else-letters-ne0+else-count-lt-FEWEST_CARDS+then-count-gt-MOST_CARDS}

pub returns-then-letters-ne0 : goal.returns-then-letters-ne0
returns-then-letters-ne0 c = elim c.then-letters-ne0.branch [
  | then-letters-ne0-via-then-letters-ne0 w ↦ deck-none c.args.letters.now (λ cards l. absurd (omega (arith, l, w.if-letters-ne0.true)))
  | then-letters-ne0-via-else-letters-ne0+then-count-lt-FEWEST_CARDS w ↦
      deck-none c.args.letters.now (λ cards l. too-few (length cards) (omega (arith, l, w.if-count-lt-FEWEST_CARDS.true)))
  | then-letters-ne0-via-else-letters-ne0+else-count-lt-FEWEST_CARDS+then-count-gt-MOST_CARDS w ↦
      deck-none c.args.letters.now (λ cards l. too-many (length cards) (omega (arith, l, w.if-count-gt-MOST_CARDS.true)))
]

pub loop-place-init : goal.loop-place-init
loop-place-init c = let none = c.new-cards.ensures.items in rw none (pairs-first (by_pairs identity_of c.args.letters.now))

pub loop-place-preserved : goal.loop-place-preserved
loop-place-preserved c =
    let at = 2 * c.loop-place.place in
    let low : suc at < length c.args.letters.now = omega (arith, c.loop-place-test.true) in
    let next : 2 * (c.loop-place.place + 1) ≡ suc (suc at) = omega arith in
    let is = rw add-one at c.in-Some.ensures in
    let pushed = c.in_ok-push-in-Some.ensures.items in
    rw pushed (pair-item identity_of at (2 * (c.loop-place.place + 1)) c.args.letters.now c.args.letters.now c.loop-place.cards.items
    c.in-Some.id low next c.loop-place.invariant is)

pub returns : goal.returns
returns c =
    let past : length c.args.letters.now ≤ 2 * c.loop-place.place = omega (arith, c.loop-place-test.false, c.if-letters-ne0.false) in
    let rest : drop (2 * c.loop-place.place) c.args.letters.now ≡ [] = drop_all (2 * c.loop-place.place) c.args.letters.now past in
    let whole = pairs-end identity_of (drop (2 * c.loop-place.place) c.args.letters.now) c.args.letters.now c.loop-place.cards.items rest
    c.loop-place.invariant in
    ap Some c.from.ensures ∙ deck-whole c.args.letters.now c.loop-place.cards.items whole (omega (
      arith,
      c.if-count-lt-FEWEST_CARDS.false,
    )) (omega (arith, c.if-count-gt-MOST_CARDS.false))
