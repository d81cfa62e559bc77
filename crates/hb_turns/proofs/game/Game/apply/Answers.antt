use Rattle.std.proofs.Common.{arith, ◌∙◌, ◌<◌, length, reverse, refl}
use Rattle.std.proofs.lemmas.List.{length-reverse}
use Rattle.hb_rules.proofs.Rules.{may_clue, MayClue}
use Rattle.hb_turns.proofs.ViewsLemmas.{may-inside, hand-inside, mask-inside}
use Rattle.hb_turns.proofs.Acts.{IsReady, is-ready, play-card, discard-card, play-takes, discard-takes, hand-cards, within-all, after-play, after-discard, after-clue, after-end}
use Rattle.hb_turns.proofs.game.Game.apply.Goals as goal
use Rattle.hb_turns.proofs.game.Game.apply.Goals.{in-Play, in-Discard, in-Clue, in-End}

pub play-requires-clause-card : goal.play-requires-clause-card
play-requires-clause-card c =
    play-card c.self.inside.setup (reverse c.self.inside.acts.items) c.self.inside.table c.self.inside.masks
    c.self.inside.ended c.args.who c.in-Play.order c.self.invariant
    (may-inside _ _ _ c.args.who c.args.action _ c.self.view_is c.requires c.in-Play.is)

pub play-requires-clause-seat : goal.play-requires-clause-seat
play-requires-clause-seat c =
    (play-takes c.self.inside.setup (reverse c.self.inside.acts.items) c.args.who c.in-Play.order
    c.self.invariant.fair (may-inside _ _ _ c.args.who c.args.action _ c.self.view_is c.requires c.in-Play.is)).0

pub play-requires-clause-room : goal.play-requires-clause-room
play-requires-clause-room c =
    (is-ready c.self.inside.setup (reverse c.self.inside.acts.items) c.self.inside.table c.self.inside.masks
    c.self.inside.ended c.args.who c.args.action c.self.invariant
    (may-inside _ _ _ c.args.who c.args.action _ c.self.view_is c.requires refl)).counts

pub discard-requires-clause-card : goal.discard-requires-clause-card
discard-requires-clause-card c =
    discard-card c.self.inside.setup (reverse c.self.inside.acts.items) c.self.inside.table c.self.inside.masks
    c.self.inside.ended c.args.who c.in-Discard.order c.self.invariant
    (may-inside _ _ _ c.args.who c.args.action _ c.self.view_is c.requires c.in-Discard.is)

pub discard-requires-clause-seat : goal.discard-requires-clause-seat
discard-requires-clause-seat c =
    (discard-takes c.self.inside.setup (reverse c.self.inside.acts.items) c.args.who c.in-Discard.order
    c.self.invariant.fair
    (may-inside _ _ _ c.args.who c.args.action _ c.self.view_is c.requires c.in-Discard.is)).0

pub discard-requires-clause-room : goal.discard-requires-clause-room
discard-requires-clause-room c =
    (is-ready c.self.inside.setup (reverse c.self.inside.acts.items) c.self.inside.table c.self.inside.masks
    c.self.inside.ended c.args.who c.args.action c.self.invariant
    (may-inside _ _ _ c.args.who c.args.action _ c.self.view_is c.requires refl)).counts

pub clue-requires-clause-room : goal.clue-requires-clause-room
clue-requires-clause-room c =
    (is-ready c.self.inside.setup (reverse c.self.inside.acts.items) c.self.inside.table c.self.inside.masks
    c.self.inside.ended c.args.who c.args.action c.self.invariant
    (may-inside _ _ _ c.args.who c.args.action _ c.self.view_is c.requires refl)).counts

pub clue-requires-clause-some : goal.clue-requires-clause-some
clue-requires-clause-some c =
    let m : MayClue c.self.inside.setup (reverse c.self.inside.acts.items) c.args.who c.in-Clue.to c.in-Clue.clue =
    may_clue c.self.inside.setup (reverse c.self.inside.acts.items) c.args.who c.in-Clue.to c.in-Clue.clue
    (may-inside _ _ _ c.args.who c.args.action _ c.self.view_is c.requires c.in-Clue.is) in
    grind (arith, m.some, c.self.invariant.table.tokens)

pub clue-requires-clause-cards : goal.clue-requires-clause-cards
clue-requires-clause-cards c =
    hand-cards c.self.inside.setup (reverse c.self.inside.acts.items) c.in-Clue.to _ c.self.invariant.fair
    (hand-inside c.self.inside.setup (reverse c.self.inside.acts.items) c.args.self.now c.in-Clue.to _
    c.self.view_is (c.as_slice.ensures.value ∙ c.hand-hand.ensures.hand))

pub clue-requires-clause-within : goal.clue-requires-clause-within
clue-requires-clause-within c =
    within-all c.self.inside.setup.variant c.self.inside.masks c.in-Clue.clue c.mask-touched.result
    c.self.invariant.masks
    (mask-inside c.self.inside.setup (reverse c.self.inside.acts.items) c.args.self.now c.in-Clue.clue
    c.mask-touched.result c.self.view_is c.mask-touched.ensures)

pub mask-touched-requires : goal.mask-touched-requires
mask-touched-requires c =
    let m : MayClue c.args.self.now.setup c.args.self.now.past c.args.who c.in-Clue.to c.in-Clue.clue =
    may_clue c.args.self.now.setup c.args.self.now.past c.args.who c.in-Clue.to c.in-Clue.clue (rw c.in-Clue.is at c.requires) in
    m.offered

pub push-requires : goal.push-requires
push-requires c =
    let r : IsReady (reverse c.self.inside.acts.items) c.self.inside.table =
    is-ready c.self.inside.setup (reverse c.self.inside.acts.items) c.self.inside.table c.self.inside.masks
    c.self.inside.ended c.args.who c.args.action c.self.invariant
    (may-inside _ _ _ c.args.who c.args.action _ c.self.view_is c.requires refl) in
    let few : length c.self.inside.acts.items < 160 = omega (arith, r.acts, length-reverse c.self.inside.acts.items) in (
      omega arith,
      elim c.match-action.branch [
        | in-Play w ↦ rw w.self-inside-is few
        | in-Discard w ↦ rw w.self-inside-is few
        | in-Clue w ↦ rw w.self-inside-is few
        | in-End w ↦ rw w.self-inside-is few
      ],
    )

pub invariant_of-self : goal.invariant_of-self
invariant_of-self c = elim c.match-action.branch [
  | in-Play w ↦ rw (c.push.ensures.items, w.self-inside-is, w.action-is, w.play.ensures)
      (after-play c.self.inside.setup c.self.inside.acts.items c.self.inside.table c.self.inside.masks
      c.self.inside.ended c.end-self-inside.result c.args.who w.in-Play.order c.self.invariant
      (may-inside _ _ _ c.args.who c.args.action _ c.self.view_is c.requires w.in-Play.is)
      (rw (w.self-inside-is, w.play.ensures) at c.end-self-inside.ensures))
  | in-Discard w ↦ rw (c.push.ensures.items, w.self-inside-is, w.action-is, w.discard.ensures)
      (after-discard c.self.inside.setup c.self.inside.acts.items c.self.inside.table c.self.inside.masks
      c.self.inside.ended c.end-self-inside.result c.args.who w.in-Discard.order c.self.invariant
      (may-inside _ _ _ c.args.who c.args.action _ c.self.view_is c.requires w.in-Discard.is)
      (rw (w.self-inside-is, w.discard.ensures) at c.end-self-inside.ensures))
  | in-Clue w ↦ rw (c.push.ensures.items, w.self-inside-is, w.action-is, w.clue.ensures.kept)
      (after-clue c.self.inside.setup c.self.inside.acts.items c.self.inside.table c.self.inside.masks
      c.self.inside.ended c.end-self-inside.result c.args.who w.in-Clue.to w.in-Clue.clue _
      w.as_slice.result.now w.mask-touched.result c.self.invariant
      (may-inside _ _ _ c.args.who c.args.action _ c.self.view_is c.requires w.in-Clue.is)
      (hand-inside c.self.inside.setup (reverse c.self.inside.acts.items) c.args.self.now w.in-Clue.to
      w.as_slice.result.now c.self.view_is (w.as_slice.ensures.value ∙ w.hand-hand.ensures.hand))
      (mask-inside c.self.inside.setup (reverse c.self.inside.acts.items) c.args.self.now w.in-Clue.clue
      w.mask-touched.result c.self.view_is w.mask-touched.ensures)
      w.clue.ensures.marks (rw (w.self-inside-is, w.clue.ensures.kept) at c.end-self-inside.ensures))
  | in-End w ↦ rw (c.push.ensures.items, w.self-inside-is, w.action-is, w.call.ensures)
      (after-end c.self.inside.setup c.self.inside.acts.items c.self.inside.table c.self.inside.masks
      c.self.inside.ended c.end-self-inside.result c.args.who w.in-End.how c.self.invariant
      (may-inside _ _ _ c.args.who c.args.action _ c.self.view_is c.requires w.in-End.is)
      (rw (w.self-inside-is, w.call.ensures) at c.end-self-inside.ensures))
]
