use Rattle.std.proofs.Common.{sym, subst, ◌∙◌}
use Rattle.hb_rules.specs.Cards.{IsDeck}
use Rattle.hb_club.proofs.TableLoadsLemmas.{false-true}
use Rattle.hb_playing.specs.RoomDeals.{site_with}
use Rattle.hb_playing.proofs.DealsLemmas.{if_ok-more, none-started, other-started, written-started}
use Rattle.hb_playing.proofs.deals.deal_variant.Goals as goal

pub returns-then-is_deck-clause-started : goal.returns-then-is_deck-clause-started
returns-then-is_deck-clause-started c =
    let shoe = c.args.shoe.now in let v = c.args.variant.now in
    if_ok-more c.start.result (λ game is run. written-started shoe.written (site_with shoe c.args.room run) v c.args.serial
    c.args.options.now c.args.players c.in-Some.deck c.as_slice-then-is_deck.result.now game c.in-Some.is c.as_slice-then-is_deck.ensures
    (subst (IsDeck v) c.as_slice.ensures (c.is_deck.ensures.0 c.if-is_deck.true)) is) c.start.ensures.started

pub returns-else-is_deck-clause-started : goal.returns-else-is_deck-clause-started
returns-else-is_deck-clause-started c =
    let shoe = c.args.shoe.now in let v = c.args.variant.now in
    if_ok-more c.deal_shuffled.result (λ game is run. other-started shoe.written (site_with shoe c.args.room run) v c.args.serial
    c.args.options.now c.args.players c.in-Some.deck c.stream_of-stream.result game c.in-Some.is
    (λ full. false-true (sym c.if-is_deck.false ∙ c.is_deck.ensures.1 (subst (IsDeck v) (sym c.as_slice.ensures) full)))
    c.stream_of-stream.ensures is) c.deal_shuffled.ensures.started

pub returns-in-None-clause-started : goal.returns-in-None-clause-started
returns-in-None-clause-started c =
    let shoe = c.args.shoe.now in
    if_ok-more c.deal_shuffled-in-None.result (λ game is run. none-started shoe.written (site_with shoe c.args.room run) c.args.variant.now
    c.args.serial c.args.options.now c.args.players c.stream_of-stream.result game c.in-None.is c.stream_of-stream.ensures is)
    c.deal_shuffled-in-None.ensures.started
