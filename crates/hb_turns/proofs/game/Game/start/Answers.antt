use Rattle.std.proofs.Common.{arith, ◌≡◌, true, sym, ◌∙◌}
use Rattle.hb_rules.specs.Start.{are_players, are_options}
use Rattle.hb_rules.specs.Cards.{IsDeck}
use Rattle.hb_rules.proofs.DeckSize.{deck-few}
use Rattle.hb_turns.proofs.StartLemmas.{fair-start}
use Rattle.hb_turns.proofs.game.Game.start.Goals as goal

pub copied-requires : goal.copied-requires
copied-requires c = (omega arith, deck-few c.args.variant.now c.args.deck.now (c.is_deck.ensures.0 c.if-not-is_deck.false))

pub begun-requires-clause-fair : goal.begun-requires-clause-fair
begun-requires-clause-fair c =
    let players : are_players c.args.players ≡ true = sym c.are_players.ensures ∙ c.if-not-are_players.false in
    let options : are_options c.args.players c.args.options.now ≡ true = sym c.are_options.ensures ∙ c.if-not-are_options.false in
    let full : IsDeck c.args.variant.now c.args.deck.now = c.is_deck.ensures.0 c.if-not-is_deck.false in
    fair-start (record { variant = c.args.variant.now; options = c.args.options.now; players = c.args.players; deck = c.copied.result })
    (record { players = players; options = options; full = rw c.copied.ensures full })
