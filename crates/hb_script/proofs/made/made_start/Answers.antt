use Rattle.hb_club.specs.TableFacts.{shuffled_deck}
use Rattle.hb_script.proofs.made.made_start.Goals as goal

pub returns-clause-start : goal.returns-clause-start
unfolding shuffled_deck
returns-clause-start c =
    let v = c.no_variant-variant.ensures in
    let o = c.default.ensures in
    let p = c.made_players-players.ensures in
    let s = c.as_slice.ensures in
    let d = c.in_ok-deck.ensures.drawn in
    let k = c.made_seed.ensures in
    let t = c.from.ensures in
    let g = c.in-Ok.ensures.started in
    cc
