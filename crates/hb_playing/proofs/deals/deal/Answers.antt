use Rattle.std.proofs.Common.{ap, sym, ◌∙◌}
use Rattle.hb_suits.specs.VariantNames.{variant_of}
use Rattle.hb_playing.specs.RoomDeals.{site_with}
use Rattle.hb_playing.proofs.DealsLemmas.{if_ok-more, started-dealt}
use Rattle.hb_playing.proofs.deals.deal.Goals as goal

pub returns-in-Ok-clause-dealt : goal.returns-in-Ok-clause-dealt
returns-in-Ok-clause-dealt c =
    if_ok-more c.deal_variant.result (λ game is run. started-dealt (site_with c.args.shoe.now c.args.room run) c.in-Ok.variant c.args.serial
    c.args.name.now c.args.options.now c.args.players game (sym (ap variant_of c.as_str.ensures) ∙ c.in-Ok.ensures.named) (is run))
    c.deal_variant.ensures.started
