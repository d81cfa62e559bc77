use Rattle.std.proofs.Common.{◌≡◌, ◌+◌, length, arith}
use Rattle.hb_keeper.proofs.IdLemmas.{HasIds-more}
use Rattle.hb_keeper.proofs.ListingLemmas.{IsListed-append}
use Rattle.hb_keeper.proofs.kept.Kept.add.Goals as goal

pub invariant_of-self-2 : goal.invariant_of-self-2
invariant_of-self-2 c =
    let next : c.len.result + 1 ≡ 1 + length c.self.inside.rows.items = omega (arith, c.len.ensures, c.reserve.ensures.len) in
    rw (c.push_reserved.ensures.items, c.reserve.ensures.items) (
      HasIds-more c.self.inside.ids c.insert.new.self c.self.inside.rows.items c.args.key.now c.args.row (c.len.result + 1) next
          c.self.invariant.0 (rw (← c.self.view_is) at c.requires) c.in_ok-insert.ensures.updates,
      IsListed-append c.self.inside.rows.items
          (c.args.key.now, c.args.row) c.self.inside.listing.lists c.self.inside.listing.count c.self.invariant.1,
    )
