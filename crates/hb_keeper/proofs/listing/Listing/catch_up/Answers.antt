use Rattle.std.proofs.Common.{get_or}
use Rattle.std.proofs.lemmas.Option.{slice_get-get_or}
use Rattle.hb_keeper.proofs.ListingLemmas.{IsListed-more, IsListed-some}
use Rattle.hb_keeper.proofs.listing.Listing.catch_up.Goals as goal

pub loop-self-preserved : goal.loop-self-preserved
loop-self-preserved c =
    IsListed-more c.args.rows.now
    (get_or c.args.rows.now c.loop-self.self.count c.index-rows-self.result) _ _ _ c.line-line.result c.loop-self.invariant
    (slice_get-get_or c.args.rows.now c.loop-self.self.count c.index-rows-self.result c.loop-self-test.true) c.line-line.ensures
    (rw c.as_slice.ensures at c.in_ok-add_line_for_each.ensures.ok)

pub returns-in_err-add_line_for_each-clause-listed : goal.returns-in_err-add_line_for_each-clause-listed
returns-in_err-add_line_for_each-clause-listed c =
    IsListed-some c.args.rows.now
    (get_or c.args.rows.now c.loop-self.self.count c.index-rows-self.result) _ _ _ c.line-line.result c.loop-self.invariant
    (slice_get-get_or c.args.rows.now c.loop-self.self.count c.index-rows-self.result c.loop-self-test.true) c.line-line.ensures
    (rw c.as_slice.ensures at c.in_err-add_line_for_each.ensures.err)
