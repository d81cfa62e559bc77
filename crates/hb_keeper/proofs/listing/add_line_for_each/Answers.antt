use Rattle.std.proofs.Common.{rules, ◌∙◌, sym, ap}
use Rattle.std.specs.Prelude.{Some}
use Rattle.std.proofs.lemmas.Option.{slice_get-get_or}
use Rattle.hb_keeper.proofs.ListingLemmas.{ListedFor-more, ListedForSome-take}
use Rattle.hb_keeper.proofs.listing.add_line_for_each.Goals as goal

pub returns-in_err-add_line-clause-err : goal.returns-in_err-add_line-clause-err
returns-in_err-add_line-clause-err c =
    let some = ListedForSome-take c.args.names.now c.loop-name.name-index c.args.lists.now c.loop-name.lists c.add_line.new.lists
    c.args.line c.loop-name.invariant c.in_err-add_line.ensures.err in
    search rules

pub loop-name-preserved : goal.loop-name-preserved
loop-name-preserved c =
    ListedFor-more c.args.names.now c.loop-name.name-index c.name-item.result c.args.lists.now c.loop-name.lists
    c.add_line.new.lists c.args.line
    (slice_get-get_or c.args.names.now c.loop-name.name-index c.name-item.result c.loop-name-test.true ∙ ap Some (sym c.name-item.is))
    c.loop-name.invariant c.in_ok-add_line.ensures.ok
