use Rattle.std.proofs.Common.{◌≡◌, length, sym, arith}
use Rattle.std.proofs.lemmas.Bool.Decides.{nat_tests}
use Rattle.std.proofs.lemmas.Option.{slice_get_read}
use Rattle.hb_sqlite.proofs.KeyLemmas.{empty_ids}
use Rattle.hb_sqlite.proofs.StoreWalks.{only_row}
use Rattle.hb_sqlite.proofs.reading.only_id.Goals as goal

pub returns-then-is_empty : goal.returns-then-is_empty
returns-then-is_empty c ids same =
    let none : length c.args.rows.now ≡ 0 = grind (arith, nat_tests) in
    sym (empty_ids ids c.args.rows.now same none)

pub returns : goal.returns
returns c ids same =
    let one : length c.args.rows.now ≡ 1 = grind (arith, nat_tests) in
    let it = c.in_ok-id.ensures in
    sym (only_row ids c.args.rows.now c.index-rows-0.result c.in_ok-id.id same one (slice_get_read c.args.rows.now 1 0
    c.index-rows-0.result (sym one) (omega arith) c.index-rows-0.is) it.ok.1)
