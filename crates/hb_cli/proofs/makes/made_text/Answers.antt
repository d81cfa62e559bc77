use Rattle.std.proofs.Common.{◌≢◌, ◌∙◌, Some, ap, arith, sym}
use Rattle.hb_house.proofs.ResultLemmas.{if_ok}
use Rattle.hb_house.specs.PlainHalls.{house_with}
use Rattle.hb_keeper.specs.MemoryKeeper.{MemoryKeeper}
use Rattle.hb_club.specs.declared.shoes.Shoe.{Shoe}
use Rattle.hb_run.specs.HeldRuns.{MOST_BYTES}
use Rattle.hb_cli.proofs.MadeRunsLemmas.{made-ran}
use Rattle.hb_cli.proofs.makes.made_text.Goals as goal

pub returns : goal.returns
returns c =
    let sums = c.in_ok-sums.sums in
    let less : sums.bytes ≢ MOST_BYTES = λ same. omega (arith, c.if-sums.false, same) in
    let house = c.in_ok-hall.ensures.house ∙ ap (λ (s : Shoe). house_with s c.in-Ok.run') c.made_shoe.ensures in
    let told = c.in_ok-keeper.ensures in
    let m = made-ran _ _ _ _ _ _ _ c.in-Ok.run' _ _ c.args.tables c.args.seed sums house c.in_ok-hall.ensures.count (λ now. now)
    c.in-Ok.ensures.keeps c.in-Ok.ensures.plan c.in_ok-hall.ensures.empty c.in_ok-sums.ensures
    (ap (λ (k : MemoryKeeper). k.content) told, sym (ap (λ (k : MemoryKeeper). Some k.plan) told ∙ ap Some c.new.ensures)) tt less in
    if_ok c.summary.result c.summary.ensures (λ text is. (sums.bytes, m.0, rw (c.from.ensures, m.1, m.2) at is))
