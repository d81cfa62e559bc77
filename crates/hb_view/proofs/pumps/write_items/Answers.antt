use Rattle.std.proofs.Common.{◌≡◌, ◌+◌, [], ◌∷◌, ◌++◌, ap, length, take, arith}
use Rattle.std.proofs.lemmas.Grind.{common_steps}
use Rattle.std.proofs.lemmas.List.{take_all}
use Rattle.hb_view.proofs.PumpLemmas.{writes-none, writes-step}
use Rattle.hb_view.proofs.pumps.write_items.Goals as goal

pub loop-item-init : goal.loop-item-init
loop-item-init c = λ w before is shows all so. writes-none c.args.a.now w before c.args.next.now c.args.out.now so

pub loop-item-preserved : goal.loop-item-preserved
loop-item-preserved c =
    let step : take (c.loop-item.item-index + 1) c.as_slice-item-items.result.now
    ≡ take c.loop-item.item-index c.as_slice-item-items.result.now ++ c.item-item.result ∷ [] = grind
    (arith, common_steps, c.item-item.is) in
    λ w before is shows all so. writes-step c.args.a.now w c.as_slice-item-items.result.now c.loop-item.item-index before c.item-item.result
    c.args.out.now c.loop-item.out c.write_item.new.out c.loop-item.next c.write_item.new.next
    c.as_slice-item-items.ensures step is shows all (c.loop-item.invariant w before is shows all so) c.in_ok-write_item.ensures

pub returns : goal.returns
returns c =
    let whole : take c.loop-item.item-index c.args.a.now.items ≡ c.args.a.now.items =
    take_all c.loop-item.item-index c.args.a.now.items (omega (arith, c.loop-item-test.false, ap length c.as_slice-item-items.ensures)) in
    rw whole at c.loop-item.invariant
