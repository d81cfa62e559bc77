use Rattle.std.proofs.Common.{◌≡◌, ℕ, ◌+◌, [], ◌∷◌, ◌++◌, List, Option, sym, take, arith}
use Rattle.std.proofs.lemmas.Grind.{common_steps}
use Rattle.std.proofs.lemmas.List.{take_all}
use Rattle.std.proofs.lemmas.List.Elements.{filter_map-append}
use Rattle.hb_view.proofs.started.names_of.Goals as goal

pub loop-name-preserved : goal.loop-name-preserved
loop-name-preserved c =
    let step : take (c.loop-name.name-index + 1) c.args.names.now
    ≡ take c.loop-name.name-index c.args.names.now ++ c.name-item.result ∷ [] = grind (arith, common_steps, c.name-item.is) in
    rw (c.in_ok-push_name.ensures, step, c.loop-name.invariant) (sym (filter_map-append (λ (name : Option (List ℕ)). name)
    (take c.loop-name.name-index c.args.names.now) (c.name-item.result ∷ [])))

pub returns : goal.returns
returns c =
    let all : take c.loop-name.name-index c.args.names.now ≡ c.args.names.now = take_all c.loop-name.name-index c.args.names.now
    (omega (arith, c.loop-name-test.false)) in
    rw all at c.loop-name.invariant
