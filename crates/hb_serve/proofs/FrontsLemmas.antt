-- How do lists, and what a keeper tells, come on twice?
use Rattle.std.proofs.Common.{Some, None, refl, sym, true≢false}
use Rattle.std.specs.Prelude.{Option}
use Rattle.hb_keeper.specs.KeptGames.{Content}
use Rattle.hb_club.specs.Fronts.{Fronts, House}
use Rattle.hb_house.specs.ClerkRounds.{AtEach}
use Rattle.hb_house.specs.KeeperSteps.{IsSure, IsSureOf, IsTold, Telling}
use Rattle.hb_session.proofs.FrontsLemmas.{all_on-same, all_on-trans}
use Rattle.hb_serve.specs.Comings.{ComesTo}

-- what is told now was told before, and could be relied on
pub sure-before : (sure : Type 0) (c d : Telling) → (IsTold d → IsTold c) → IsSure sure c → IsSure sure d
sure-before sure c d known is = by c.content d.content known is
  where
    by : (a b : Option Content) → (IsTold (record d { content = b }) → IsTold (record c { content = a }))
        → IsSure sure (record c { content = a }) → IsSure sure (record d { content = b })
    by a None known is = tt
    by None (Some content) known is = absurd (true≢false (sym (known refl)))
    by (Some old) (Some content) known is = is

-- nothing came
pub comes-same : (Stands : Fronts → Type 0) (Tells : Telling → Type 0) (h : House) (f : Fronts) (c : Telling) → Stands f → Tells c
    → ComesTo Stands Tells h f c
comes-same Stands Tells h f c stood told = record {
  after = f;
  stands_for = stood;
  on = all_on-same f;
  keeper = c;
  told = told;
  known = λ is. is;
  still = λ is. is;
  own = λ is. is;
}

-- twice
pub comes-trans : (First Stands : Fronts → Type 0) (first Tells : Telling → Type 0) (sure : Type 0) (h : House) (f : Fronts)
    (c : Telling) → ComesTo First first h f c → IsSure sure c → AtEach First first sure (λ g d. ComesTo Stands Tells h g d)
    → ComesTo Stands Tells h f c
comes-trans First Stands first Tells sure h f c one is next =
    let two = next one.after one.keeper one.stands_for one.told (sure-before sure c one.keeper one.known is) in
    record {
      after = two.after;
      stands_for = two.stands_for;
      on = all_on-trans f one.after two.after one.on two.on;
      keeper = two.keeper;
      told = two.told;
      known = λ d. one.known (two.known d);
      still = λ was. two.still (one.still was);
      own = λ o. two.own (one.own o);
    }

-- a hall that stands for the lists for which another stood
pub comes-kept : (First Stands : Fronts → Type 0) (Tells : Telling → Type 0) (h : House) (f : Fronts) (c : Telling)
    → ((g : Fronts) → First g → Stands g) → ComesTo First Tells h f c → ComesTo Stands Tells h f c
comes-kept First Stands Tells h f c same one = record {
  after = one.after;
  stands_for = same one.after one.stands_for;
  on = one.on;
  keeper = one.keeper;
  told = one.told;
  known = one.known;
  still = one.still;
  own = one.own;
}

sure-of : (content : Option Content) (now before : Type 0) → (now → before) → IsSureOf now content → IsSureOf before content
sure-of None now before back is = tt
sure-of (Some content) now before back is = back is

-- what can be relied on now could be relied on before
pub sure-back : (c : Telling) (now before : Type 0) → (now → before) → IsSure now c → IsSure before c
sure-back c now before back is = sure-of c.content now before back is
