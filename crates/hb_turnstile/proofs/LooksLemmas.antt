-- A load by a pass that waits keeps the rule of a turnstile, and tells the pass what it is said to tell.
use Rattle.std.proofs.Common.{◌≡◌, ◌≢◌, ℕ, ◌<◌, ◌≤◌, true, false, true≢false, List, [], ◌++◌, get_or, set, Option, Some, refl, ap, sym, ◌∙◌, subst, arith, length-set}
use mathlib.Core.Option.{none}
use mathlib.Core.List.{IsPrefix}
use mathlib.Core.Logic.{dite}
use native.Mathlib.Decide.{ℕ_discrete}
use lib.Seq.{set-get_or}
use Rattle.atomic_table.specs.Table.{State, step, keeps, takes, Allows}
use Rattle.hb_turnstile.specs.declared.view.Entry.{Entry}
use Rattle.hb_turnstile.specs.declared.view.Stage.{Stage}
use Rattle.hb_turnstile.specs.declared.view.Stage.TheVariants.{Spent, New, Idle, Waiting, Inside}
use Rattle.hb_turnstile.specs.declared.view.View.{View}
use Rattle.hb_turnstile.specs.History.{calls_by, Leads}
use Rattle.hb_turnstile.specs.Rule.{PassSeat, ticket_of, with_seen, Now, FitsStage, Fits, IsConsistent, Looks}
use Rattle.hb_turnstile.proofs.Histories.{prefix_self, none_behind}
use Rattle.hb_turnstile.proofs.ItemLemmas.{seats_stay, true_or_false}
use Rattle.hb_turnstile.proofs.IsConsistentLemmas.{serving_word, stepped-loaded}

module _ {M C R : Type 0} (turns : M → C → R → M → Type 0) (start : M) where
  -- the rule of the turnstile
  abbrev Rule : State (Option M) (View C R) → Type 0
  Rule = IsConsistent turns start

  -- What stands after a pass has found its turn, and that what holds of another seat stays so
  abbrev found_now : Now C R → ℕ → Now C R
  found_now n id = record n { busy = true; inside = id }

  found_others : (n : Now C R) (id j number : ℕ) (seen : List (Entry C R)) → j ≢ id → n.holder n.serving ≡ id
      → n.busy ≡ false → (st : Stage) → FitsStage n j number seen st
      → FitsStage (found_now n id) j number seen st
  found_others n id j number seen other mine free Spent k = tt
  found_others n id j number seen other mine free New k = k
  found_others n id j number seen other mine free Idle k = k
  found_others n id j number seen other mine free (Waiting t) k = (k.0, k.1, k.2, k.3, λ _ e. other (sym k.3 ∙ (ap n.holder e ∙ mine)))
  found_others n id j number seen other mine free (Inside t) k = absurd (true≢false (sym k.2 ∙ free))

  -- a load of the serving word by a pass that waits
  pub look-allowed : (slots id t : ℕ) (me : PassSeat M C R) (told : Option M) → told ≡ Some start → me.0.stage ≡ Waiting t
      → Allows Rule slots id me 1 (λ n. n) (Looks turns told (step slots 1 0 0 none) me)
  look-allowed slots id t me told began waits s r _ here _ =
      let v = me.0 in
      let x = get_or s.words 1 0 in
      let is = serving_word turns start s r in
      let fits = r.seats id v here in
      let known : FitsStage r.now id v.number v.seen (Waiting t) = subst (FitsStage r.now id v.number v.seen) waits fits.stage in
      let mine : ticket_of v.stage ≡ t = ap ticket_of waits in
      dite (ℕ_discrete x (ticket_of v.stage))
      (λ hit.
      let now : t ≡ r.now.serving = omega arith in
      let free : r.now.busy ≡ false = true_or_false r.now.busy (λ b. known.4 b now) in
      let full = r.machine free in
      let w = with_seen (Inside (ticket_of v.stage)) (v.seen ++ fits.seen.0) v in
      let n = found_now r.now id in
      let whole : v.seen ++ fits.seen.0 ≡ r.now.history = fits.seen.1 in
      let none_more : calls_by id (v.seen ++ fits.seen.0) ≡ calls_by id v.seen = ap (calls_by id) whole ∙ known.0.1 in
      let low : t < r.now.ticket = known.2 in (
        w,
        takes 0 (Some full.0),
        full.1,
        subst
            (λ (ws : List ℕ). Rule record { words = ws; homes = set s.homes 0 none; views = set s.views id w })
            (sym (set-get_or s.words 1 0)) record {
              now = n;
              words = r.words;
              one_slot = length-set s.homes 0 none ∙ r.one_slot;
              machine = λ f. absurd (true≢false f);
              counted = r.counted;
              ordered = r.ordered;
              drawn = λ _. omega arith;
              limited = r.limited;
              legal = r.legal;
              seats = seats_stay (Fits n) s.views id w
                  record {
                    seen = subst (λ l. IsPrefix l r.now.history) (sym whole) (prefix_self r.now.history);
                    joined = fits.joined;
                    worn = fits.worn;
                    stage = ((known.0.0, ap (calls_by id) (sym whole)), mine ∙ now, refl, refl, whole);
                  }
                  (λ j u other e. let f = r.seats j u e in
                  record {
                    seen = f.seen;
                    joined = f.joined;
                    worn = f.worn;
                    stage =
                        found_others r.now id j u.number u.seen other (ap r.now.holder (sym now) ∙ known.3) free
                        u.stage f.stage;
                  });
              others = λ j l. r.others j (subst (λ (k : ℕ). k ≤ j) (length-set s.views id w) l);
            },
        (
          (λ _ first e.
              let same : start ≡ first = cc (began, e) in (
                fits.seen.0,
                full.0,
                refl,
                subst (λ k. calls_by k fits.seen.0 ≡ []) (sym known.0.0) (none_behind id v.seen fits.seen.0 none_more),
                subst (λ k. Leads turns k (v.seen ++ fits.seen.0) full.0) same (subst (λ l. Leads turns start l full.0) (sym whole) full.2),
              )),
          (λ miss. absurd (miss hit)),
        ),
      ))
      (λ miss. (v, keeps, tt, stepped-loaded turns start s r 1 id me.1 v fits, ((λ hit. absurd (miss hit)), (λ _. refl))))
