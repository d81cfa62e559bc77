-- The hand on keeps the rule of a turnstile, and tells the pass what it is said to tell.
use Rattle.std.proofs.Common.{◌≡◌, ◌≢◌, ℕ, ◌+◌, ◌%◌, ◌^◌, ◌<◌, ◌≤◌, true, false, true≢false, List, [], ◌∷◌, ◌++◌, get_or, set, Option, Some, None, ap, sym, ◌∙◌, subst, arith, length-append, length-set, mod-eq_of_lt}
use mathlib.Core.Option.{some, none}
use mathlib.Core.List.{IsPrefix}
use lib.ListN.{get_elem?}
use Rattle.atomic_table.specs.Table.{State, step, gives, stepped, Allows}
use Rattle.hb_turnstile.specs.declared.view.Entry.{Entry}
use Rattle.hb_turnstile.specs.declared.view.Stage.{Stage}
use Rattle.hb_turnstile.specs.declared.view.Stage.TheVariants.{Spent, New, Idle, Waiting, Inside}
use Rattle.hb_turnstile.specs.declared.view.View.{View}
use Rattle.hb_turnstile.specs.History.{entry, calls_by, Leads}
use Rattle.hb_turnstile.specs.Rule.{PassSeat, with_seen, Now, FitsStage, Fits, IsConsistent, HasTurned, HandsOn}
use Rattle.hb_turnstile.proofs.Histories.{prefix_self, prefix_more, calls_by-push_other}
use Rattle.hb_turnstile.proofs.ItemLemmas.{seats_stay, there_below, set_first}

module _ {M C R : Type 0} (turns : M → C → R → M → Type 0) (start : M) where
  -- the rule of the turnstile
  abbrev Rule : State (Option M) (View C R) → Type 0
  Rule = IsConsistent turns start

  -- What stands after a hand on, and that what holds of another seat stays so
  abbrev next_now : Now C R → Entry C R → Now C R
  next_now n e = record n { serving = n.serving + 1; history = n.history ++ e ∷ []; busy = false }

  next_others : (n : Now C R) (id : ℕ) (c : C) (r : R) (j number : ℕ) (seen : List (Entry C R)) → j ≢ id
      → n.inside ≡ id → n.busy ≡ true → (st : Stage) → FitsStage n j number seen st
      → FitsStage (next_now n (entry id c r)) j number seen st
  next_others n id c r j number seen other mine busy Spent k = tt
  next_others n id c r j number seen other mine busy New k = (k.0, calls_by-push_other id j c r n.history other ∙ k.1)
  next_others n id c r j number seen other mine busy Idle k = (k.0, calls_by-push_other id j c r n.history other ∙ k.1)
  next_others n id c r j number seen other mine busy (Waiting t) k = let le : n.serving ≤ t = k.1 in let ne = k.4 busy in
      ((k.0.0, calls_by-push_other id j c r n.history other ∙ k.0.1), omega arith, k.2, k.3, λ b. absurd (true≢false (sym b)))
  next_others n id c r j number seen other mine busy (Inside t) k = absurd (other (sym k.3 ∙ mine))

  stepped-handed_on : (s : State (Option M) (View C R)) (r : Rule s) (id t : ℕ) (v : View C R) (m : M) (c : C) (a : R)
      → get_elem? s.views id ≡ some v → v.stage ≡ Inside t
      → Leads turns start (v.seen ++ entry v.number c a ∷ []) m
      → Rule
      (stepped s 1 ((get_or s.words 1 0 + 1) % 2 ^ 64) id ((0, Some m) ∷ [])
      (with_seen Idle (v.seen ++ entry v.number c a ∷ []) v) gives)
  stepped-handed_on s r id t v m c a here inside leads =
      let fits = r.seats id v here in
      let known : FitsStage r.now id v.number v.seen (Inside t) = subst (FitsStage r.now id v.number v.seen) inside fits.stage in
      let e = entry v.number c a in
      let y : Option M = Some m in
      let n = next_now r.now e in
      let w = with_seen Idle (v.seen ++ e ∷ []) v in
      let whole : v.seen ≡ r.now.history = known.4 in
      let leads_now : Leads turns start (r.now.history ++ e ∷ []) m = subst (λ l. Leads turns start (l ++ e ∷ []) m) whole leads in
      let lt : r.now.serving < r.now.ticket = r.drawn known.2 in
      let limited = r.limited in record {
        now = n;
        words = ap (λ ws. set ws 1 ((get_or ws 1 0 + 1) % 2 ^ 64)) r.words
            ∙ ap (λ (k : ℕ). r.now.ticket ∷ k ∷ []) (mod-eq_of_lt (omega arith));
        one_slot = length-set s.homes 0 (some y) ∙ r.one_slot;
        machine = λ _. (m, set_first s.homes (some y) r.one_slot, leads_now);
        counted = length-append r.now.history (e ∷ []) ∙ ap (λ (k : ℕ). k + 1) r.counted;
        ordered = omega arith;
        drawn = λ b. absurd (true≢false (sym b));
        limited = r.limited;
        legal = (m, leads_now);
        seats = seats_stay (Fits n) s.views id w
            record {
              seen = subst (λ l. IsPrefix (v.seen ++ e ∷ []) (l ++ e ∷ [])) whole (prefix_self (v.seen ++ e ∷ []));
              joined = prefix_more v.joined r.now.history (e ∷ []) fits.joined;
              worn = fits.worn;
              stage = (known.0.0, ap (λ l. calls_by id (l ++ e ∷ [])) (sym whole));
            }
            (λ j u other p. let f = r.seats j u p in record {
              seen = prefix_more u.seen r.now.history (e ∷ []) f.seen;
              joined = prefix_more u.joined r.now.history (e ∷ []) f.joined;
              worn = f.worn;
              stage = subst (λ k. FitsStage (next_now r.now (entry k c a)) j u.number u.seen u.stage)
                  (sym known.0.0)
                  (next_others r.now id c a j u.number u.seen other known.3 known.2 u.stage f.stage);
            });
        others = λ j l. let below = there_below s.views id v here in let l' = subst (λ (k : ℕ). k ≤ j) (length-set s.views id w) l in
            subst (λ k. calls_by j (r.now.history ++ entry k c a ∷ []) ≡ []) (sym known.0.0)
            (calls_by-push_other id j c a r.now.history (λ e. omega arith) ∙ r.others j l');
      }

  -- the hand on
  pub hand_on-allowed : (slots id : ℕ) (me : PassSeat M C R) (c : C) (a : R) (told : Option (C × R)) → told ≡ Some (c, a)
      → HasTurned turns start me c a
      → Allows Rule slots id me 1 (λ n. (n + 1) % 2 ^ 64) (HandsOn told (step slots 1 1 0 none) me)
  hand_on-allowed slots id me c a told is turned =
      subst
      (λ (cs : List (ℕ × Option M)).
      Allows Rule slots id (me.0, cs) 1 (λ n. (n + 1) % 2 ^ 64)
      (HandsOn told (step slots 1 1 0 none) (me.0, cs)))
      (sym turned.3) hands_so
    where
      pair_of : C × R → Option (C × R) → C × R
      pair_of p (Some q) = q
      pair_of p None = p

      hands_so : Allows Rule slots id (me.0, (0, Some turned.1) ∷ []) 1 (λ n. (n + 1) % 2 ^ 64)
          (HandsOn told (step slots 1 1 0 none) (me.0, (0, Some turned.1) ∷ []))
      hands_so s r _ here _ = (
        with_seen Idle (me.0.seen ++ entry me.0.number c a ∷ []) me.0,
        gives,
        tt,
        stepped-handed_on s r id turned.0 me.0 turned.1 c a here turned.2 turned.4,
        λ c' a' e.
            let same : (c, a) ≡ (c', a') = ap (pair_of (c, a)) (sym is ∙ e) in
            λ i. (with_seen Idle (me.0.seen ++ entry me.0.number (same i).0 (same i).1 ∷ []) me.0, []),
      )
