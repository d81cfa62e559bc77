-- What passes are split and joined by keeps the rule of a turnstile, and tells them what it is said to tell.
use Rattle.std.proofs.Common.{◌≡◌, ℕ, true≢false, List, [], ◌∷◌, ◌++◌, length, set, Option, Some, refl, sym, ◌∙◌, subst, ⊎_elim, arith, length-append}
use mathlib.Core.Option.{some, none}
use mathlib.Core.List.{IsPrefix}
use lib.ListN.{get_elem?}
use Rattle.atomic_table.specs.Table.{State, step, keeps, Allows, Splits, Joins}
use Rattle.atomic_table.proofs.Lists.{set_again, set_else}
use Rattle.hb_turnstile.specs.declared.view.Stage.TheVariants.{New, Idle}
use Rattle.hb_turnstile.specs.declared.view.View.{View}
use Rattle.hb_turnstile.specs.History.{calls_by, IsLegal}
use Rattle.hb_turnstile.specs.Known.{longer}
use Rattle.hb_turnstile.specs.Rule.{PassSeat, spent, newcomer, with_number, informed, met, SeesOwn, FitsStage, Fits, IsConsistent, SeesJoined, TakesNumber}
use Rattle.hb_turnstile.proofs.Histories.{prefix_self, prefix_none, prefix_shorter, longer_is, none_before, own_between, legal-prefix}
use Rattle.hb_turnstile.proofs.ItemLemmas.{at_end, there_below}
use Rattle.hb_turnstile.proofs.IsConsistentLemmas.{rule-revised, stepped-loaded}

module _ {M C R : Type 0} (turns : M → C → R → M → Type 0) (start : M) where
  -- the rule of the turnstile
  abbrev Rule : State (Option M) (View C R) → Type 0
  Rule = IsConsistent turns start

  -- a new pass gets its number, which is that of its seat
  pub take_number-allowed : (slots id : ℕ) (me : PassSeat M C R) → me.0.stage ≡ New
      → Allows Rule slots id me 0 (λ n. n) (TakesNumber (step slots 0 0 0 none) me)
  take_number-allowed slots id me new s r _ here _ =
      let v = me.0 in
      let fits = r.seats id v here in
      let known : FitsStage r.now id v.number v.seen New = subst (FitsStage r.now id v.number v.seen) new fits.stage in
      let none_seen = none_before id v.seen r.now.history fits.seen known.1 in (
        with_number id v,
        keeps,
        tt,
        stepped-loaded turns start s r 0 id me.1 (with_number id v)
            record {
              seen = fits.seen;
              joined = fits.joined;
              worn = fits.worn;
              stage = (refl, known.1 ∙ sym none_seen);
            },
        (id, refl, (λ e. known.0 (sym e)), none_seen),
      )

  -- the load after a join
  pub see_joined-allowed : (slots id : ℕ) (me : PassSeat M C R) (told : Option M) → told ≡ Some start → me.0.stage ≡ Idle
      → Allows Rule slots id me 0 (λ n. n) (SeesJoined turns told (step slots 0 0 0 none) me)
  see_joined-allowed slots id me told began idle s r _ here _ =
      let v = me.0 in
      let fits = r.seats id v here in
      let own : SeesOwn r.now id v.number v.seen = subst (FitsStage r.now id v.number v.seen) idle fits.stage in
      let long = longer v.seen v.joined in
      let begins : IsPrefix long r.now.history =
      longer_is (λ l. IsPrefix l r.now.history) v.seen v.joined (λ _. fits.joined) (λ _. fits.seen) in
      let one : IsPrefix v.seen long =
      longer_is (λ l. IsPrefix v.seen l) v.seen v.joined
      (λ lt. prefix_shorter v.seen v.joined r.now.history fits.seen fits.joined (omega arith))
      (λ _. prefix_self v.seen) in
      let two : IsPrefix v.joined long =
      longer_is (λ l. IsPrefix v.joined l) v.seen v.joined (λ _. prefix_self v.joined)
      (λ le. prefix_shorter v.joined v.seen r.now.history fits.joined fits.seen le) in
      let same : calls_by id long ≡ calls_by id v.seen = own_between id v.seen long r.now.history one begins own.1 in (
        met v,
        keeps,
        tt,
        stepped-loaded turns start s r 0 id me.1 (met v) record {
          seen = begins;
          joined = prefix_none r.now.history;
          worn = fits.worn;
          stage = subst (FitsStage r.now id v.number long) (sym idle) (own.0, own.1 ∙ sym same);
        },
        λ first e.
            let starts : start ≡ first = cc (began, e) in (
              refl,
              one,
              two,
              legal-prefix turns first long r.now.history begins (subst (λ k. IsLegal turns k r.now.history) starts r.legal),
              subst (λ k. calls_by k long ≡ calls_by k v.seen) (sym own.0) same,
            ),
      )

  -- a pass is split off
  pub split-allowed : (id : ℕ) (v : View C R) → v.stage ≡ Idle → Splits Rule id v v (newcomer v)
  split-allowed id v idle s r here =
      let fits = r.seats id v here in
      let own : SeesOwn r.now id v.number v.seen = subst (FitsStage r.now id v.number v.seen) idle fits.stage in
      let below = there_below s.views id v here in
      let again : set s.views id v ≡ s.views = set_again s.views id v here in
      subst (λ (vs : List (View C R)). Rule record { words = s.words; homes = s.homes; views = vs ++ newcomer v ∷ [] }) (sym again) record {
        now = r.now;
        words = r.words;
        one_slot = r.one_slot;
        machine = r.machine;
        counted = r.counted;
        ordered = r.ordered;
        drawn = r.drawn;
        limited = r.limited;
        legal = r.legal;
        seats = λ j u e. ⊎_elim (r.seats j u)
            (λ (t : (j ≡ length s.views) × (newcomer v ≡ u)). subst (Fits r.now j) t.1 record {
              seen = fits.seen;
              joined = prefix_none r.now.history;
              worn = fits.worn;
              stage = ((λ e. omega (arith, e, own.0, t.0)), r.others j (omega (arith, t.0)));
            })
            (at_end s.views (newcomer v) u j e);
        others = λ j l. r.others j (omega (arith, length-append s.views (newcomer v ∷ [])));
      }

  -- a pass is joined into another
  pub join-allowed : (id : ℕ) (v : View C R) (other : ℕ) (w : View C R) → Joins Rule id v other w (informed v w) spent
  join-allowed id v other w s r here apart there =
      let fits = r.seats id v here in
      let at_other : get_elem? s.views other ≡ some w = sym (set_else s.views id other (informed v w) apart) ∙ there in
      let theirs = r.seats other w at_other in
      let mine =
      rule-revised turns start s r id (informed v w)
      record { seen = fits.seen; joined = theirs.seen; worn = fits.worn; stage = fits.stage } in
      rule-revised turns start record s { views = set s.views id (informed v w) } mine other spent
      record {
        seen = prefix_none mine.now.history;
        joined = prefix_none mine.now.history;
        worn = λ b. absurd (true≢false (sym b));
        stage = tt;
      }
