-- A draw of a ticket, and the load before it, keep the rule of a turnstile and tell the pass what they are said to
-- tell.
use Rattle.std.proofs.Common.{◌≡◌, ℕ, ◌+◌, ◌<◌, ◌≤◌, eqb, cond, List, get_or, set, Option, refl, ap, sym, ◌∙◌, subst, arith, length-set, eq-eqb, ne_eqb}
use mathlib.Core.Option.{some, none}
use mathlib.Core.Logic.{dite}
use native.Mathlib.Decide.{dec_le, ℕ_discrete}
use lib.ListN.{get_elem?}
use prog.Atomic.{either}
use Rattle.atomic_table.specs.Table.{State, step, keeps, stepped, Allows}
use Rattle.hb_turnstile.specs.declared.turnstile.TheConstants.{MOST_TICKETS}
use Rattle.hb_turnstile.specs.declared.view.Entry.{Entry}
use Rattle.hb_turnstile.specs.declared.view.Stage.{Stage}
use Rattle.hb_turnstile.specs.declared.view.Stage.TheVariants.{Spent, New, Idle, Waiting, Inside}
use Rattle.hb_turnstile.specs.declared.view.View.{View}
use Rattle.hb_turnstile.specs.Rule.{PassSeat, at_stage, marked, Now, SeesOwn, FitsStage, Fits, IsConsistent, SeesTicket, Draws}
use Rattle.hb_turnstile.proofs.ItemLemmas.{seats_stay}
use Rattle.hb_turnstile.proofs.IsConsistentLemmas.{ticket_word, stepped-loaded}

module _ {M C R : Type 0} (turns : M → C → R → M → Type 0) (start : M) where
  -- the rule of the turnstile
  abbrev Rule : State (Option M) (View C R) → Type 0
  Rule = IsConsistent turns start

  -- a load of the ticket word
  pub load_ticket-allowed : (slots id : ℕ) (me : PassSeat M C R)
      → Allows Rule slots id me 0 (λ n. n) (SeesTicket (step slots 0 0 0 none) me)
  load_ticket-allowed slots id me s r _ here _ =
      let v = me.0 in
      let fits = r.seats id v here in
      let is = ticket_word turns start s r in
      let limited = r.limited in
      dite (dec_le MOST_TICKETS (get_or s.words 0 0))
      (λ all. (
        marked v,
        keeps,
        tt,
        stepped-loaded turns start s r 0 id me.1 (marked v)
            record { seen = fits.seen; joined = fits.joined; worn = λ _. omega arith; stage = fits.stage },
        ((λ _. refl), (λ less. absurd (omega arith)), (λ _. all)),
      ))
      (λ not_all. (
        v,
        keeps,
        tt,
        stepped-loaded turns start s r 0 id me.1 v fits,
        ((λ all. absurd (not_all all)), (λ _. refl), (λ worn. let e = fits.worn worn in omega arith)),
      ))

  -- What stands after a draw, and that what holds of another seat stays so
  abbrev drawn_now : Now C R → ℕ → ℕ → Now C R
  drawn_now n id new = record n { ticket = new; holder = λ x. cond (eqb x n.ticket) id (n.holder x) }

  draw_others : (n : Now C R) (id new j number : ℕ) (seen : List (Entry C R)) → n.ticket < new → (st : Stage)
      → FitsStage n j number seen st → FitsStage (drawn_now n id new) j number seen st
  draw_others n id new j number seen up Spent k = tt
  draw_others n id new j number seen up New k = k
  draw_others n id new j number seen up Idle k = k
  draw_others n id new j number seen up (Waiting t) k = let low : t < n.ticket = k.2 in
      (k.0, k.1, omega arith, ap (λ b. cond b id (n.holder t)) (ne_eqb t n.ticket (λ e. omega arith)) ∙ k.3, k.4)
  draw_others n id new j number seen up (Inside t) k = k

  stepped-drawn : (s : State (Option M) (View C R)) (r : Rule s) (id new : ℕ) (cs : List (ℕ × Option M)) (v : View C R)
      → get_elem? s.views id ≡ some v → v.stage ≡ Idle → r.now.ticket < MOST_TICKETS → new ≡ r.now.ticket + 1
      → Rule (stepped s 0 new id cs (at_stage (Waiting (get_or s.words 0 0)) v) keeps)
  stepped-drawn s r id new cs v here idle few up =
      let n = drawn_now r.now id new in
      let fits = r.seats id v here in
      let own : SeesOwn r.now id v.number v.seen = subst (FitsStage r.now id v.number v.seen) idle fits.stage in
      let w = at_stage (Waiting (get_or s.words 0 0)) v in
      let is = ticket_word turns start s r in
      let low = r.ordered in record {
        now = n;
        words = ap (λ ws. set ws 0 new) r.words;
        one_slot = r.one_slot;
        machine = r.machine;
        counted = r.counted;
        ordered = omega arith;
        drawn = λ b. let lt = r.drawn b in omega arith;
        limited = omega arith;
        legal = r.legal;
        seats = seats_stay (Fits n) s.views id w
            record {
              seen = fits.seen;
              joined = fits.joined;
              worn = λ worn. let e = fits.worn worn in absurd (omega arith);
              stage = (
                own,
                omega arith,
                omega arith,
                ap (λ b. cond b id (r.now.holder (get_or s.words 0 0))) (eq-eqb (get_or s.words 0 0) r.now.ticket is),
                λ b e. let lt = r.drawn b in omega arith,
              );
            }
            (λ j u other e. let f = r.seats j u e in
            record {
              seen = f.seen;
              joined = f.joined;
              worn = λ worn. let e = f.worn worn in absurd (omega arith);
              stage = draw_others r.now id new j u.number u.seen (omega arith) u.stage f.stage;
            });
        others = λ j l. r.others j (subst (λ (k : ℕ). k ≤ j) (length-set s.views id w) l);
      }

  -- a draw
  pub draw-allowed : (slots id old new : ℕ) (me : PassSeat M C R) → old < MOST_TICKETS → new ≡ old + 1 → me.0.stage ≡ Idle
      → Allows Rule slots id me 0 (λ x. either (eqb x old) new x) (Draws (step slots 0 old new none) me)
  draw-allowed slots id old new me small up idle s r _ here _ =
      let v = me.0 in
      let x = get_or s.words 0 0 in
      let is = ticket_word turns start s r in
      dite (ℕ_discrete x old)
      (λ hit. (
        at_stage (Waiting x) v,
        keeps,
        tt,
        subst (λ b. Rule (stepped s 0 (either b new x) id me.1 (at_stage (Waiting x) v) keeps))
            (sym (eq-eqb x old hit)) (stepped-drawn s r id new me.1 v here idle (omega arith) (omega arith)),
        ((λ _. refl), (λ miss. absurd (miss hit))),
      ))
      (λ miss. (
        v,
        keeps,
        tt,
        subst (λ b. Rule (stepped s 0 (either b new x) id me.1 v keeps)) (sym (ne_eqb x old miss))
            (stepped-loaded turns start s r 0 id me.1 v (r.seats id v here)),
        ((λ hit. absurd (miss hit)), (λ _. refl)),
      ))
