-- The rule of a turnstile holds at the start, and stays where a pass only has a new view.
use Rattle.std.proofs.Common.{◌≡◌, ℕ, zero, suc, ◌≤◌, false, true≢false, List, [], ◌∷◌, get_or, set, Option, Some, refl, ap, sym, subst, arith, length-set}
use mathlib.Core.Option.{some, some-injective, some-ne-none}
use lib.ListN.{get_elem?}
use lib.Seq.{set-get_or}
use Rattle.atomic_table.specs.Table.{State, keeps, stepped, opening}
use Rattle.hb_turnstile.specs.declared.view.View.{View}
use Rattle.hb_turnstile.specs.Rule.{first_view, Now, Fits, IsConsistent}
use Rattle.hb_turnstile.proofs.Histories.{prefix_none}
use Rattle.hb_turnstile.proofs.ItemLemmas.{seats_stay}

module _ {M C R : Type 0} (turns : M → C → R → M → Type 0) (start : M) where
  -- the rule of the turnstile
  abbrev Rule : State (Option M) (View C R) → Type 0
  Rule = IsConsistent turns start

  -- word 0 is the ticket that is given next
  pub ticket_word : (s : State (Option M) (View C R)) (r : Rule s) → get_or s.words 0 0 ≡ r.now.ticket
  ticket_word s r = ap (λ ws. get_or ws 0 0) r.words

  -- word 1 is the ticket that is served
  pub serving_word : (s : State (Option M) (View C R)) (r : Rule s) → get_or s.words 1 0 ≡ r.now.serving
  serving_word s r = ap (λ ws. get_or ws 1 0) r.words

  -- one seat has a new view, and nothing else changes
  pub rule-revised : (s : State (Option M) (View C R)) (r : Rule s) (id : ℕ) (w : View C R) → Fits r.now id w
      → Rule record s { views = set s.views id w }
  rule-revised s r id w fits = record {
    now = r.now;
    words = r.words;
    one_slot = r.one_slot;
    machine = r.machine;
    counted = r.counted;
    ordered = r.ordered;
    drawn = r.drawn;
    limited = r.limited;
    legal = r.legal;
    seats = seats_stay (Fits r.now) s.views id w fits (λ j v _. r.seats j v);
    others = λ j l. r.others j (subst (λ (n : ℕ). n ≤ j) (length-set s.views id w) l);
  }

  -- the same at a load
  pub stepped-loaded : (s : State (Option M) (View C R)) (r : Rule s) (i id : ℕ) (cs : List (ℕ × Option M)) (w : View C R) → Fits r.now id w
      → Rule (stepped s i (get_or s.words i 0) id cs w keeps)
  stepped-loaded s r i id cs w fits =
      subst (λ (ws : List ℕ). Rule record { words = ws; homes = s.homes; views = set s.views id w })
      (sym (set-get_or s.words i 0)) (rule-revised s r id w fits)

  abbrev first_now : Now C R
  first_now = record { ticket = 0; serving = 0; history = []; busy = false; inside = 0; holder = λ _. 0 }

  -- the table at the start
  pub opening-rule : Rule (opening (0 ∷ 0 ∷ []) (Some start ∷ []) first_view)
  opening-rule = record {
    now = first_now;
    words = refl;
    one_slot = refl;
    machine = λ _. (start, refl, refl);
    counted = refl;
    ordered = omega arith;
    drawn = λ b. absurd (true≢false (sym b));
    limited = omega arith;
    legal = (start, refl);
    seats = first;
    others = λ j _. refl;
  }
    where
      first : (j : ℕ) (v : View C R) → get_elem? (first_view ∷ []) j ≡ some v → Fits first_now j v
      first zero v e =
          subst (Fits first_now 0) (some-injective _ _ e)
          record {
            seen = prefix_none [];
            joined = prefix_none [];
            worn = λ b. absurd (true≢false (sym b));
            stage = (refl, refl);
          }
      first (suc j) v e = absurd (some-ne-none v (sym e))
