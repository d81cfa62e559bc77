-- What a call tells, put together of what its steps tell.
use Rattle.std.proofs.Common.{◌≡◌, ℕ, List, [], ◌∷◌, ◌++◌, Option, ap, sym, ◌∙◌, subst, append-nil}
use Rattle.atomic_table.specs.Table.{Me, rest}
use Rattle.atomic_table.specs.Seated.{TableId}
use Rattle.hb_turnstile.specs.declared.view.Stage.TheVariants.{Idle, Waiting, Inside}
use Rattle.hb_turnstile.specs.declared.view.View.{View}
use Rattle.hb_turnstile.specs.History.{entry, calls_by, IsLegal}
use Rattle.hb_turnstile.specs.Known.{Known, Calls}
use Rattle.hb_turnstile.specs.Rule.{ticket_of, known_of, at_stage, with_seen, Finds}
use Rattle.hb_turnstile.proofs.Histories.{calls_by-append, calls_by-own}

module _ {M C R : Type 0} (turns : M → C → R → M → Type 0) (start : M) where
  -- a ticket was drawn, its turn was found, and the call was handed on
  pub call-is : (first : M) (table table' : TableId) (v : View C R) (t : ℕ) (m m' : Me (Option M) (View C R))
      (c : C) (r : R) (w : View C R) (k : Known C R)
      → start ≡ first → table' ≡ table → known_of table v ≡ k → m ≡ (at_stage (Waiting t) v, []) → Finds turns start m m'
      → IsLegal turns start w.seen → w ≡ with_seen Idle (m'.0.seen ++ entry m'.0.number c r ∷ []) m'.0
      → Calls turns first k c r (known_of table' w)
  call-is first table table' v t m m' c r w k began same is drew found legal handed =
      let others = found.0 in
      let e = entry v.number c r in
      let view : m.0 ≡ at_stage (Waiting t) v = ap (λ (x : Me (Option M) (View C R)). x.0) drew in
      let second : m'.0 ≡ with_seen (Inside (ticket_of m.0.stage)) (m.0.seen ++ others) m.0 =
      ap (λ (x : Me (Option M) (View C R)). x.0) found.2 in
      let third : m'.0 ≡ with_seen (Inside t) (v.seen ++ others) v =
      second ∙ ap (λ (x : View C R). with_seen (Inside (ticket_of x.stage)) (x.seen ++ others) x) view in
      let last : w ≡ with_seen Idle ((v.seen ++ others) ++ e ∷ []) v =
      handed ∙ ap (λ (x : View C R). with_seen Idle (x.seen ++ entry x.number c r ∷ []) x) third in
      let none : calls_by v.number others ≡ [] = subst (λ (x : View C R). calls_by x.number others ≡ []) view found.3 in
      let own : calls_by v.number (v.seen ++ others) ≡ calls_by v.number v.seen =
      calls_by-append v.number v.seen others
      ∙ (ap (λ l. calls_by v.number v.seen ++ l) none ∙ append-nil (calls_by v.number v.seen)) in
      subst (λ x. Calls turns first x c r (known_of table' w)) is (
        (others, λ i. known_of (same i) (last i)),
        subst (λ m. IsLegal turns m w.seen) began legal,
        ap (λ (x : View C R). calls_by x.number x.seen) last
            ∙ (calls_by-append v.number (v.seen ++ others) (e ∷ []) ∙ λ i. own i ++ calls_by-own v.number c r i),
      )

-- the one slot that a seat has, as the first of its slots
pub only_slot : {A : Type 0} (cs : List (ℕ × A)) (x : A) → cs ≡ (0, x) ∷ [] → cs ≡ (0, x) ∷ rest cs
only_slot cs x e = e ∙ ap (λ l. (0, x) ∷ l) (sym (ap rest e))
