use Rattle.std.proofs.Common.{◌∙◌, ◌<◌, ℕ, List, ap, subst, sym}
use Rattle.std.specs.Prelude.{[], unwrap_or}
use Rattle.std.specs.HashMap as hash
use Rattle.hb_club.specs.ClerkCalls.{text_at}
use Rattle.hb_playing.specs.HeldNotes.{HeldNotes}
use Rattle.hb_playing.specs.Notes.{key_eq}
use Rattle.hb_playing.proofs.NotesLemmas.{cons-some, get-some, on_ok, text_at-set}
use Rattle.hb_playing.proofs.notes.Notebook.set.Goals as goal

pub invariant_of-self : goal.invariant_of-self
invariant_of-self c =
    let b = c.self.inside in let key : List ℕ × ℕ = (c.args.name.now, c.args.order) in
    let room : 0 < hash.spare b.texts = subst (λ (h : HeldNotes). 0 < h.spare) (sym c.self.view_is) c.requires in
    let updates = on_ok c.insert.result (c.insert.ensures.succeeds room) c.insert.ensures.updates in
    record {
      texts = λ name order. ap (λ o. unwrap_or o []) (updates.0 (name, order))
          ∙ text_at-set c.args.name.now name c.args.order order c.args.text (hash.get key_eq b.texts (name, order)) b.notes
          (c.self.invariant.texts name order)
          ∙ ap (λ notes. text_at name order notes) (sym c.add.ensures);
      none = (
        λ zero. absurd (get-some key_eq c.insert.new.self key c.args.text updates.1 zero),
        λ nil. absurd (cons-some c.add.new.self b.notes _ c.add.ensures nil),
      );
    }
