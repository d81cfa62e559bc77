-- Internal: no public clause cites this.
-- What does a notebook keep of the notes that were set?
use Rattle.std.specs.Prelude.{◌≡◌, ◌↔◌, ℕ, Bool, ◌&&◌, ◌==◌, List, [], bytes_eq, unwrap_or}
use Rattle.std.specs.HashMap as hash
use Rattle.hb_club.specs.ClerkCalls.{text_at}
use Rattle.hb_playing.specs.declared.notes.Notebook.TheInside.{Inside}
use Rattle.hb_playing.specs.HeldNotes.{HeldNotes}

-- the keys are the same: the name and the order
abbrev pub key_eq : List ℕ × ℕ → List ℕ × ℕ → Bool
key_eq a b = bytes_eq a.0 b.0 && a.1 == b.1

-- the notes, and for how many more texts there is room
abbrev pub held : Inside → HeldNotes
held b = record { notes = b.notes; spare = hash.spare b.texts }

-- the texts are the newest ones, and there is none only if no note was set
pub record IsNotebook (b : Inside) : Type 0 where
  pub texts : (name : List ℕ) (order : ℕ)
      → unwrap_or (hash.get key_eq b.texts (name, order)) [] ≡ text_at name order b.notes
  pub none : (hash.hash_map_len b.texts ≡ 0) ↔ (b.notes ≡ [])
