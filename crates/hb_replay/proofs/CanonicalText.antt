-- A replay's value holds no float and nests little: its text is exact, and reads back.
use Rattle.std.proofs.Common.{◌≡◌, ℕ, ◌≤◌, List, Ok, Some, false, refl, arith, sym, ap, subst, ◌∙◌}
use Rattle.std.specs.Prelude.{codes, not, ◌==◌, length, reverse, IsUtf8}
use Rattle.serde_json.specs.Read.{read}
use Rattle.serde_json.specs.Data.{Data, no_members, depth}
use Rattle.serde_json.specs.Written.{has_float, compact_text}
use Rattle.hb_json.specs.Values.{texts_data, options_data}
use Rattle.hb_json.proofs.IsPlain.{IsPlain, ArePlain-put, ArePlain-put_if, ArePlain-no_members, IsPlain-array, IsPlain-object, IsPlain_deeper, IsPlain-texts_data, IsPlain-options_data, IsPlain-action_data}
use Rattle.hb_rules.specs.declared.suits.Identity.{Identity}
use Rattle.hb_replay.specs.Contents.{Contents, IsReplay}
use Rattle.hb_replay.specs.ReplayReading.{ReadsAs, IsReading}
use Rattle.hb_replay.specs.Canonical.{card_data, act_data, cards_data, acts_data, notes_data, replay_data, canonical_text}
use Rattle.hb_replay.proofs.ReplayData.{replay-back}

plain-card : (id : Identity) → IsPlain 1 (card_data id)
plain-card id = record { exact = refl; low = omega arith }

plain-replay : (r : Contents) → IsPlain 3 (replay_data r)
unfolding replay_data
plain-replay r = IsPlain-object 2 _
    (ArePlain-put_if 2 (not (length r.notes == 0)) (codes "notes") (notes_data r.notes) _
    (IsPlain-array texts_data 1 IsPlain-texts_data r.notes)
    (ArePlain-put 2 (codes "players") (texts_data r.players) _ (IsPlain_deeper 1 2 _ (omega arith) (IsPlain-texts_data r.players))
    (ArePlain-put 2 (codes "options") (options_data r.name r.game.setup.options) _
    (IsPlain_deeper 1 2 _ (omega arith) (IsPlain-options_data r.name r.game.setup.options))
    (ArePlain-put 2 (codes "deck") (cards_data r.game.setup.deck.items) _ (IsPlain-array card_data 1 plain-card r.game.setup.deck.items)
    (ArePlain-put 2 (codes "actions") (acts_data (reverse r.game.past)) no_members (IsPlain-array act_data 1
    (λ act. IsPlain-action_data act.who act.action) (reverse r.game.past)) (ArePlain-no_members 2))))))

-- the bytes that are written for the value are the canonical text
pub canonical_text-is : (r : Contents) (d : Data) (bytes out : List ℕ) → d ≡ replay_data r → (has_float d ≡ false → bytes ≡ compact_text d)
    → out ≡ bytes → out ≡ canonical_text r
canonical_text-is r d bytes out e text o =
    let exact : has_float d ≡ false = rw e ((plain-replay r).exact) in o ∙ (text exact ∙ ap compact_text e)

-- and are read as the replay
pub reads-back : (r : Contents) (d : Data) (bytes out : List ℕ) → IsReplay r → d ≡ replay_data r → IsUtf8 bytes
    → (depth d ≤ 127 → read bytes ≡ Some d) → out ≡ bytes → IsReading out (Ok r)
reads-back r d bytes out h e utf8 back o =
    let low : depth (replay_data r) ≤ 127 = omega (arith, (plain-replay r).low) in
    let low' : depth d ≤ 127 = rw e low in
    let P : List ℕ → Type 0 = λ x. ReadsAs x (replay_data r) in
    (replay_data r, subst P (sym o) (utf8, back low' ∙ ap Some e), replay-back r h)
