-- The steps of `Shape` find the action that `Says` says a value to be, and no other.
use Rattle.std.proofs.Common.{◌≡◌, ℕ, zero, suc, ◌<◌, Ok, refl, arith, sym}
use Rattle.std.specs.Prelude.{codes}
use Rattle.std.specs.declared.option.Option.TheVariants.{Some}
use Rattle.serde_json.specs.Data.{Data}
use Rattle.serde_json.specs.Find.{get, as_object}
use Rattle.hb_json.specs.Values.{whole}
use Rattle.hb_rules.specs.declared.acts.Clue.TheVariants as clue
use Rattle.hb_replay.specs.declared.place.Place.{Place}
use Rattle.hb_replay.specs.declared.place.Part.TheVariants as part
use Rattle.hb_replay.specs.declared.place.PlaceField.TheVariants as field
use Rattle.hb_replay.specs.declared.written.WrittenAction.{WrittenAction}
use Rattle.hb_replay.specs.declared.written.WrittenAction.TheVariants as written
use Rattle.hb_rules.specs.Numbers.{end_of, end_number}
use Rattle.hb_replay.specs.Places.{member_place, field_place}
use Rattle.hb_json.specs.Results.{found_or}
use Rattle.hb_replay.specs.Shape.{number_at, action_of_kind, action_at}
use Rattle.hb_replay.specs.Says.{HasByte, IsAction}
use Rattle.hb_replay.proofs.Found.{same-ok, bind-ok, found_or-ok}
use Rattle.hb_replay.proofs.ValueKinds.{object-there, number-to, number-from}
use Rattle.hb_replay.proofs.EndNumbers.{end-to, end-from}

-- an action that is said is found
pub action-to : (k : ℕ) (d : Data) (a : WrittenAction) → IsAction d a → action_at k d ≡ Ok a
action-to k d (written.Play order) h =
    let there = object-there (codes "type") d (whole 0) h.0.0 in
    rw (
      there.1,
      number-to (field_place part.Actions k field.Kind) 5 (codes "type") d 0 h.0.0 (omega arith),
      number-to (field_place part.Actions k field.Target) 256 (codes "target") d order h.1.0 h.1.1,
    ) refl
action-to k d (written.Discard order) h =
    let there = object-there (codes "type") d (whole 1) h.0.0 in
    rw (
      there.1,
      number-to (field_place part.Actions k field.Kind) 5 (codes "type") d 1 h.0.0 (omega arith),
      number-to (field_place part.Actions k field.Target) 256 (codes "target") d order h.1.0 h.1.1,
    ) refl
action-to k d (written.Clue to (clue.Color c)) h =
    let there = object-there (codes "type") d (whole 2) h.0.0 in
    rw (
      there.1,
      number-to (field_place part.Actions k field.Kind) 5 (codes "type") d 2 h.0.0 (omega arith),
      number-to (field_place part.Actions k field.Target) 256 (codes "target") d to h.1.0 h.1.1,
      number-to (field_place part.Actions k field.Value) 256 (codes "value") d c h.2.0 h.2.1,
    ) refl
action-to k d (written.Clue to (clue.Rank r)) h =
    let there = object-there (codes "type") d (whole 3) h.0.0 in
    rw (
      there.1,
      number-to (field_place part.Actions k field.Kind) 5 (codes "type") d 3 h.0.0 (omega arith),
      number-to (field_place part.Actions k field.Target) 256 (codes "target") d to h.1.0 h.1.1,
      number-to (field_place part.Actions k field.Value) 256 (codes "value") d r h.2.0 h.2.1,
    ) refl
action-to k d (written.End who how) h =
    let there = object-there (codes "type") d (whole 4) h.0.0 in
    rw (
      there.1,
      number-to (field_place part.Actions k field.Kind) 5 (codes "type") d 4 h.0.0 (omega arith),
      number-to (field_place part.Actions k field.Target) 256 (codes "target") d who h.1.0 h.1.1,
      number-to (field_place part.Actions k field.Value) 256 (codes "value") d (end_number how) h.2.0 h.2.1,
      end-to how,
    ) refl

of-kind : (place : Place) (kind target : ℕ) (d : Data) (a : WrittenAction) → kind < 5 → get (codes "type") d ≡ Some (whole kind)
    → HasByte (codes "target") d target → action_of_kind place kind target d ≡ Ok a → IsAction d a
of-kind place zero target d a low there t h = let e : a ≡ written.Play target =
    sym (same-ok (written.Play target) a h) in rw e ((there, omega arith), t)
of-kind place (suc zero) target d a low there t h = let e : a ≡ written.Discard target =
    sym (same-ok (written.Discard target) a h) in rw e ((there, omega arith), t)
of-kind place (suc (suc zero)) target d a low there t h =
    bind-ok (number_at place 256 (codes "value") d) _ a h (λ value said h1.
    let e : a ≡ written.Clue target (clue.Color value) = sym (same-ok (written.Clue target (clue.Color value)) a h1) in
    rw e ((there, omega arith), t, number-from place 256 (codes "value") d value said))
of-kind place (suc (suc (suc zero))) target d a low there t h =
    bind-ok (number_at place 256 (codes "value") d) _ a h (λ value said h1.
    let e : a ≡ written.Clue target (clue.Rank value) = sym (same-ok (written.Clue target (clue.Rank value)) a h1) in
    rw e ((there, omega arith), t, number-from place 256 (codes "value") d value said))
of-kind place (suc (suc (suc (suc zero)))) target d a low there t h =
    bind-ok (number_at place 256 (codes "value") d) _ a h (λ value said h1.
    bind-ok (found_or place (end_of value)) _ a h1 (λ how named h2.
    let e : a ≡ written.End target how = sym (same-ok (written.End target how) a h2) in
    let n : value ≡ end_number how = end-from value how (found_or-ok place (end_of value) how named) in
    rw e ((there, omega arith), t, rw (sym n) (number-from place 256 (codes "value") d value said))))
of-kind place (suc (suc (suc (suc (suc n))))) target d a low there t h = absurd (omega arith)

-- an action that is found is said
pub action-from : (k : ℕ) (d : Data) (a : WrittenAction) → action_at k d ≡ Ok a → IsAction d a
action-from k d a h =
    bind-ok (found_or (member_place part.Actions k) (as_object d)) _ a h (λ ms there h0.
    bind-ok (number_at (field_place part.Actions k field.Kind) 5 (codes "type") d) _ a h0 (λ kind kind_there h1.
    bind-ok (number_at (field_place part.Actions k field.Target) 256 (codes "target") d) _ a h1 (λ target target_there h2.
    let n = number-from (field_place part.Actions k field.Kind) 5 (codes "type") d kind kind_there in
    let t = number-from (field_place part.Actions k field.Target) 256 (codes "target") d target target_there in
    of-kind (field_place part.Actions k field.Value) kind target d a n.1 n.0 t h2)))
