-- The steps of `Shape` find what `Says` says, and nothing else.
use Rattle.std.proofs.Common.{◌≡◌, ℕ, ◌+◌, List, [], ◌∷◌, Result, Ok, Bool, true, false, refl, arith, sym, inl, inr}
use Rattle.std.specs.Prelude.{◌&&◌, not, codes}
use Rattle.std.proofs.lemmas.Bool.{and_parts}
use Rattle.std.specs.declared.option.Option.{Option}
use Rattle.std.specs.declared.option.Option.TheVariants.{None, Some}
use Rattle.serde_json.specs.Data.{Data, null, boolean, number, string, array, object, Items, no_items, item, Members, no_members, member}
use Rattle.serde_json.specs.Find.{get, as_str, as_bool, as_array, as_object}
use Rattle.hb_json.specs.Values.{whole}
use Rattle.hb_rules.specs.declared.suits.Identity.{Identity}
use Rattle.hb_replay.specs.declared.place.Place.{Place}
use Rattle.hb_replay.specs.declared.place.Part.TheVariants as part
use Rattle.hb_replay.specs.declared.place.PlaceField.TheVariants as field
use Rattle.hb_replay.specs.Places.{member_place, field_place, part_place, note_place}
use Rattle.hb_json.specs.Results.{◌>>=◌, found_or, absent_or}
use Rattle.hb_json.specs.OptionKey.{is_understood, is_true, first_other}
use Rattle.hb_json.specs.JsonReading.{present, whole_of}
use Rattle.hb_replay.specs.Shape.{each_at, list_at, number_at, player_at, card_at, note_at, note_list_at, note_lists_of, notes_of}
use Rattle.hb_replay.specs.Says.{IsText, IsWhole, IsFlag, Each, IsListOf, HasListOf, IsCard, IsOr, IsNote, IsNoteList, IsOther, IsFirstOther}
use Rattle.hb_replay.proofs.Found.{err-is_ok, same-ok, bind-ok, found_or-ok}
use Rattle.hb_replay.proofs.ValueKinds.{text-is, flag-is, list-is, whole-is, object-there, number-from, number-to}

-- lists
pub each-to : {X E : Type 0} (f : ℕ → Data → Result X E) (R : Data → X → Type 0) → ((k : ℕ) (d : Data) (x : X) → R d x → f k d ≡ Ok x)
    → (k : ℕ) (ds : Items) (xs : List X) → Each R ds xs → each_at f k ds ≡ Ok xs
each-to f R to k no_items [] h = refl
each-to f R to k no_items (x ∷ xs) h = absurd h
each-to f R to k (item d ds) [] h = absurd h
each-to f R to k (item d ds) (x ∷ xs) h = rw (to k d x h.0, each-to f R to (k + 1) ds xs h.1) refl

-- members that are found are these, one by one
pub each-from : {X E : Type 0} (f : ℕ → Data → Result X E) (R : Data → X → Type 0) → ((k : ℕ) (d : Data) (x : X) → f k d ≡ Ok x → R d x)
    → (k : ℕ) (ds : Items) (xs : List X) → each_at f k ds ≡ Ok xs → Each R ds xs
each-from f R back k no_items xs h = let e : xs ≡ [] = sym (same-ok [] xs h) in rw e tt
each-from f R back k (item d ds) xs h =
    bind-ok (f k d) _ xs h (λ y first h1.
    bind-ok (each_at f (k + 1) ds) _ xs h1 (λ ys rest h2.
    let e : xs ≡ y ∷ ys = sym (same-ok (y ∷ ys) xs h2) in
    rw e (back k d y first, each-from f R back (k + 1) ds ys rest)))

-- a list under a key is found
pub list-to : {X : Type 0} (f : ℕ → Data → Result X Place) (R : Data → X → Type 0) → ((k : ℕ) (d : Data) (x : X) → R d x → f k d ≡ Ok x)
    → (place : Place) (key : List ℕ) (d : Data) (xs : List X)
    → HasListOf R key d xs → (list_at place (get key d) >>= each_at f 0) ≡ Ok xs
list-to f R to place key d xs h = rw h.1 (each-to f R to 0 h.0 xs h.2)

-- a list that is found stands under the key
pub list-from : {X : Type 0} (f : ℕ → Data → Result X Place) (R : Data → X → Type 0)
    → ((k : ℕ) (d : Data) (x : X) → f k d ≡ Ok x → R d x) → (place : Place) (key : List ℕ) (d : Data) (xs : List X)
    → (list_at place (get key d) >>= each_at f 0) ≡ Ok xs → HasListOf R key d xs
list-from f R back place key d xs h = pick (get key d) refl
  where
    pick : (o : Option Data) → get key d ≡ o → HasListOf R key d xs
    pick None e = absurd (err-is_ok place xs (rw e at h))
    pick (Some v) e =
        bind-ok (found_or place (as_array v)) _ xs (rw e at h) (λ ds there h1.
        (ds, rw (e, list-is v ds (found_or-ok place (as_array v) ds there)) refl, each-from f R back 0 ds xs h1))

-- players
pub player-to : (k : ℕ) (d : Data) (s : List ℕ) → IsText d s → player_at k d ≡ Ok s
player-to k d s h = rw h refl

-- a name that is found is said
pub player-from : (k : ℕ) (d : Data) (s : List ℕ) → player_at k d ≡ Ok s → IsText d s
player-from k d s h = text-is d s (found_or-ok (member_place part.Players k) (as_str d) s h)

-- cards
pub card-to : (k : ℕ) (d : Data) (id : Identity) → IsCard d id → card_at k d ≡ Ok id
card-to k d id h =
    let there = object-there (codes "suitIndex") d (whole id.suit) h.0.0 in
    rw (
      there.1,
      number-to (field_place part.Deck k field.SuitIndex) 256 (codes "suitIndex") d id.suit h.0.0 h.0.1,
      number-to (field_place part.Deck k field.Rank) 256 (codes "rank") d id.rank h.1.0 h.1.1,
    ) refl

-- a card that is found is said
pub card-from : (k : ℕ) (d : Data) (id : Identity) → card_at k d ≡ Ok id → IsCard d id
card-from k d id h =
    bind-ok (found_or (member_place part.Deck k) (as_object d)) _ id h (λ ms there h0.
    bind-ok (number_at (field_place part.Deck k field.SuitIndex) 256 (codes "suitIndex") d) _ id h0 (λ suit suit_there h1.
    bind-ok (number_at (field_place part.Deck k field.Rank) 256 (codes "rank") d) _ id h1 (λ rank rank_there h2.
    let e : (let x : Identity = record { suit = suit; rank = rank } in id ≡ x) =
    sym (same-ok (record { suit = suit; rank = rank }) id h2) in
    rw e (
      number-from (field_place part.Deck k field.SuitIndex) 256 (codes "suitIndex") d suit suit_there,
      number-from (field_place part.Deck k field.Rank) 256 (codes "rank") d rank rank_there,
    ))))

-- what may be absent
pub or-to : {X E : Type 0} (default : X) (f : Data → Result X E) (R : Data → X → Type 0) → ((d : Data) (x : X) → R d x → f d ≡ Ok x)
    → (o : Option Data) (x : X) → IsOr default R o x → absent_or default f o ≡ Ok x
or-to default f R to None x h = rw h refl
or-to default f R to (Some d) x h = to d x h

-- what is found, or the default, is said
pub or-from : {X E : Type 0} (default : X) (f : Data → Result X E) (R : Data → X → Type 0) → ((d : Data) (x : X) → f d ≡ Ok x → R d x)
    → (o : Option Data) (x : X) → absent_or default f o ≡ Ok x → IsOr default R o x
or-from default f R back None x h = sym (same-ok default x h)
or-from default f R back (Some d) x h = back d x h

-- a text is found
pub text-to : {E : Type 0} (place : E) (d : Data) (s : List ℕ) → IsText d s → found_or place (as_str d) ≡ Ok s
text-to place d s h = rw h refl

-- what is found is a text
pub text-from : {E : Type 0} (place : E) (d : Data) (s : List ℕ) → found_or place (as_str d) ≡ Ok s → IsText d s
text-from place d s h = text-is d s (found_or-ok place (as_str d) s h)

-- a whole number is found
pub whole-to : {E : Type 0} (place : E) (d : Data) (n : ℕ) → IsWhole d n → found_or place (whole_of d) ≡ Ok n
whole-to place d n h = rw h refl

-- what is found is a whole number
pub whole-from : {E : Type 0} (place : E) (d : Data) (n : ℕ) → found_or place (whole_of d) ≡ Ok n → IsWhole d n
whole-from place d n h = whole-is d n (found_or-ok place (whole_of d) n h)

-- true or false is found
pub flag-to : {E : Type 0} (place : E) (d : Data) (b : Bool) → IsFlag d b → found_or place (as_bool d) ≡ Ok b
flag-to place d b h = rw h refl

-- what is found is true or false
pub flag-from : {E : Type 0} (place : E) (d : Data) (b : Bool) → found_or place (as_bool d) ≡ Ok b → IsFlag d b
flag-from place d b h = flag-is d b (found_or-ok place (as_bool d) b h)

-- a list that is a value
is-list-to : {X : Type 0} (f : ℕ → Data → Result X Place) (R : Data → X → Type 0) → ((k : ℕ) (d : Data) (x : X) → R d x → f k d ≡ Ok x)
    → (place : Place) (d : Data) (xs : List X)
    → IsListOf R d xs → (found_or place (as_array d) >>= each_at f 0) ≡ Ok xs
is-list-to f R to place d xs h = rw h.1 (each-to f R to 0 h.0 xs h.2)

is-list-from : {X : Type 0} (f : ℕ → Data → Result X Place) (R : Data → X → Type 0)
    → ((k : ℕ) (d : Data) (x : X) → f k d ≡ Ok x → R d x) → (place : Place) (d : Data) (xs : List X)
    → (found_or place (as_array d) >>= each_at f 0) ≡ Ok xs → IsListOf R d xs
is-list-from f R back place d xs h =
    bind-ok (found_or place (as_array d)) _ xs h (λ ds there h1. (
      ds,
      list-is d ds (found_or-ok place (as_array d) ds there),
      each-from f R back 0 ds xs h1,
    ))

-- notes
note-to : (k j : ℕ) (d : Data) (s : List ℕ) → IsNote d s → note_at k j d ≡ Ok s
note-to k j d s h = or-to [] (λ v. found_or (note_place k j) (as_str v)) IsText (text-to (note_place k j)) (present (Some d)) s h

note-from : (k j : ℕ) (d : Data) (s : List ℕ) → note_at k j d ≡ Ok s → IsNote d s
note-from k j d s h = or-from [] (λ v. found_or (note_place k j) (as_str v)) IsText (text-from (note_place k j)) (present (Some d)) s h

note-list-to : (k : ℕ) (d : Data) (texts : List (List ℕ)) → IsNoteList d texts → note_list_at k d ≡ Ok texts
note-list-to k d texts h = or-to [] (λ v. found_or (member_place part.Notes k) (as_array v) >>= each_at (note_at k) 0) (IsListOf IsNote)
    (λ v xs. is-list-to (note_at k) IsNote (note-to k) (member_place part.Notes k) v xs) (present (Some d)) texts h

note-list-from : (k : ℕ) (d : Data) (texts : List (List ℕ)) → note_list_at k d ≡ Ok texts → IsNoteList d texts
note-list-from k d texts h = or-from []
    (λ v. found_or (member_place part.Notes k) (as_array v) >>= each_at (note_at k) 0) (IsListOf IsNote)
    (λ v xs. is-list-from (note_at k) IsNote (note-from k) (member_place part.Notes k) v xs) (present (Some d)) texts h

-- notes that are said are found
pub notes-to : (found : Option Data) (notes : List (List (List ℕ))) → IsOr [] (IsListOf IsNoteList) (present found) notes
    → notes_of found ≡ Ok notes
notes-to found notes h = or-to [] (λ v. found_or (part_place part.Notes) (as_array v) >>= note_lists_of) (IsListOf IsNoteList)
    (λ v xs. is-list-to note_list_at IsNoteList note-list-to (part_place part.Notes) v xs) (present found) notes h

-- notes that are found are said
pub notes-from : (found : Option Data) (notes : List (List (List ℕ))) → notes_of found ≡ Ok notes
    → IsOr [] (IsListOf IsNoteList) (present found) notes
notes-from found notes h = or-from [] (λ v. found_or (part_place part.Notes) (as_array v) >>= note_lists_of) (IsListOf IsNoteList)
    (λ v xs. is-list-from note_list_at IsNoteList note-list-from (part_place part.Notes) v xs) (present found) notes h

-- options that are not understood
true-is : (d : Data) → is_true (as_bool d) ≡ true → d ≡ boolean true
true-is null h = absurd (grind arith)
true-is (boolean true) h = refl
true-is (boolean false) h = absurd (grind arith)
true-is (number n) h = absurd (grind arith)
true-is (string t) h = absurd (grind arith)
true-is (array ds) h = absurd (grind arith)
true-is (object ms) h = absurd (grind arith)

is-other : (key : List ℕ) (d : Data) → (not (is_understood key) && is_true (as_bool d)) ≡ true → IsOther key d
is-other key d h = let both = and_parts (not (is_understood key)) (is_true (as_bool d)) h in (
  true-is d both.1,
  not-true (is_understood key) both.0,
)
  where
    not-true : (b : Bool) → not b ≡ true → b ≡ false
    not-true true f = sym f
    not-true false f = refl

other-tests : (key : List ℕ) (d : Data) → IsOther key d → (not (is_understood key) && is_true (as_bool d)) ≡ true
other-tests key d h = rw (h.0, h.1) refl

-- the first option that is not understood is found
pub others-to : (ms : Members) (found : Option (List ℕ)) → IsFirstOther ms found → first_other ms ≡ found
others-to no_members found h = sym h
others-to (member key d ms) found (inl h) = rw (other-tests key d h.0) (sym h.1)
others-to (member key d ms) found (inr h) = pick (not (is_understood key) && is_true (as_bool d)) refl (others-to ms found h.1)
  where
    pick : (b : Bool) → (not (is_understood key) && is_true (as_bool d)) ≡ b → first_other ms ≡ found
        → first_other (member key d ms) ≡ found
    pick true e rest = absurd (h.0 (is-other key d e))
    pick false e rest = rw e rest

-- what is found is the first option that is not understood
pub others-from : (ms : Members) → IsFirstOther ms (first_other ms)
others-from no_members = refl
others-from (member key d ms) = pick (not (is_understood key) && is_true (as_bool d)) refl (others-from ms)
  where
    pick : (b : Bool) → (not (is_understood key) && is_true (as_bool d)) ≡ b → IsFirstOther ms (first_other ms)
        → IsFirstOther (member key d ms) (first_other (member key d ms))
    pick true e rest = rw e (inl (is-other key d e, refl))
    pick false e rest = rw e (inr ((λ other. never-both (rw (other-tests key d other) at e)), rest))
      where
        never-both : true ≡ false → ⊥
        never-both f = cc
