-- The first row of the table of refusals that holds is what the checks refuse.
use Rattle.std.proofs.Common.{◌≡◌, ℕ, zero, suc, ◌<◌, List, [], true, false, Result, Ok, Err, refl, arith, sym, inl, inr, ap, ◌∙◌}
use Rattle.std.specs.Prelude.{◌↔◌, ◌⊎◌, codes, nat_lt, option_and_then, unwrap_or}
use Rattle.std.specs.declared.option.Option.{Option}
use Rattle.std.specs.declared.option.Option.TheVariants.{None, Some}
use Rattle.serde_json.specs.Data.{Data, object, array, Items, no_members}
use Rattle.serde_json.specs.Find.{get, as_str, as_bool, as_array, as_object}
use Rattle.hb_json.specs.Results.{◌>>=◌, found_or, absent_or}
use Rattle.hb_json.specs.JsonReading.{present, whole_of, below_of}
use Rattle.hb_json.specs.Values.{whole}
use Rattle.hb_rules.specs.declared.acts.EndHow.{EndHow}
use Rattle.hb_rules.specs.Numbers.{end_of, end_number}
use Rattle.hb_replay.specs.declared.place.Place.{Place}
use Rattle.hb_replay.specs.declared.place.Part.TheVariants as part
use Rattle.hb_json.specs.declared.option_keys.OptionKey.{OptionKey}
use Rattle.hb_json.specs.declared.option_keys.OptionKey.TheVariants as option
use Rattle.hb_json.specs.OptionKey.{option_name}
use Rattle.hb_json.specs.WrittenModes.{option_in, variant_in, starting_in, flag_in, modes_in}
use Rattle.hb_replay.specs.declared.place.PlaceField.TheVariants as field
use Rattle.hb_rules.specs.declared.acts.Clue.TheVariants as clue
use Rattle.hb_replay.specs.declared.written.WrittenAction.TheVariants as written
use Rattle.hb_replay.specs.Places.{part_place, member_place, field_place, option_place, note_place}
use Rattle.hb_replay.specs.Shape.{each_at, list_at, number_at, player_at, card_at, action_of_kind, action_at, option_shape, options_in, options_of, note_at, note_list_at, notes_of, shape_of, players_of, cards_of, actions_of}
use Rattle.hb_replay.specs.Says.{IsText, IsWhole, IsFlag, HasBelow, HasByte}
use Rattle.hb_replay.specs.RefusalOf.{row, ◌otherwise◌, members_rows, list_rows, present_rows, IsObject, IsSomeText, IsSomeWhole, IsSomeFlag, HasNoBelow, player_rows, card_rows, HasWrongValue, action_rows, option_rows, options_rows, note_rows, note_list_rows, notes_rows, shape_rows}
use Rattle.hb_replay.proofs.Found.{found_or-ok}
use Rattle.hb_replay.proofs.ValueKinds.{none-is_some, same-some, text-is, flag-is, list-is, object-is, whole-is, below-is}
use Rattle.hb_replay.proofs.EndNumbers.{end-to, end-from}
use Rattle.hb_replay.proofs.Refuses.{Refuses, same-err, refuses-then, refuses-map, refuses-none, refuses-found, refuses-known, refuses-each}

-- values by their kinds
refuses-text : (place : Place) (d : Data) → Refuses (row place (IsSomeText d → ⊥)) (found_or place (as_str d))
refuses-text place d = refuses-found place (IsText d) (as_str d) (λ s. (λ h. rw h refl, text-is d s))

refuses-whole : (place : Place) (d : Data) → Refuses (row place (IsSomeWhole d → ⊥)) (found_or place (whole_of d))
refuses-whole place d = refuses-found place (IsWhole d) (whole_of d) (λ n. (λ h. rw h refl, whole-is d n))

refuses-flag : (place : Place) (d : Data) → Refuses (row place (IsSomeFlag d → ⊥)) (found_or place (as_bool d))
refuses-flag place d = refuses-found place (IsFlag d) (as_bool d) (λ b. (λ h. rw h refl, flag-is d b))

refuses-object : (place : Place) (d : Data) → Refuses (row place (IsObject d → ⊥)) (found_or place (as_object d))
refuses-object place d = refuses-found place (λ ms. d ≡ object ms) (as_object d) (λ ms. (λ h. rw h refl, object-is d ms))

-- numbers under a key
below-there : (n : ℕ) (key : List ℕ) (d : Data) (m : ℕ) → HasBelow n key d m → option_and_then (below_of n) (get key d) ≡ Some m
below-there n key d m h = let low = h.1 in let small : nat_lt m n ≡ true = grind arith in rw (h.0, small) refl

there-below : (n : ℕ) (key : List ℕ) (d : Data) (m : ℕ) → option_and_then (below_of n) (get key d) ≡ Some m → HasBelow n key d m
there-below n key d m h = pick (get key d) refl
  where
    pick : (o : Option Data) → get key d ≡ o → HasBelow n key d m
    pick None e = absurd (none-is_some m (rw e at h))
    pick (Some v) e = let is = below-is n m v (rw e at h) in (rw (e, is.0) refl, is.1)

refuses-number : (place : Place) (n : ℕ) (key : List ℕ) (d : Data)
    → Refuses (row place (HasNoBelow n key d)) (number_at place n key d)
refuses-number place n key d = refuses-found place (HasBelow n key d) (option_and_then (below_of n) (get key d))
    (λ m. (below-there n key d m, there-below n key d m))

-- lists
array-there : (found : Option Data) (ds : Items) → found ≡ Some (array ds) → option_and_then as_array found ≡ Some ds
array-there found ds h = rw h refl

there-array : (found : Option Data) (ds : Items) → option_and_then as_array found ≡ Some ds → found ≡ Some (array ds)
there-array None ds h = absurd (none-is_some ds h)
there-array (Some d) ds h = let is : d ≡ array ds = list-is d ds h in rw is refl

same-items : (found : Option Data) (ds es : Items) → found ≡ Some (array ds) → option_and_then as_array found ≡ Some es → ds ≡ es
same-items found ds es h k = same-some ds es (rw (array-there found ds h) at k)

refuses-list : {X : Type 0} (place : Place) (Rows : ℕ → Data → Place → Type 0) (f : ℕ → Data → Result X Place)
    → ((k : ℕ) (d : Data) → Refuses (Rows k d) (f k d)) → (found : Option Data)
    → Refuses (list_rows place Rows found) (list_at place found >>= each_at f 0)
refuses-list place Rows f each found =
    refuses-then (row place (((ds : Items) × (found ≡ Some (array ds))) → ⊥)) _ (list_at place found) (each_at f 0)
    (refuses-found place (λ ds. found ≡ Some (array ds)) (option_and_then as_array found) (λ ds. (
      array-there found ds,
      there-array found ds,
    )))
    (λ ds there. let is : option_and_then as_array found ≡ Some ds = found_or-ok place (option_and_then as_array found) ds there in
    refuses-known (λ es. found ≡ Some (array es)) (members_rows Rows 0) ds (each_at f 0 ds) (there-array found ds is)
    (λ es h. same-items found es ds h is) (refuses-each Rows f each 0 ds))

-- what may be absent
refuses-absent : {X : Type 0} (default : X) (Rows : Data → Place → Type 0) (f : Data → Result X Place)
    → ((d : Data) → Refuses (Rows d) (f d)) → (o : Option Data)
    → Refuses (λ e. (d : Data) × (o ≡ Some d) × Rows d e) (absent_or default f o)
refuses-absent default Rows f each None = refuses-none _ default (λ e h. none-is_some h.0 h.1)
refuses-absent default Rows f each (Some d) = refuses-known (λ c. Some d ≡ Some c) Rows d (f d) refl (λ c h. sym (same-some d c h)) (each d)

-- players and cards
refuses-player : (k : ℕ) (d : Data) → Refuses (player_rows k d) (player_at k d)
refuses-player k d = refuses-text (member_place part.Players k) d

refuses-card : (k : ℕ) (d : Data) → Refuses (card_rows k d) (card_at k d)
refuses-card k d =
    refuses-then _ _ (found_or (member_place part.Deck k) (as_object d)) _ (refuses-object (member_place part.Deck k) d) (λ ms is.
    refuses-then _ _ (number_at (field_place part.Deck k field.SuitIndex) 256 (codes "suitIndex") d) _
    (refuses-number (field_place part.Deck k field.SuitIndex) 256 (codes "suitIndex") d) (λ suit is1.
    refuses-map _ (number_at (field_place part.Deck k field.Rank) 256 (codes "rank") d) _
    (refuses-number (field_place part.Deck k field.Rank) 256 (codes "rank") d)))

-- the value of an action
same-whole : (n m : ℕ) → Some (whole n) ≡ Some (whole m) → n ≡ m
same-whole n m h = cc

one-kind : (d : Data) (n m : ℕ) → HasByte (codes "type") d n → get (codes "type") d ≡ Some (whole m) → n ≡ m
one-kind d n m h k = same-whole n m (sym h.0 ∙ k)

refuses-row : {A F : Type 0} (refused : F) (P Q : Type 0) (m : Result A F) → (P ↔ Q) → Refuses (row refused P) m → Refuses (row refused Q) m
refuses-row refused P Q m same p e = (λ h. (p e).0 (same.1 h.0, h.1), λ h. let found = (p e).1 h in (same.0 found.0, found.1))

-- a value that is needed by no other kind is not wrong
not-wrong : (d : Data) (kind : ℕ) → get (codes "type") d ≡ Some (whole kind) → kind < 2 → HasWrongValue d → ⊥
not-wrong d kind said low (inl h) = no-clue h.0
  where
    no-clue : HasByte (codes "type") d 2 ⊎ HasByte (codes "type") d 3 → ⊥
    no-clue (inl t) = let e : 2 ≡ kind = one-kind d 2 kind t said in absurd (omega arith)
    no-clue (inr t) = let e : 3 ≡ kind = one-kind d 3 kind t said in absurd (omega arith)
not-wrong d kind said low (inr h) = let e : 4 ≡ kind = one-kind d 4 kind h.0 said in absurd (omega arith)

wrong-clue : (d : Data) (kind : ℕ) → get (codes "type") d ≡ Some (whole kind) → kind < 4
    → (HasByte (codes "type") d 2 ⊎ HasByte (codes "type") d 3) → (HasNoBelow 256 (codes "value") d) ↔ HasWrongValue d
wrong-clue d kind said low clue = (λ h. inl (clue, h), back)
  where
    back : HasWrongValue d → HasNoBelow 256 (codes "value") d
    back (inl h) = h.1
    back (inr h) = let e : 4 ≡ kind = one-kind d 4 kind h.0 said in absurd (omega arith)

lt-irreflexive : (n m : ℕ) → n < m → n ≡ m → ⊥
lt-irreflexive n m low same = absurd (omega (arith, low, same))

wrong-end : (d : Data) → get (codes "type") d ≡ Some (whole 4)
    → (((how : EndHow) × HasByte (codes "value") d (end_number how)) → ⊥) ↔ HasWrongValue d
wrong-end d said = (λ h. inr ((said, omega arith), h), back)
  where
    no-clue : HasByte (codes "type") d 2 ⊎ HasByte (codes "type") d 3 → ⊥
    no-clue (inl t) = lt-irreflexive 2 4 (omega arith) (one-kind d 2 4 t said)
    no-clue (inr t) = lt-irreflexive 3 4 (omega arith) (one-kind d 3 4 t said)

    back : HasWrongValue d → ((how : EndHow) × HasByte (codes "value") d (end_number how)) → ⊥
    back (inl h) = absurd (no-clue h.0)
    back (inr h) = h.1

refuses-end : {B : Type 0} (place : Place) (R : ℕ → Type 0) (g : EndHow → B) (o : Option ℕ) → ((n : ℕ) → R n ↔ (o ≡ Some n))
    → Refuses (row place (((how : EndHow) × R (end_number how))
    → ⊥)) (found_or place o >>= λ value. (found_or place (end_of value) >>= λ how. Ok (g how)))
refuses-end place R g None same e = (
  λ h. rw h.1 refl,
  λ h. (
    λ s. none-is_some (end_number s.0) ((same (end_number s.0)).0 s.1),
    sym (same-err place e h),
  ),
)
refuses-end place R g (Some n) same e =
    refuses-map (row place (((how : EndHow) × R (end_number how)) → ⊥)) (found_or place (end_of n)) g
    (refuses-found place (λ how. R (end_number how)) (end_of n) (λ how. (there how, back how))) e
  where
    there : (how : EndHow) → R (end_number how) → end_of n ≡ Some how
    there how h = let e : n ≡ end_number how = same-some n (end_number how) ((same (end_number how)).0 h) in rw e (end-to how)

    back : (how : EndHow) → end_of n ≡ Some how → R (end_number how)
    back how h = let e : n ≡ end_number how = end-from n how h in (same (end_number how)).1 (ap Some e)

refuses-value : (place : Place) (kind target : ℕ) (d : Data) → HasBelow 5 (codes "type") d kind
    → Refuses (row place (HasWrongValue d)) (action_of_kind place kind target d)
refuses-value place zero target d h = refuses-none (row place (HasWrongValue d)) _ (λ e r. not-wrong d 0 h.0 (omega arith) r.0)
refuses-value place (suc zero) target d h = refuses-none (row place (HasWrongValue d)) _ (λ e r. not-wrong d 1 h.0 (omega arith) r.0)
refuses-value place (suc (suc zero)) target d h =
    refuses-row place (HasNoBelow 256 (codes "value") d) (HasWrongValue d) _ (wrong-clue d 2 h.0 (omega arith) (inl (
      h.0,
      omega arith,
    )))
    (refuses-map _ (number_at place 256 (codes "value") d)
    (λ value. written.Clue target (clue.Color value)) (refuses-number place 256 (codes "value") d))
refuses-value place (suc (suc (suc zero))) target d h =
    refuses-row place (HasNoBelow 256 (codes "value") d) (HasWrongValue d) _ (wrong-clue d 3 h.0 (omega arith) (inr (
      h.0,
      omega arith,
    )))
    (refuses-map _ (number_at place 256 (codes "value") d)
    (λ value. written.Clue target (clue.Rank value)) (refuses-number place 256 (codes "value") d))
refuses-value place (suc (suc (suc (suc zero)))) target d h =
    refuses-row place (((how : EndHow) × HasByte (codes "value") d (end_number how)) → ⊥) (HasWrongValue d) _ (wrong-end d h.0)
    (refuses-end place (HasByte (codes "value") d) (λ how. written.End target how) (option_and_then (below_of 256) (get (codes "value") d))
    (λ n. (below-there 256 (codes "value") d n, there-below 256 (codes "value") d n)))
refuses-value place (suc (suc (suc (suc (suc n))))) target d h = absurd (let low = h.1 in omega arith)

refuses-action : (k : ℕ) (d : Data) → Refuses (action_rows k d) (action_at k d)
refuses-action k d =
    refuses-then _ _ (found_or (member_place part.Actions k) (as_object d)) _ (refuses-object (member_place part.Actions k) d) (λ ms is.
    refuses-then _ _ (number_at (field_place part.Actions k field.Kind) 5 (codes "type") d) _
    (refuses-number (field_place part.Actions k field.Kind) 5 (codes "type") d) (λ kind is_kind.
    refuses-then _ _ (number_at (field_place part.Actions k field.Target) 256 (codes "target") d) _
    (refuses-number (field_place part.Actions k field.Target) 256 (codes "target") d) (λ target is_target.
    refuses-value (field_place part.Actions k field.Value) kind target d
    (there-below 5 (codes "type") d kind
    (found_or-ok (field_place part.Actions k field.Kind) (option_and_then (below_of 5) (get (codes "type") d)) kind is_kind)))))

-- options
shape-found : {X : Type 0} (key : OptionKey) (o : Option X) → option_shape (found_or key o) ≡ found_or (option_place key) o
shape-found key None = refl
shape-found key (Some x) = refl

-- an option that may be absent
refuses-option : {X : Type 0} (key : OptionKey) (default : X) (IsRight : Data → Type 0) (as_type : Data → Option X)
    → ((d : Data) → Refuses (row (option_place key) (IsRight d → ⊥)) (found_or (option_place key) (as_type d))) → (o : Option Data)
    → Refuses (λ e. (d : Data) × (o ≡ Some d) × row (option_place key) (IsRight d
    → ⊥) e) (option_shape (absent_or default (λ v. found_or key (as_type v)) o))
refuses-option key default IsRight as_type right None = refuses-none _ default (λ e h. none-is_some h.0 h.1)
refuses-option key default IsRight as_type right (Some d) =
    refuses-known (λ c. Some d ≡ Some c) (λ c. row (option_place key) (IsRight c → ⊥)) d _ refl
    (λ c h. sym (same-some d c h)) (rw (shape-found key (as_type d)) (right d))

refuses-text-option : (key : OptionKey) (default : List ℕ) (d : Data)
    → Refuses (option_rows IsSomeText key d) (option_shape (option_in as_str key default d))
refuses-text-option key default d =
    refuses-option key default IsSomeText as_str (refuses-text (option_place key)) (present (get (option_name key) d))

refuses-whole-option : (key : OptionKey) (default : ℕ) (d : Data)
    → Refuses (option_rows IsSomeWhole key d) (option_shape (option_in whole_of key default d))
refuses-whole-option key default d =
    refuses-option key default IsSomeWhole whole_of (refuses-whole (option_place key)) (present (get (option_name key) d))

refuses-flag-option : (key : OptionKey) (d : Data) → Refuses (option_rows IsSomeFlag key d) (option_shape (flag_in key d))
refuses-flag-option key d = refuses-option key false IsSomeFlag as_bool (refuses-flag (option_place key))
    (present (get (option_name key) d))

shape-then : {A B : Type 0} (m : Result A OptionKey) (f : A → Result B OptionKey)
    → option_shape (m >>= f) ≡ (option_shape m >>= λ x. option_shape (f x))
shape-then (Ok x) f = refl
shape-then (Err key) f = refl

refuses-shape-then : {A B : Type 0} (P Q : Place → Type 0) (m : Result A OptionKey) (f : A → Result B OptionKey)
    → Refuses P (option_shape m) → ((x : A) → Refuses Q (option_shape (f x)))
    → Refuses (P otherwise Q) (option_shape (m >>= f))
refuses-shape-then P Q m f p q = rw (shape-then m f) (refuses-then P Q (option_shape m) (λ x. option_shape (f x)) p (λ x is. q x))

refuses-shape-map : {A B : Type 0} (P : Place → Type 0) (m : Result A OptionKey) (g : A → B) → Refuses P (option_shape m)
    → Refuses P (option_shape (m >>= λ x. Ok (g x)))
refuses-shape-map P m g p = rw (shape-then m (λ x. Ok (g x))) (refuses-map P (option_shape m) g p)

refuses-options-in : (d : Data) → Refuses (options_rows d) (options_in d)
unfolding options_in
refuses-options-in d =
    refuses-then _ _ (found_or (part_place part.Options) (as_object d)) _ (refuses-object (part_place part.Options) d) (λ ms is0.
    refuses-then _ _ (option_shape (variant_in d)) _ (refuses-text-option option.Variant (codes "No Variant") d) (λ x1 is1.
    refuses-then _ _ (option_shape (starting_in d)) _ (refuses-whole-option option.StartingPlayer 0 d) (λ x2 is2.
    refuses-map _ (option_shape (modes_in d)) _
    (refuses-shape-then _ _ (flag_in option.EmptyClues d) _ (refuses-flag-option option.EmptyClues d) (λ x3.
    refuses-shape-then _ _ (flag_in option.OneExtraCard d) _ (refuses-flag-option option.OneExtraCard d) (λ x4.
    refuses-shape-then _ _ (flag_in option.OneLessCard d) _ (refuses-flag-option option.OneLessCard d) (λ x5.
    refuses-shape-then _ _ (flag_in option.Timed d) _ (refuses-flag-option option.Timed d) (λ x6.
    refuses-shape-then _ _ (option_in whole_of option.TimeBase 120 d) _ (refuses-whole-option option.TimeBase 120 d) (λ x7.
    refuses-shape-map _ (option_in whole_of option.TimePerTurn 20 d) _ (refuses-whole-option option.TimePerTurn 20 d))))))))))

refuses-options-or : (o : Option Data)
    → Refuses (λ e. (d : Data) × (o ≡ Some d) × options_rows d e) (options_in (unwrap_or o (object no_members)))
unfolding options_in
refuses-options-or None = refuses-none _ _ (λ e h. none-is_some h.0 h.1)
refuses-options-or (Some d) = refuses-known (λ c. Some d ≡ Some c) options_rows d (options_in d) refl
    (λ c h. sym (same-some d c h)) (refuses-options-in d)

-- notes
refuses-note : (k j : ℕ) (d : Data) → Refuses (note_rows k j d) (note_at k j d)
refuses-note k j d = refuses-absent [] (λ v. row (note_place k j) (IsSomeText v → ⊥)) _ (refuses-text (note_place k j)) (present (Some d))

refuses-note-list : (k : ℕ) (d : Data) → Refuses (note_list_rows k d) (note_list_at k d)
refuses-note-list k d = refuses-absent [] (λ v. list_rows (member_place part.Notes k) (note_rows k) (Some v)) _
    (λ v. refuses-list (member_place part.Notes k) (note_rows k) (note_at k) (refuses-note k) (Some v)) (present (Some d))

refuses-notes : (found : Option Data) → Refuses (present_rows notes_rows found) (notes_of found)
refuses-notes found = refuses-absent [] notes_rows _
    (λ v. refuses-list (part_place part.Notes) note_list_rows note_list_at refuses-note-list (Some v)) (present found)

-- the shape
pub refuses-shape : (d : Data) → Refuses (shape_rows d) (shape_of d)
unfolding shape_of
refuses-shape d =
    refuses-then _ _ (found_or (part_place part.Root) (as_object d)) _ (refuses-object (part_place part.Root) d) (λ ms is0.
    refuses-then _ _ (list_at (part_place part.Players) (get (codes "players") d) >>= players_of) _
    (refuses-list (part_place part.Players) player_rows player_at refuses-player (get (codes "players") d)) (λ x1 is1.
    refuses-then _ _ (list_at (part_place part.Deck) (get (codes "deck") d) >>= cards_of) _
    (refuses-list (part_place part.Deck) card_rows card_at refuses-card (get (codes "deck") d)) (λ x2 is2.
    refuses-then _ _ (list_at (part_place part.Actions) (get (codes "actions") d) >>= actions_of) _
    (refuses-list (part_place part.Actions) action_rows action_at refuses-action (get (codes "actions") d)) (λ x3 is3.
    refuses-then _ _ (options_of (get (codes "options") d)) _ (refuses-options-or (present (get (codes "options") d))) (λ x4 is4.
    refuses-map _ (notes_of (get (codes "notes") d)) _ (refuses-notes (get (codes "notes") d)))))))
