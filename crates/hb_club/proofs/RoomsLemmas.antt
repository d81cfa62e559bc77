-- How do the items of a room grow with its events? Newer items come on top, and those of a table stay as they are.
use Rattle.std.proofs.Common.{◌≡◌, ℕ, ◌+◌, Bool, true, false, cond, List, [], ◌∷◌, ◌++◌, refl, ap, arith, sym, subst, ◌∙◌, append_assoc}
use Rattle.std.proofs.lemmas.List.Sums.{sum_by-append}
use Rattle.hb_club.specs.declared.items.Item.{Item}
use Rattle.hb_club.specs.Fronts.{GoesOn}
use Rattle.hb_club.specs.RoomEvents.{RoomEvent, Site}
use Rattle.hb_club.specs.Rooms.{happening, past_of}
use Rattle.hb_club.specs.TableFacts.{record_of}
use Rattle.hb_club.specs.TableItems.{is_opened, latest_items, opened_count}
use Rattle.hb_club.specs.Views.{view_at}

-- the items that more events add
pub items_of : Site → List RoomEvent → List RoomEvent → List Item
items_of s [] older = []
items_of s (e ∷ more) older = (happening s (past_of s (more ++ older)) e).added ++ items_of s more older

-- they come on top of the items before
pub record_of-more : (s : Site) (more older : List RoomEvent)
    → record_of (past_of s (more ++ older)) ≡ items_of s more older ++ record_of (past_of s older)
unfolding items_of
record_of-more s [] older = refl
record_of-more s (e ∷ more) older =
    let added : List Item = (happening s (past_of s (more ++ older)) e).added in
    ap (λ r. added ++ r) (record_of-more s more older) ∙ sym (append_assoc added (items_of s more older) (record_of (past_of s older)))

-- tables that were opened are counted one by one
pub opened_count-append : (extra items : List Item) → opened_count (extra ++ items) ≡ opened_count extra + opened_count items
opened_count-append extra items = sum_by-append (λ (i : Item). cond (is_opened i.what) 1 0) extra items

opened_count-one : (i : Item) → is_opened i.what ≡ true → opened_count (i ∷ []) ≡ 1
opened_count-one i is = let P : Bool → Type 0 = λ b. 0 + cond b 1 0 ≡ 1 in subst P (sym is) refl

-- items that open no table come on top of the latest table's
pub latest_items-append : (extra items : List Item) → opened_count extra ≡ 0
    → latest_items (extra ++ items) ≡ extra ++ latest_items items
latest_items-append [] items none = refl
latest_items-append (i ∷ extra) items none =
    let split : opened_count (i ∷ []) + opened_count extra ≡ 0 = sym (opened_count-append (i ∷ []) extra) ∙ none in
    let rest : opened_count extra ≡ 0 = omega arith in
    let one : opened_count (i ∷ []) ≡ 0 = omega arith in
    by_test (is_opened i.what) refl one (latest_items-append extra items rest)
  where
    by_test : (b : Bool) → is_opened i.what ≡ b → opened_count (i ∷ []) ≡ 0
        → latest_items (extra ++ items) ≡ extra ++ latest_items items → latest_items (i ∷ extra ++ items) ≡ i ∷ extra ++ latest_items items
    by_test true is one more = absurd (omega (arith, opened_count-one i is))
    by_test false is one more = rw is (ap (λ l. i ∷ l) more)

-- so the items of a table go on from those before
pub items-go-on : (s : Site) (more older : List RoomEvent) (member : List ℕ)
    → (view_at s (more ++ older) member).latest ≡ (view_at s older member).latest
    → GoesOn (view_at s older member).items (view_at s (more ++ older) member).items
unfolding view_at
items-go-on s more older member same =
    let extra : List Item = items_of s more older in
    let before : List Item = record_of (past_of s older) in
    let all : record_of (past_of s (more ++ older)) ≡ extra ++ before = record_of-more s more older in
    let opened : opened_count (extra ++ before) ≡ opened_count before = sym (ap opened_count all) ∙ same in
    let none : opened_count extra ≡ 0 = omega (arith, opened_count-append extra before) in
    record { more = extra; is = ap latest_items all ∙ latest_items-append extra before none }
