-- How does the latest table, and what is read of it, move by one event?
use Rattle.std.proofs.Common.{◌≡◌, ℕ, ◌+◌, true, false, List, [], ◌∷◌, ◌++◌, refl, ap, arith, ◌∙◌, length, Some, None, Option}
use Rattle.std.specs.Prelude.{if◌then◌else◌}
use Rattle.std.specs.Option.{option_to_list}
use Rattle.hb_rules.specs.declared.acts.Options.{Options}
use Rattle.hb_rules.specs.declared.setups.Setup.{Setup}
use Rattle.hb_club.specs.declared.items.Item.{Item}
use Rattle.hb_club.specs.declared.items.What.{What}
use Rattle.hb_club.specs.declared.items.What.TheVariants as what
use Rattle.hb_club.specs.ClerkCalls.{SetNote, note_in, set_notes}
use Rattle.hb_club.specs.RoomEvents.{Happening, Site}
use Rattle.hb_club.specs.Seating.{players}
use Rattle.hb_club.specs.Table.{Table}
use Rattle.hb_club.specs.TableFacts.{brought_game, loaded_game, opening, opening_at, own_by, own_entries, record_of, setup_when, table_of}
use Rattle.hb_club.specs.TableItems.{act_in, acts, all_of, has, is_loaded, is_opened, is_started, latest_items, names_in, opened_count, step_in, steps}
use Rattle.hb_club.specs.TimeFirst.{with_items}
use Rattle.hb_club.proofs.PlainItemsLemmas.{AreKept, ArePlain, are-kept, is_plain}
use Rattle.hb_club.proofs.RoomsLemmas.{latest_items-append, opened_count-append}
use Rattle.hb_table.specs.StateMoves.{item_at, new_table}

-- a plain item starts no game
pub names_in-plain : (w : What) → is_plain w ≡ true → names_in w ≡ None
names_in-plain (what.Opened host) plain = refl
names_in-plain (what.Sat name) plain = refl
names_in-plain (what.Rose name) plain = refl
names_in-plain (what.Watching name shadow) plain = refl
names_in-plain (what.Left name) plain = refl
names_in-plain (what.Started names) plain = cc
names_in-plain (what.Acted act) plain = refl
names_in-plain (what.Paused by) plain = refl
names_in-plain (what.Resumed by) plain = refl
names_in-plain (what.Saved id) plain = refl
names_in-plain (what.Loaded id) plain = refl
names_in-plain (what.NoGame id) plain = refl
names_in-plain (what.Reviewed turn hypos action) plain = refl
names_in-plain what.Closed plain = refl

-- so plain items leave the players
pub all_of-names-plain : (added items : List Item) → ArePlain added → all_of names_in (added ++ items) ≡ all_of names_in items
all_of-names-plain [] items plain = refl
all_of-names-plain (i ∷ added) items plain = rw (names_in-plain i.what plain.0) (all_of-names-plain added items plain.1)

-- the setup of the game at a table with these items
abbrev pub setup_by : Site → ℕ → List ℕ × Options → List Item → Option Setup
setup_by s serial opened items = setup_when (is_started items) s serial opened (length (players items))

-- what opens no table
pub record OpensNone (added : List Item) : Type 0 where
  pub opened : has is_opened added ≡ false
  pub count : opened_count added ≡ 0

-- plain items open none
pub opens-none-plain : (added : List Item) → ArePlain added → OpensNone added
opens-none-plain added plain =
    let kept : AreKept added [] = are-kept added [] plain in record { opened = kept.opened; count = kept.count }

-- the items of an event that opens no table come on top of the latest table's
pub latest_items-more : (h : Happening) (past : List Happening) → OpensNone h.added
    → latest_items (record_of (h ∷ past)) ≡ h.added ++ latest_items (record_of past)
latest_items-more h past none = latest_items-append h.added (record_of past) none.count

no-table : (k a b : ℕ) → a ≡ k + b → k ≡ 0 → a ≡ b
no-table k a b is none = omega (arith, is, none)

-- so it stays the latest
pub opened_count-more : (h : Happening) (past : List Happening) → OpensNone h.added
    → opened_count (record_of (h ∷ past)) ≡ opened_count (record_of past)
opened_count-more h past none = no-table (opened_count h.added) (opened_count (record_of (h ∷ past))) (opened_count (record_of past))
    (opened_count-append h.added (record_of past)) none.count

opening-more : (h : Happening) (past : List Happening) → OpensNone h.added → opening (h ∷ past) ≡ opening past
opening-more h past none = rw none.opened refl

loaded_game-more : (h : Happening) (past : List Happening) → OpensNone h.added
    → loaded_game (h ∷ past) ≡ (if has is_loaded h.added then brought_game h.event else loaded_game past)
loaded_game-more h past none = rw none.opened refl

-- the latest table after an event that opens none
abbrev pub moved_table : Site → Happening → Table → Table
moved_table s h t = record {
  latest = t.latest;
  name = t.name;
  options = t.options;
  items = h.added ++ t.items;
  game = setup_by s t.latest (t.name, t.options) (h.added ++ t.items);
  loaded = if has is_loaded h.added then brought_game h.event else t.loaded;
}

-- it is that table
pub table_of-moved : (s : Site) (h : Happening) (past : List Happening) → OpensNone h.added
    → table_of s (h ∷ past) ≡ moved_table s h (table_of s past)
table_of-moved s h past none =
    rw (opened_count-more h past none, latest_items-more h past none, opening-more h past none, loaded_game-more h past none) refl

-- if its items are plain, they only come on top
pub moved_table-plain : (s : Site) (h : Happening) (past : List Happening) → ArePlain h.added
    → moved_table s h (table_of s past) ≡ with_items h.added (table_of s past)
moved_table-plain s h past plain =
    let kept : AreKept h.added (latest_items (record_of past)) = are-kept h.added (latest_items (record_of past)) plain in
    rw (kept.loaded, all_of-names-plain h.added (latest_items (record_of past)) plain) refl

-- the latest table after an event that opens one
pub table_of-opened : (s : Site) (h : Happening) (past : List Happening) (moment : ℕ) (host : List ℕ)
    → h.added ≡ item_at moment (what.Opened host) ∷ []
    → table_of s (h ∷ past) ≡ new_table ((table_of s past).latest + 1) (opening_at h.event).0 (opening_at h.event).1
    (item_at moment (what.Opened host))
table_of-opened s h past moment host only =
    let i : Item = item_at moment (what.Opened host) in
    let count : opened_count (i ∷ record_of past) ≡ opened_count (record_of past) + 1 =
    omega (arith, opened_count-append (i ∷ []) (record_of past)) in
    rw (only, count) refl

-- the own entries of a member after an event that opens no table
pub own_entries-more : (s : Site) (h : Happening) (past : List Happening) (member : List ℕ) → OpensNone h.added
    → own_entries (opened_count (record_of (h ∷ past))) member (h ∷ past)
    ≡ option_to_list (own_by (table_of s past).latest member (length (h.added ++ (table_of s past).items)) h.event h.answer)
    ++ own_entries (table_of s past).latest member past
own_entries-more s h past member none =
    ap (λ (n : ℕ). own_entries n member (h ∷ past)) (opened_count-more h past none)
    ∙ ap (λ (items : List Item). option_to_list (own_by (opened_count (record_of past)) member (length items) h.event h.answer)
    ++ own_entries (opened_count (record_of past)) member past) (latest_items-more h past none)

-- the notes that are set at a table, with one event more
pub set_notes-more : (table : ℕ) (h : Happening) (past : List Happening)
    → set_notes table (h ∷ past) ≡ option_to_list (note_in table h) ++ set_notes table past
set_notes-more table h past = pick (note_in table h) refl
  where
    pick : (o : Option SetNote) → note_in table h ≡ o
        → set_notes table (h ∷ past) ≡ option_to_list (note_in table h) ++ set_notes table past
    pick None is = rw is refl
    pick (Some n) is = rw is refl

-- one item more

-- what one kind of item says
pub all_of-more : {A : Type 0} (fact : What → Option A) (i : Item) (items : List Item)
    → all_of fact (i ∷ items) ≡ option_to_list (fact i.what) ++ all_of fact items
all_of-more {A} fact i items = pick (fact i.what) refl
  where
    pick : (o : Option A) → fact i.what ≡ o → all_of fact (i ∷ items) ≡ option_to_list (fact i.what) ++ all_of fact items
    pick None is = rw is refl
    pick (Some x) is = rw is refl

-- an item that is no act leaves the acts
pub acts-stay : (i : Item) (items : List Item) → act_in i.what ≡ None → acts (i ∷ items) ≡ acts items
acts-stay i items none = rw none refl

-- an item that is no step leaves the steps of the review
pub steps-stay : (i : Item) (items : List Item) → step_in i.what ≡ None → steps (i ∷ items) ≡ steps items
steps-stay i items none = rw none refl
