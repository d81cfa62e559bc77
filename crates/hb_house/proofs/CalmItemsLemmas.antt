-- What does a room keep at an event that opens no table and starts no game?
use Rattle.std.proofs.Common.{◌≡◌, ℕ, ◌+◌, Bool, true, false, List, ◌∷◌, ◌++◌, refl, ap, sym, subst, ◌∙◌, append_assoc, arith, length, Some, None, Option}
use Rattle.hb_rules.specs.declared.setups.Setup.{Setup}
use Rattle.hb_club.specs.declared.items.Item.{Item}
use Rattle.hb_club.specs.declared.items.What.{What}
use Rattle.hb_club.specs.declared.items.What.TheVariants as what
use Rattle.hb_club.specs.NewItems.{stamped_item}
use Rattle.hb_club.specs.RoomEvents.{Happening, Site}
use Rattle.hb_club.specs.Seating.{players}
use Rattle.hb_club.specs.Table.{Table}
use Rattle.hb_club.specs.TableFacts.{opening, record_of, setup_when, table_of}
use Rattle.hb_club.specs.TableItems.{has, is_opened, is_started, latest_items, opened_count}
use Rattle.hb_club.specs.TimeFirst.{timed_table, timeout}
use Rattle.hb_club.proofs.RoomsLemmas.{latest_items-append, opened_count-append}
use Rattle.hb_club.proofs.TimeFirstLemmas.{item_at, timeout-all}
use Rattle.hb_house.proofs.MayComeLemmas.{Adds}

-- an item that opens no table and starts no game
abbrev pub is_calm : What → Bool
is_calm (what.Opened host) = false
is_calm (what.Started names) = false
is_calm _ = true

-- so no item, or such a one
abbrev pub is_calm_if : Option What → Bool
is_calm_if None = true
is_calm_if (Some w) = is_calm w

-- what is so of items that come on top of others
pub record AreCalm (added items : List Item) : Type 0 where
  pub opened : has is_opened added ≡ false
  pub count : opened_count added ≡ 0
  pub started : is_started (added ++ items) ≡ is_started items
  pub players : players (added ++ items) ≡ players items

calm-item : (moment : ℕ) (w : What) (added items : List Item) → is_calm w ≡ true → AreCalm added items
    → AreCalm (item_at moment w ∷ added) items
calm-item moment (what.Opened host) added items calm are = absurd cc
calm-item moment (what.Started names) added items calm are = absurd cc
calm-item moment _ added items calm are =
    record { opened = are.opened; count = are.count; started = are.started; players = are.players }

calm-items : (stamp : ℕ) (o : Option What) (added items : List Item) → is_calm_if o ≡ true → AreCalm added items
    → AreCalm (stamped_item stamp o ++ added) items
calm-items stamp None added items calm are = are
calm-items stamp (Some w) added items calm are = calm-item stamp w added items calm are

-- so are those of time
calm-time : (t : Table) (g : Option Setup) (moment : ℕ) (items : List Item) → AreCalm (timeout t g moment) items
calm-time t g moment items = timeout-all (λ late. AreCalm late items)
    (record { opened = refl; count = refl; started = refl; players = refl })
    (λ m act. record { opened = refl; count = refl; started = refl; players = refl }) t g moment

-- what a room keeps
pub record IsCalm (s : Site) (past : List Happening) (h : Happening) (moment stamp : ℕ) (o : Option What) : Type 0 where
  pub latest : (table_of s (h ∷ past)).latest ≡ (table_of s past).latest
  pub opening : opening (h ∷ past) ≡ opening past
  pub game : (table_of s (h ∷ past)).game ≡ (table_of s past).game
  pub players : players (table_of s (h ∷ past)).items ≡ players (table_of s past).items
  pub items : (table_of s (h ∷ past)).items ≡ stamped_item stamp o ++ (timed_table s past moment).items

-- it is so if no item is added, or a calm one
pub calm-event : (s : Site) (past : List Happening) (h : Happening) (adds : Adds s past h) → is_calm_if adds.item ≡ true
    → IsCalm s past h adds.moment adds.stamp adds.item
calm-event s past h adds calm =
    record { latest = latest; opening = opens; game = game; players = same_players; items = items }
  where
    t : Table
    t = table_of s past

    late : List Item
    late = timeout t t.game adds.moment

    new : List Item
    new = stamped_item adds.stamp adds.item

    all : List Item
    all = record_of past

    are : AreCalm h.added (latest_items all)
    are = subst (λ (l : List Item). AreCalm l (latest_items all)) (sym adds.added)
        (calm-items adds.stamp adds.item late (latest_items all) calm (calm-time t t.game adds.moment (latest_items all)))

    none-more : (k a b : ℕ) → a ≡ k + b → k ≡ 0 → a ≡ b
    none-more k a b is none = omega (arith, is, none)

    latest : opened_count (h.added ++ all) ≡ opened_count all
    latest = none-more (opened_count h.added) (opened_count (h.added ++ all)) (opened_count all) (opened_count-append h.added all) are.count

    opens : opening (h ∷ past) ≡ opening past
    opens = rw are.opened refl

    items_of : latest_items (h.added ++ all) ≡ h.added ++ latest_items all
    items_of = latest_items-append h.added all are.count

    items : latest_items (h.added ++ all) ≡ new ++ (late ++ latest_items all)
    items = items_of ∙ ap (λ (l : List Item). l ++ latest_items all) adds.added ∙ append_assoc new late (latest_items all)

    same_players : players (latest_items (h.added ++ all)) ≡ players (latest_items all)
    same_players = ap players items_of ∙ are.players

    started : is_started (latest_items (h.added ++ all)) ≡ is_started (latest_items all)
    started = ap is_started items_of ∙ are.started

    game : setup_when (is_started (latest_items (h.added ++ all))) s (opened_count (h.added ++ all)) (opening (h ∷ past))
        (length (players (latest_items (h.added ++ all)))) ≡ t.game
    game = rw (started, latest, opens, same_players) refl
