-- What does a table keep when items come that open, start and load nothing?
use Rattle.std.proofs.Common.{◌≡◌, ℕ, Bool, true, false, List, [], ◌∷◌, ◌++◌, refl, Option}
use Rattle.hb_rules.specs.declared.setups.Setup.{Setup}
use Rattle.hb_rules.specs.Setup.{by}
use Rattle.hb_club.specs.declared.items.Item.{Item}
use Rattle.hb_club.specs.declared.items.What.{What}
use Rattle.hb_club.specs.declared.items.What.TheVariants as what
use Rattle.hb_club.specs.Table.{Table}
use Rattle.hb_club.specs.TableItems.{has, host, is_loaded, is_opened, is_started, opened_count}
use Rattle.hb_club.specs.TimeFirst.{timeout}
use Rattle.hb_club.proofs.TimeFirstLemmas.{item_at, timeout-all}

-- an item that opens, starts and loads nothing
abbrev pub is_plain : What → Bool
is_plain (what.Opened host) = false
is_plain (what.Started names) = false
is_plain (what.Loaded id) = false
is_plain _ = true

-- and so is each of these
abbrev pub ArePlain : List Item → Type 0
ArePlain [] = Unit {0}
ArePlain (i ∷ items) = (is_plain i.what ≡ true) × ArePlain items

-- what it leaves of a table
pub record AreKept (added items : List Item) : Type 0 where
  pub started : is_started (added ++ items) ≡ is_started items
  pub opened : has is_opened added ≡ false
  pub loaded : has is_loaded added ≡ false
  pub count : opened_count added ≡ 0
  pub host : host (added ++ items) ≡ host items

kept-more : (w : What) (moment : ℕ) (added items : List Item) → is_plain w ≡ true → AreKept added items → AreKept
    (item_at moment w ∷ added) items
kept-more (what.Opened host) moment added items h are = cc
kept-more (what.Started names) moment added items h are = cc
kept-more (what.Loaded id) moment added items h are = cc
kept-more (what.Sat name) moment added items h are = record {
  started = are.started;
  opened = are.opened;
  loaded = are.loaded;
  count = are.count;
  host = are.host;
}
kept-more (what.Rose name) moment added items h are = record {
  started = are.started;
  opened = are.opened;
  loaded = are.loaded;
  count = are.count;
  host = are.host;
}
kept-more (what.Watching name shadow) moment added items h are = record {
  started = are.started;
  opened = are.opened;
  loaded = are.loaded;
  count = are.count;
  host = are.host;
}
kept-more (what.Left name) moment added items h are = record {
  started = are.started;
  opened = are.opened;
  loaded = are.loaded;
  count = are.count;
  host = are.host;
}
kept-more (what.Acted act) moment added items h are = record {
  started = are.started;
  opened = are.opened;
  loaded = are.loaded;
  count = are.count;
  host = are.host;
}
kept-more (what.Paused by) moment added items h are = record {
  started = are.started;
  opened = are.opened;
  loaded = are.loaded;
  count = are.count;
  host = are.host;
}
kept-more (what.Resumed by) moment added items h are = record {
  started = are.started;
  opened = are.opened;
  loaded = are.loaded;
  count = are.count;
  host = are.host;
}
kept-more (what.Saved id) moment added items h are = record {
  started = are.started;
  opened = are.opened;
  loaded = are.loaded;
  count = are.count;
  host = are.host;
}
kept-more (what.NoGame id) moment added items h are = record {
  started = are.started;
  opened = are.opened;
  loaded = are.loaded;
  count = are.count;
  host = are.host;
}
kept-more (what.Reviewed turn hypos action) moment added items h are = record {
  started = are.started;
  opened = are.opened;
  loaded = are.loaded;
  count = are.count;
  host = are.host;
}
kept-more what.Closed moment added items h are = record {
  started = are.started;
  opened = are.opened;
  loaded = are.loaded;
  count = are.count;
  host = are.host;
}

-- plain items leave so much
pub are-kept : (added items : List Item) → ArePlain added → AreKept added items
are-kept [] items plain = record { started = refl; opened = refl; loaded = refl; count = refl; host = refl }
are-kept (i ∷ added) items plain = kept-more i.what i.moment added items plain.0 (are-kept added items plain.1)

-- plain items before plain ones are plain
pub plain-append : (xs ys : List Item) → ArePlain xs → ArePlain ys → ArePlain (xs ++ ys)
plain-append [] ys a b = b
plain-append (x ∷ xs) ys a b = (a.0, plain-append xs ys a.1 b)

-- what time adds is plain
pub timeout-plain : (t : Table) (g : Option Setup) (moment : ℕ) → ArePlain (timeout t g moment)
timeout-plain t g moment = timeout-all ArePlain tt (λ m act. (refl, tt)) t g moment
