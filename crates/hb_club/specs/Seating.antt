-- Who is seated at a table, who watches, who plays, and how does a member see it? All is read off
-- the table's items, which stand newest first.
use Rattle.std.specs.Prelude.{ℕ, ◌+◌, Bool, true, false, not, ◌==◌, List, [], ◌∷◌, ◌++◌, Option, Some, None, filter, filter_map, if◌then◌else◌, bytes_eq}
use Rattle.std.specs.Option.{option_eq}
use Rattle.hb_club.specs.declared.items.Item.{Item}
use Rattle.hb_club.specs.declared.items.What.{What}
use Rattle.hb_club.specs.declared.items.What.TheVariants.{Sat, Rose, Watching, Left}
use Rattle.hb_club.specs.declared.items.Viewer.{Viewer}
use Rattle.hb_club.specs.declared.items.Viewer.TheVariants as viewer
use Rattle.hb_club.specs.TableItems.{names_in, one_of}

-- the names but this one
abbrev pub without : List ℕ → List (List ℕ) → List (List ℕ)
without name names = filter (λ other. not (bytes_eq other name)) names

abbrev pub seated_after : What → List (List ℕ) → List (List ℕ)
seated_after (Sat name) before = without name before ++ name ∷ []
seated_after (Rose name) before = without name before
seated_after _ before = before

-- who is seated: the names whose last Sat or Rose is a Sat, in the order of those Sats
abbrev pub seated_names : List Item → List (List ℕ)
seated_names [] = []
seated_names (i ∷ items) = seated_after i.what (seated_names items)

-- a watcher, with the seat whose shadow it is
abbrev pub Watcher : Type 0
Watcher = List ℕ × Option ℕ

-- the watchers but the one of this name
abbrev pub other_watchers : List ℕ → List Watcher → List Watcher
other_watchers name all = filter (λ (w : Watcher). not (bytes_eq w.0 name)) all

abbrev pub watchers_after : What → List Watcher → List Watcher
watchers_after (Watching name shadow) before = (name, shadow) ∷ other_watchers name before
watchers_after (Left name) before = other_watchers name before
watchers_after _ before = before

-- who watches: the names whose last Watching or Left is a Watching, with its shadow
abbrev pub watchers : List Item → List Watcher
watchers [] = []
watchers (i ∷ items) = watchers_after i.what (watchers items)

-- the shadow of a name that watches
abbrev pub shadow_of : List ℕ → List Watcher → Option (Option ℕ)
shadow_of name [] = None
shadow_of name (w ∷ rest) = if bytes_eq name w.0 then Some w.1 else shadow_of name rest

abbrev pub some_names : Option (List (Option (List ℕ))) → List (List ℕ)
some_names None = []
some_names (Some names) = filter_map (λ (name : Option (List ℕ)). name) names

-- who plays, in order of seats: those whom the Started names
abbrev pub players : List Item → List (List ℕ)
players items = some_names (one_of names_in items)

-- the place of a name, if the places begin from this one
abbrev pub place_from : ℕ → List ℕ → List (List ℕ) → Option ℕ
place_from k name [] = None
place_from k name (other ∷ names) =
    if bytes_eq name other then Some k else place_from (k + 1) name names

abbrev pub viewer_by : Option ℕ → Option (Option ℕ) → Viewer
viewer_by (Some seat) watch = viewer.Seat seat
viewer_by None (Some shadow) = viewer.Watcher shadow
viewer_by None None = viewer.Guest

-- how a member sees the table: a player from its seat, a watcher as one, anybody else as a guest
abbrev pub viewer_of : List Item → List ℕ → Viewer
viewer_of items member =
    viewer_by (place_from 0 member (players items)) (shadow_of member (watchers items))

abbrev pub same_viewer : Viewer → Viewer → Bool
same_viewer (viewer.Seat s) (viewer.Seat t) = s == t
same_viewer (viewer.Watcher a) (viewer.Watcher b) = option_eq ◌==◌ a b
same_viewer viewer.Guest viewer.Guest = true
same_viewer _ _ = false
