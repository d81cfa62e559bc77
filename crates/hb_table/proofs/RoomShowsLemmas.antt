-- Does an answer with the facts of a room show the view of its member?
use Rattle.std.proofs.Common.{◌≡◌, ℕ, ◌-◌, ◌≤◌, Bool, true, false, List, ◌∷◌, ◌++◌, refl, ap, arith, sym, subst, ◌∙◌, length, drop, take, length-drop, Some, None, Option}
use Rattle.std.specs.Prelude.{◌&&◌, ◌||◌, ◌==◌, is_some, nat_le, option_map, reverse, if◌then◌else◌}
use Rattle.std.proofs.lemmas.List.{length-reverse, reverse-append, take-append-drop}
use Rattle.std.proofs.Math.Seq.{drop-append_seam}
use Rattle.hb_rules.specs.declared.acts.Options.{Options}
use Rattle.hb_rules.specs.declared.setups.Setup.{Setup}
use Rattle.hb_rules.specs.declared.variants.Variant.{Variant}
use Rattle.hb_rules.specs.Setup.{Position}
use Rattle.hb_suits.specs.VariantNames.{variant_of}
use Rattle.hb_club.specs.declared.answers.Answered.{Answered}
use Rattle.hb_club.specs.declared.answers.Head.{Head}
use Rattle.hb_club.specs.declared.answers.Seen.{Seen}
use Rattle.hb_club.specs.declared.commands.Entry.{Entry}
use Rattle.hb_club.specs.declared.items.Item.{Item}
use Rattle.hb_club.specs.declared.items.Viewer.{Viewer}
use Rattle.hb_club.specs.declared.replies.Reply.{Reply}
use Rattle.hb_club.specs.EndedReplays.{Finished}
use Rattle.hb_club.specs.HallAnswers.{IsRoomAnswer, Shows, ShowsGame, game_head, head_of, items_from, played_head, seen_from}
use Rattle.hb_club.specs.RoomEvents.{Call, Replied, RoomEvent, Site}
use Rattle.hb_club.specs.Rooms.{table_at}
use Rattle.hb_club.specs.Seating.{Watcher, place_from, players, same_viewer, shadow_of, some_names, viewer_by, viewer_of}
use Rattle.hb_club.specs.Table.{Table}
use Rattle.hb_club.specs.TableFacts.{setup_for, setup_when}
use Rattle.hb_club.specs.TableInvariant.{IsTable}
use Rattle.hb_club.specs.TableItems.{is_started}
use Rattle.hb_club.specs.TableReview.{played_game}
use Rattle.hb_club.specs.Views.{loaded_view, pieces_for, view_as, view_at, view_on}
use Rattle.hb_club.proofs.TableInvariantLemmas.{names-by_seat}
use Rattle.hb_table.specs.declared.answers.Spare.{Spare}
use Rattle.hb_table.specs.declared.room.Room.{Room}
use Rattle.hb_table.specs.State.{State, position_in, state_at}
use Rattle.hb_table.specs.Keeps.{Keeps, StandsFor, site_in}
use Rattle.hb_table.specs.HeadMoves.{MovesHead, PlayAfter}
use Rattle.hb_table.specs.Shown.{game_by, game_of}
use Rattle.hb_table.specs.Spares.{HasFacts, IsSpare, first_in, has_game, head_in, head_with, names_by, viewer_in}
use Rattle.hb_table.specs.Steps.{Steps}
use Rattle.hb_table.specs.Verdicts.{opens_in}
use Rattle.hb_table.proofs.PendingStateLemmas.{state_at-table}

-- the game

-- a room has the game that its table shows
pub game_of-in : (r : Room) (events : List RoomEvent) → StandsFor r events
    → game_by r.loaded r.game ≡ game_of (table_at (site_in r) events)
game_of-in r events stands =
    ap (λ (l : Option Finished). game_by l r.game) stands.keeps.loaded
    ∙ ap (game_by (table_at (site_in r) events).loaded) stands.keeps.game

-- what a table's game was started with
record StartsWith (t : Table) (g : Setup) : Type 0 where
  pub variant : variant_of t.name ≡ Some g.variant
  pub options : g.options ≡ t.options
  pub count : g.players ≡ length (players t.items)

starts-with : (s : Site) (t : Table) (g : Setup) → IsTable s t → t.game ≡ Some g → StartsWith t g
starts-with s t g is game = pick (is_started t.items) refl (sym is.game ∙ game)
  where
    count : ℕ
    count = length (players t.items)

    named : (o : Option Variant) → variant_of t.name ≡ o → option_map (setup_for s t.latest t.options (length (players t.items))) o ≡ Some g
        → StartsWith t g
    named None name made = cc
    named (Some v) name made =
        let same : setup_for s t.latest t.options (length (players t.items)) v ≡ g = cc in record {
          variant = name ∙ ap (λ (h : Setup). Some h.variant) same;
          options = sym (ap (λ (h : Setup). h.options) same);
          count = sym (ap (λ (h : Setup). h.players) same);
        }

    pick : (b : Bool) → is_started t.items ≡ b → setup_when b s t.latest (t.name, t.options) (length (players t.items)) ≡ Some g
        → StartsWith t g
    pick true on made = named (variant_of t.name) refl made
    pick false off made = cc

-- a view shows that game
shows-game : (s : Site) (t : Table) (v : Viewer) → IsTable s t → ShowsGame (view_as v t) (view_as v t).loaded (game_of t)
shows-game s t v is = loads t.loaded refl
  where
    plays : (g : Option Setup) → t.game ≡ g → ShowsGame (view_as v t) None (option_map (λ (h : Setup). played_game h t.items) g)
    plays None game = (ap (λ (o : Option Setup). pieces_for v o t.items) game, refl)
    plays (Some g) game = let with : StartsWith t g = starts-with s t g is game in record {
      variant = with.variant;
      options = with.options;
      count = with.count;
      told = sym (ap (λ (o : Option Setup). pieces_for v o t.items) game);
    }

    loads : (l : Option Finished) → t.loaded ≡ l
        → ShowsGame (view_as v t) (option_map loaded_view t.loaded) (game_by t.loaded (position_in t))
    loads (Some l) loaded =
        subst (λ (o : Option Finished). ShowsGame (view_as v t) (option_map loaded_view o) (game_by o (position_in t))) (sym loaded) refl
    loads None loaded =
        subst (λ (o : Option Finished). ShowsGame (view_as v t) (option_map loaded_view o) (game_by o (position_in t))) (sym loaded)
        (plays t.game refl)

-- the viewer and the items

-- how a member sees the table
pub viewer-in : (x : State) (r : Room) (m : List ℕ) → Keeps x r → viewer_in r m ≡ viewer_of x.table.items m
viewer-in x r m k =
    ap (λ (names : Option (List (Option (List ℕ)))). viewer_by (place_from 0 m (some_names names)) (shadow_of m r.watchers.items)) k.names
    ∙ ap (λ (all : List Watcher). viewer_by (place_from 0 m (players x.table.items)) (shadow_of m all)) k.watchers

abbrev from_by : Seen → ℕ → Viewer → ℕ → ℕ
from_by seen latest v count = if seen.table == latest && same_viewer seen.viewer v && nat_le seen.count count then seen.count else 0

first-in : (x : State) (r : Room) (m : List ℕ) (seen : Seen) → Keeps x r
    → first_in r (viewer_in r m) seen ≡ seen_from seen (view_on x.table m)
first-in x r m seen k =
    ap (λ (n : ℕ). from_by seen n (viewer_in r m) (length r.items.items)) k.latest
    ∙ ap (λ (v : Viewer). from_by seen x.table.latest v (length r.items.items)) (viewer-in x r m k)
    ∙ ap (from_by seen x.table.latest (viewer_of x.table.items m)) (ap length k.items ∙ length-reverse x.table.items)

drop-reverse : (n : ℕ) (items : List Item) → n ≤ length items → drop n (reverse items) ≡ items_from n items
drop-reverse n items within =
    let k : ℕ = length items - n in
    let front : List Item = reverse (drop k items) in
    let all : reverse items ≡ front ++ reverse (take k items) =
    ap reverse (sym (take-append-drop k items)) ∙ reverse-append (take k items) (drop k items) in
    let dropped : length (drop k items) ≡ length items - k = length-drop k items in
    let count : length front ≡ n = length-reverse (drop k items) ∙ omega (arith, dropped, within) in
    ap (drop n) all ∙ ap (λ (i : ℕ). drop i (front ++ reverse (take k items))) (sym count)
    ∙ drop-append_seam front (reverse (take k items))

-- the head

-- those who are seated play
seats-play : (s : Site) (x : State) (r : Room) → IsTable s x.table → Keeps x r → is_some r.names ≡ true
    → r.seats.items ≡ some_names r.names
seats-play s x r is k some = k.seats ∙ is.seats (sym (ap is_some k.names) ∙ some) ∙ ap some_names (sym k.names)

abbrev head_by : ℕ → List ℕ → Options → Option (List ℕ × List (List ℕ)) → Option Head
head_by latest name options game = if latest == 0 then None else Some (record { name = name; options = options; game = game })

abbrev game_names : Room → Option (List ℕ × List (List ℕ))
game_names r = if has_game r then Some (names_by r.loaded r) else None

names-in : (s : Site) (x : State) (r : Room) (m : List ℕ) → IsTable s x.table → Keeps x r
    → game_head (view_on x.table m).loaded (view_on x.table m) ≡ game_names r
names-in s x r m is k = loads r.loaded refl
  where
    plays : (o : Option (List (Option (List ℕ)))) → r.names ≡ o
        → played_head (is_some r.names) (view_on x.table m) ≡ (if is_some r.names then Some (r.name, r.seats.items) else None)
    plays None none = rw none refl
    plays (Some names) some =
        let on : is_some r.names ≡ true = ap is_some some in
        let seats : r.seats.items ≡ players x.table.items = seats-play s x r is k on ∙ ap some_names k.names in
        rw (on, k.name, seats) refl

    loads : (l : Option Finished) → r.loaded ≡ l
        → game_head (option_map loaded_view x.table.loaded) (view_on x.table m) ≡ game_names r
    loads (Some l) loaded =
        ap (λ (o : Option Finished). game_head (option_map loaded_view o) (view_on x.table m)) (sym k.loaded ∙ loaded)
        ∙ sym (ap (λ (o : Option Finished). if is_some o || is_some r.names then Some (names_by o r) else None) loaded)
    loads None loaded =
        ap (λ (o : Option Finished). game_head (option_map loaded_view o) (view_on x.table m)) (sym k.loaded ∙ loaded)
        ∙ ap (λ (b : Bool). played_head b (view_on x.table m)) (sym (ap is_some k.names))
        ∙ plays r.names refl
        ∙ sym (ap (λ (o : Option Finished). if is_some o || is_some r.names then Some (names_by o r) else None) loaded)

head-in : (s : Site) (x : State) (r : Room) (m : List ℕ) → IsTable s x.table → Keeps x r → head_in r ≡ head_of (view_on x.table m)
head-in s x r m is k =
    ap (λ (n : ℕ). head_by n r.name r.options (game_names r)) k.latest
    ∙ ap (λ (name : List ℕ). head_by x.table.latest name r.options (game_names r)) k.name
    ∙ ap (λ (options : Options). head_by x.table.latest x.table.name options (game_names r)) k.options
    ∙ ap (head_by x.table.latest x.table.name x.table.options) (sym (names-in s x r m is k))

-- a room has the head of the view of each member
pub head_of-in : (r : Room) (events : List RoomEvent) (m : List ℕ) → StandsFor r events
    → head_in r ≡ head_of (view_at (site_in r) events m)
unfolding view_at
head_of-in r events m stands =
    head-in (site_in r) (state_at (site_in r) events) r m (state_at-table (site_in r) events stands.whole) stands.keeps

-- the answer to an entry

-- two rooms, before an entry and behind it, of which each keeps what some list of events says
record Between (a b : Room) : Type 0 where
  pub site : Site
  pub before : State
  pub after : State
  pub was : IsTable site before.table
  pub is : IsTable site after.table
  pub kept : Keeps before a
  pub keeps : Keeps after b

no-game : (b : Room) → b.loaded ≡ None → b.names ≡ None → has_game b ≡ true → ⊥
no-game b unloaded bare some =
    let off : has_game b ≡ false = rw (unloaded, bare) refl in
    let never : false ≡ true = sym off ∙ some in cc

-- the texts that were copied before the entry are those of the game behind it
names-after : (o : Bool) (e : Entry) (a b : Room) → Between a b → MovesHead o e a b → has_game b ≡ true
    → names_by a.loaded a ≡ names_by b.loaded b
names-after true e a b two moves some = absurd (no-game b moves.loaded moves.names some)
names-after false e a b two moves some = loads a.loaded refl
  where
    play : (before after : Option (List (Option (List ℕ)))) → a.names ≡ before → b.names ≡ after → b.loaded ≡ None
        → PlayAfter false before a.seats.items after → a.seats.items ≡ b.seats.items
    play before None was is unloaded stays = absurd (no-game b unloaded is some)
    play None (Some names) was is unloaded begins =
        sym (names-by_seat a.seats.items) ∙ ap (λ (by : List (Option (List ℕ))). some_names (Some by)) (sym begins)
        ∙ sym (seats-play two.site two.after b two.is two.keeps (ap is_some is) ∙ ap some_names is)
    play (Some old) (Some names) was is unloaded stays =
        seats-play two.site two.before a two.was two.kept (ap is_some was) ∙ ap some_names (was ∙ sym stays ∙ sym is)
        ∙ sym (seats-play two.site two.after b two.is two.keeps (ap is_some is))

    loads : (l : Option Finished) → a.loaded ≡ l → names_by a.loaded a ≡ names_by b.loaded b
    loads (Some l) loaded =
        ap (λ (o : Option Finished). names_by o a) loaded ∙ sym (ap (λ (o : Option Finished). names_by o b) (moves.loaded ∙ loaded))
    loads None loaded =
        let unloaded : b.loaded ≡ None = moves.loaded ∙ loaded in
        let seats : a.seats.items ≡ b.seats.items = play a.names b.names refl refl unloaded moves.names in
        ap (λ (o : Option Finished). names_by o a) loaded
        ∙ ap (λ (name : List ℕ). (name, a.seats.items)) (sym moves.name)
        ∙ ap (λ (all : List (List ℕ)). (b.name, all)) seats
        ∙ sym (ap (λ (o : Option Finished). names_by o b) unloaded)

some-if : (c : Bool) (p q : List ℕ × List (List ℕ)) → (c ≡ true → p ≡ q) → (if c then Some p else None) ≡ (if c then Some q else None)
some-if true p q same = ap Some (same refl)
some-if false p q same = refl

-- so the head is the room's
head-spare : (e : Entry) (a b : Room) (spare : Spare) → Between a b → IsSpare e a spare → MovesHead (opens_in a e) e a b
    → head_with b spare.name spare.names ≡ head_in b
head-spare e a b spare two is moves =
    ap (λ (name : List ℕ). head_with b name spare.names) (is.name ∙ sym moves.name)
    ∙ ap (head_by b.latest b.name b.options)
    (some-if (has_game b) spare.names (names_by b.loaded b) (λ some. is.names ∙ names-after (opens_in a e) e a b two moves some))

-- an answer with the facts of a room shows the view
facts-show : (s : Site) (x : State) (r : Room) (m : List ℕ) (seen : Seen) (answered : Answered) → IsTable s x.table → Keeps x r
    → HasFacts m seen (head_in r) r answered → Shows (view_on x.table m) (seen_from seen (view_on x.table m)) answered
facts-show s x r m seen answered is k facts =
    let first : answered.from ≡ seen_from seen (view_on x.table m) = facts.first ∙ first-in x r m seen k in
    let count : length r.items.items ≡ length x.table.items = ap length k.items ∙ length-reverse x.table.items in
    let within : answered.from ≤ length x.table.items = subst (λ (n : ℕ). answered.from ≤ n) count facts.within in
    let game : game_of x.table ≡ answered.game =
    sym (facts.game ∙ ap (λ (l : Option Finished). game_by l r.game) k.loaded ∙ ap (game_by x.table.loaded) k.game) in
    record {
      table = facts.table ∙ k.latest;
      viewer = facts.viewer ∙ viewer-in x r m k;
      head = facts.head_is ∙ head-in s x r m is k;
      game = subst (λ (o : Option Position). ShowsGame (view_on x.table m) (view_on x.table m).loaded o) game
          (shows-game s x.table (viewer_of x.table.items m) is);
      first = first;
      items = facts.items ∙ ap (drop answered.from) k.items ∙ drop-reverse answered.from x.table.items within
          ∙ ap (λ (n : ℕ). items_from n x.table.items) first;
    }

-- so what a room answers with the memory that it took before is the answer
pub answer-shows : (e : Entry) (seen : Seen) (reply : Reply) (a b : Room) (spare : Spare) (answered : Answered) → IsSpare e a spare
    → Steps e reply a b → MovesHead (opens_in a e) e a b → site_in b ≡ site_in a → answered.reply ≡ reply
    → HasFacts e.member seen (head_with b spare.name spare.names) b answered
    → (events : List RoomEvent) → StandsFor a events
    → StandsFor b (Call e ∷ events) × IsRoomAnswer (site_in a) e seen answered (Call e ∷ events)
unfolding view_at
answer-shows e seen reply a b spare answered has steps moves site replies facts events stands =
    let s : Site = site_in a in
    let after : StandsFor b (Call e ∷ events) = (steps events stands).0 in
    let keeps : Keeps (state_at s (Call e ∷ events)) b = subst (λ (u : Site). Keeps (state_at u (Call e ∷ events)) b) site after.keeps in
    let is : IsTable s (state_at s (Call e ∷ events)).table = state_at-table s (Call e ∷ events) after.whole in
    let two : Between a b = record {
      site = s;
      before = state_at s events;
      after = state_at s (Call e ∷ events);
      was = state_at-table s events stands.whole;
      is = is;
      kept = stands.keeps;
      keeps = keeps;
    } in
    let shown : HasFacts e.member seen (head_in b) b answered =
    subst (λ (head : Option Head). HasFacts e.member seen head b answered) (head-spare e a b spare two has moves) facts in (
      after,
      record {
        reply = (steps events stands).1 ∙ ap Replied (sym replies);
        shows = facts-show s (state_at s (Call e ∷ events)) b e.member seen answered is keeps shown;
        whole = after.whole;
      },
    )
