-- Is each view of a room one that can be written, and what does a cursor keep while the room goes on?
use Rattle.std.proofs.Common.{◌≡◌, ℕ, ◌*◌, Bool, true, false, List, [], ◌∷◌, ◌++◌, refl, ap, sym, subst, ◌∙◌, length, Some, None, Option}
use Rattle.std.specs.Prelude.{⊤, is_some, option_map, unwrap_or}
use Rattle.hb_rules.specs.declared.acts.Act.{Act}
use Rattle.hb_rules.specs.declared.acts.Options.{Options}
use Rattle.hb_rules.specs.declared.setups.Setup.{Setup}
use Rattle.hb_rules.specs.Result.{ended}
use Rattle.hb_rules.specs.Setup.{Position}
use Rattle.hb_timer.specs.declared.timing.Timing.{Timing}
use Rattle.hb_timer.specs.declared.timing.TimerCall.{TimerCall}
use Rattle.hb_review.specs.declared.steps.Step.{Step}
use Rattle.hb_club.specs.declared.items.Item.{Item}
use Rattle.hb_club.specs.declared.items.What.{What}
use Rattle.hb_club.specs.declared.items.What.TheVariants as what
use Rattle.hb_club.specs.declared.items.Viewer.{Viewer}
use Rattle.hb_club.specs.EndedReplays.{Finished}
use Rattle.hb_club.specs.Fronts.{GoesOn}
use Rattle.hb_club.specs.RoomEvents.{RoomEvent, Site}
use Rattle.hb_club.specs.Rooms.{past_of, table_at}
use Rattle.hb_club.specs.Seating.{players, some_names}
use Rattle.hb_club.specs.SeenGames.{IsSeenGame}
use Rattle.hb_club.specs.SeenTable.{seen_game}
use Rattle.hb_club.specs.Table.{Table}
use Rattle.hb_club.specs.TableClock.{timer_calls, timing_of}
use Rattle.hb_club.specs.TableFacts.{setup_when}
use Rattle.hb_club.specs.TableInvariant.{IsTable}
use Rattle.hb_club.specs.TableItems.{act_in, acts, is_started, names_in, one_of, steps}
use Rattle.hb_club.specs.TableRecord.{AreInOrder, IsRecord, StandsOn}
use Rattle.hb_club.specs.TableReview.{game_when, reviewed_game}
use Rattle.hb_club.specs.Views.{View, blind_of, loaded_view, view_as, view_at}
use Rattle.hb_club.specs.WholeGames.{BringWhole}
use Rattle.hb_club.proofs.NotedLoadsLemmas.{past_of-apart}
use Rattle.hb_club.proofs.RoomsLemmas.{items-go-on}
use Rattle.hb_club.proofs.SeenGameLemmas.{reviewed_game-seen, seen_game-seen}
use Rattle.hb_club.proofs.TableInvariantLemmas.{past_of-facts, table_of-is}
use Rattle.hb_club.proofs.TableRecordLemmas.{latest_items-record}
use Rattle.hb_view.specs.declared.cursors.Cursor.{Cursor}
use Rattle.hb_view.specs.Cursors.{IsKeptClock, IsKeptGame, Written, shown_game}
use Rattle.hb_view.specs.StreamLaws.{CursorsGoOn, ViewsAreStreams}
use Rattle.hb_view.specs.StreamViews.{AreStepsOf, view_review}
use Rattle.hb_view.proofs.RoomWalkLemmas.{Stays, WalksAt, past_of-stays, past_of-walks}
use Rattle.hb_view.proofs.ShownGameLemmas.{not-both, some-none, started-later}
use Rattle.hb_view.proofs.TableWalkLemmas.{RunsOn, Walks}

-- each view can be written

map-some : {A B : Type 0} (f : A → B) (o : Option A) → is_some (option_map f o) ≡ is_some o
map-some f None = refl
map-some f (Some x) = refl

-- each view of a room can be written as a stream
pub views-are-streams : ViewsAreStreams
unfolding view_at
views-are-streams s events member whole opened =
    let t : Table = table_at s events in
    let is : IsTable s t = table_of-is s (past_of s events) (past_of-facts s events whole) in
    let record_is : IsRecord t.items = latest_items-record s events in
    let walks : WalksAt s (past_of s events) = past_of-walks s events in
    let w : View = view_at s events member in record {
      site = s;
      table = t;
      is = is;
      seen = refl;
      opened = opened;
      order = record_is.order;
      apart = λ on. map-some loaded_view t.loaded ∙ (past_of-apart s events).apart on;
      came = λ on. map-some loaded_view t.loaded ∙ walks.came on;
      walks = subst (λ (o : Option Position). AreStepsOf o (steps t.items)) (sym
          (reviewed_game-seen s t w.viewer [] t.items is refl)) walks.walks;
      seat = record_is.seats member;
    }

-- what stays of a table while newer items come

-- a start stands where no game was started
start-stands : (w : What) (before : List Item) → StandsOn before w → is_some (names_in w) ≡ true → is_started before ≡ false
start-stands (what.Opened host) before stands is = absurd (not-both is refl)
start-stands (what.Sat name) before stands is = absurd (not-both is refl)
start-stands (what.Rose name) before stands is = absurd (not-both is refl)
start-stands (what.Watching name shadow) before stands is = absurd (not-both is refl)
start-stands (what.Left name) before stands is = absurd (not-both is refl)
start-stands (what.Started names) before stands is = stands
start-stands (what.Acted act) before stands is = absurd (not-both is refl)
start-stands (what.Paused by) before stands is = absurd (not-both is refl)
start-stands (what.Resumed by) before stands is = absurd (not-both is refl)
start-stands (what.Saved id) before stands is = absurd (not-both is refl)
start-stands (what.Loaded id) before stands is = absurd (not-both is refl)
start-stands (what.NoGame id) before stands is = absurd (not-both is refl)
start-stands (what.Reviewed turn hypos action) before stands is = absurd (not-both is refl)
start-stands what.Closed before stands is = absurd (not-both is refl)

-- so a game that was started keeps its players
names-stay : (more items : List Item) → AreInOrder (more ++ items) → is_started items ≡ true
    → one_of names_in (more ++ items) ≡ one_of names_in items
names-stay [] items order on = refl
names-stay (i ∷ more) items order on = pick (names_in i.what) refl (names-stay more items order.1 on)
  where
    pick : (o : Option (List (Option (List ℕ)))) → names_in i.what ≡ o → one_of names_in (more ++ items) ≡ one_of names_in items
        → one_of names_in (i ∷ more ++ items) ≡ one_of names_in items
    pick None e rest = rw e rest
    pick (Some names) e rest = absurd (not-both (started-later more items (more ++ items) refl on)
        (start-stands i.what (more ++ items) order.0 (ap is_some e)))

-- and a game that has ended keeps its acts
acts-stay : (g : Setup) (more items : List Item) → RunsOn g (more ++ items) → is_some (ended g (acts items)) ≡ true
    → acts (more ++ items) ≡ acts items
acts-stay g [] items runs over = refl
acts-stay g (i ∷ more) items runs over = pick (act_in i.what) refl (acts-stay g more items runs.1 over)
  where
    pick : (o : Option Act) → act_in i.what ≡ o → acts (more ++ items) ≡ acts items → acts (i ∷ more ++ items) ≡ acts items
    pick None e still = rw e still
    pick (Some act) e still = let on : is_some (ended g (acts (more ++ items))) ≡ false = rw e at runs.0 in
        absurd (not-both (ap (λ (past : List Act). is_some (ended g past)) still ∙ over) on)

-- the setup of a started game
setup-stays : (s : Site) (t u : Table) (more : List Item) → IsTable s t → IsTable s u → more ++ t.items ≡ u.items → AreInOrder u.items
    → u.latest ≡ t.latest → ◌≡◌ {A = List ℕ × Options} (u.name, u.options) (t.name, t.options) → is_started t.items ≡ true
    → u.game ≡ t.game
setup-stays s t u more is later all order latest opened on =
    let names : one_of names_in u.items ≡ one_of names_in t.items =
    ap (one_of names_in) (sym all) ∙ names-stay more t.items (subst AreInOrder (sym all) order) on in
    later.game
    ∙ (ap (λ (n : ℕ). setup_when (is_started u.items) s n (u.name, u.options) (length (players u.items))) latest
    ∙ (ap (λ (o : List ℕ × Options). setup_when (is_started u.items) s t.latest o (length (players u.items))) opened
    ∙ (ap (λ (o : Option (List (Option (List ℕ)))). setup_when (is_some o) s t.latest (t.name, t.options) (length (some_names o))) names
    ∙ sym is.game)))

-- the game that is reviewed
review-stays : (s : Site) (t u : Table) (more : List Item) (q : Position) → more ++ t.items ≡ u.items
    → (is_some t.loaded ≡ true → u.loaded ≡ t.loaded) → (is_started u.items ≡ true → is_some u.loaded ≡ false)
    → (is_started t.items ≡ true → u.game ≡ t.game) → (is_some t.game ≡ true → is_started t.items ≡ true)
    → Walks u.loaded u.game u.items
    → reviewed_game t.loaded t.game t.items ≡ Some q → reviewed_game u.loaded u.game u.items ≡ Some q
review-stays s t u more q all loaded apart game started walks is = by_loaded t.loaded refl t.game refl
  where
    by_loaded : (l : Option Finished) → t.loaded ≡ l → (o : Option Setup) → t.game ≡ o → reviewed_game u.loaded u.game u.items ≡ Some q
    by_loaded (Some r) e o f =
        let same : u.loaded ≡ Some r = loaded (ap is_some e) ∙ e in
        ap (λ (l : Option Finished). reviewed_game l u.game u.items) same
        ∙ (sym (ap (λ (l : Option Finished). reviewed_game l t.game t.items) e) ∙ is)
    by_loaded None e None f = absurd (some-none (sym is ∙ (ap (λ (l : Option Finished). reviewed_game l t.game t.items) e
        ∙ ap (λ (o : Option Setup). reviewed_game None o t.items) f)))
    by_loaded None e (Some g) f =
        let on : is_started t.items ≡ true = started (ap is_some f) in
        let same : u.game ≡ Some g = game on ∙ f in
        let unloaded : u.loaded ≡ None = none-of u.loaded (apart (started-later more t.items u.items all on)) in
        let before : game_when (is_some (ended g (acts t.items))) (record { setup = g; past = acts t.items }) ≡ Some q =
        sym (ap (λ (l : Option Finished). reviewed_game l t.game t.items) e
        ∙ ap (λ (o : Option Setup). reviewed_game None o t.items) f) ∙ is in
        let over : is_some (ended g (acts t.items)) ≡ true = ends (is_some (ended g (acts t.items)))
        (record { setup = g; past = acts t.items }) before in
        let past : acts u.items ≡ acts t.items =
        ap acts (sym all) ∙ acts-stay g more t.items (subst (RunsOn g) (sym all) (walks.runs g same)) over in
        ap (λ (l : Option Finished). reviewed_game l u.game u.items) unloaded
        ∙ (ap (λ (o : Option Setup). reviewed_game None o u.items) same
        ∙ (ap (λ (past : List Act). game_when (is_some (ended g past)) (record { setup = g; past = past })) past ∙ before))
      where
        none-of : (o : Option Finished) → is_some o ≡ false → o ≡ None
        none-of None e = refl
        none-of (Some r) e = absurd (not-both refl e)

        ends : (b : Bool) (p : Position) → game_when b p ≡ Some q → b ≡ true
        ends true p e = refl
        ends false p e = absurd (some-none (sym e))

-- what a cursor keeps

-- two setups that are seen of one game have the same times
timing-same : (h k : Setup) (items : List Item) → h.options ≡ k.options → h.players ≡ k.players → timing_of h items ≡ timing_of k items
timing-same h k items options count =
    ap (λ (o : Options). record {
      base = o.base_s * 1000;
      per_turn = o.per_turn_s * 1000;
      seats = h.players;
      first = o.starting;
      start = (timing_of h items).start;
    }) options
    ∙ ap (λ (n : ℕ). record {
      base = k.options.base_s * 1000;
      per_turn = k.options.per_turn_s * 1000;
      seats = n;
      first = k.options.starting;
      start = (timing_of h items).start;
    }) count

-- a kept game and its clock, by another setup that is seen of the same game
kept-game-same : (h k : Setup) (past : List Act) (o : Option Position) → h.variant ≡ k.variant → h.options ≡ k.options
    → h.players ≡ k.players
    → IsKeptGame h past o → IsKeptGame k past o
kept-game-same h k past None variant options players is = is
kept-game-same h k past (Some p) variant options players is = record {
  acts = is.acts;
  variant = is.variant ∙ variant;
  options = is.options ∙ options;
  players = is.players ∙ players;
}

-- the setups that two views see of one game
record SeenAlike (items : List Item) (h k : Setup) : Type 0 where
  variant : h.variant ≡ k.variant
  options : h.options ≡ k.options
  count : h.players ≡ k.players
  calls : timer_calls h items ≡ timer_calls k items

seen-alike : (blind other : ℕ) (items all more : List Item) (oh og : Option Setup) (k : Setup) → more ++ items ≡ all
    → IsSeenGame blind items oh og → IsSeenGame other all (Some k) og → (h : Setup) × ((oh ≡ Some h) × SeenAlike items h k)
seen-alike blind other items all more oh None k e first later = absurd later
seen-alike blind other items all more None (Some g) k e first later = absurd first
seen-alike blind other items all more (Some h) (Some g) k e first later = (
  h,
  (
    refl,
    record {
      variant = first.variant ∙ sym later.variant;
      options = first.options ∙ sym later.options;
      count = first.count ∙ sym later.count;
      calls = first.clock [] items refl ∙ sym (later.clock more items e);
    },
  ),
)

written-on : (s : Site) (t u : Table) (v : Viewer) (more : List Item) (c : Cursor) → IsTable s t → IsTable s u → more ++ t.items ≡ u.items
    → (is_started t.items ≡ true → u.game ≡ t.game)
    → ((q : Position) → reviewed_game t.loaded t.game t.items ≡ Some q → reviewed_game u.loaded u.game u.items ≡ Some q)
    → AreStepsOf (reviewed_game t.loaded t.game t.items) (steps t.items)
    → Written (view_as v t) t.items c → Written (view_as v u) t.items c
written-on s t u v more c is later all game review walks written = record {
  viewer = written.viewer;
  game = λ k e on. let seen : (h : Setup) × ((seen_game (view_as v t) ≡ Some h) × SeenAlike t.items h k) = alike k e on in
      kept-game-same seen.0 k (acts t.items) c.game seen.1.1.variant seen.1.1.options seen.1.1.count (written.game seen.0 seen.1.0 on);
  clock = λ k e on. let seen : (h : Setup) × ((seen_game (view_as v t) ≡ Some h) × SeenAlike t.items h k) = alike k e on in
      subst (λ (calls : List TimerCall). IsKeptClock (timing_of k t.items) calls c.clock) seen.1.1.calls
      (subst (λ (of : Timing). IsKeptClock of (timer_calls seen.0 t.items) c.clock)
      (timing-same seen.0 k t.items seen.1.1.options seen.1.1.count) (written.clock seen.0 seen.1.0 on));
  unstarted = written.unstarted;
  review = λ q e. by_steps q e (steps t.items) refl;
  unreviewed = written.unreviewed;
}
  where
    alike : (k : Setup) → seen_game (view_as v u) ≡ Some k → is_started t.items ≡ true
        → (h : Setup) × ((seen_game (view_as v t) ≡ Some h) × SeenAlike t.items h k)
    alike k e on = seen-alike (blind_of v (length (players t.items))) (blind_of v (length (players u.items))) t.items u.items more
        (seen_game (view_as v t)) t.game k all (seen_game-seen s t v is)
        (subst (λ (o : Option Setup). IsSeenGame (blind_of v (length (players u.items))) u.items (Some k) o) (game on)
        (subst (λ (o : Option Setup). IsSeenGame (blind_of v (length (players u.items))) u.items o u.game) e
        (seen_game-seen s u v later)))

    seen-before : view_review (view_as v t) ≡ reviewed_game t.loaded t.game t.items
    seen-before = reviewed_game-seen s t v [] t.items is refl

    seen-after : view_review (view_as v u) ≡ reviewed_game u.loaded u.game u.items
    seen-after = reviewed_game-seen s u v [] u.items later refl

    by_review : (q : Position) → view_review (view_as v u) ≡ Some q → (o : Option Position) → reviewed_game t.loaded t.game t.items ≡ o
        → (taken : List Step) → steps t.items ≡ taken → (taken ≡ [] → ⊥) → c.shown ≡ shown_game q (steps t.items)
    by_review q e None f taken some there = absurd (there (sym some
        ∙ subst (λ (o : Option Position). AreStepsOf o (steps t.items)) f walks))
    by_review q e (Some p) f taken some there =
        let same : p ≡ q = ap (λ (o : Option Position). unwrap_or o p) (sym (review p f) ∙ (sym seen-after ∙ e)) in
        subst (λ (r : Position). c.shown ≡ shown_game r (steps t.items)) same (written.review p (seen-before ∙ f))

    by_steps : (q : Position) → view_review (view_as v u) ≡ Some q → (taken : List Step) → steps t.items ≡ taken
        → c.shown ≡ shown_game q (steps t.items)
    by_steps q e [] none = written.unreviewed none ∙ ap (shown_game q) (sym none)
    by_steps q e (step ∷ taken) some = by_review q e (reviewed_game t.loaded t.game t.items) refl (step ∷ taken) some not-empty
      where
        IsThere : List Step → Type 0
        IsThere [] = ⊥
        IsThere (step ∷ steps) = ⊤

        not-empty : (step ∷ taken) ≡ [] → ⊥
        not-empty e = subst IsThere e tt

-- a started game of a table that has one
game-started : (s : Site) (t : Table) → IsTable s t → is_some t.game ≡ true → is_started t.items ≡ true
game-started s t is some = pick (is_started t.items) refl
  where
    pick : (b : Bool) → is_started t.items ≡ b → b ≡ true
    pick true e = refl
    pick false e = absurd (not-both some (ap is_some (is.game
        ∙ ap (λ (b : Bool). setup_when b s t.latest (t.name, t.options) (length (players t.items))) e)))

whole-rest : (more events : List RoomEvent) → BringWhole (more ++ events) → BringWhole events
whole-rest [] events whole = whole
whole-rest (e ∷ more) events whole = whole-rest more events whole.1

-- what a cursor keeps of a view it keeps while the room goes on
pub cursors-go-on : CursorsGoOn
unfolding view_at
cursors-go-on s more events member c whole latest viewer written =
    let t : Table = table_at s events in
    let u : Table = table_at s (more ++ events) in
    let v : Viewer = (view_at s events member).viewer in
    let is : IsTable s t = table_of-is s (past_of s events) (past_of-facts s events (whole-rest more events whole)) in
    let later : IsTable s u = table_of-is s (past_of s (more ++ events)) (past_of-facts s (more ++ events) whole) in
    let stays : Stays (past_of s events) (past_of s (more ++ events)) = past_of-stays s more events latest in
    let on : GoesOn t.items u.items = items-go-on s more events member latest in
    let order : AreInOrder u.items = (latest_items-record s (more ++ events)).order in
    let game : is_started t.items ≡ true → u.game ≡ t.game =
    setup-stays s t u on.more is later (sym on.is) order latest stays.opening in
    let walks : WalksAt s (past_of s events) = past_of-walks s events in
    let review : (q : Position) → reviewed_game t.loaded t.game t.items ≡ Some q → reviewed_game u.loaded u.game u.items ≡ Some q =
    λ (q : Position) (e : reviewed_game t.loaded t.game t.items ≡ Some q).
    review-stays s t u on.more q (sym on.is) stays.loaded (past_of-apart s (more ++ events)).apart game (game-started s t is)
    (past_of-walks s (more ++ events)) e in
    subst (λ (other : Viewer). Written (view_as other u) t.items c) (sym viewer)
    (written-on s t u v on.more c is later (sym on.is) game review walks.walks written)
