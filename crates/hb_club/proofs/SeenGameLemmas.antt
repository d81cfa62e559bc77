-- Which game does a view have? The one that is played at its table, as far as it is seen, with its clock; and the loaded one whole.
use Rattle.std.proofs.Common.{◌≡◌, ℕ, ◌≤◌, Bool, true, false, List, [], ◌∷◌, ◌++◌, refl, ap, arith, sym, subst, ◌∙◌, ◌+◌, ◌-◌, length, drop, length-append, Some, None, Option}
use Rattle.std.specs.Prelude.{is_some, ◌&&◌, option_map}
use Rattle.std.proofs.lemmas.List.{append_assoc}
use Rattle.std.proofs.lemmas.List.Elements.{filter_map-append}
use Rattle.hb_rules.specs.declared.acts.Act.{Act}
use Rattle.hb_rules.specs.declared.acts.Options.{Options}
use Rattle.hb_rules.specs.declared.events.Event.{Event}
use Rattle.hb_rules.specs.declared.setups.Setup.{Setup}
use Rattle.hb_rules.specs.declared.variants.Variant.{Variant}
use Rattle.hb_rules.specs.Events.{acts_of, observation}
use Rattle.hb_rules.specs.Observed.{Observed, observed}
use Rattle.hb_rules.specs.Result.{ended}
use Rattle.hb_rules.specs.Setup.{Position}
use Rattle.hb_suits.specs.VariantNames.{variant_of}
use Rattle.hb_review.specs.Reviews.{first_of}
use Rattle.hb_sight.specs.Seen.{seen_position}
use Rattle.hb_sight.proofs.NamedActs.{acts_of-observation}
use Rattle.hb_seen.specs.Pieces.{piece_events, pieces}
use Rattle.hb_seen.specs.SeenSetup.{HasCards, seen_setup}
use Rattle.hb_seen.specs.StandsAlike.{StandsAlike}
use Rattle.hb_seen.proofs.EndedLemmas.{seen_setup-ended}
use Rattle.hb_seen.proofs.PiecesLemmas.{drop-pieces, length-pieces, piece_events-pieces}
use Rattle.hb_seen.proofs.StandsAlikeLemmas.{deck_after-long, rule-seen, stands-alike}
use Rattle.hb_club.specs.declared.items.Item.{Item}
use Rattle.hb_club.specs.declared.items.What.{What}
use Rattle.hb_club.specs.declared.items.What.TheVariants as what
use Rattle.hb_club.specs.declared.items.Viewer.{Viewer}
use Rattle.hb_club.specs.EndedReplays.{Finished}
use Rattle.hb_club.specs.HallAnswers.{ShowsPlayed}
use Rattle.hb_club.specs.RoomEvents.{Site}
use Rattle.hb_club.specs.Seating.{players}
use Rattle.hb_club.specs.SeenGames.{GameIsSeen, IsSeenGame}
use Rattle.hb_club.specs.SeenTable.{seen_finished, seen_game, seen_table, seen_when, view_observed, view_setup}
use Rattle.hb_club.specs.Table.{Table, game_calls}
use Rattle.hb_club.specs.TableClock.{calls_after, timer_calls}
use Rattle.hb_club.specs.TableFacts.{setup_for, setup_when}
use Rattle.hb_club.specs.TableInvariant.{IsTable}
use Rattle.hb_club.specs.TableItems.{act_in, acts, is_standing, is_started}
use Rattle.hb_club.specs.TableReview.{game_when, played_game, reviewed_game}
use Rattle.hb_club.specs.TimeFirst.{timeout, timeout_when}
use Rattle.hb_club.specs.Views.{View, blind_of, loaded_view, pieces_for, view_as}
use Rattle.hb_club.specs.WholeGames.{IsWhole, IsWholeGame}
use Rattle.hb_club.proofs.DeckLemmas.{setup_for-cards}

-- the calls of the clock are the same in two setups in which the game ends alike
timer_calls-same : (h g : Setup) (all : List Act) → ((more past : List Act) → more ++ past ≡ all → ended h past ≡ ended g past)
    → (items : List Item) (more : List Act) → more ++ acts items ≡ all → timer_calls h items ≡ timer_calls g items
timer_calls-same h g all ends [] more e = refl
timer_calls-same h g all ends (i ∷ items) more e = step i.what e (timer_calls-same h g all ends items)
  where
    step : (w : What) → more ++ acts (record { moment = i.moment; what = w } ∷ items) ≡ all
        → ((before : List Act) → before ++ acts items ≡ all → timer_calls h items ≡ timer_calls g items)
        → calls_after h (acts items) i.moment w (timer_calls h items) ≡ calls_after g (acts items) i.moment w (timer_calls g items)
    step (what.Acted act) e ih =
        rw (ends more (act ∷ acts items) e, ih (more ++ act ∷ []) (append_assoc more (act ∷ []) (acts items) ∙ e)) refl
    step (what.Paused by) e ih = rw (ih more e) refl
    step (what.Resumed by) e ih = rw (ih more e) refl
    step (what.Opened host) e ih = ih more e
    step (what.Sat name) e ih = ih more e
    step (what.Rose name) e ih = ih more e
    step (what.Watching name shadow) e ih = ih more e
    step (what.Left name) e ih = ih more e
    step (what.Started names) e ih = ih more e
    step (what.Saved id) e ih = ih more e
    step (what.Loaded id) e ih = ih more e
    step (what.NoGame id) e ih = ih more e
    step (what.Reviewed turn hypos action) e ih = ih more e
    step what.Closed e ih = ih more e

-- the acts of more items, behind those before
pub acts-append : (more before : List Item) → acts (more ++ before) ≡ acts more ++ acts before
acts-append more before = filter_map-append (λ (i : Item). act_in i.what) more before

-- what a blind set sees of a started game
game-seen : (blind : ℕ) (items : List Item) (g : Setup) → is_started items ≡ true → HasCards g → 2 ≤ g.players
    → GameIsSeen blind items (seen_setup blind g (acts items)) g
game-seen blind items g started many two =
    let stands : (more past : List Act) → more ++ past ≡ acts items → StandsAlike (seen_setup blind g (acts items)) g past =
    λ more past e. subst (λ (all : List Act). StandsAlike (seen_setup blind g all) g past) e (stands-alike blind g more past many) in
    record {
      started = started;
      variant = refl;
      options = refl;
      count = refl;
      size = deck_after-long blind g (acts items) many;
      stands = stands;
      clock = λ more before e. timer_calls-same (seen_setup blind g (acts items)) g (acts items)
          (λ later past same. (stands later past same).end) before (acts more) (sym (acts-append more before) ∙ ap acts e);
      rules = λ who a tell. rule-seen blind g [] (acts items) who a many tell;
      over = λ more past e over. subst (λ (all : List Act). seen_setup blind g all ≡ g) e
          (seen_setup-ended blind g more past many two over);
    }

-- what is observed of a game of these settings
abbrev observed_with : ℕ → Variant → Options → ℕ → List Event → Observed
observed_with blind v o count seen = record { blind = blind; variant = v; options = o; players = count; events = seen }

-- what a view has observed of the played game
view_observed-is : (v : Viewer) (t : Table) (g : Setup) (u : Variant) → t.game ≡ Some g → u ≡ g.variant → t.options ≡ g.options
    → length (players t.items) ≡ g.players
    → observed_with (blind_of v (length (players t.items))) u t.options (length (players t.items))
    (piece_events (pieces_for v t.game t.items))
    ≡ observed (blind_of v g.players) (played_game g t.items)
view_observed-is v t g u is variant options count =
    rw (is, variant, options, count)
    (ap (observed_with (blind_of v g.players) g.variant g.options g.players) (piece_events-pieces (blind_of v g.players) g (acts t.items)))

seen-some : (s : Site) (t : Table) (v : Viewer) (o : Option Variant) → is_started t.items ≡ true → 2 ≤ length (players t.items)
    → t.game ≡ option_map (setup_for s t.latest t.options (length (players t.items))) o
    → IsSeenGame (blind_of v (length (players t.items))) t.items (option_map (view_setup (view_as v t)) o) t.game
seen-some s t v None started two game = rw game tt
seen-some s t v (Some u) started two game =
    let g : Setup = setup_for s t.latest t.options (length (players t.items)) u in
    let blind : ℕ = blind_of v (length (players t.items)) in
    let seen : view_setup (view_as v t) u ≡ seen_setup blind g (acts t.items) =
    ap (λ (seen : Observed). (seen_position seen).setup) (view_observed-is v t g u game refl refl refl) in
    subst (λ (h : Setup). IsSeenGame blind t.items (Some h) t.game) (sym seen)
    (subst (λ (o : Option Setup). IsSeenGame blind t.items (Some (seen_setup blind g (acts t.items))) o) (sym game)
    (game-seen blind t.items g started (setup_for-cards s t.latest t.options (length (players t.items)) u) two))

seen-when : (s : Site) (t : Table) (v : Viewer) (b : Bool) → is_started t.items ≡ b → (b ≡ true → 2 ≤ length (players t.items))
    → t.game ≡ setup_when b s t.latest (t.name, t.options) (length (players t.items))
    → IsSeenGame (blind_of v (length (players t.items))) t.items (seen_when b (view_as v t)) t.game
seen-when s t v false started two game = rw game tt
seen-when s t v true started two game = seen-some s t v (variant_of t.name) started (two refl) game

-- a view has the game that is played
pub seen_game-seen : (s : Site) (t : Table) (v : Viewer) → IsTable s t
    → IsSeenGame (blind_of v (length (players t.items))) t.items (seen_game (view_as v t)) t.game
seen_game-seen s t v is = seen-when s t v (is_started t.items) refl is.two is.game

-- what everybody sees of a loaded game is that game
seen_finished-is : (r : Finished) → IsWhole r.game → seen_finished (loaded_view r) ≡ r
seen_finished-is r is =
    ap (λ (past : List Act). record {
      name = r.name;
      players = r.players;
      game = record { setup = seen_setup 0 r.game.setup r.game.past; past = past };
    }) (acts_of-observation 0 r.game.setup r.game.past)
    ∙ ap (λ (g : Setup). record { name = r.name; players = r.players; game = record { setup = g; past = r.game.past } })
    (seen_setup-ended 0 r.game.setup [] r.game.past is.cards is.two is.over)

-- so a view has the loaded game
pub loaded-seen : (o : Option Finished) → IsWholeGame o → option_map seen_finished (option_map loaded_view o) ≡ o
loaded-seen None is = refl
loaded-seen (Some r) is = ap Some (seen_finished-is r is)

-- the calls of the clock are seen
pub game_calls-seen : (blind : ℕ) (items : List Item) (h g : Option Setup) → IsSeenGame blind items h g
    → game_calls h items ≡ game_calls g items
game_calls-seen blind items None None is = refl
game_calls-seen blind items (Some h) (Some g) is = is.clock [] items refl
game_calls-seen blind items (Some h) None is = absurd is
game_calls-seen blind items None (Some g) is = absurd is

timeout_when-seen : (b : Bool) (blind : ℕ) (items : List Item) (h g : Setup) (moment : ℕ) → GameIsSeen blind items h g
    → timeout_when b h items moment ≡ timeout_when b g items moment
timeout_when-seen true blind items h g moment is = rw (is.clock [] items refl, is.options, is.count) refl
timeout_when-seen false blind items h g moment is = refl

timeout-same : (t k : Table) (blind : ℕ) (h g : Option Setup) (moment : ℕ) → k.items ≡ t.items → k.options ≡ t.options
    → IsSeenGame blind t.items h g → timeout k h moment ≡ timeout t g moment
timeout-same t k blind None None moment items options is = refl
timeout-same t k blind (Some h) (Some g) moment items options is =
    rw (items, options) (timeout_when-seen (is_standing t.items && t.options.timed) blind t.items h g moment is)
timeout-same t k blind (Some h) None moment items options is = absurd is
timeout-same t k blind None (Some g) moment items options is = absurd is

-- and so is what time adds
pub timeout-seen : (s : Site) (t : Table) (v : Viewer) (moment : ℕ) → IsTable s t
    → timeout (seen_table (view_as v t)) (seen_game (view_as v t)) moment ≡ timeout t t.game moment
timeout-seen s t v moment is =
    timeout-same t (seen_table (view_as v t)) (blind_of v (length (players t.items))) (seen_game (view_as v t)) t.game moment refl refl
    (seen_game-seen s t v is)

-- the pieces of the first acts
first-pieces : (blind : ℕ) (g : Setup) (more past : List Act)
    → first_of (length past + 1) (pieces blind g (more ++ past)) ≡ pieces blind g past
first-pieces blind g more past =
    let told : List (List Event) = pieces blind g (more ++ past) in
    let count : length told - (length past + 1) ≡ length more =
    omega (arith, length-pieces blind g (more ++ past), length-append more past) in
    ap (λ (n : ℕ). drop n told) count ∙ drop-pieces blind g more past

-- of a game that a view shows
pub first-told : (w : View) (p : Position) (more past : List Act) → ShowsPlayed w p → more ++ past ≡ p.past
    → first_of (length past + 1) w.pieces ≡ pieces (blind_of w.viewer p.setup.players) p.setup past
first-told w p more past is same =
    ap (first_of (length past + 1)) (sym is.told ∙ ap (pieces (blind_of w.viewer p.setup.players) p.setup) (sym same))
    ∙ first-pieces (blind_of w.viewer p.setup.players) p.setup more past

-- what a view tells up to an item is the observation of the acts up to it
pub piece_events-first : (t : Table) (v : Viewer) (g : Setup) (more before : List Item) → t.game ≡ Some g → more ++ before ≡ t.items
    → piece_events (first_of (length (acts before) + 1) (view_as v t).pieces) ≡ observation (blind_of v g.players) g (acts before)
piece_events-first t v g more before game all =
    let blind : ℕ = blind_of v g.players in
    ap (λ (o : Option Setup). piece_events (first_of (length (acts before) + 1) (pieces_for v o t.items))) game
    ∙ (ap (λ (past : List Act). piece_events (first_of (length (acts before) + 1) (pieces blind g past)))
    (sym (sym (acts-append more before) ∙ ap acts all))
    ∙ (ap piece_events (first-pieces blind g (acts more) (acts before)) ∙ piece_events-pieces blind g (acts before)))

-- what a view has observed of a game that it shows
observed-shown : (w : View) (p : Position) → ShowsPlayed w p
    → view_observed w p.setup.variant ≡ observed (blind_of w.viewer p.setup.players) p
observed-shown w p is = rw (← is.options, ← is.count, ← is.told)
    (ap (observed_with (blind_of w.viewer p.setup.players) p.setup.variant p.setup.options p.setup.players)
    (piece_events-pieces (blind_of w.viewer p.setup.players) p.setup p.past))

seen_game-shown : (w : View) (p : Position) → ShowsPlayed w p → is_started w.items ≡ true
    → seen_game w ≡ Some (seen_setup (blind_of w.viewer p.setup.players) p.setup p.past)
seen_game-shown w p is started =
    rw (started, is.variant) (ap (λ (seen : Observed). Some ((seen_position seen).setup)) (observed-shown w p is))

-- the view has that game
pub seen_game-answered : (w : View) (p : Position) → ShowsPlayed w p → is_started w.items ≡ true → acts w.items ≡ p.past
    → HasCards p.setup → 2 ≤ p.setup.players
    → IsSeenGame (blind_of w.viewer p.setup.players) w.items (seen_game w) (Some p.setup)
seen_game-answered w p is started same many two =
    let blind : ℕ = blind_of w.viewer p.setup.players in
    subst (λ (o : Option Setup). IsSeenGame blind w.items o (Some p.setup)) (sym (seen_game-shown w p is started))
    (subst (λ (past : List Act). IsSeenGame blind w.items (Some (seen_setup blind p.setup past)) (Some p.setup)) same
    (game-seen blind w.items p.setup started many two))

-- the acts that the pieces of a game name
acts_of-pieces : (blind : ℕ) (g : Setup) (past : List Act) → acts_of (piece_events (pieces blind g past)) ≡ past
acts_of-pieces blind g past = ap acts_of (piece_events-pieces blind g past) ∙ acts_of-observation blind g past

acts-of-shown : (v : Viewer) (t : Table) (p : Position) (o : Option Setup) → t.game ≡ o → is_some o ≡ true
    → ShowsPlayed (view_as v t) p → acts t.items ≡ p.past
acts-of-shown v t p None is some shown = cc
acts-of-shown v t p (Some g) is some shown = sym (acts_of-pieces (blind_of v g.players) g (acts t.items))
    ∙ (ap (λ (told : List (List Event)). acts_of (piece_events told))
    (sym (ap (λ (o : Option Setup). pieces_for v o t.items) is) ∙ sym shown.told)
    ∙ acts_of-pieces (blind_of v p.setup.players) p.setup p.past)

-- are those of a game that the view shows
pub acts-shown : (s : Site) (t : Table) (v : Viewer) (p : Position) → IsTable s t → ShowsPlayed (view_as v t) p
    → is_some t.game ≡ true → acts t.items ≡ p.past
acts-shown s t v p is shown some = acts-of-shown v t p t.game refl some shown

-- the game that is reviewed is the same in what is seen
pub reviewed_game-same : (blind : ℕ) (items more before : List Item) (loaded : Option Finished) (h g : Option Setup)
    → IsSeenGame blind items h g → more ++ before ≡ items → reviewed_game loaded h before ≡ reviewed_game loaded g before
reviewed_game-same blind items more before (Some r) h g is all = refl
reviewed_game-same blind items more before None None None is all = refl
reviewed_game-same blind items more before None (Some h) (Some g) is all =
    pick (is_some (ended g (acts before))) refl (is.stands (acts more) (acts before) acts-all).end
  where
    acts-all : acts more ++ acts before ≡ acts items
    acts-all = sym (acts-append more before) ∙ ap acts all

    pick : (b : Bool) → is_some (ended g (acts before)) ≡ b → ended h (acts before) ≡ ended g (acts before)
        → game_when (is_some (ended h (acts before))) (played_game h before)
        ≡ game_when (is_some (ended g (acts before))) (played_game g before)
    pick true e same =
        rw (same, e) (ap (λ (k : Setup). Some (played_game k before)) (is.over (acts more) (acts before) acts-all e))
    pick false e same = rw (same, e) refl
reviewed_game-same blind items more before None (Some h) None is all = absurd is
reviewed_game-same blind items more before None None (Some g) is all = absurd is

-- so the view has it
pub reviewed_game-seen : (s : Site) (t : Table) (v : Viewer) (more before : List Item) → IsTable s t → more ++ before ≡ t.items
    → reviewed_game (seen_table (view_as v t)).loaded (seen_game (view_as v t)) before ≡ reviewed_game t.loaded t.game before
reviewed_game-seen s t v more before is all =
    ap (λ (loaded : Option Finished). reviewed_game loaded (seen_game (view_as v t)) before) (loaded-seen t.loaded is.loaded)
    ∙ reviewed_game-same (blind_of v (length (players t.items))) t.items more before t.loaded (seen_game (view_as v t)) t.game
    (seen_game-seen s t v is) all
