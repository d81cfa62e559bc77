-- Which game has an answer that shows a view, and which texts are written of it?
use Rattle.std.proofs.Common.{◌≡◌, ℕ, Bool, true, false, List, [], ◌∷◌, ◌++◌, refl, ap, sym, subst, ◌∙◌, append_assoc, length, map, Option, Some, None}
use Rattle.std.specs.Prelude.{⊤, is_some}
use Rattle.std.proofs.lemmas.List.Elements.{filter_map-append}
use Rattle.hb_rules.specs.declared.acts.Act.{Act}
use Rattle.hb_rules.specs.declared.acts.Options.{Options}
use Rattle.hb_rules.specs.declared.events.Event.{Event}
use Rattle.hb_rules.specs.declared.setups.Setup.{Setup}
use Rattle.hb_rules.specs.declared.variants.Variant.{Variant}
use Rattle.hb_rules.specs.Legality.{Legal, rule}
use Rattle.hb_rules.specs.Setup.{Position}
use Rattle.hb_rules.proofs.DeckSize.{deck-length}
use Rattle.hb_turns.specs.GameInvariant.{IsPlayed}
use Rattle.hb_seen.specs.Pieces.{piece_events, pieces}
use Rattle.hb_seen.proofs.PiecesLemmas.{piece_events-pieces}
use Rattle.hb_wire.specs.Lines.{event_line}
use Rattle.hb_club.specs.declared.answers.Answered.{Answered}
use Rattle.hb_club.specs.declared.items.Item.{Item}
use Rattle.hb_club.specs.declared.items.Viewer.{Viewer}
use Rattle.hb_club.specs.HallAnswers.{Shows, ShowsGame, ShowsPlayed}
use Rattle.hb_club.specs.SeenGames.{GameIsSeen, IsSeenGame}
use Rattle.hb_club.specs.SeenTable.{seen_game}
use Rattle.hb_club.specs.Seating.{players}
use Rattle.hb_club.specs.Table.{Table}
use Rattle.hb_club.specs.TableItems.{acts, first_of_all, is_started, names_in}
use Rattle.hb_club.specs.Views.{LoadedView, View, blind_of, pieces_for, view_as}
use Rattle.hb_club.proofs.SeenGameLemmas.{acts-append, acts-shown, first-told, seen_game-answered, seen_game-seen}
use Rattle.hb_talk.specs.Streams.{clock_lines, game_lines, newest_piece, pieces_at, standing_lines}
use Rattle.hb_view.specs.GameTexts.{piece_lines}
use Rattle.hb_view.specs.StreamViews.{IsStream}

-- a start stays
first_of_all-behind : {A : Type 0} (xs ys : List A) → is_some (first_of_all ys) ≡ true → is_some (first_of_all (xs ++ ys)) ≡ true
first_of_all-behind [] ys e = e
first_of_all-behind (x ∷ xs) ys e = refl

-- a game that was started at the first items is started at all
pub started-later : (more before all : List Item) → more ++ before ≡ all → is_started before ≡ true → is_started all ≡ true
started-later more before all e is =
    ap is_started (sym e) ∙ (ap (λ xs. is_some (first_of_all xs)) (filter_map-append (λ (i : Item). names_in i.what) more before)
    ∙ first_of_all-behind _ _ is)

-- the same behind one item
pub started-behind : (more before all : List Item) (item : Item) → more ++ item ∷ before ≡ all → is_started before ≡ true
    → is_started all ≡ true
started-behind more before all item e is =
    started-later (more ++ item ∷ []) before all (append_assoc more (item ∷ []) before ∙ e) is

-- the played game of an answer, as the view has it
pub record PlaysAs (w : View) (p : Position) (h : Setup) : Type 0 where
  pub seen : seen_game w ≡ Some h
  pub is : GameIsSeen (blind_of w.viewer p.setup.players) w.items h p.setup
  pub acts : acts w.items ≡ p.past
  pub played : ShowsPlayed w p

-- a game is told in one piece or more
some-pieces : {A : Type 0} (blind : ℕ) (g : Setup) (past : List Act) → pieces blind g past ≡ [] → A
some-pieces blind g [] e = cc
some-pieces blind g (act ∷ past) e = cc

-- a view that tells of a game is of a table that has one
pub shown-some : (w : View) (p : Position) (t : Table) → w ≡ view_as w.viewer t → ShowsPlayed w p → is_some t.game ≡ true
shown-some w p t seen played = pick t.game refl
  where
    pick : (o : Option Setup) → t.game ≡ o → is_some t.game ≡ true
    pick (Some g) e = ap is_some e
    pick None e = some-pieces (blind_of w.viewer p.setup.players) p.setup p.past
        (played.told ∙ (ap (λ (v : View). v.pieces) seen ∙ ap (λ (o : Option Setup). pieces_for w.viewer o t.items) e))

-- the acts of the answered game are those of the items
shown-acts : (w : View) (p : Position) → IsStream w → ShowsPlayed w p → acts w.items ≡ p.past
shown-acts w p is played =
    ap (λ (v : View). acts v.items) is.seen
    ∙ acts-shown is.site is.table w.viewer p is.is (subst (λ (v : View). ShowsPlayed v p) is.seen played)
    (shown-some w p is.table is.seen played)

-- an answered game that is shown as the one that was started
pub plays-shown : (w : View) (p : Position) → IsStream w → is_started w.items ≡ true → ShowsPlayed w p → IsPlayed p
    → (h : Setup) × PlaysAs w p h
plays-shown w p is started played by_rules =
    pick (seen_game w) refl (seen_game-answered w p played started (shown-acts w p is played)
    (deck-length p.setup.variant p.setup.deck.items by_rules.fair.full) by_rules.fair.two)
  where
    pick : (o : Option Setup) → seen_game w ≡ o → IsSeenGame (blind_of w.viewer p.setup.players) w.items o (Some p.setup)
        → (h : Setup) × PlaysAs w p h
    pick None e seen = absurd seen
    pick (Some h) e seen = (h, record { seen = e; is = seen; acts = shown-acts w p is played; played = played })

-- the game of an answer is the one that was started, if one was
shows-played : (w : View) (p : Position) (l : Option LoadedView) (o : Option Position) → is_some l ≡ false → o ≡ Some p
    → ShowsGame w l o → ShowsPlayed w p
shows-played w p None o none same shows = subst (λ (o : Option Position). ShowsGame w None o) same shows
shows-played w p (Some l) o none same shows = cc

-- the game of an answer, if one was started
pub answered-plays : (a : Answered) (w : View) (p : Position) → IsStream w → Shows w a.from a → is_started w.items ≡ true
    → a.game ≡ Some p → IsPlayed p → (h : Setup) × PlaysAs w p h
answered-plays a w p is shows started game by_rules =
    plays-shown w p is started (shows-played w p w.loaded a.game (is.apart started) game shows.game) by_rules

-- a view of which an answer has no game tells nothing of one
told-none : (w : View) (l : Option LoadedView) (o : Option Position) → o ≡ None → ShowsGame w l o → w.pieces ≡ []
told-none w None None e shows = shows.0
told-none w (Some l) None e shows = shows.0
told-none w l (Some p) e shows = cc

-- so it has none
pub seen_game-none : (a : Answered) (w : View) → IsStream w → Shows w a.from a → a.game ≡ None → seen_game w ≡ None
seen_game-none a w is shows none = ap seen_game is.seen ∙ pick is.table.game refl (seen_game-seen is.site is.table w.viewer is.is)
  where
    told : pieces_for w.viewer is.table.game is.table.items ≡ []
    told = sym (ap (λ (v : View). v.pieces) is.seen) ∙ told-none w w.loaded a.game none shows.game

    seen-none : (h : Option Setup) → IsSeenGame (blind_of w.viewer (length (players is.table.items))) is.table.items h None
        → h ≡ None
    seen-none None seen = refl
    seen-none (Some h) seen = absurd seen

    pick : (o : Option Setup) → is.table.game ≡ o
        → IsSeenGame (blind_of w.viewer (length (players is.table.items))) is.table.items (seen_game (view_as w.viewer is.table)) o
        → seen_game (view_as w.viewer is.table) ≡ None
    pick None e seen = seen-none (seen_game (view_as w.viewer is.table)) seen
    pick (Some g) e seen = some-pieces (blind_of w.viewer g.players) g (acts is.table.items)
        (sym (ap (λ (o : Option Setup). pieces_for w.viewer o is.table.items) e) ∙ told)

-- the lines of what is told, of a game with these settings
abbrev told_lines : Viewer → List (List ℕ) → Variant → Options → ℕ → List (List Event) → List Event → List (List ℕ)
told_lines v clock variant options count told seen =
    map event_line (newest_piece told) ++ standing_lines (record {
      blind = blind_of v count;
      variant = variant;
      options = options;
      players = count;
      events = seen;
    }) clock

-- what is written of the newest piece up to an item
pub game_lines-piece : (w : View) (p : Position) (h : Setup) (more items : List Item) (moment : ℕ) → PlaysAs w p h
    → more ++ items ≡ w.items → game_lines w items moment (seen_game w)
    ≡ piece_lines (blind_of w.viewer p.setup.players) (record { setup = p.setup; past = acts items }) (clock_lines h items moment)
game_lines-piece w p h more items moment so all =
    let blind : ℕ = blind_of w.viewer p.setup.players in
    let clock : List (List ℕ) = clock_lines h items moment in
    let now : List (List Event) = pieces_at w items in
    let told : now ≡ pieces blind p.setup (acts items) =
    first-told w p (acts more) (acts items) so.played (sym (acts-append more items) ∙ (ap acts all ∙ so.acts)) in
    ap (game_lines w items moment) so.seen
    ∙ (ap (λ (v : Variant). told_lines w.viewer clock v h.options h.players now (piece_events now)) so.is.variant
    ∙ (ap (λ (o : Options). told_lines w.viewer clock p.setup.variant o h.players now (piece_events now)) so.is.options
    ∙ (ap (λ (n : ℕ). told_lines w.viewer clock p.setup.variant p.setup.options n now (piece_events now)) so.is.count
    ∙ (ap (λ (t : List (List Event)). told_lines w.viewer clock p.setup.variant p.setup.options p.setup.players t (piece_events t)) told
    ∙ ap (told_lines w.viewer clock p.setup.variant p.setup.options p.setup.players (pieces blind p.setup (acts items)))
    (piece_events-pieces blind p.setup (acts items))))))

-- each act of a legal history breaks no rule
pub legal-first : (g : Setup) (more past : List Act) (act : Act) → Legal g (more ++ act ∷ past) → rule g past act ≡ None
legal-first g [] past act legal = legal.0
legal-first g (other ∷ more) past act legal = legal-first g more past act legal.1

-- no test gives both
IsOn : Bool → Type 0
IsOn true = ⊤
IsOn false = ⊥

-- nothing is both true and false
pub not-both : {b : Bool} → b ≡ true → b ≡ false → ⊥
unfolding IsOn
not-both on off = subst IsOn (sym on ∙ off) tt

-- what is some is not none
IsThere : {A : Type 0} → Option A → Type 0
IsThere None = ⊥
IsThere (Some x) = ⊤

-- what is there is not absent
pub some-none : {A : Type 0} {x : A} → Some x ≡ None → ⊥
unfolding IsThere
some-none e = subst IsThere e tt
