-- What does a step of a review write?
use Rattle.std.proofs.Common.{◌≡◌, ℕ, Bool, true, false, List, [], ◌∷◌, ◌++◌, refl, ap, sym, subst, ◌∙◌, append_assoc, length, Option, Some, None}
use Rattle.std.specs.Prelude.{⊤, is_some, option_map, unwrap_or}
use Rattle.std.proofs.lemmas.List.Elements.{filter_map-append}
use Rattle.hb_rules.specs.declared.acts.Act.{Act}
use Rattle.hb_rules.specs.declared.acts.Action.{Action}
use Rattle.hb_rules.specs.declared.setups.Setup.{Setup}
use Rattle.hb_rules.specs.Events.{acts_of}
use Rattle.hb_rules.specs.Observed.{Observed, observed}
use Rattle.hb_rules.specs.Positions.{ended}
use Rattle.hb_rules.specs.Result.{ended as ended_after}
use Rattle.hb_rules.specs.Setup.{Position}
use Rattle.hb_rules.proofs.DeckSize.{deck-length}
use Rattle.hb_review.specs.declared.steps.Step.{Step}
use Rattle.hb_review.specs.Reviews.{reviewed}
use Rattle.hb_seen.specs.SeenSetup.{HasCards, seen_setup}
use Rattle.hb_seen.proofs.StandsAlikeLemmas.{stands-alike}
use Rattle.hb_seen.proofs.EndedLemmas.{seen_setup-ended}
use Rattle.hb_sight.specs.Seen.{seen_position}
use Rattle.hb_sight.proofs.NamedActs.{acts_of-observation}
use Rattle.hb_turns.specs.GameInvariant.{IsPlayed}
use Rattle.hb_wire.specs.declared.lines.WireLine.TheVariants as wire
use Rattle.hb_wire.specs.WireLine.{line_text}
use Rattle.hb_club.specs.declared.answers.Answered.{Answered}
use Rattle.hb_club.specs.declared.items.Item.{Item}
use Rattle.hb_club.specs.declared.items.What.TheVariants as what
use Rattle.hb_club.specs.EndedReplays.{Finished}
use Rattle.hb_club.specs.HallAnswers.{Shows, ShowsGame, ShowsLoaded, ShowsPlayed}
use Rattle.hb_club.specs.SeenTable.{seen_finished, seen_game}
use Rattle.hb_club.specs.Seating.{players}
use Rattle.hb_club.specs.TableFacts.{setup_when}
use Rattle.hb_club.specs.TableItems.{acts, is_started, step_in, steps}
use Rattle.hb_club.specs.TableReview.{game_when, reviewed_game}
use Rattle.hb_club.specs.Views.{LoadedView, View, loaded_view}
use Rattle.hb_club.specs.WholeGames.{IsWhole, IsWholeGame}
use Rattle.hb_club.proofs.SeenGameLemmas.{loaded-seen}
use Rattle.hb_talk.specs.Streams.{review_lines, standing_lines}
use Rattle.hb_view.specs.declared.cursors.Cursor.{Cursor}
use Rattle.hb_view.specs.Cursors.{shown_game}
use Rattle.hb_view.specs.StreamViews.{AreSteps, AreStepsOf, IsStream, view_review}
use Rattle.hb_view.specs.Writing.{Writes}
use Rattle.hb_view.proofs.ShownGameLemmas.{PlaysAs, plays-shown, seen_game-none, shown-some, some-none}

-- steps are there
IsThere : List Step → Type 0
IsThere [] = ⊥
IsThere (step ∷ steps) = ⊤

not-empty : {step : Step} {steps : List Step} → (step ∷ steps) ≡ [] → ⊥
unfolding IsThere
not-empty e = subst IsThere e tt

-- a game of which all that is shown is what is shown of a whole game is that game
same-game : (q r : Position) → IsWhole r → observed 0 q ≡ observed 0 r → IsPlayed q
    → (r ≡ q) × (is_some (ended q) ≡ true)
same-game q r is seen played =
    let many : HasCards q.setup = deck-length q.setup.variant q.setup.deck.items played.fair.full in
    let pasts : q.past ≡ r.past =
    sym (acts_of-observation 0 q.setup q.past)
    ∙ (ap (λ (s : Observed). acts_of s.events) seen ∙ acts_of-observation 0 r.setup r.past) in
    let shown : seen_setup 0 q.setup q.past ≡ r.setup =
    ap (λ (s : Observed). (seen_position s).setup) seen ∙ seen_setup-ended 0 r.setup [] r.past is.cards is.two is.over in
    let ends : ended_after q.setup q.past ≡ ended_after r.setup r.past =
    sym (stands-alike 0 q.setup [] q.past many).end
    ∙ (ap (λ (g : Setup). ended_after g q.past) shown ∙ ap (ended_after r.setup) pasts) in
    let over : is_some (ended q) ≡ true = ap is_some ends ∙ is.over in
    let own : q.setup ≡ r.setup = sym (seen_setup-ended 0 q.setup [] q.past many played.fair.two over) ∙ shown in (
      sym (ap (λ (g : Setup). record { setup = g; past = q.past }) own
          ∙ ap (λ (past : List Act). record { setup = r.setup; past = past }) pasts),
      over,
    )

-- the played game, once it has ended
review-played : (w : View) (p : Position) (h : Setup) → PlaysAs w p h → w.loaded ≡ None
    → view_review w ≡ game_when (is_some (ended p)) p
review-played w p h ps none =
    ap (λ (l : Option LoadedView). reviewed_game (option_map seen_finished l) (seen_game w) w.items) none
    ∙ (ap (λ (o : Option Setup). reviewed_game None o w.items) ps.seen ∙ pick (is_some (ended p)) refl)
  where
    same : ended_after h (acts w.items) ≡ ended p
    same = (ps.is.stands [] (acts w.items) refl).end ∙ ap (ended_after p.setup) ps.acts

    pick : (b : Bool) → is_some (ended p) ≡ b
        → game_when (is_some (ended_after h (acts w.items))) (record { setup = h; past = acts w.items }) ≡ game_when (is_some (ended p)) p
    pick true e = rw (same, e)
        (ap (λ (g : Setup). Some (record { setup = g; past = acts w.items }))
        (ps.is.over [] (acts w.items) refl (ap (λ (past : List Act). is_some (ended_after p.setup past)) ps.acts ∙ e))
        ∙ ap (λ (past : List Act). Some (record { setup = p.setup; past = past })) ps.acts)
    pick false e = rw (same, e) refl

-- a game that is told of was started
told-started : (w : View) (p : Position) → IsStream w → ShowsPlayed w p → is_started w.items ≡ true
told-started w p is played = ap (λ (v : View). is_started v.items) is.seen ∙ pick (is_started is.table.items) refl
  where
    pick : (b : Bool) → is_started is.table.items ≡ b → is_started is.table.items ≡ true
    pick true e = e
    pick false e = absurd-none (sym (ap is_some (is.is.game
        ∙ ap (λ (b : Bool). setup_when b is.site is.table.latest (is.table.name, is.table.options) (length (players is.table.items))) e))
        ∙ shown-some w p is.table is.seen played)
      where
        absurd-none : false ≡ true → is_started is.table.items ≡ true
        absurd-none off = cc

-- the reviewed game of a view is the answered one, if that has ended
pub view_review-answered : (a : Answered) (w : View) (p : Position) → IsStream w → Shows w a.from a → a.game ≡ Some p → IsPlayed p
    → view_review w ≡ game_when (is_some (ended p)) p
view_review-answered a w p is shows game by_rules = by_loaded is.table.loaded refl
  where
    gives : ShowsGame w w.loaded (Some p)
    gives = subst (ShowsGame w w.loaded) game shows.game

    loads : w.loaded ≡ option_map loaded_view is.table.loaded
    loads = ap (λ (v : View). v.loaded) is.seen

    by_loaded : (o : Option Finished) → is.table.loaded ≡ o → view_review w ≡ game_when (is_some (ended p)) p
    by_loaded None e =
        let none : w.loaded ≡ None = loads ∙ ap (option_map loaded_view) e in
        let played : ShowsPlayed w p = subst (λ (l : Option LoadedView). ShowsGame w l (Some p)) none gives in
        let ps : (h : Setup) × PlaysAs w p h = plays-shown w p is (told-started w p is played) played by_rules in
        review-played w p ps.0 ps.1 none
    by_loaded (Some r) e =
        let some : w.loaded ≡ Some (loaded_view r) = loads ∙ ap (option_map loaded_view) e in
        let whole : IsWhole r.game = subst IsWholeGame e is.is.loaded in
        let gave : ShowsLoaded (loaded_view r) p = subst (λ (l : Option LoadedView). ShowsGame w l (Some p)) some gives in
        let same : (r.game ≡ p) × (is_some (ended p) ≡ true) = same-game p r.game whole gave by_rules in
        ap (λ (l : Option LoadedView). reviewed_game (option_map seen_finished l) (seen_game w) w.items) some
        ∙ (ap (λ (o : Option Finished). reviewed_game o (seen_game w) w.items) (loaded-seen (Some r) whole)
        ∙ (ap Some same.0 ∙ ap (λ (b : Bool). game_when b p) (sym same.1)))

-- if the answered game runs, nothing is reviewed
pub view_review-runs : (a : Answered) (w : View) (p : Position) → IsStream w → Shows w a.from a → a.game ≡ Some p → IsPlayed p
    → is_some (ended p) ≡ false → view_review w ≡ None
view_review-runs a w p is shows game played runs =
    view_review-answered a w p is shows game played ∙ ap (λ (b : Bool). game_when b p) runs

-- nor if an answer has no game
pub view_review-none : (a : Answered) (w : View) → IsStream w → Shows w a.from a → a.game ≡ None → view_review w ≡ None
view_review-none a w is shows none =
    ap (λ (l : Option LoadedView). reviewed_game (option_map seen_finished l) (seen_game w) w.items)
    (unloaded w.loaded refl (subst (ShowsGame w w.loaded) none shows.game))
    ∙ ap (λ (o : Option Setup). reviewed_game None o w.items) (seen_game-none a w is shows none)
  where
    unloaded : (l : Option LoadedView) → w.loaded ≡ l → ShowsGame w l None → w.loaded ≡ None
    unloaded None e shown = e
    unloaded (Some l) e shown = e ∙ shown.1

-- a step if nothing is reviewed
pub reviewed-nowhere : (a : Answered) (turn hypos : ℕ) (action : Option Action) (c : Cursor) (old new : List (List ℕ))
    → ((w : View) → IsStream w → Shows w a.from a → view_review w ≡ None)
    → new ≡ old ++ line_text (wire.Review action hypos turn) ∷ []
    → (moment : ℕ) → Writes a (record { moment = moment; what = what.Reviewed turn hypos action }) c c old new
reviewed-nowhere a turn hypos action c old new none texts moment w more before is shows all so =
    let step : Step = record { turn = turn; hypos = hypos; action = action } in
    record {
      texts = texts ∙ ap (λ lines. old ++ line_text (wire.Review action hypos turn) ∷ lines)
          (sym (ap (λ (o : Option Position). review_lines o (step ∷ steps before)) (none w is shows)));
      left = record {
        written = record {
          viewer = so.written.viewer;
          game = so.written.game;
          clock = so.written.clock;
          unstarted = so.written.unstarted;
          review = λ game e. absurd (some-none (sym e ∙ none w is shows));
          unreviewed = λ none. absurd (not-empty none);
        };
        now = so.now;
      };
    }

-- the steps of longer items
pub steps-append : (more before : List Item) → steps (more ++ before) ≡ steps more ++ steps before
steps-append more before = filter_map-append (λ (i : Item). step_in i.what) more before

-- the steps up to an item
pub steps-first : (game : Position) (more taken : List Step) → AreSteps game (more ++ taken) → AreSteps game taken
steps-first game [] taken are = are
steps-first game (step ∷ more) taken are = steps-first game more taken are.1

-- a step of the answered game's review
pub reviewed-writes : (a : Answered) (p shown : Position) (turn hypos : ℕ) (action : Option Action) (c : Cursor) (old new : List (List ℕ))
    → a.game ≡ Some p → IsPlayed p → is_some (ended p) ≡ true
    → ((taken : List Step) → c.shown ≡ shown_game p taken
    → AreSteps p (record { turn = turn; hypos = hypos; action = action } ∷ taken)
    → shown ≡ reviewed p (record { turn = turn; hypos = hypos; action = action } ∷ taken))
    → new ≡ (old ++ line_text (wire.Review action hypos turn) ∷ []) ++ standing_lines (observed 0 shown) []
    → (moment : ℕ) → Writes a (record { moment = moment; what = what.Reviewed turn hypos action }) c
    (record { viewer = c.viewer; game = c.game; clock = c.clock; shown = Some shown }) old new
reviewed-writes a p shown turn hypos action c old new game played over steps-to texts moment w more before is shows all so =
    let step : Step = record { turn = turn; hypos = hypos; action = action } in
    let item : Item = record { moment = moment; what = what.Reviewed turn hypos action } in
    let one : view_review w ≡ Some p = view_review-answered a w p is shows game played ∙ ap (λ (b : Bool). game_when b p) over in
    let at : c.shown ≡ shown_game p (steps before) = so.written.review p one in
    let walks : AreSteps p (steps w.items) = subst (λ (o : Option Position). AreStepsOf o (steps w.items)) one is.walks in
    let split : steps w.items ≡ steps more ++ step ∷ steps before = sym (ap steps all) ∙ steps-append more (item ∷ before) in
    let may : AreSteps p (step ∷ steps before) =
    steps-first p (steps more) (step ∷ steps before) (subst (AreSteps p) split walks) in
    let is_shown : shown ≡ reviewed p (step ∷ steps before) = steps-to (steps before) at may in
    record {
      texts = texts ∙ (append_assoc old (line_text (wire.Review action hypos turn) ∷ []) (standing_lines (observed 0 shown) [])
          ∙ ap (λ lines. old ++ line_text (wire.Review action hypos turn) ∷ lines)
          (ap (λ (q : Position). standing_lines (observed 0 q) []) is_shown
          ∙ sym (ap (λ (o : Option Position). review_lines o (step ∷ steps before)) one)));
      left = record {
        written = record {
          viewer = so.written.viewer;
          game = so.written.game;
          clock = so.written.clock;
          unstarted = so.written.unstarted;
          review = λ q e.
              ap Some is_shown ∙ ap (λ (o : Option Position). shown_game (unwrap_or o p) (step ∷ steps before)) (sym one ∙ e);
          unreviewed = λ none. absurd (not-empty none);
        };
        now = so.now;
      };
    }
