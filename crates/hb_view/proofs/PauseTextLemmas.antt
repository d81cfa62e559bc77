-- What do a pause and its end write, and what do they leave of a cursor?
use Rattle.std.proofs.Common.{◌≡◌, ℕ, true, List, [], ◌∷◌, ◌++◌, ap, sym, subst, ◌∙◌, Option, Some, None}
use Rattle.std.specs.Prelude.{unwrap_or}
use Rattle.hb_rules.specs.declared.setups.Setup.{Setup}
use Rattle.hb_rules.specs.Setup.{Position}
use Rattle.hb_timer.specs.declared.timing.TimerCall.TheVariants.{Pauses, Resumes}
use Rattle.hb_turns.specs.GameInvariant.{IsPlayed}
use Rattle.hb_wire.specs.declared.lines.WireLine.TheVariants as wire
use Rattle.hb_wire.specs.WireLine.{line_text}
use Rattle.hb_club.specs.declared.answers.Answered.{Answered}
use Rattle.hb_club.specs.declared.items.Item.{Item}
use Rattle.hb_club.specs.declared.items.What.TheVariants as what
use Rattle.hb_club.specs.SeenTable.{seen_game}
use Rattle.hb_club.specs.TableClock.{timer_calls, timing_of}
use Rattle.hb_club.specs.TableItems.{is_started}
use Rattle.hb_club.specs.TableRecord.{AreInOrder}
use Rattle.hb_talk.specs.Streams.{stopped_clock}
use Rattle.hb_view.specs.declared.clocks.Clock.{Clock}
use Rattle.hb_view.specs.declared.cursors.Cursor.{Cursor}
use Rattle.hb_view.specs.StreamClocks.{ClockMoves, clock_texts}
use Rattle.hb_view.specs.Cursors.{IsKeptClock}
use Rattle.hb_view.specs.Writing.{Writes}
use Rattle.hb_view.proofs.ClockLemmas.{clock_texts-line, kept_clock-call}
use Rattle.hb_view.proofs.ShownGameLemmas.{PlaysAs, answered-plays, not-both, seen_game-none, some-none, started-behind}
use Rattle.hb_view.proofs.StartTextLemmas.{order-at}

-- a pause
pub paused-writes : (a : Answered) (p : Position) (by : List ℕ) (moment : ℕ) (c : Cursor) (clock : Option Clock) (old new : List (List ℕ))
    → a.game ≡ Some p → IsPlayed p → new ≡ old ++ line_text (wire.Paused by) ∷ clock_texts clock p.setup.players moment
    → ClockMoves (Pauses moment) c.clock clock
    → Writes a (record { moment = moment; what = what.Paused by }) c
    (record { viewer = c.viewer; game = c.game; clock = clock; shown = c.shown })
    old new
paused-writes a p by moment c clock old new game played texts moves w more before is shows all so =
    let item : Item = record { moment = moment; what = what.Paused by } in
    let begun : is_started before ≡ true = (order-at more before item (subst AreInOrder (sym all) is.order)).0 in
    let plays : (h : Setup) × PlaysAs w p h =
    answered-plays a w p is shows (started-behind more before w.items item all begun) game played in
    let h : Setup = plays.0 in
    let ps : PlaysAs w p h = plays.1 in
    let after_clock : IsKeptClock (timing_of h (item ∷ before)) (timer_calls h (item ∷ before)) clock =
    kept_clock-call (timing_of h before) (timer_calls h before) (Pauses moment) c.clock clock moves (so.written.clock h ps.seen begun) in
    record {
      texts = texts ∙ (ap (λ lines. old ++ line_text (wire.Paused by) ∷ lines)
          (clock_texts-line h (item ∷ before) clock p.setup.players moment (sym ps.is.count) played.fair.six after_clock)
          ∙ ap (λ (o : Option Setup). old ++ line_text (wire.Paused by) ∷ stopped_clock (item ∷ before) moment o) (sym ps.seen));
      left = record {
        written = record {
          viewer = so.written.viewer;
          game = so.written.game;
          clock = λ g e on. subst (λ (g : Setup). IsKeptClock (timing_of g (item ∷ before)) (timer_calls g (item ∷ before)) clock)
              (ap (λ (o : Option Setup). unwrap_or o h) (sym ps.seen ∙ e)) after_clock;
          unstarted = λ off. absurd (not-both begun off);
          review = so.written.review;
          unreviewed = so.written.unreviewed;
        };
        now = so.now;
      };
    }

-- a pause of which the answer has no game
pub paused-nowhere : (a : Answered) (by : List ℕ) (moment : ℕ) (c : Cursor) (old new : List (List ℕ)) → a.game ≡ None
    → new ≡ old ++ line_text (wire.Paused by) ∷ []
    → Writes a (record { moment = moment; what = what.Paused by }) c c old new
paused-nowhere a by moment c old new none texts w more before is shows all so =
    let item : Item = record { moment = moment; what = what.Paused by } in
    let begun : is_started before ≡ true = (order-at more before item (subst AreInOrder (sym all) is.order)).0 in
    let unseen : seen_game w ≡ None = seen_game-none a w is shows none in
    record {
      texts = texts ∙ ap (λ (o : Option Setup). old ++ line_text (wire.Paused by) ∷ stopped_clock (item ∷ before) moment o) (sym unseen);
      left = record {
        written = record {
          viewer = so.written.viewer;
          game = λ g e on. absurd (some-none (sym e ∙ unseen));
          clock = λ g e on. absurd (some-none (sym e ∙ unseen));
          unstarted = λ off. absurd (not-both begun off);
          review = so.written.review;
          unreviewed = so.written.unreviewed;
        };
        now = so.now;
      };
    }

-- the end of a pause
pub resumed-writes : (a : Answered) (p : Position) (by : List ℕ) (moment : ℕ) (c : Cursor) (clock : Option Clock) (old new : List
    (List ℕ))
    → a.game ≡ Some p → IsPlayed p → new ≡ old ++ line_text (wire.Resumed by) ∷ clock_texts clock p.setup.players moment
    → ClockMoves (Resumes moment) c.clock clock
    → Writes a (record { moment = moment; what = what.Resumed by }) c
    (record { viewer = c.viewer; game = c.game; clock = clock; shown = c.shown })
    old new
resumed-writes a p by moment c clock old new game played texts moves w more before is shows all so =
    let item : Item = record { moment = moment; what = what.Resumed by } in
    let begun : is_started before ≡ true = (order-at more before item (subst AreInOrder (sym all) is.order)).0 in
    let plays : (h : Setup) × PlaysAs w p h =
    answered-plays a w p is shows (started-behind more before w.items item all begun) game played in
    let h : Setup = plays.0 in
    let ps : PlaysAs w p h = plays.1 in
    let after_clock : IsKeptClock (timing_of h (item ∷ before)) (timer_calls h (item ∷ before)) clock =
    kept_clock-call (timing_of h before) (timer_calls h before) (Resumes moment) c.clock clock moves (so.written.clock h ps.seen begun) in
    record {
      texts = texts ∙ (ap (λ lines. old ++ line_text (wire.Resumed by) ∷ lines)
          (clock_texts-line h (item ∷ before) clock p.setup.players moment (sym ps.is.count) played.fair.six after_clock)
          ∙ ap (λ (o : Option Setup). old ++ line_text (wire.Resumed by) ∷ stopped_clock (item ∷ before) moment o) (sym ps.seen));
      left = record {
        written = record {
          viewer = so.written.viewer;
          game = so.written.game;
          clock = λ g e on. subst (λ (g : Setup). IsKeptClock (timing_of g (item ∷ before)) (timer_calls g (item ∷ before)) clock)
              (ap (λ (o : Option Setup). unwrap_or o h) (sym ps.seen ∙ e)) after_clock;
          unstarted = λ off. absurd (not-both begun off);
          review = so.written.review;
          unreviewed = so.written.unreviewed;
        };
        now = so.now;
      };
    }

-- the end of a pause of which the answer has no game
pub resumed-nowhere : (a : Answered) (by : List ℕ) (moment : ℕ) (c : Cursor) (old new : List (List ℕ)) → a.game ≡ None
    → new ≡ old ++ line_text (wire.Resumed by) ∷ []
    → Writes a (record { moment = moment; what = what.Resumed by }) c c old new
resumed-nowhere a by moment c old new none texts w more before is shows all so =
    let item : Item = record { moment = moment; what = what.Resumed by } in
    let begun : is_started before ≡ true = (order-at more before item (subst AreInOrder (sym all) is.order)).0 in
    let unseen : seen_game w ≡ None = seen_game-none a w is shows none in
    record {
      texts = texts ∙ ap (λ (o : Option Setup). old ++ line_text (wire.Resumed by) ∷ stopped_clock (item ∷ before) moment o) (sym unseen);
      left = record {
        written = record {
          viewer = so.written.viewer;
          game = λ g e on. absurd (some-none (sym e ∙ unseen));
          clock = λ g e on. absurd (some-none (sym e ∙ unseen));
          unstarted = λ off. absurd (not-both begun off);
          review = so.written.review;
          unreviewed = so.written.unreviewed;
        };
        now = so.now;
      };
    }
