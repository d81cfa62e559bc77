-- What does an act write, and what does it leave of a cursor?
use Rattle.std.proofs.Common.{◌≡◌, ℕ, true, List, ◌∷◌, ◌++◌, ap, sym, subst, ◌∙◌, append-nil, Option, Some, None}
use Rattle.std.specs.Prelude.{if◌then◌else◌, is_some, unwrap_or}
use Rattle.hb_rules.specs.declared.acts.Act.{Act}
use Rattle.hb_rules.specs.declared.acts.EndHow.{EndHow}
use Rattle.hb_rules.specs.declared.acts.Options.{Options}
use Rattle.hb_rules.specs.declared.setups.Setup.{Setup}
use Rattle.hb_rules.specs.Legality.{Legal}
use Rattle.hb_rules.specs.Positions.{after, rule}
use Rattle.hb_rules.specs.Result.{ended}
use Rattle.hb_rules.specs.Setup.{Position}
use Rattle.hb_timer.specs.declared.timing.TimerCall.{TimerCall}
use Rattle.hb_timer.specs.declared.timing.TimerCall.TheVariants.{Stops, TurnEnds}
use Rattle.hb_turns.specs.GameInvariant.{IsPlayed}
use Rattle.hb_club.proofs.SeenGameLemmas.{acts-append}
use Rattle.hb_club.specs.declared.answers.Answered.{Answered}
use Rattle.hb_club.specs.declared.items.Item.{Item}
use Rattle.hb_club.specs.declared.items.Viewer.{Viewer}
use Rattle.hb_club.specs.declared.items.What.TheVariants as what
use Rattle.hb_club.specs.HallAnswers.{Shows}
use Rattle.hb_club.specs.SeenTable.{seen_game}
use Rattle.hb_club.specs.TableClock.{act_call, timer_calls, timing_of}
use Rattle.hb_club.specs.TableItems.{acts, is_started}
use Rattle.hb_club.specs.TableRecord.{AreInOrder, HasSeat}
use Rattle.hb_club.specs.Views.{View, blind_of}
use Rattle.hb_talk.specs.Streams.{clock_lines, game_lines}
use Rattle.hb_view.specs.declared.clocks.Clock.{Clock}
use Rattle.hb_view.specs.declared.cursors.Cursor.{Cursor}
use Rattle.hb_view.specs.StreamClocks.{ClockMoves, clock_if, clock_texts}
use Rattle.hb_view.specs.Cursors.{IsKept, IsKeptClock, IsKeptGame}
use Rattle.hb_view.specs.GameTexts.{piece_lines}
use Rattle.hb_view.specs.StreamViews.{IsStream}
use Rattle.hb_view.specs.Writing.{Writes, Writing}
use Rattle.hb_view.proofs.ClockLemmas.{clock_texts-lines, kept_clock-call}
use Rattle.hb_view.proofs.ShownGameLemmas.{PlaysAs, answered-plays, game_lines-piece, legal-first, not-both, seen_game-none, some-none, started-behind}
use Rattle.hb_view.proofs.StartTextLemmas.{order-at}

abbrev acted : ℕ → Act → Item
acted moment act = record { moment = moment; what = what.Acted act }

-- an act stands behind the start
pub started-acted : (w : View) (more before : List Item) (moment : ℕ) (act : Act) → IsStream w
    → more ++ acted moment act ∷ before ≡ w.items
    → is_started before ≡ true
started-acted w more before moment act is all = (order-at more before (acted moment act) (subst AreInOrder (sym all) is.order)).0

-- the lines of an act on a kept game
abbrev act_lines : Act → Option Clock → ℕ → Viewer → Position → List (List ℕ)
act_lines act clock moment v k =
    piece_lines (blind_of v k.setup.players) (after k act) (clock_texts (clock_if k.setup.options.timed clock) k.setup.players moment)

-- an act that is taken
pub acted-writes : (a : Answered) (p k : Position) (act : Act) (moment : ℕ) (c : Cursor) (clock : Option Clock) (old new : List (List ℕ))
    → a.game ≡ Some p → IsPlayed p → c.game ≡ Some k
    → (HasSeat c.viewer → p.setup.players ≡ k.setup.players → new ≡ old ++ act_lines act clock moment c.viewer k)
    → ClockMoves (act_call k.setup (act ∷ k.past) moment) c.clock clock
    → Writes a (acted moment act) c (record { viewer = c.viewer; game = Some (after k act); clock = clock; shown = c.shown }) old new
acted-writes a p k act moment c clock old new game played kept texts moves w more before is shows all so =
    let item : Item = acted moment act in
    let begun : is_started before ≡ true = started-acted w more before moment act is all in
    let started : is_started w.items ≡ true = started-behind more before w.items item all begun in
    let plays : (h : Setup) × PlaysAs w p h = answered-plays a w p is shows started game played in
    let h : Setup = plays.0 in
    let ps : PlaysAs w p h = plays.1 in
    let at : k ≡ record { setup = p.setup; past = acts before } = so.now p k game kept in
    let seat : HasSeat c.viewer = subst HasSeat (sym so.written.viewer) is.seat in
    let acts_all : acts more ++ act ∷ acts before ≡ acts w.items = sym (acts-append more (item ∷ before)) ∙ ap acts all in
    let end : ended h (act ∷ acts before) ≡ ended p.setup (act ∷ acts before) =
    (ps.is.stands (acts more) (act ∷ acts before) acts_all).end in
    let call : act_call k.setup (act ∷ k.past) moment ≡ act_call h (act ∷ acts before) moment =
    ap (λ (q : Position). act_call q.setup (act ∷ q.past) moment) at
    ∙ ap (λ (e : Option EndHow). if is_some e then Stops moment else TurnEnds moment) (sym end) in
    let after_clock : IsKeptClock (timing_of h (item ∷ before)) (timer_calls h (item ∷ before)) clock =
    kept_clock-call (timing_of h before) (timer_calls h before) (act_call h (act ∷ acts before) moment) c.clock clock
    (subst (λ (t : TimerCall). ClockMoves t c.clock clock) call moves) (so.written.clock h ps.seen begun) in
    let told : clock_texts (clock_if p.setup.options.timed clock) p.setup.players moment ≡ clock_lines h (item ∷ before) moment =
    clock_texts-lines h (item ∷ before) clock p.setup.options.timed p.setup.players moment
    (ap (λ (o : Options). o.timed) (sym ps.is.options)) (sym ps.is.count) played.fair.six after_clock in
    let same : (g : Setup) → seen_game w ≡ Some g → h ≡ g = λ (g : Setup) (e : seen_game w ≡ Some g).
    ap (λ (o : Option Setup). unwrap_or o h) (sym ps.seen ∙ e) in
    record {
      texts = texts seat (sym (ap (λ (q : Position). q.setup.players) at))
          ∙ (ap (λ (v : Viewer). old ++ act_lines act clock moment v k) so.written.viewer
          ∙ (ap (λ (q : Position). old ++ act_lines act clock moment w.viewer q) at
          ∙ (ap (λ lines. old ++ piece_lines (blind_of w.viewer p.setup.players)
          (record { setup = p.setup; past = act ∷ acts before }) lines) told
          ∙ ap (λ lines. old ++ lines) (sym (game_lines-piece w p h more (item ∷ before) moment ps all)))));
      left = record {
        written = record {
          viewer = so.written.viewer;
          game = λ g e on. subst (λ (g : Setup). IsKept g (act ∷ acts before) (after k act)) (same g e) (record {
            acts = ap (λ (q : Position). act ∷ q.past) at;
            variant = ap (λ (q : Position). q.setup.variant) at ∙ sym ps.is.variant;
            options = ap (λ (q : Position). q.setup.options) at ∙ sym ps.is.options;
            players = ap (λ (q : Position). q.setup.players) at ∙ sym ps.is.count;
          });
          clock = λ g e on. subst (λ (g : Setup). IsKeptClock (timing_of g (item ∷ before)) (timer_calls g (item ∷ before)) clock)
              (same g e) after_clock;
          unstarted = λ off. absurd (not-both begun off);
          review = so.written.review;
          unreviewed = so.written.unreviewed;
        };
        now = λ q r e held.
            let here : p ≡ q = ap (λ (o : Option Position). unwrap_or o p) (sym game ∙ e) in
            let one : after k act ≡ r = ap (λ (o : Option Position). unwrap_or o (after k act)) held in
            sym one ∙ (ap (λ (r : Position). after r act) at
            ∙ ap (λ (r : Position). record { setup = r.setup; past = act ∷ acts before }) here);
      };
    }

-- if the view has no game, an act has no text
pub acted-nowhere : (a : Answered) (act : Act) (moment : ℕ) (c : Cursor) (old : List (List ℕ)) → a.game ≡ None
    → Writes a (acted moment act) c c old old
acted-nowhere a act moment c old none w more before is shows all so =
    let unseen : seen_game w ≡ None = seen_game-none a w is shows none in
    let begun : is_started before ≡ true = started-acted w more before moment act is all in
    record {
      texts = sym (ap (λ (o : Option Setup). old ++ game_lines w (acted moment act ∷ before) moment o) unseen ∙ append-nil old);
      left = record {
        written = record {
          viewer = so.written.viewer;
          game = λ g e on. absurd (some-none (sym e ∙ unseen));
          clock = λ g e on. absurd (some-none (sym e ∙ unseen));
          unstarted = λ off. absurd (not-both begun off);
          review = so.written.review;
          unreviewed = so.written.unreviewed;
        };
        now = λ p k e kept. absurd (some-none (sym e ∙ none));
      };
    }

-- an act that the items have breaks no rule
pub acted-legal : (a : Answered) (p k : Position) (act : Act) (moment : ℕ) (c : Cursor) (w : View) (more before : List Item)
    → a.game ≡ Some p → IsPlayed p → c.game ≡ Some k → IsStream w → Shows w a.from a → more ++ acted moment act ∷ before ≡ w.items
    → Writing a w before c → rule k act ≡ None
acted-legal a p k act moment c w more before game played kept is shows all so =
    let item : Item = acted moment act in
    let begun : is_started before ≡ true = started-acted w more before moment act is all in
    let ps : (h : Setup) × PlaysAs w p h =
    answered-plays a w p is shows (started-behind more before w.items item all begun) game played in
    let acts_all : acts more ++ act ∷ acts before ≡ p.past = sym (acts-append more (item ∷ before)) ∙ (ap acts all ∙ ps.1.acts) in
    ap (λ (q : Position). rule q act) (so.now p k game kept)
    ∙ legal-first p.setup (acts more) (acts before) act (subst (Legal p.setup) (sym acts_all) played.legal)

-- so a cursor keeps a game when one comes
pub acted-kept : (a : Answered) (p : Position) (act : Act) (moment : ℕ) (c : Cursor) (w : View) (more before : List Item)
    → a.game ≡ Some p → IsPlayed p → c.game ≡ None → IsStream w → Shows w a.from a → more ++ acted moment act ∷ before ≡ w.items
    → Writing a w before c → ⊥
acted-kept a p act moment c w more before game played none is shows all so =
    let item : Item = acted moment act in
    let begun : is_started before ≡ true = started-acted w more before moment act is all in
    let ps : (h : Setup) × PlaysAs w p h =
    answered-plays a w p is shows (started-behind more before w.items item all begun) game played in
    subst (IsKeptGame ps.0 (acts before)) none (so.written.game ps.0 ps.1.seen begun)
