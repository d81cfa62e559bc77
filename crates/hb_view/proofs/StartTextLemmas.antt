-- What do an opening and a start write, and what do they leave of a cursor?
use Rattle.std.proofs.Common.{◌≡◌, ℕ, ◌*◌, true, false, List, [], ◌∷◌, ◌++◌, refl, ap, sym, subst, ◌∙◌, append_assoc, Option, Some, None}
use Rattle.std.specs.Prelude.{filter_map, unwrap_or}
use Rattle.hb_rules.specs.declared.acts.Options.{Options}
use Rattle.hb_rules.specs.declared.setups.Setup.{Setup}
use Rattle.hb_rules.specs.Setup.{Position}
use Rattle.hb_timer.specs.declared.timing.Timing.{Timing}
use Rattle.hb_timer.specs.declared.timing.TimerCall.{TimerCall}
use Rattle.hb_turns.specs.GameInvariant.{IsPlayed}
use Rattle.hb_wire.specs.declared.lines.WireLine.TheVariants as wire
use Rattle.hb_wire.specs.Lines.{game_line}
use Rattle.hb_wire.specs.WireLine.{line_text}
use Rattle.hb_club.specs.declared.answers.Answered.{Answered}
use Rattle.hb_club.specs.declared.answers.Head.{Head}
use Rattle.hb_club.specs.declared.items.Item.{Item}
use Rattle.hb_club.specs.declared.items.Viewer.{Viewer}
use Rattle.hb_club.specs.declared.items.What.{What}
use Rattle.hb_club.specs.declared.items.What.TheVariants as what
use Rattle.hb_club.specs.HallAnswers.{Shows, game_head, head_of}
use Rattle.hb_club.specs.SeenTable.{seen_game}
use Rattle.hb_club.specs.TableClock.{timer_calls, timing_of}
use Rattle.hb_club.specs.TableItems.{acts, is_started}
use Rattle.hb_club.specs.TableRecord.{AreInOrder, HasSeat, StandsOn}
use Rattle.hb_club.specs.Views.{View, blind_of}
use Rattle.hb_talk.specs.Streams.{clock_lines, game_lines}
use Rattle.hb_view.specs.declared.clocks.Clock.{Clock}
use Rattle.hb_view.specs.declared.cursors.Cursor.{Cursor}
use Rattle.hb_view.specs.StreamClocks.{IsClock, clock_if, clock_texts}
use Rattle.hb_view.specs.Cursors.{IsKept}
use Rattle.hb_view.specs.GameTexts.{piece_lines}
use Rattle.hb_view.specs.StreamViews.{IsStream}
use Rattle.hb_view.specs.Writing.{Writes}
use Rattle.hb_view.proofs.ClockLemmas.{clock_texts-lines}
use Rattle.hb_view.proofs.ShownGameLemmas.{PlaysAs, answered-plays, game_lines-piece, not-both, seen_game-none, some-none, started-later}

-- the order at an item
pub order-at : (more before : List Item) (item : Item) → AreInOrder (more ++ item ∷ before)
    → StandsOn before item.what × AreInOrder before
order-at [] before item order = order
order-at (i ∷ more) before item order = order-at more before item order.1

-- no acts and no calls of the clock
pub record AreNone (items : List Item) : Type 0 where
  pub acts : acts items ≡ []
  pub calls : (g : Setup) → timer_calls g items ≡ []

-- one item more before a start
none-more : (w : What) (moment : ℕ) (items : List Item) → StandsOn items w
    → is_started (record { moment = moment; what = w } ∷ items) ≡ false → (is_started items ≡ false → AreNone items)
    → AreNone (record { moment = moment; what = w } ∷ items)
none-more (what.Opened host) moment items stands off rest = record { acts = (rest off).acts; calls = (rest off).calls }
none-more (what.Sat name) moment items stands off rest = record { acts = (rest off).acts; calls = (rest off).calls }
none-more (what.Rose name) moment items stands off rest = record { acts = (rest off).acts; calls = (rest off).calls }
none-more (what.Watching name shadow) moment items stands off rest = record { acts = (rest off).acts; calls = (rest off).calls }
none-more (what.Left name) moment items stands off rest = record { acts = (rest off).acts; calls = (rest off).calls }
none-more (what.Started names) moment items stands off rest = absurd (not-both refl off)
none-more (what.Acted act) moment items stands off rest = absurd (not-both stands off)
none-more (what.Paused by) moment items stands off rest = absurd (not-both stands off)
none-more (what.Resumed by) moment items stands off rest = absurd (not-both stands off)
none-more (what.Saved id) moment items stands off rest = record { acts = (rest off).acts; calls = (rest off).calls }
none-more (what.Loaded id) moment items stands off rest = record { acts = (rest off).acts; calls = (rest off).calls }
none-more (what.NoGame id) moment items stands off rest = record { acts = (rest off).acts; calls = (rest off).calls }
none-more (what.Reviewed turn hypos action) moment items stands off rest = record { acts = (rest off).acts; calls = (rest off).calls }
none-more what.Closed moment items stands off rest = record { acts = (rest off).acts; calls = (rest off).calls }

-- before a start there are none
pub unstarted-none : (items : List Item) → AreInOrder items → is_started items ≡ false → AreNone items
unstarted-none [] order off = record { acts = refl; calls = λ g. refl }
unstarted-none (i ∷ items) order off = none-more i.what i.moment items order.0 off (λ less. unstarted-none items order.1 less)

-- the head of an answer has the name and the options of the view
opened-head : (w : View) → IsStream w → head_of w ≡ Some (record { name = w.name; options = w.options; game = game_head w.loaded w })
opened-head w is = rw is.opened refl

-- the head of an answer that shows a view is the view's: its name, its options and its game
pub head-shown : (a : Answered) (w : View) (head : Head) → IsStream w → Shows w a.from a → a.head ≡ Some head
    → head ≡ record { name = w.name; options = w.options; game = game_head w.loaded w }
head-shown a w head is shows e = ap (λ (o : Option Head). unwrap_or o head) (sym e ∙ (shows.head ∙ opened-head w is))

-- an opening
pub opened-writes : (a : Answered) (host : List ℕ) (head : Head) (old new : List (List ℕ)) → a.head ≡ Some head
    → new ≡ old ++ line_text (wire.Opened host head.name head.options) ∷ []
    → (c : Cursor) (moment : ℕ) → Writes a (record { moment = moment; what = what.Opened host }) c c old new
opened-writes a host head old new e texts c moment w more before is shows all so = record {
  texts = texts ∙ ap (λ (h : Head). old ++ line_text (wire.Opened host h.name h.options) ∷ []) (head-shown a w head is shows e);
  left = record {
    written = record {
      viewer = so.written.viewer;
      game = so.written.game;
      clock = so.written.clock;
      unstarted = so.written.unstarted;
      review = so.written.review;
      unreviewed = so.written.unreviewed;
    };
    now = so.now;
  };
}

abbrev named : List (Option (List ℕ)) → List (List ℕ)
named names = filter_map (λ (name : Option (List ℕ)). name) names

-- a start of which the answer has no game
pub started-nowhere : (a : Answered) (names : List (Option (List ℕ))) (moment : ℕ) (head : Head) (c : Cursor) (old new : List (List ℕ))
    → a.head ≡ Some head → a.game ≡ None → new ≡ old ++ game_line head.name head.options (named names) ∷ []
    → Writes a (record { moment = moment; what = what.Started names }) c c old new
started-nowhere a names moment head c old new heads none texts w more before is shows all so =
    let item : Item = record { moment = moment; what = what.Started names } in
    let unseen : seen_game w ≡ None = seen_game-none a w is shows none in
    record {
      texts = texts ∙ (ap (λ (h : Head). old ++ game_line h.name h.options (named names) ∷ []) (head-shown a w head is shows heads)
          ∙ ap (λ (o : Option Setup). old ++ game_line w.name w.options (named names) ∷ game_lines w (item ∷ before) moment o)
          (sym unseen));
      left = record {
        written = record {
          viewer = so.written.viewer;
          game = λ g e on. absurd (some-none (sym e ∙ unseen));
          clock = λ g e on. absurd (some-none (sym e ∙ unseen));
          unstarted = λ off. absurd (not-both refl off);
          review = so.written.review;
          unreviewed = so.written.unreviewed;
        };
        now = λ p k e kept. absurd (some-none (sym e ∙ none));
      };
    }

-- what a start appends
abbrev start_lines : Head → List (Option (List ℕ)) → Viewer → Position → List (List ℕ) → List (List ℕ)
start_lines head names v p clock =
    game_line head.name head.options (named names) ∷ piece_lines (blind_of v p.setup.players)
    (record { setup = p.setup; past = [] }) clock

-- what a clock is started with
abbrev start_timing : Options → ℕ → ℕ → Timing
start_timing o seats moment = record {
  base = o.base_s * 1000;
  per_turn = o.per_turn_s * 1000;
  seats = seats;
  first = o.starting;
  start = moment;
}

-- a start
pub started-writes : (a : Answered) (p : Position) (names : List (Option (List ℕ))) (moment : ℕ) (head : Head) (c : Cursor)
    (clock : Clock)
    (old new : List (List ℕ)) → a.head ≡ Some head → a.game ≡ Some p → IsPlayed p
    → (HasSeat c.viewer → new ≡ (old ++ game_line head.name head.options (named names) ∷ [])
    ++ piece_lines (blind_of c.viewer p.setup.players) (record { setup = p.setup; past = [] })
    (clock_texts (clock_if p.setup.options.timed (Some clock)) p.setup.players moment))
    → IsClock (start_timing p.setup.options p.setup.players moment) [] clock
    → Writes a (record { moment = moment; what = what.Started names }) c
    (record { viewer = c.viewer; game = Some (record { setup = p.setup; past = [] }); clock = Some clock; shown = c.shown }) old new
started-writes a p names moment head c clock old new heads game played texts is_clock w more before is shows all so =
    let item : Item = record { moment = moment; what = what.Started names } in
    let order : StandsOn before (what.Started names) × AreInOrder before =
    order-at more before item (subst AreInOrder (sym all) is.order) in
    let none : AreNone before = unstarted-none before order.1 order.0 in
    let started : is_started w.items ≡ true = started-later more (item ∷ before) w.items all refl in
    let plays : (h : Setup) × PlaysAs w p h = answered-plays a w p is shows started game played in
    let h : Setup = plays.0 in
    let ps : PlaysAs w p h = plays.1 in
    let seat : HasSeat c.viewer = subst HasSeat (sym so.written.viewer) is.seat in
    let by_options : IsClock (start_timing h.options p.setup.players moment) [] clock =
    subst (λ (o : Options). IsClock (start_timing o p.setup.players moment) [] clock) (sym ps.is.options) is_clock in
    let by_count : IsClock (timing_of h (item ∷ before)) [] clock =
    subst (λ (n : ℕ). IsClock (start_timing h.options n moment) [] clock) (sym ps.is.count) by_options in
    let after_clock : IsClock (timing_of h (item ∷ before)) (timer_calls h (item ∷ before)) clock =
    subst (λ (calls : List TimerCall). IsClock (timing_of h (item ∷ before)) calls clock) (sym (none.calls h)) by_count in
    let told : clock_texts (clock_if p.setup.options.timed (Some clock)) p.setup.players moment ≡ clock_lines h (item ∷ before) moment =
    clock_texts-lines h (item ∷ before) (Some clock) p.setup.options.timed p.setup.players moment
    (ap (λ (o : Options). o.timed) (sym ps.is.options)) (sym ps.is.count) played.fair.six after_clock in
    let piece : game_lines w (item ∷ before) moment (seen_game w)
    ≡ piece_lines (blind_of w.viewer p.setup.players) (record { setup = p.setup; past = [] }) (clock_lines h (item ∷ before) moment) =
    game_lines-piece w p h more (item ∷ before) moment ps all
    ∙ ap (λ past. piece_lines (blind_of w.viewer p.setup.players) (record { setup = p.setup; past = past }) (clock_lines h
    (item ∷ before) moment))
    none.acts in
    let texts_clock : List (List ℕ) = clock_texts (clock_if p.setup.options.timed (Some clock)) p.setup.players moment in
    let same : (g : Setup) → seen_game w ≡ Some g → h ≡ g = λ (g : Setup) (e : seen_game w ≡ Some g).
    ap (λ (o : Option Setup). unwrap_or o h) (sym ps.seen ∙ e) in
    record {
      texts = texts seat ∙ (append_assoc old (game_line head.name head.options (named names) ∷ [])
          (piece_lines (blind_of c.viewer p.setup.players) (record { setup = p.setup; past = [] }) texts_clock)
          ∙ (ap (λ (k : Head). old ++ start_lines k names c.viewer p texts_clock) (head-shown a w head is shows heads)
          ∙ (ap (λ (v : Viewer). old ++ start_lines
          (record { name = w.name; options = w.options; game = game_head w.loaded w }) names v p texts_clock) so.written.viewer
          ∙ (ap (λ lines. old ++ start_lines
          (record { name = w.name; options = w.options; game = game_head w.loaded w }) names w.viewer p lines) told
          ∙ ap (λ lines. old ++ game_line w.name w.options (named names) ∷ lines) (sym piece)))));
      left = record {
        written = record {
          viewer = so.written.viewer;
          game = λ g e on. subst (λ (g : Setup). IsKept g (acts before) (record { setup = p.setup; past = [] })) (same g e) (record {
            acts = sym none.acts;
            variant = sym ps.is.variant;
            options = sym ps.is.options;
            players = sym ps.is.count;
          });
          clock = λ g e on. subst (λ (g : Setup). IsClock (timing_of g (item ∷ before)) (timer_calls g (item ∷ before)) clock)
              (same g e) after_clock;
          unstarted = λ off. absurd (not-both refl off);
          review = so.written.review;
          unreviewed = so.written.unreviewed;
        };
        now = λ q k e kept.
            let here : p ≡ q = ap (λ (o : Option Position). unwrap_or o p) (sym game ∙ e) in
            let one : record { setup = p.setup; past = [] } ≡ k =
            ap (λ (o : Option Position). unwrap_or o (record { setup = p.setup; past = [] })) kept in
            sym one ∙ (ap (λ (r : Position). record { setup = r.setup; past = [] }) here
            ∙ ap (λ past. record { setup = q.setup; past = past }) (sym none.acts));
      };
    }
