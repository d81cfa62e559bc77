-- What do the items of an answer write, one after the other?
use Rattle.std.proofs.Common.{◌≡◌, ℕ, ◌+◌, ◌-◌, ◌<◌, ◌≤◌, Bool, true, false, List, [], ◌∷◌, ◌++◌, refl, ap, sym, subst, ◌∙◌, arith, length, length-append, length-drop, drop, take, append_assoc, append-nil, Option, Some, None}
use Rattle.std.specs.Prelude.{OnOk, Result, nat_le, reverse, unwrap_or}
use Rattle.std.proofs.lemmas.List.{reverse-append, reverse-reverse, take-append-drop}
use Rattle.hb_rules.specs.declared.acts.Act.{Act}
use Rattle.hb_rules.specs.declared.acts.Action.{Action}
use Rattle.hb_rules.specs.declared.acts.Options.{Options}
use Rattle.hb_rules.specs.declared.setups.Setup.{Setup}
use Rattle.hb_rules.specs.declared.suits.Identity.{Identity}
use Rattle.hb_rules.specs.declared.variants.Variant.{Variant}
use Rattle.hb_rules.specs.Setup.{Position, with_deck}
use Rattle.hb_review.specs.Reviews.{first_of}
use Rattle.hb_turns.specs.GameInvariant.{IsPlayed}
use Rattle.hb_turns.specs.Prefixes.{first_acts}
use Rattle.hb_wire.specs.declared.lines.WireLine.{WireLine}
use Rattle.hb_wire.specs.WireLine.{line_text}
use Rattle.hb_club.proofs.SeenGameLemmas.{acts-append}
use Rattle.hb_club.specs.declared.answers.Answered.{Answered}
use Rattle.hb_club.specs.declared.items.Item.{Item}
use Rattle.hb_club.specs.declared.items.Viewer.{Viewer}
use Rattle.hb_club.specs.declared.items.What.{What}
use Rattle.hb_club.specs.declared.items.What.TheVariants as what
use Rattle.hb_club.specs.HallAnswers.{Shows}
use Rattle.hb_club.specs.SeenTable.{seen_game}
use Rattle.hb_club.specs.TableItems.{acts, is_started}
use Rattle.hb_club.specs.Views.{View}
use Rattle.hb_talk.specs.Streams.{item_lines, item_texts, lines_from}
use Rattle.hb_view.specs.declared.cursors.Cursor.{Cursor}
use Rattle.hb_view.specs.Cursors.{IsKeptGame, Written}
use Rattle.hb_view.specs.Pumps.{Pumps}
use Rattle.hb_view.specs.StreamViews.{IsStream}
use Rattle.hb_view.specs.Writing.{Begins, IsResumed, Writes, WritesAll, WritesList, WritesOn, Writing, line_alone}
use Rattle.hb_view.proofs.ShownGameLemmas.{PlaysAs, answered-plays, not-both, seen_game-none, some-none, started-later}

-- an item with a line alone

abbrev line_in : WireLine → Option WireLine → WireLine
line_in other (Some line) = line
line_in other None = other

alone-writes : (a : Answered) (moment : ℕ) (w : What) (line : WireLine) (c : Cursor) (old new : List (List ℕ)) → line_alone w ≡ Some line
    → new ≡ old ++ line_text line ∷ [] → Writes a (record { moment = moment; what = w }) c c old new
alone-writes a moment (what.Sat name) line c old new is texts v more before known shows all so = record {
  texts = texts ∙ ap (λ l. old ++ line_text l ∷ []) (sym (ap (line_in line) is));
  left = record {
    written = record {
      viewer = so.written.viewer;
      game = so.written.game;
      clock = so.written.clock;
      unstarted = so.written.unstarted;
      review = so.written.review;
      unreviewed = so.written.unreviewed;
    };
    now = so.now;
  };
}
alone-writes a moment (what.Rose name) line c old new is texts v more before known shows all so = record {
  texts = texts ∙ ap (λ l. old ++ line_text l ∷ []) (sym (ap (line_in line) is));
  left = record {
    written = record {
      viewer = so.written.viewer;
      game = so.written.game;
      clock = so.written.clock;
      unstarted = so.written.unstarted;
      review = so.written.review;
      unreviewed = so.written.unreviewed;
    };
    now = so.now;
  };
}
alone-writes a moment (what.Watching name shadow) line c old new is texts v more before known shows all so = record {
  texts = texts ∙ ap (λ l. old ++ line_text l ∷ []) (sym (ap (line_in line) is));
  left = record {
    written = record {
      viewer = so.written.viewer;
      game = so.written.game;
      clock = so.written.clock;
      unstarted = so.written.unstarted;
      review = so.written.review;
      unreviewed = so.written.unreviewed;
    };
    now = so.now;
  };
}
alone-writes a moment (what.Left name) line c old new is texts v more before known shows all so = record {
  texts = texts ∙ ap (λ l. old ++ line_text l ∷ []) (sym (ap (line_in line) is));
  left = record {
    written = record {
      viewer = so.written.viewer;
      game = so.written.game;
      clock = so.written.clock;
      unstarted = so.written.unstarted;
      review = so.written.review;
      unreviewed = so.written.unreviewed;
    };
    now = so.now;
  };
}
alone-writes a moment (what.Saved id) line c old new is texts v more before known shows all so = record {
  texts = texts ∙ ap (λ l. old ++ line_text l ∷ []) (sym (ap (line_in line) is));
  left = record {
    written = record {
      viewer = so.written.viewer;
      game = so.written.game;
      clock = so.written.clock;
      unstarted = so.written.unstarted;
      review = so.written.review;
      unreviewed = so.written.unreviewed;
    };
    now = so.now;
  };
}
alone-writes a moment (what.NoGame id) line c old new is texts v more before known shows all so = record {
  texts = texts ∙ ap (λ l. old ++ line_text l ∷ []) (sym (ap (line_in line) is));
  left = record {
    written = record {
      viewer = so.written.viewer;
      game = so.written.game;
      clock = so.written.clock;
      unstarted = so.written.unstarted;
      review = so.written.review;
      unreviewed = so.written.unreviewed;
    };
    now = so.now;
  };
}
alone-writes a moment what.Closed line c old new is texts v more before known shows all so = record {
  texts = texts ∙ ap (λ l. old ++ line_text l ∷ []) (sym (ap (line_in line) is));
  left = record {
    written = record {
      viewer = so.written.viewer;
      game = so.written.game;
      clock = so.written.clock;
      unstarted = so.written.unstarted;
      review = so.written.review;
      unreviewed = so.written.unreviewed;
    };
    now = so.now;
  };
}
alone-writes a moment (what.Opened host) line c old new is texts v more before known shows all so = absurd (some-none (sym is))
alone-writes a moment (what.Started names) line c old new is texts v more before known shows all so = absurd (some-none (sym is))
alone-writes a moment (what.Acted act) line c old new is texts v more before known shows all so = absurd (some-none (sym is))
alone-writes a moment (what.Paused by) line c old new is texts v more before known shows all so = absurd (some-none (sym is))
alone-writes a moment (what.Resumed by) line c old new is texts v more before known shows all so = absurd (some-none (sym is))
alone-writes a moment (what.Loaded id) line c old new is texts v more before known shows all so = absurd (some-none (sym is))
alone-writes a moment (what.Reviewed turn hypos action) line c old new is texts v more before known shows all so = absurd (some-none
    (sym is))

-- an item that has one line, whatever the table is, writes that line and leaves the cursor
pub line_alone-writes : (a : Answered) (item : Item) (line : WireLine) (c : Cursor) (old new : List (List ℕ))
    → line_alone item.what ≡ Some line
    → new ≡ old ++ line_text line ∷ [] → Writes a item c c old new
line_alone-writes a item line c old new is texts = alone-writes a item.moment item.what line c old new is texts

-- an item without a line alone is one of the others
pub line_alone-other : (w : What) → line_alone w ≡ None → ((host : List ℕ) → w ≡ what.Opened host → ⊥)
    → ((names : List (Option (List ℕ))) → w ≡ what.Started names → ⊥) → ((act : Act) → w ≡ what.Acted act → ⊥)
    → ((name : List ℕ) → w ≡ what.Paused name → ⊥) → ((name : List ℕ) → w ≡ what.Resumed name → ⊥)
    → ((id : ℕ) → w ≡ what.Loaded id → ⊥)
    → ((turn hypos : ℕ) (action : Option Action) → w ≡ what.Reviewed turn hypos action → ⊥) → ⊥
line_alone-other (what.Sat name) none opened started acted paused resumed loaded reviewed = some-none none
line_alone-other (what.Rose name) none opened started acted paused resumed loaded reviewed = some-none none
line_alone-other (what.Watching name shadow) none opened started acted paused resumed loaded reviewed = some-none none
line_alone-other (what.Left name) none opened started acted paused resumed loaded reviewed = some-none none
line_alone-other (what.Saved id) none opened started acted paused resumed loaded reviewed = some-none none
line_alone-other (what.NoGame id) none opened started acted paused resumed loaded reviewed = some-none none
line_alone-other what.Closed none opened started acted paused resumed loaded reviewed = some-none none
line_alone-other (what.Opened host) none opened started acted paused resumed loaded reviewed = opened host refl
line_alone-other (what.Started names) none opened started acted paused resumed loaded reviewed = started names refl
line_alone-other (what.Acted act) none opened started acted paused resumed loaded reviewed = acted act refl
line_alone-other (what.Paused by) none opened started acted paused resumed loaded reviewed = paused by refl
line_alone-other (what.Resumed by) none opened started acted paused resumed loaded reviewed = resumed by refl
line_alone-other (what.Loaded id) none opened started acted paused resumed loaded reviewed = loaded id refl
line_alone-other (what.Reviewed turn hypos action) none opened started acted paused resumed loaded reviewed =
    reviewed turn hypos action refl

-- what a call wrote of an item of a kind
pub on_ok-kind : {T E : Type 0} (r : Result T E) (a : Answered) (item : Item) (kind : What) (c left : Cursor) (old new : List (List ℕ))
    → item.what ≡ kind → OnOk r (Writes a (record { moment = item.moment; what = kind }) c left old new)
    → OnOk r (Writes a item c left old new)
on_ok-kind r a item kind c left old new is ok =
    subst (λ (k : What). OnOk r (Writes a (record { moment = item.moment; what = k }) c left old new)) (sym is) ok

-- the items of a list

-- a number is at least itself, and not at least a greater one
le-more : (n k : ℕ) → nat_le n (k + n) ≡ true
le-more n k = grind arith

gt-not : (n k : ℕ) → k < n → nat_le n k ≡ false
gt-not n k low = grind (arith, low)

-- in front of its number a stream has no text
no-lines : (w : View) (n : ℕ) (items : List Item) → length items ≤ n → lines_from w n items ≡ []
no-lines w n [] low = refl
no-lines w n (i ∷ items) low = rw (no-lines w n items (omega (arith, low)), gt-not n (length items) (omega (arith, low))) refl

more-lines : (w : View) (n k : ℕ) (item : Item) (items : List Item) → length items ≡ k + n
    → lines_from w n (item ∷ items) ≡ lines_from w n items ++ item_lines w item.what item.moment (item ∷ items)
more-lines w n k item items long = rw (long, le-more n k) refl

-- no item yet
pub writes-none : (a : Answered) (w : View) (before : List Item) (c : Cursor) (old : List (List ℕ)) → Writing a w before c
    → WritesList a w [] before old old c
writes-none a w before c old so = record {
  texts = sym (ap (λ lines. old ++ lines) (no-lines w (length before) before (omega arith)) ∙ append-nil old);
  left = so;
}

-- one item more
writes-more : (a : Answered) (w : View) (written rest before : List Item) (item : Item) (old mid new : List (List ℕ)) (c left : Cursor)
    → IsStream w → Shows w a.from a → reverse (written ++ item ∷ rest) ++ before ≡ w.items
    → WritesList a w written before old mid c → Writes a item c left mid new
    → WritesList a w (written ++ item ∷ []) before old new left
writes-more a w written rest before item old mid new c left is shows all so writes =
    let xs : List Item = reverse written ++ before in
    let turned : reverse (written ++ item ∷ []) ≡ item ∷ reverse written = reverse-append written (item ∷ []) in
    let whole : reverse rest ++ item ∷ xs ≡ w.items =
    sym (ap (λ (ys : List Item). ys ++ before)
    (reverse-append written (item ∷ rest) ∙ ap (λ (ys : List Item). ys ++ reverse written) (reverse-append (item ∷ []) rest))
    ∙ (append_assoc (reverse rest ++ item ∷ []) (reverse written) before
    ∙ append_assoc (reverse rest) (item ∷ []) (reverse written ++ before))) ∙ all in
    let on : WritesOn a w item xs mid new left = writes w (reverse rest) xs is shows whole so.left in
    let long : length xs ≡ length (reverse written) + length before = length-append (reverse written) before in
    record {
      texts = on.texts ∙ (ap (λ front. front ++ item_lines w item.what item.moment (item ∷ xs)) so.texts
          ∙ (append_assoc old (lines_from w (length before) xs) (item_lines w item.what item.moment (item ∷ xs))
          ∙ ap (λ lines. old ++ lines) (sym (more-lines w (length before) (length (reverse written)) item xs long)
          ∙ ap (λ (ys : List Item). lines_from w (length before) (ys ++ before)) (sym turned))));
      left = subst (λ (ys : List Item). Writing a w (ys ++ before) left) (sym turned) on.left;
    }

-- one item more, by its place
pub writes-step : (a : Answered) (w : View) (s : List Item) (i : ℕ) (before : List Item) (item : Item) (old mid new : List (List ℕ))
    (c left : Cursor) → s ≡ a.items → take (i + 1) s ≡ take i s ++ item ∷ []
    → IsStream w → Shows w a.from a → reverse a.items ++ before ≡ w.items → WritesList a w (take i a.items) before old mid c
    → Writes a item c left mid new → WritesList a w (take (i + 1) a.items) before old new left
writes-step a w s i before item old mid new c left same step is shows all so writes =
    let rest : List Item = drop (i + 1) a.items in
    let one : take (i + 1) a.items ≡ take i a.items ++ item ∷ [] =
    subst (λ (xs : List Item). take (i + 1) xs ≡ take i xs ++ item ∷ []) same step in
    let split : a.items ≡ take i a.items ++ item ∷ rest =
    sym (take-append-drop (i + 1) a.items)
    ∙ (ap (λ (front : List Item). front ++ rest) one ∙ append_assoc (take i a.items) (item ∷ []) rest) in
    subst (λ (xs : List Item). WritesList a w xs before old new left) (sym one)
    (writes-more a w (take i a.items) rest before item old mid new c left is shows
    (ap (λ (xs : List Item). reverse xs ++ before) (sym split) ∙ all) so writes)

-- a kept game in an answered one

-- the first acts of all acts
first_acts-append : (xs ys : List Act) → first_acts (length ys) (xs ++ ys) ≡ ys
first_acts-append xs ys =
    let n : length (xs ++ ys) - length ys ≡ length xs = omega (arith, length-append xs ys) in
    ap (λ k. drop k (xs ++ ys)) n ∙ drop-front xs ys
  where
    drop-front : (xs ys : List Act) → drop (length xs) (xs ++ ys) ≡ ys
    drop-front [] ys = refl
    drop-front (x ∷ xs) ys = drop-front xs ys

-- the cursor with another game
abbrev pub with_game : Cursor → Option Position → Cursor
with_game c game = record { viewer = c.viewer; game = game; clock = c.clock; shown = c.shown }

-- a kept game is taken up again in an answered one
resumed-kept : (p : Position) (h : Setup) (past more : List Act) (kept new : Option Position) → h.variant ≡ p.setup.variant
    → h.options ≡ p.setup.options → h.players ≡ p.setup.players → more ++ past ≡ p.past → IsKeptGame h past kept
    → IsResumed kept (Some p) new → new ≡ Some (record { setup = p.setup; past = past })
resumed-kept p h past more None new variant options players all kept is = absurd kept
resumed-kept p h past more (Some k) None variant options players all kept is = absurd is
resumed-kept p h past more (Some k) (Some n) variant options players all kept is =
    let long : length k.past ≡ length past = ap length kept.acts in
    let first : first_acts (length k.past) p.past ≡ past =
    ap (λ m. first_acts m p.past) long
    ∙ (ap (λ (acts : List Act). first_acts (length past) acts) (sym all) ∙ first_acts-append more past) in
    let begins : Begins k p = record {
      acts = kept.acts ∙ sym first;
      within = omega (arith, long, ap length all, length-append more past);
      variant = kept.variant ∙ variant;
      options = kept.options ∙ options;
      players = kept.players ∙ players;
    } in
    ap Some (is begins ∙ ap (λ acts. record { setup = p.setup; past = acts }) kept.acts)

abbrev at_setup : Setup → List Act → Position
at_setup g past = record { setup = g; past = past }

-- a kept game with the cards of the answered one is that game
pub begins-same : (kept game : Position) → kept.setup.deck.items ≡ game.setup.deck.items → Begins kept game
    → kept ≡ record { setup = game.setup; past = kept.past }
begins-same kept game cards b =
    let k : Setup = kept.setup in
    let g : Setup = game.setup in
    ap (λ (v : Variant). at_setup (with_deck v k.options k.players k.deck.items) kept.past) b.variant
    ∙ (ap (λ (o : Options). at_setup (with_deck g.variant o k.players k.deck.items) kept.past) b.options
    ∙ (ap (λ (n : ℕ). at_setup (with_deck g.variant g.options n k.deck.items) kept.past) b.players
    ∙ ap (λ (ids : List Identity). at_setup (with_deck g.variant g.options g.players ids) kept.past) cards))

-- lists that agree at each place so far, and one place on
pub take-agree : (a b : List Identity) (i : ℕ) (x y : Identity) → take (i + 1) a ≡ take i a ++ x ∷ []
    → take (i + 1) b ≡ take i b ++ y ∷ []
    → take i a ≡ take i b → x ≡ y → take (i + 1) a ≡ take (i + 1) b
take-agree a b i x y one two same is =
    one ∙ (ap (λ (front : List Identity). front ++ x ∷ []) same ∙ (ap (λ z. take i b ++ z ∷ []) is ∙ sym two))

-- without a kept game there is none to resume
resumed-none : (o game new : Option Position) → o ≡ None → IsResumed o game new → new ≡ None
resumed-none None game new e is = is
resumed-none (Some k) game new e is = absurd (some-none e)

-- a cursor whose game is resumed writes on
resumed-writing : (a : Answered) (w : View) (more before : List Item) (c : Cursor) (new : Option Position) → IsStream w → Shows w a.from a
    → ((p : Position) → a.game ≡ Some p → IsPlayed p) → more ++ before ≡ w.items → Written w before c → IsResumed c.game a.game new
    → Writing a w before (with_game c new)
resumed-writing a w more before c new is shows played all written resumes = by_start (is_started before) refl
  where
    off_none : is_started before ≡ false → (new ≡ None) × (c.clock ≡ None)
    off_none off = (resumed-none c.game a.game new (written.unstarted off).0 resumes, (written.unstarted off).1)

    resumed-to : (p : Position) → a.game ≡ Some p → is_started before ≡ true → new ≡ Some (record { setup = p.setup; past = acts before })
    resumed-to p e on =
        let ps : (h : Setup) × PlaysAs w p h =
        answered-plays a w p is shows (started-later more before w.items all on) e (played p e) in
        resumed-kept p ps.0 (acts before) (acts more) c.game new ps.1.is.variant ps.1.is.options ps.1.is.count
        (sym (acts-append more before) ∙ (ap acts all ∙ ps.1.acts)) (written.game ps.0 ps.1.seen on)
        (subst (λ (o : Option Position). IsResumed c.game o new) e resumes)

    kept-by : (o : Option Position) → a.game ≡ o → is_started before ≡ true → (g : Setup) → seen_game w ≡ Some g
        → IsKeptGame g (acts before) new
    kept-by None e on g seen = absurd (some-none (sym seen ∙ seen_game-none a w is shows e))
    kept-by (Some p) e on g seen =
        let ps : (h : Setup) × PlaysAs w p h =
        answered-plays a w p is shows (started-later more before w.items all on) e (played p e) in
        let same : ps.0 ≡ g = ap (λ (o : Option Setup). unwrap_or o g) (sym ps.1.seen ∙ seen) in
        subst (IsKeptGame g (acts before)) (sym (resumed-to p e on)) (record {
          acts = refl;
          variant = sym ps.1.is.variant ∙ ap (λ (k : Setup). k.variant) same;
          options = sym ps.1.is.options ∙ ap (λ (k : Setup). k.options) same;
          players = sym ps.1.is.count ∙ ap (λ (k : Setup). k.players) same;
        })

    now-by : (b : Bool) → is_started before ≡ b → (p k : Position) → a.game ≡ Some p → new ≡ Some k
        → k ≡ record { setup = p.setup; past = acts before }
    now-by true on p k e kept =
        ap (λ (o : Option Position). unwrap_or o k) (sym kept ∙ resumed-to p e on)
    now-by false off p k e kept = absurd (some-none (sym kept ∙ (off_none off).0))

    by_start : (b : Bool) → is_started before ≡ b → Writing a w before (with_game c new)
    by_start b e = record {
      written = record {
        viewer = written.viewer;
        game = λ g seen on. kept-by a.game refl on g seen;
        clock = written.clock;
        unstarted = off_none;
        review = written.review;
        unreviewed = written.unreviewed;
      };
      now = now-by b e;
    }

-- all items of an answer
pub pump-all : (a : Answered) (c left : Cursor) (game : Option Position) (old texts : List (List ℕ))
    → ((p : Position) → a.game ≡ Some p → IsPlayed p) → IsResumed c.game a.game game
    → WritesAll a (with_game c game) left [] texts → Pumps a c left old (old ++ texts)
unfolding item_texts
pump-all a c left game old texts played resumes writes w is shows few written =
    let n : ℕ = length w.items - a.from in
    let before : List Item = first_of a.from w.items in
    let turned : reverse a.items ≡ take n w.items = ap reverse shows.items ∙ reverse-reverse (take n w.items) in
    let all : reverse a.items ++ before ≡ w.items = ap (λ (xs : List Item). xs ++ before) turned ∙ take-append-drop n w.items in
    let listed : WritesList a w a.items before [] texts left =
    writes w before is shows all (resumed-writing a w (reverse a.items) before c game is shows played all written resumes) in
    let count : length before ≡ a.from = omega (arith, length-drop n w.items, few) in
    record {
      texts = ap (λ lines. old ++ lines)
          (listed.texts ∙ (ap (λ (xs : List Item). lines_from w (length before) xs) all ∙ ap (λ k. lines_from w k w.items) count));
      left = subst (λ (xs : List Item). Written w xs left) all listed.left.written;
    }

-- a new cursor has written nothing
pub new-written : (w : View) (v : Viewer) → w.viewer ≡ v → Written w [] (record { viewer = v; game = None; clock = None; shown = None })
new-written w v same = record {
  viewer = sym same;
  game = λ g e on. absurd (not-both on refl);
  clock = λ g e on. absurd (not-both on refl);
  unstarted = λ off. (refl, refl);
  review = λ game e. refl;
  unreviewed = λ none. refl;
}
