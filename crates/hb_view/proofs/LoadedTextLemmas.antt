-- What does a loaded game write?
use Rattle.std.proofs.Common.{◌≡◌, ℕ, true, List, [], ◌∷◌, ◌++◌, refl, ap, sym, subst, ◌∙◌, append_assoc, Option, Some, None}
use Rattle.std.specs.Prelude.{is_some, unwrap_or}
use Rattle.std.proofs.Math.Bool.{or-true}
use Rattle.hb_rules.specs.Observed.{Observed, observed}
use Rattle.hb_rules.specs.Setup.{Position}
use Rattle.hb_wire.specs.declared.lines.WireLine.TheVariants as wire
use Rattle.hb_wire.specs.WireLine.{line_text}
use Rattle.hb_club.specs.declared.answers.Answered.{Answered}
use Rattle.hb_club.specs.declared.answers.Head.{Head}
use Rattle.hb_club.specs.declared.items.Item.{Item}
use Rattle.hb_club.specs.declared.items.What.TheVariants as what
use Rattle.hb_club.specs.HallAnswers.{Shows, ShowsGame, ShowsLoaded, game_head}
use Rattle.hb_club.specs.TableItems.{has, is_loaded}
use Rattle.hb_club.specs.Views.{LoadedView, View}
use Rattle.hb_talk.specs.Streams.{loaded_lines}
use Rattle.hb_view.specs.declared.cursors.Cursor.{Cursor}
use Rattle.hb_view.specs.StreamViews.{IsStream}
use Rattle.hb_view.specs.Writing.{Writes}
use Rattle.hb_view.proofs.ShownGameLemmas.{not-both, some-none}
use Rattle.hb_view.proofs.StartTextLemmas.{head-shown}

-- items have a load behind any
has-loaded : (more before : List Item) (moment id : ℕ)
    → has is_loaded (more ++ record { moment = moment; what = what.Loaded id } ∷ before) ≡ true
has-loaded [] before moment id = refl
has-loaded (i ∷ more) before moment id = rw (has-loaded more before moment id) (or-true (is_loaded i.what))

-- the lines of a loaded game that the answer has
pub loaded-writes : (a : Answered) (id : ℕ) (head : Head) (name : List ℕ) (players : List (List ℕ)) (p : Position) (old new : List
    (List ℕ))
    → a.head ≡ Some head → head.game ≡ Some (name, players) → a.game ≡ Some p
    → new ≡ (old ++ line_text (wire.Loaded id) ∷ []) ++ loaded_lines (Some
    (record { name = name; players = players; seen = observed 0 p }))
    → (c : Cursor) (moment : ℕ) → Writes a (record { moment = moment; what = what.Loaded id }) c c old new
loaded-writes a id head name players p old new heads games game texts c moment w more before is shows all so =
    record {
      texts = texts ∙ (append_assoc old (line_text (wire.Loaded id) ∷ [])
          (loaded_lines (Some (record { name = name; players = players; seen = observed 0 p })))
          ∙ ap (λ lines. old ++ line_text (wire.Loaded id) ∷ lines)
          (sym (lines-of w.loaded refl (is.came (sym (ap (has is_loaded) all) ∙ has-loaded more before moment id)))));
      left = record {
        written = record {
          viewer = so.written.viewer;
          game = so.written.game;
          clock = so.written.clock;
          unstarted = so.written.unstarted;
          review = so.written.review;
          unreviewed = so.written.unreviewed;
        };
        now = so.now;
      };
    }
  where
    same : Some (name, players) ≡ game_head w.loaded w
    same = sym games ∙ ap (λ (h : Head). h.game) (head-shown a w head is shows heads)

    lines-of : (l : Option LoadedView) → w.loaded ≡ l → is_some l ≡ true
        → loaded_lines w.loaded ≡ loaded_lines (Some (record { name = name; players = players; seen = observed 0 p }))
    lines-of None e some = cc
    lines-of (Some l) e some =
        let gives : ShowsLoaded l p =
        subst (λ (o : Option Position). ShowsGame w (Some l) o) game (subst (λ
        (o : Option LoadedView). ShowsGame w o a.game) e shows.game) in
        let heads_same : Some (name, players) ≡ Some (l.name, l.players) = same ∙ ap (λ (o : Option LoadedView). game_head o w) e in
        let pair : (name, players) ≡ (l.name, l.players) =
        ap (λ (o : Option (List ℕ × List (List ℕ))). unwrap_or o (name, players)) heads_same in
        ap loaded_lines e
        ∙ (ap (λ (seen : Observed). loaded_lines (Some (record { name = l.name; players = l.players; seen = seen }))) (sym gives)
        ∙ ap (λ (q : List ℕ × List (List ℕ)). loaded_lines (Some (record { name = q.0; players = q.1; seen = observed 0 p }))) (sym pair))

-- the head of an answer names the loaded game
pub loaded-head : (a : Answered) (head : Head) (w : View) → a.head ≡ Some head → head.game ≡ None → IsStream w → Shows w a.from a
    → is_some w.loaded ≡ true → ⊥
loaded-head a head w heads none is shows some = pick w.loaded refl
  where
    pick : (l : Option LoadedView) → w.loaded ≡ l → ⊥
    pick None e = not-both some (ap is_some e)
    pick (Some l) e = some-none (sym (ap (λ (o : Option LoadedView). game_head o w) e)
        ∙ (sym (ap (λ (h : Head). h.game) (head-shown a w head is shows heads)) ∙ none))
