-- Internal: no public clause cites this.
-- What does a call say that writes one item of an answer, or all of them?
use Rattle.std.specs.Prelude.{◌≡◌, ◌≤◌, ℕ, List, ◌∷◌, ◌++◌, Option, Some, None, length, reverse}
use Rattle.hb_rules.specs.Setup.{Position}
use Rattle.hb_turns.specs.Prefixes.{first_acts}
use Rattle.hb_wire.specs.declared.lines.WireLine.{WireLine}
use Rattle.hb_wire.specs.declared.lines.WireLine.TheVariants as wire
use Rattle.hb_club.specs.declared.answers.Answered.{Answered}
use Rattle.hb_club.specs.declared.items.Item.{Item}
use Rattle.hb_club.specs.declared.items.What.{What}
use Rattle.hb_club.specs.declared.items.What.TheVariants as what
use Rattle.hb_club.specs.HallAnswers.{Shows}
use Rattle.hb_club.specs.TableItems.{acts}
use Rattle.hb_club.specs.Views.{View}
use Rattle.hb_talk.specs.Streams.{item_lines, lines_from}
use Rattle.hb_view.specs.declared.cursors.Cursor.{Cursor}
use Rattle.hb_view.specs.Cursors.{Written}
use Rattle.hb_view.specs.StreamViews.{IsStream}

-- the line of an item that has no other text
abbrev pub line_alone : What → Option WireLine
line_alone (what.Sat name) = Some (wire.Sat name)
line_alone (what.Rose name) = Some (wire.Rose name)
line_alone (what.Watching name shadow) = Some (wire.Watching name shadow)
line_alone (what.Left name) = Some (wire.Left name)
line_alone (what.Saved id) = Some (wire.Saved id)
line_alone (what.NoGame id) = Some (wire.NoGame id)
line_alone what.Closed = Some wire.Closed
line_alone _ = None

-- a cursor while the items of an answer are written: the game that it keeps is the answered one
-- after the acts of the items so far
pub record Writing (a : Answered) (w : View) (items : List Item) (c : Cursor) : Type 0 where
  pub written : Written w items c
  pub now : (p k : Position) → a.game ≡ Some p → c.game ≡ Some k
      → k ≡ record { setup = p.setup; past = acts items }

-- one more item was written
pub record WritesOn (a : Answered) (w : View) (item : Item) (before : List Item)
    (old new : List (List ℕ)) (c : Cursor) : Type 0 where
  pub texts : new ≡ old ++ item_lines w item.what item.moment (item ∷ before)
  pub left : Writing a w (item ∷ before) c

-- what a call says that writes one item
abbrev pub Writes : Answered → Item → Cursor → Cursor → List (List ℕ) → List (List ℕ) → Type 0
Writes a item old_cursor new_cursor old new = (w : View) (more before : List Item) → IsStream w
    → Shows w a.from a → more ++ item ∷ before ≡ w.items → Writing a w before old_cursor
    → WritesOn a w item before old new new_cursor

-- the items of a list were written, the oldest first, behind these
pub record WritesList (a : Answered) (w : View) (items before : List Item)
    (old new : List (List ℕ)) (c : Cursor) : Type 0 where
  pub texts : new ≡ old ++ lines_from w (length before) (reverse items ++ before)
  pub left : Writing a w (reverse items ++ before) c

-- what a call says that writes all items of an answer
abbrev pub WritesAll : Answered → Cursor → Cursor → List (List ℕ) → List (List ℕ) → Type 0
WritesAll a old_cursor new_cursor old new = (w : View) (before : List Item) → IsStream w
    → Shows w a.from a → reverse a.items ++ before ≡ w.items → Writing a w before old_cursor
    → WritesList a w a.items before old new new_cursor

-- a kept game stands after the first acts of a game, and differs from it in cards at most
pub record Begins (kept game : Position) : Type 0 where
  pub acts : kept.past ≡ first_acts (length kept.past) game.past
  pub within : length kept.past ≤ length game.past
  pub variant : kept.setup.variant ≡ game.setup.variant
  pub options : kept.setup.options ≡ game.setup.options
  pub players : kept.setup.players ≡ game.setup.players

-- the answered game after as many acts as a kept one has
abbrev pub IsResumed : Option Position → Option Position → Option Position → Type 0
IsResumed (Some kept) (Some game) (Some new) =
    Begins kept game → new ≡ record { setup = game.setup; past = kept.past }
IsResumed (Some kept) (Some game) None = ⊥
IsResumed (Some kept) None new = new ≡ Some kept
IsResumed None game new = new ≡ None
