use Rattle.std.proofs.Common.{◌≡◌, ◌++◌, List, take}
use Rattle.std.specs.Prelude.{reverse}
use Rattle.hb_club.specs.declared.items.Item.{Item}
use Rattle.hb_club.specs.HallAnswers.{Shows}
use Rattle.hb_club.specs.Views.{View}
use Rattle.hb_view.specs.StreamViews.{IsStream}
use Rattle.hb_view.specs.Writing.{Writing, WritesList}
use Rattle.hb_view.proofs.pumps.write_items.Given as goal

abbrev pub invariant-loop-item : goal.invariant-loop-item
invariant-loop-item l = (w : View) (before : List Item) → IsStream w → Shows w l.a.from l.a → reverse l.a.items ++ before ≡ w.items
    → Writing l.a w before l.fn.next → WritesList l.a w (take l.item-index l.a.items) before l.fn.out l.out l.next
