-- What does time add to a table? No item, or an act.
use Rattle.std.proofs.Common.{◌≡◌, ℕ, Bool, true, false, cond, List, [], ◌∷◌, ◌++◌, refl, Some, None, Option}
use Rattle.std.specs.Prelude.{◌&&◌, nat_le}
use Rattle.hb_rules.specs.declared.acts.Act.{Act}
use Rattle.hb_rules.specs.declared.acts.Action.TheVariants as action
use Rattle.hb_rules.specs.declared.acts.EndHow.TheVariants.{Timeout}
use Rattle.hb_rules.specs.declared.setups.Setup.{Setup}
use Rattle.hb_rules.specs.Setup.{by}
use Rattle.hb_timer.specs.Banks.{deadline, turn_seat}
use Rattle.hb_club.specs.declared.items.Item.{Item}
use Rattle.hb_club.specs.declared.items.What.{What}
use Rattle.hb_club.specs.declared.items.What.TheVariants as what
use Rattle.hb_club.specs.Table.{Table}
use Rattle.hb_club.specs.TableClock.{timer_calls, timing_of}
use Rattle.hb_club.specs.TableItems.{is_standing, latest_items}
use Rattle.hb_club.specs.TimeFirst.{timeout, timeout_at, timeout_when}

-- an item with its stamp
abbrev pub item_at : ℕ → What → Item
item_at moment w = record { moment = moment; what = w }

-- what holds of no item, and of each act, holds of what time adds
pub timeout-all : (P : List Item → Type 0) → P [] → ((moment : ℕ) (act : Act) → P (item_at moment (what.Acted act) ∷ []))
    → (t : Table) (g : Option Setup) (moment : ℕ) → P (timeout t g moment)
timeout-all P none one t None moment = none
timeout-all P none one t (Some g) moment = by_test (is_standing t.items && t.options.timed)
  where
    at_end : (seat : ℕ) (end : Option ℕ) → P (timeout_at seat moment end)
    at_end seat None = none
    at_end seat (Some end) = elim (nat_le end moment) as
        (λ b. P (cond b (item_at end (what.Acted (by seat (action.End Timeout))) ∷ []) []))
        [ true ↦ one end (by seat (action.End Timeout)) | false ↦ none ]

    by_test : (b : Bool) → P (timeout_when b g t.items moment)
    by_test true = at_end (turn_seat (timing_of g t.items) (timer_calls g t.items)) (deadline (timing_of g t.items) (timer_calls g t.items))
    by_test false = none

-- time opens no table
pub latest_items-timeout : (t : Table) (g : Option Setup) (moment : ℕ) (all : List Item)
    → latest_items (timeout t g moment ++ all) ≡ timeout t g moment ++ latest_items all
latest_items-timeout t g moment all =
    timeout-all (λ late. latest_items (late ++ all) ≡ late ++ latest_items all) refl (λ m act. refl) t g moment
