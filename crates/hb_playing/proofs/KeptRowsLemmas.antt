-- Of which games can a row be kept? Of each that a room starts, after any acts.
use Rattle.std.proofs.Common.{◌≡◌, ℕ, Bool, true, false, List, [], ◌∷◌, refl, subst, length, Some, None, Option}
use Rattle.std.specs.Prelude.{option_map, if◌then◌else◌}
use Rattle.hb_rules.specs.declared.acts.Act.{Act}
use Rattle.hb_rules.specs.declared.acts.Options.{Options}
use Rattle.hb_rules.specs.declared.setups.Setup.{Setup}
use Rattle.hb_rules.specs.declared.variants.Variant.{Variant}
use Rattle.hb_suits.specs.VariantNames.{variant_of}
use Rattle.hb_replay.specs.Contents.{HasTimes}
use Rattle.hb_club.specs.declared.commands.Command.{Command}
use Rattle.hb_club.specs.declared.commands.Command.TheVariants as command
use Rattle.hb_club.specs.ClerkCalls.{row_of, set_notes}
use Rattle.hb_club.specs.RoomEvents.{AsksTodo, Call, Happening, Notes, RoomEvent, Site}
use Rattle.hb_club.specs.Seating.{players}
use Rattle.hb_club.specs.Table.{Table}
use Rattle.hb_club.specs.TableFacts.{held_options, opening, opening_at, opening_by, setup_for, setup_when}
use Rattle.hb_club.specs.TableItems.{has, is_opened}
use Rattle.hb_club.specs.TableReview.{played_game}
use Rattle.hb_playing.specs.KeptRows.{IsKeepable, row_with}

-- the options that a table holds have the times that a replay can hold
pub held_options-times : (o : Options) → HasTimes (held_options o)
held_options-times o untimed = (rw untimed refl, rw untimed refl)

opening_by-times : (c : Command) → HasTimes (opening_by c).1
opening_by-times (command.Open name options) = held_options-times options
opening_by-times _ = λ untimed. (refl, refl)

opening_at-times : (e : RoomEvent) → HasTimes (opening_at e).1
opening_at-times (Call e) = opening_by-times e.command
opening_at-times (AsksTodo moment) = λ untimed. (refl, refl)
opening_at-times (Notes moment notice) = λ untimed. (refl, refl)

-- and so do those of the latest table, whatever happened
pub opening-times : (past : List Happening) → HasTimes (opening past).1
opening-times [] = λ untimed. (refl, refl)
opening-times (h ∷ past) = pick (has is_opened h.added) (opening-times past)
  where
    pick : (b : Bool) → HasTimes (opening past).1 → HasTimes (if b then opening_at h.event else opening past).1
    pick true before = opening_at-times h.event
    pick false before = before

-- a game that was started for so many players is kept with as many names, after any acts
pub setup_when-keepable : (s : Site) (serial : ℕ) (opened : List ℕ × Options) (names : List (List ℕ)) (g : Setup) (past : List Act)
    → setup_when true s serial opened (length names) ≡ Some g → HasTimes opened.1
    → IsKeepable names opened.0 (record { setup = g; past = past })
setup_when-keepable s serial opened names g past is times = pick (variant_of opened.0) refl is
  where
    same : {A : Type 0} {a b : A} → Some a ≡ Some b → a ≡ b
    same e = cc

    pick : (o : Option Variant) → variant_of opened.0 ≡ o → option_map (setup_for s serial opened.1 (length names)) o ≡ Some g
        → IsKeepable names opened.0 (record { setup = g; past = past })
    pick None named e = cc
    pick (Some v) named e =
        subst (λ (h : Setup). IsKeepable names opened.0 (record { setup = h; past = past }))
        (same e) (record { seats = refl; named = named; times = times })

-- the row that a room has for the clerk
pub row_of-is : (t : Table) (past : List Happening) (g : Setup)
    → row_of t past g ≡ row_with (players t.items) t.name (played_game g t.items) (set_notes t.latest past)
row_of-is t past g = refl
