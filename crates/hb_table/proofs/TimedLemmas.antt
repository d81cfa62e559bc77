-- What does a room keep once time was applied at an event?
use Rattle.std.proofs.Common.{◌≡◌, ℕ, ◌≤◌, Bool, true, false, List, [], refl, ap, arith, sym, subst, ◌∙◌, Some, None, Option}
use Rattle.std.specs.Prelude.{is_some, nat_le, if◌then◌else◌}
use Rattle.hb_rules.specs.declared.setups.Setup.{Setup}
use Rattle.hb_timer.specs.declared.timing.TheConstants.{MOMENT_LIMIT}
use Rattle.hb_timer.specs.Banks.{deadline, is_running, turn_seat}
use Rattle.hb_timer.specs.Timer.{History}
use Rattle.hb_club.specs.declared.items.Item.{Item}
use Rattle.hb_club.specs.NewItems.{command_stamp}
use Rattle.hb_club.specs.RoomEvents.{AsksTodo, Call, Happening, Notes, RoomEvent, Site, event_moment}
use Rattle.hb_club.specs.Rooms.{past_of}
use Rattle.hb_club.specs.Table.{Table}
use Rattle.hb_club.specs.TableFacts.{table_of}
use Rattle.hb_club.specs.TableItems.{is_standing, is_started}
use Rattle.hb_club.specs.TableReview.{played_game}
use Rattle.hb_club.specs.TimeFirst.{timeout_at}
use Rattle.hb_club.specs.WholeGames.{BringWhole}
use Rattle.hb_playing.specs.declared.clocks.Lapse.{Lapse}
use Rattle.hb_playing.specs.RoomClocks.{due_at, due_by, lapse_items}
use Rattle.hb_playing.specs.Games.{game_after}
use Rattle.hb_table.specs.declared.room.Room.{Room}
use Rattle.hb_table.specs.State.{history_in, position_in, state_at, state_of}
use Rattle.hb_table.specs.StateMoves.{late_items, timed_state, with_more}
use Rattle.hb_table.specs.Keeps.{IsTimely, Keeps}
use Rattle.hb_table.specs.Changes.{AddsItem, SameFacts, TimesOut, due_in, review_after, timed_out}
use Rattle.hb_table.specs.Steps.{Timed}
use Rattle.hb_table.proofs.AddLemmas.{Lapses, lapse-can}
use Rattle.hb_table.proofs.RoomKeepsLemmas.{added-keeps, same-facts-keeps}
use Rattle.hb_table.proofs.PendingStateLemmas.{state_at-table, state_at-within}
use Rattle.hb_table.proofs.SoundLemmas.{sound-may-lapse, state_at-sound, unstarted-position}
use Rattle.hb_table.proofs.TableGamesLemmas.{late_by, timeout-by}

none-some : {A : Type 0} {v : A} → None ≡ Some v → ⊥
none-some e = cc

-- the items of a lapse are those that time adds
late-lapse : (timer : Option History) (moment : ℕ) → late_by timer moment ≡ lapse_items (due_by timer moment)
late-lapse None moment = refl
late-lapse (Some t) moment = each (deadline t.timing t.calls)
  where
    each : (o : Option ℕ) → timeout_at (turn_seat t.timing t.calls) moment o ≡ lapse_items (due_at (turn_seat t.timing t.calls) moment o)
    each None = refl
    each (Some end) = chosen (nat_le end moment) refl
      where
        chosen : (b : Bool) → nat_le end moment ≡ b
            → timeout_at (turn_seat t.timing t.calls) moment (Some end)
            ≡ lapse_items (due_at (turn_seat t.timing t.calls) moment (Some end))
        chosen true is = rw is refl
        chosen false is = rw is refl

late-due : (s : Site) (past : List Happening) (c : Room) (e : RoomEvent) → Keeps (state_of s past) c
    → late_items s past e ≡ lapse_items (due_in c (event_moment e))
late-due s past c e k = timeout-by (table_of s past) (event_moment e) ∙ rw (k.standing, k.timer) (each (is_standing (table_of s
    past).items))
  where
    each : (b : Bool) → (if b then late_by (history_in (table_of s past)) (event_moment e) else [])
        ≡ lapse_items (if b then due_by (history_in (table_of s past)) (event_moment e) else None)
    each true = late-lapse (history_in (table_of s past)) (event_moment e)
    each false = refl

event-range : (e : RoomEvent) → event_moment e ≤ MOMENT_LIMIT
event-range (Call e) = omega arith
event-range (AsksTodo moment) = omega arith
event-range (Notes moment n) = omega arith

keeps-no-late : (s : Site) (past : List Happening) (c : Room) (e : RoomEvent) → late_items s past e ≡ [] → Keeps (state_of s past) c
    → Keeps (timed_state s past e) c
keeps-no-late s past c e none k = subst (λ (late : List Item). Keeps (with_more late (state_of s past)) c) (sym none) k

due-timely : (c : Room) (moment : ℕ) → c.standing ≡ true → due_in c moment ≡ None → IsTimely moment c.timer
due-timely c moment stands none t is end ends = each (nat_le end moment) refl
  where
    due-is : due_in c moment ≡ (if nat_le end moment then Some (record { seat = turn_seat t.timing t.calls; moment = end }) else None)
    due-is = rw (stands, is, ends) refl

    low : (m n : ℕ) → nat_le m n ≡ false → n ≤ m
    low m n is-false = grind (arith, is-false)

    each : (b : Bool) → nat_le end moment ≡ b → moment ≤ end
    each false is-false = low end moment is-false
    each true is-true = absurd (none-some (sym none ∙ rw is-true at due-is))

-- no time is used up
pub timed-none : (e : RoomEvent) (a c : Room) → SameFacts a c → due_in c (event_moment e) ≡ None → Timed e a c
timed-none e a c facts none = record {
  site = facts.site;
  keeps = λ s events whole k.
      let kept : Keeps (state_at s events) c = same-facts-keeps (state_at s events) a c facts k in
      keeps-no-late s (past_of s events) c e (late-due s (past_of s events) c e kept ∙ ap lapse_items none) kept;
  timely = λ s events whole k stands. due-timely c (event_moment e) stands none;
}

-- a table without a game has no clock
pub no-history : (t : Table) → position_in t ≡ None → history_in t ≡ None
no-history t none = pick t.game t.options.timed refl refl
  where
    pick : (g : Option Setup) (b : Bool) → t.game ≡ g → t.options.timed ≡ b → history_in t ≡ None
    pick None true is timed = rw (is, timed) refl
    pick None false is timed = rw timed refl
    pick (Some g) b is timed =
        let has : position_in t ≡ Some (played_game g t.items) = rw is refl in absurd (none-some (sym none ∙ has))

-- nor at a table of which no game was started
pub timed-bare : (e : RoomEvent) (a c : Room) → SameFacts a c → is_some c.names ≡ false → Timed e a c
timed-bare e a c facts bare = record {
  site = facts.site;
  keeps = λ s events whole k.
      let kept : Keeps (state_at s events) c = same-facts-keeps (state_at s events) a c facts k in
      keeps-no-late s (past_of s events) c e (late-due s (past_of s events) c e kept ∙ ap lapse_items (no-due s events whole kept)) kept;
  timely = λ s events whole k stands.
      let kept : Keeps (state_at s events) c = same-facts-keeps (state_at s events) a c facts k in
      due-timely c (event_moment e) stands (no-due s events whole kept);
}
  where
    if-none : (b : Bool) (none : Option Lapse) → none ≡ None → (if b then none else None) ≡ None
    if-none true nothing is = is
    if-none false nothing is = refl

    no-due : (s : Site) (events : List RoomEvent) → BringWhole events → Keeps (state_at s events) c → due_in c (event_moment e) ≡ None
    no-due s events whole kept =
        let off : is_started (state_at s events).table.items ≡ false = sym (ap is_some kept.names) ∙ bare in
        let timer : c.timer ≡ None = kept.timer ∙ no-history (state_at s events).table
        (unstarted-position s (state_at s events).table (state_at-table s events whole) off) in
        rw timer (if-none c.standing None refl)

timed-lapse : (e : RoomEvent) (a c d : Room) (l : Lapse) → SameFacts a c → due_in c (event_moment e) ≡ Some l
    → AddsItem l.moment (timed_out l.seat) (review_after (timed_out l.seat) (game_after (timed_out l.seat) c.game) c.review) c d
    → Timed e a d
timed-lapse e a c d l facts due adds = record {
  site = adds.site ∙ facts.site;
  keeps = λ s events whole k.
      let kept : Keeps (state_at s events) c = same-facts-keeps (state_at s events) a c facts k in
      let is : Lapses (state_at s events) c l = lapses s events whole kept in
      subst (λ (late : List Item). Keeps (with_more late (state_at s events)) d)
      (sym (late-due s (past_of s events) c e kept ∙ ap lapse_items due))
      (added-keeps (state_at s events) c d l.moment (command_stamp (past_of s events)) (timed_out l.seat)
      (review_after (timed_out l.seat) (game_after (timed_out l.seat) c.game) c.review) is.can adds (state_at-within s events) kept
      (omega (arith, kept.stamp, is.can.later)));
  timely = λ s events whole k stands t is end ends.
      let kept : Keeps (state_at s events) c = same-facts-keeps (state_at s events) a c facts k in
      let still : is_running t.calls ≡ false = (lapses s events whole kept).still t (sym adds.timer ∙ is) in
      let none : deadline t.timing t.calls ≡ None = rw still refl in
      absurd (none-some (sym none ∙ ends));
}
  where
    lapses : (s : Site) (events : List RoomEvent) → BringWhole events → Keeps (state_at s events) c → Lapses (state_at s events) c l
    lapses s events whole kept = lapse-can (state_at s events) c (event_moment e) l kept
        (sound-may-lapse s (state_at s events) (state_at-sound s events whole)) (event-range e) due

-- time is applied
pub timed : (e : RoomEvent) (a c d : Room) → SameFacts a c → TimesOut (due_in c (event_moment e)) c d → Timed e a d
timed e a c d facts out = pick (due_in c (event_moment e)) refl out
  where
    pick : (o : Option Lapse) → due_in c (event_moment e) ≡ o → TimesOut o c d → Timed e a d
    pick None none same = subst (Timed e a) (sym same) (timed-none e a c facts none)
    pick (Some l) due adds = timed-lapse e a c d l facts due adds

-- the same, by a moment that is the event's
pub timed-at : (e : RoomEvent) (a c d : Room) (moment : ℕ) → moment ≡ event_moment e → SameFacts a c → TimesOut (due_in c moment) c d
    → Timed e a d
timed-at e a c d moment is facts out = timed e a c d facts (subst (λ (n : ℕ). TimesOut (due_in c n) c d) is out)

-- time leaves the serial and the pending load
pub out-stays : (o : Option Lapse) (c d : Room) → TimesOut o c d → (d.latest ≡ c.latest) × (d.load ≡ c.load)
out-stays None c d same = (ap (λ (r : Room). r.latest) same, ap (λ (r : Room). r.load) same)
out-stays (Some l) c d adds = (adds.latest, adds.load)
