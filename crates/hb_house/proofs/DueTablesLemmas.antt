-- Does a game that is due stay due until it is noted as kept? Yes, at the table where it was played.
use Rattle.std.proofs.Common.{◌≡◌, ℕ, ◌+◌, Bool, true, false, List, [], ◌∷◌, ◌++◌, refl, ap, sym, subst, ◌∙◌, inl, inr, Some, None, Option}
use Rattle.std.specs.Prelude.{◌&&◌, ◌⊎◌, is_some, not}
use Rattle.std.proofs.lemmas.Bool.{and_parts}
use Rattle.hb_rules.specs.declared.setups.Setup.{Setup}
use Rattle.hb_club.specs.declared.clerks.Noted.TheVariants as noted
use Rattle.hb_club.specs.declared.items.Item.{Item}
use Rattle.hb_club.specs.declared.items.What.{What}
use Rattle.hb_club.specs.declared.items.What.TheVariants as what
use Rattle.hb_club.specs.ClerkCalls.{is_due}
use Rattle.hb_club.specs.NewItems.{stamped_item}
use Rattle.hb_club.specs.RoomEvents.{Happening, RoomEvent, Site}
use Rattle.hb_club.specs.Rooms.{happening, past_of}
use Rattle.hb_club.specs.Table.{Table, has_ended}
use Rattle.hb_club.specs.TableFacts.{table_of}
use Rattle.hb_club.specs.TableItems.{has, is_saved, is_standing, is_started}
use Rattle.hb_club.specs.TableReview.{game_end}
use Rattle.hb_club.specs.TimeFirst.{timed_table, timeout, timeout_when}
use Rattle.hb_club.proofs.TimeFirstLemmas.{item_at, timeout-all}
use Rattle.hb_house.specs.RoundLaws.{WasSaved}
use Rattle.hb_house.proofs.CalmItemsLemmas.{calm-event, is_calm_if}
use Rattle.hb_house.proofs.DueRowsLemmas.{game-started, some-game, started-over}
use Rattle.hb_house.proofs.GoesOnLemmas.{goes_on-same, goes_on-trans}
use Rattle.hb_house.proofs.MayComeLemmas.{Adds, MayCome, MayComeIf, event-adds}
use Rattle.hb_house.proofs.StoppedClockLemmas.{opened-after, past_of-before, started-after, time-over}

-- a table stands while its game is due

-- the table stands if its game has ended and is not kept
abbrev pub StandsIfDue : Option Setup → List Item → Type 0
StandsIfDue g items = (is_some (game_end g items) && not (has is_saved items)) ≡ true → is_standing items ≡ true

never-due : (b : Bool) → (b && false) ≡ true → ⊥
never-due true due = cc
never-due false due = cc

saved-due : (b c : Bool) → c ≡ true → (b && not c) ≡ true → ⊥
saved-due b true saved due = never-due b due
saved-due b false saved due = cc

item-stands : (g : Option Setup) (items : List Item) (moment : ℕ) (w : What) → is_calm_if (Some w) ≡ true → MayCome g items w
    → (is_some (game_end g items) ≡ true → is_started items ≡ true) → StandsIfDue g items → StandsIfDue g (item_at moment w ∷ items)
item-stands g items moment (what.Opened host) calm may started before = absurd cc
item-stands g items moment (what.Started names) calm may started before = absurd cc
item-stands g items moment (what.Sat name) calm may started before = λ due. may
item-stands g items moment (what.Rose name) calm may started before = λ due. may
item-stands g items moment (what.Watching name shadow) calm may started before = λ due. may
item-stands g items moment (what.Left name) calm may started before = λ due. may
item-stands g items moment (what.Reviewed turn hypos action) calm may started before = λ due. may
item-stands g items moment (what.Acted act) calm may started before = λ due. may.0
item-stands g items moment (what.Paused by) calm may started before = λ due. may.0
item-stands g items moment (what.Resumed by) calm may started before = λ due. may.0
item-stands g items moment (what.Saved id) calm may started before = λ due. absurd (never-due _ due)
item-stands None items moment (what.Loaded id) calm may started before = before
item-stands (Some g) items moment (what.Loaded id) calm may started before = before
item-stands None items moment (what.NoGame id) calm may started before = before
item-stands (Some g) items moment (what.NoGame id) calm may started before = before
item-stands None items moment what.Closed calm may started before = λ due. absurd cc
item-stands (Some g) items moment what.Closed calm may started before = λ due.
    let parts : (is_some (game_end (Some g) items) ≡ true) × (not (has is_saved items) ≡ true) = and_parts _ _ due in
    absurd (saved-due (is_some (game_end (Some g) items)) (has is_saved items) (may.1 (started parts.0)).1 due)

-- a table stands when time was applied if it stood before
pub standing-time : (t : Table) (g : Option Setup) (moment : ℕ) (items : List Item)
    → is_standing (timeout t g moment ++ items) ≡ is_standing items
standing-time t g moment items =
    timeout-all (λ late. is_standing (late ++ items) ≡ is_standing items) refl (λ m act. refl) t g moment

time-stands : (t : Table) (g : Option Setup) (moment : ℕ) → StandsIfDue g t.items → StandsIfDue g (timeout t g moment ++ t.items)
time-stands t None moment before = before
time-stands t (Some g) moment before = by (is_standing t.items && t.options.timed) refl
  where
    by : (b : Bool) → (is_standing t.items && t.options.timed) ≡ b → StandsIfDue (Some g) (timeout t (Some g) moment ++ t.items)
    by true test = λ due.
        let stands : (is_standing t.items ≡ true) × (t.options.timed ≡ true) = and_parts _ _ test in
        standing-time t (Some g) moment t.items ∙ stands.0
    by false test = let none : timeout t (Some g) moment ≡ [] = ap (λ (b : Bool). timeout_when b g t.items moment) test in
        subst (λ (l : List Item). StandsIfDue (Some g) (l ++ t.items)) (sym none) before

started-time : (t : Table) (g : Option Setup) (moment : ℕ) (items : List Item)
    → is_started (timeout t g moment ++ items) ≡ is_started items
started-time t g moment items =
    timeout-all (λ late. is_started (late ++ items) ≡ is_started items) refl (λ m act. refl) t g moment

calm-stands : (s : Site) (past : List Happening) (h : Happening) (adds : Adds s past h) (o : Option What) → adds.item ≡ o
    → is_calm_if o ≡ true → MayComeIf (timed_table s past adds.moment).game (timed_table s past adds.moment).items o
    → StandsIfDue (table_of s past).game (table_of s past).items
    → StandsIfDue (table_of s (h ∷ past)).game (table_of s (h ∷ past)).items
calm-stands s past h adds o is calm may before =
    let kept = calm-event s past h adds (ap is_calm_if is ∙ calm) in
    let items : (table_of s (h ∷ past)).items ≡ stamped_item adds.stamp o ++ (timed_table s past adds.moment).items =
    kept.items ∙ ap (λ (x : Option What). stamped_item adds.stamp x ++ (timed_table s past adds.moment).items) is in
    subst (λ (g : Option Setup). StandsIfDue g (table_of s (h ∷ past)).items) (sym kept.game)
    (subst (StandsIfDue t.game) (sym items) (more o calm may))
  where
    t : Table
    t = table_of s past

    u : Table
    u = timed_table s past adds.moment

    started : is_some (game_end t.game u.items) ≡ true → is_started u.items ≡ true
    started over = started-time t t.game adds.moment t.items ∙ game-started s past (some-game t.game u.items over)

    more : (x : Option What) → is_calm_if x ≡ true → MayComeIf t.game u.items x → StandsIfDue t.game (stamped_item adds.stamp x ++ u.items)
    more None calm may = time-stands t t.game adds.moment before
    more (Some w) calm may = item-stands t.game u.items adds.stamp w calm may started (time-stands t t.game adds.moment before)

event-stands : (s : Site) (past : List Happening) (h : Happening) (adds : Adds s past h) (o : Option What) → adds.item ≡ o
    → MayComeIf (timed_table s past adds.moment).game (timed_table s past adds.moment).items o
    → StandsIfDue (table_of s past).game (table_of s past).items
    → StandsIfDue (table_of s (h ∷ past)).game (table_of s (h ∷ past)).items
event-stands s past h adds (Some (what.Opened host)) is may before =
    subst (λ (g : Option Setup). StandsIfDue g (table_of s (h ∷ past)).items) (sym (opened-after s past h adds host is)) (λ due. absurd cc)
event-stands s past h adds (Some (what.Started names)) is may before = λ due.
    ap is_standing (started-after s past h adds names is) ∙ may.0
event-stands s past h adds None is may before = calm-stands s past h adds None is refl may before
event-stands s past h adds (Some w) is may before = calm-stands s past h adds (Some w) is refl may before

-- whatever happened in a room, its latest table stands while the game is due
past_of-stands : (s : Site) (events : List RoomEvent)
    → StandsIfDue (table_of s (past_of s events)).game (table_of s (past_of s events)).items
past_of-stands s [] = λ due. absurd cc
past_of-stands s (e ∷ events) =
    let past : List Happening = past_of s events in
    let adds : Adds s past (happening s past e) = event-adds s past e in
    event-stands s past (happening s past e) adds adds.item refl adds.may (past_of-stands s events)

-- it stays due, or is kept

-- at the same table the game is due still, or is noted as kept
pub record DueOrSaved (s : Site) (past later : List Happening) : Type 0 where
  pub latest : (table_of s later).latest ≡ (table_of s past).latest
  pub either : (is_due (table_of s later) ≡ true) ⊎ (has is_saved (table_of s later).items ≡ true)

-- the game is due, or is noted as kept
abbrev IsDueOrSaved : Option Setup → List Item → Type 0
IsDueOrSaved g items =
    ((is_some (game_end g items) && not (has is_saved items)) ≡ true) ⊎ (has is_saved items ≡ true)

-- no test gives both
pub two-tests : (b : Bool) → b ≡ true → b ≡ false → ⊥
two-tests true on off = cc
two-tests false on off = cc

-- what comes leaves a due game due
item-due : (g : Option Setup) (items : List Item) (stamp : ℕ) (w : What) → is_calm_if (Some w) ≡ true → MayCome g items w
    → (is_some (game_end g items) && not (has is_saved items)) ≡ true → is_standing items ≡ true → is_started items ≡ true
    → IsDueOrSaved g (item_at stamp w ∷ items)
item-due None items stamp w calm may due stands started = absurd cc
item-due (Some g) items stamp (what.Opened host) calm may due stands started = absurd cc
item-due (Some g) items stamp (what.Started names) calm may due stands started = absurd cc
item-due (Some g) items stamp (what.Acted act) calm may due stands started =
    let over = (and_parts (is_some (game_end (Some g) items)) (not (has is_saved items)) due).0 in
    let runs = may.1 in
    absurd cc
item-due (Some g) items stamp (what.Saved id) calm may due stands started = inr refl
item-due (Some g) items stamp what.Closed calm may due stands started =
    absurd (saved-due (is_some (game_end (Some g) items)) (has is_saved items) (may.1 started).1 due)
item-due (Some g) items stamp _ calm may due stands started = inl due

-- so does an event at the table
event-due : (s : Site) (events : List RoomEvent) (e : RoomEvent) → is_due (table_of s (past_of s events)) ≡ true
    → DueOrSaved s (past_of s events) (past_of s (e ∷ events))
event-due s events e due = by adds.item refl adds.may
  where
    past : List Happening
    past = past_of s events

    h : Happening
    h = happening s past e

    t : Table
    t = table_of s past

    adds : Adds s past h
    adds = event-adds s past e

    over : has_ended t ≡ true
    over = (and_parts (has_ended t) (not (has is_saved t.items)) due).0

    none : timeout t t.game adds.moment ≡ []
    none = time-over t t.game adds.moment (past_of-before s events).stopped over

    stands : is_standing t.items ≡ true
    stands = past_of-stands s events due

    timed : (timed_table s past adds.moment).items ≡ t.items
    timed = ap (λ (l : List Item). l ++ t.items) none

    started : is_started t.items ≡ true
    started = started-over s past over

    calm : (o : Option What) → adds.item ≡ o → is_calm_if o ≡ true → MayComeIf t.game t.items o
        → DueOrSaved s past (h ∷ past)
    calm o is quiet may =
        let kept = calm-event s past h adds (ap is_calm_if is ∙ quiet) in
        let items : (table_of s (h ∷ past)).items ≡ stamped_item adds.stamp o ++ t.items =
        kept.items ∙ ap (λ (x : Option What). stamped_item adds.stamp x ++ (timed_table s past adds.moment).items) is
        ∙ ap (λ (l : List Item). stamped_item adds.stamp o ++ l) timed in
        record { latest = kept.latest; either = moved kept.game items (more o quiet may) }
      where
        more : (x : Option What) → is_calm_if x ≡ true → MayComeIf t.game t.items x
            → IsDueOrSaved t.game (stamped_item adds.stamp x ++ t.items)
        more None quiet may = inl due
        more (Some w) quiet may = item-due t.game t.items adds.stamp w quiet may due stands started

        moved : (table_of s (h ∷ past)).game ≡ t.game → (table_of s (h ∷ past)).items ≡ stamped_item adds.stamp o ++ t.items
            → IsDueOrSaved t.game (stamped_item adds.stamp o ++ t.items)
            → (is_due (table_of s (h ∷ past)) ≡ true) ⊎ (has is_saved (table_of s (h ∷ past)).items ≡ true)
        moved game items (inl still) = inl (rw (game, items) still)
        moved game items (inr saved) = inr (rw items saved)

    by : (o : Option What) → adds.item ≡ o → MayComeIf t.game (timed_table s past adds.moment).items o → DueOrSaved s past (h ∷ past)
    by (Some (what.Opened host)) is may = absurd (two-tests (is_standing t.items) stands (ap is_standing (sym timed) ∙ may))
    by (Some (what.Started names)) is may =
        absurd (two-tests (is_started t.items) started (ap is_started (sym timed) ∙ may.1))
    by None is may = calm None is refl tt
    by (Some w) is may = calm (Some w) is refl (subst (λ (l : List Item). MayComeIf t.game l (Some w)) timed may)

-- the game of this table is due, or was noted as kept
abbrev pub StillDue : Site → ℕ → List RoomEvent → Type 0
StillDue s n events =
    ((is_due (table_of s (past_of s events)) ≡ true) × ((table_of s (past_of s events)).latest ≡ n)) ⊎ WasSaved s events n

-- a list at which a game was due goes on
pub due-or-saved : (s : Site) (more older : List RoomEvent) → is_due (table_of s (past_of s older)) ≡ true
    → StillDue s (table_of s (past_of s older)).latest (more ++ older)
due-or-saved s [] older due = inl (due, refl)
due-or-saved s (e ∷ more) older due = by (due-or-saved s more older due)
  where
    n : ℕ
    n = (table_of s (past_of s older)).latest

    all : List RoomEvent
    all = more ++ older

    next : (table_of s (past_of s all)).latest ≡ n → (now : DueOrSaved s (past_of s all) (past_of s (e ∷ all)))
        → (is_due (table_of s (past_of s (e ∷ all))) ≡ true) ⊎ (has is_saved (table_of s (past_of s (e ∷ all))).items ≡ true)
        → StillDue s n (e ∷ all)
    next same now (inl still) = inl (still, now.latest ∙ same)
    next same now (inr saved) =
        inr (record { older = e ∷ all; goes_on = goes_on-same refl; latest = now.latest ∙ same; saved = saved })

    by : StillDue s n all → StillDue s n (e ∷ all)
    by (inl still) = let now = event-due s all e still.0 in next still.1 now now.either
    by (inr was) = inr (record {
      older = was.older;
      goes_on = goes_on-trans was.goes_on (record { more = e ∷ []; is = refl });
      latest = was.latest;
      saved = was.saved;
    })
