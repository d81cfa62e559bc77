-- For which list does a room stand after a call of the clerk?
use Rattle.std.proofs.Common.{◌≡◌, ℕ, ◌≤◌, Bool, true, false, List, [], ◌∷◌, ◌++◌, refl, ap, arith, sym, subst, ◌∙◌, Some, None, Option}
use Rattle.std.specs.Prelude.{◌&&◌, ◌==◌, IsSome, is_some, not, option_map}
use Rattle.std.specs.Option.{option_to_list}
use Rattle.std.proofs.lemmas.Bool.{and_parts}
use Rattle.std.proofs.lemmas.List.{reverse-append}
use Rattle.hb_rules.specs.declared.setups.Setup.{Setup}
use Rattle.hb_rules.specs.Positions.{ended}
use Rattle.hb_rules.specs.Setup.{Position}
use Rattle.hb_timer.specs.declared.timing.TheConstants.{MOMENT_LIMIT}
use Rattle.hb_review.specs.declared.steps.Step.{Step}
use Rattle.hb_keeper.specs.declared.rows.GameRow.{GameRow}
use Rattle.hb_keeper.specs.declared.rows.Key.{Key}
use Rattle.hb_club.specs.declared.clerks.Noted.TheVariants as noted
use Rattle.hb_club.specs.declared.clerks.Todo.{Todo}
use Rattle.hb_club.specs.declared.items.Item.{Item}
use Rattle.hb_club.specs.declared.items.What.TheVariants as what
use Rattle.hb_club.specs.ClerkCalls.{SetNote, found_or_not, is_due, is_pending}
use Rattle.hb_club.specs.EndedReplays.{Finished}
use Rattle.hb_club.specs.RoomEvents.{Added, AsksTodo, Due, Loaded, Notes, Notice, RoomEvent, Saved, Site, in_time}
use Rattle.hb_club.specs.Rooms.{past_of}
use Rattle.hb_club.specs.Seating.{players}
use Rattle.hb_club.specs.TableInvariant.{IsTable}
use Rattle.hb_club.specs.TableItems.{is_started, steps}
use Rattle.hb_club.specs.TableReview.{played_game}
use Rattle.hb_club.specs.WholeGames.{BringsWhole}
use Rattle.hb_refusals.specs.declared.kept_replies.KeptReplies.{KeptReplies}
use Rattle.hb_refusals.specs.ReplyLaws.{StandsForOwn}
use Rattle.hb_playing.specs.declared.clocks.Lapse.{Lapse}
use Rattle.hb_playing.specs.Games.{ended_by}
use Rattle.hb_playing.specs.KeptRows.{row_with}
use Rattle.hb_playing.specs.RoomReviews.{walk_of}
use Rattle.hb_table.specs.declared.room.Room.{Room}
use Rattle.hb_table.specs.State.{State, host_load, position_in}
use Rattle.hb_table.specs.StateMoves.{item_at, noted_in, row_in, save_if, save_in, stamp_in, timed_state, todo_in, with_loaded, with_noted}
use Rattle.hb_table.specs.Keeps.{HaltsAtEnd, IsTimely, Keeps, site_in}
use Rattle.hb_table.specs.Changes.{AddsItem, LoadsGame, SameFacts, TimesOut, due_in}
use Rattle.hb_table.specs.Clerk.{Noting, game_behind, game_in_time, is_due_in, key_in, save_at, save_of, save_when}
use Rattle.hb_table.specs.Steps.{Answers, Timed, stamp_for}
use Rattle.hb_table.proofs.AddLemmas.{ended-timely, small-can}
use Rattle.hb_table.proofs.ClerkStateLemmas.{answer_to-note, answer_to-todo, state_of-loaded, state_of-no-game, state_of-nothing, state_of-saved, state_of-todo}
use Rattle.hb_table.proofs.RoomKeepsLemmas.{noted-keeps}
use Rattle.hb_table.proofs.PendingStateLemmas.{host_load-item}
use Rattle.hb_table.proofs.ReviewStepsLemmas.{is_reviewing}
use Rattle.hb_table.proofs.SoundLemmas.{Sound, not-some, position-started, unstarted-position}
use Rattle.hb_table.proofs.StepLemmas.{Finds, goes-answers, stamp-is, stamp-later, stamp-range, timed-finds}
use Rattle.hb_table.proofs.TableGamesLemmas.{has_ended-by, history_in-stays, position_in-stays}
use Rattle.hb_table.proofs.TableMovesLemmas.{steps-stay}
use Rattle.hb_table.proofs.TimedLemmas.{no-history, timed}

-- a note that adds nothing

noted-nothing : (a c : Room) (moment : ℕ) (n : Notice) → Timed (Notes moment n) a c → BringsWhole (Notes moment n)
    → ((s : Site) (x : State) → Keeps x c → noted_in x n ≡ noted.Nothing) → Answers (Notes moment n) (Added noted.Nothing) a c
noted-nothing a c moment n time whole none = goes-answers a c (Notes moment n) (Added noted.Nothing) time.site whole (λ events stands.
    let s : Site = site_in a in
    let x : State = timed_state s (past_of s events) (Notes moment n) in
    let found : Finds s events (Notes moment n) c = timed-finds a c (Notes moment n) events time stands in
    record {
      answer = answer_to-note s events moment n ∙ ap Added (none s x found.keeps);
      state = x;
      same = state_of-nothing s (past_of s events) moment n (none s x found.keeps);
      keeps = found.keeps;
    })

-- the game of this table is to be kept, as the table says
due-is : (x : State) (c : Room) (table : ℕ) → Keeps x c → (table == x.table.latest && is_due x.table) ≡ is_due_in c table
due-is x c table k = rw (k.latest, has_ended-by x.table, k.game, k.saved) refl

-- nothing is to be kept
pub saves-nothing : (c : Room) (moment table id : ℕ) → is_due_in c table ≡ false → Noting moment (Saved table id) noted.Nothing c c
saves-nothing c moment table id none a time whole =
    noted-nothing a c moment (Saved table id) time whole (λ s x k. rw (due-is x c table k, none) refl)

-- a load is pending, as the table says
pending-is : (x : State) (c : Room) (table id : ℕ) → Keeps x c → is_pending x.table.latest table id (host_load x)
    ≡ is_pending c.latest table id c.load
pending-is x c table id k = rw (k.latest, k.load) refl

-- the table does not ask for the game
pub loads-nothing : (a c : Room) (moment table id : ℕ) (game : Option Finished) → Timed (Notes moment (Loaded table id game)) a c
    → BringsWhole (Notes moment (Loaded table id game)) → is_pending c.latest table id c.load ≡ false
    → Answers (Notes moment (Loaded table id game)) (Added noted.Nothing) a c
loads-nothing a c moment table id game time whole none =
    noted-nothing a c moment (Loaded table id game) time whole (λ s x k. rw (pending-is x c table id k, none) refl)

-- a load that is pending is of this table
pub pending-table : (latest table id : ℕ) (load : Option ℕ) → is_pending latest table id load ≡ true → table ≡ latest
pending-table latest table id None is = cc
pending-table latest table id (Some asked) is = same table latest (and_parts _ _ is).0
  where
    same : (m n : ℕ) → (m == n) ≡ true → m ≡ n
    same m n is = grind arith

-- the game that ended is kept
pub saves-game : (c b : Room) (moment table id : ℕ) → is_due_in c table ≡ true → AddsItem (stamp_for c moment) (what.Saved id) c.review c b
    → Noting moment (Saved table id) noted.Saved c b
saves-game c b moment table id due adds a time whole =
    goes-answers a b (Notes moment (Saved table id)) (Added noted.Saved) (adds.site ∙ time.site) whole (λ events stands.
    let s : Site = site_in a in
    let x : State = timed_state s (past_of s events) (Notes moment (Saved table id)) in
    let found : Finds s events (Notes moment (Saved table id)) c = timed-finds a c (Notes moment (Saved table id)) events time stands in
    let k : Keeps x c = found.keeps in
    let is : noted_in x (Saved table id) ≡ noted.Saved = rw (due-is x c table k, due) refl in
    let over : ended_by c.game ≡ true = (and_parts _ _ (and_parts _ _ due).1).0 in
    let kept : Keeps (with_noted (stamp_for c moment) (what.Saved id) x) b =
    noted-keeps x c b (stamp_for c moment) (what.Saved id) c.review
    (small-can x c (stamp_for c moment) (what.Saved id) refl refl k (stamp-later c moment) (stamp-range x c moment k)
    (ended-timely (stamp_for c moment) c k.halts over)) adds found.sound.within k in
    record {
      answer = answer_to-note s events moment (Saved table id) ∙ ap Added is;
      state = with_noted (stamp_in x moment) (what.Saved id) x;
      same = state_of-saved s (past_of s events) moment table id is;
      keeps = subst (λ (n : ℕ). Keeps (with_noted n (what.Saved id) x) b) (stamp-is x c moment k) kept;
    })

-- the game for which the table asked

none-some : {A : Type 0} {v : A} → None ≡ Some v → ⊥
none-some e = cc

-- what is so of a table at which a load is pending
record Waits (x : State) (c : Room) : Type 0 where
  off : is_started x.table.items ≡ false
  unloaded : x.table.loaded ≡ None
  bare : position_in x.table ≡ None
  still : c.timer ≡ None

waiting : (s : Site) (x : State) (c : Room) (id : ℕ) → Sound s x → Keeps x c → c.load ≡ Some id → Waits x c
waiting s x c id sound k load =
    let some : IsSome (host_load x) = rw (sym k.load, load) refl in
    let off : is_started x.table.items ≡ false = (sound.apart.waits some).0 in
    let bare : position_in x.table ≡ None = unstarted-position s x.table sound.table off in
    record {
      off = off;
      unloaded = not-some x.table.loaded (sound.apart.waits some).1;
      bare = bare;
      still = k.timer ∙ no-history x.table bare;
    }

no-timer : (moment : ℕ) (c : Room) → c.timer ≡ None → IsTimely moment c.timer
no-timer moment c none t is end ends = absurd (none-some (sym none ∙ is))

same-id : (n : ℕ) → (n == n) ≡ true
same-id n = grind arith

waits-noted : (x : State) (c : Room) (id : ℕ) (game : Option Finished) → Keeps x c → c.load ≡ Some id
    → noted_in x (Loaded c.latest id game) ≡ found_or_not game
waits-noted x c id game k load = rw (sym k.latest, sym k.load, load, same-id c.latest, same-id id) refl

-- there is none
pub loads-none : (c b : Room) (moment id : ℕ) → c.load ≡ Some id → AddsItem (stamp_for c moment) (what.NoGame id) c.review c b
    → Noting moment (Loaded c.latest id None) noted.NoGame c b
loads-none c b moment id load adds a time whole =
    goes-answers a b (Notes moment (Loaded c.latest id None)) (Added noted.NoGame) (adds.site ∙ time.site) whole (λ events stands.
    let s : Site = site_in a in
    let e : RoomEvent = Notes moment (Loaded c.latest id None) in
    let x : State = timed_state s (past_of s events) (Notes moment (Loaded c.latest id None)) in
    let found : Finds s events (Notes moment (Loaded c.latest id None)) c = timed-finds a c (Notes moment (Loaded c.latest id None))
    events time stands in
    let k : Keeps x c = found.keeps in
    let is : noted_in x (Loaded c.latest id None) ≡ noted.NoGame = waits-noted x c id None k load in
    let waits : Waits x c = waiting s x c id found.sound k load in
    let kept : Keeps (with_noted (stamp_for c moment) (what.NoGame id) x) b =
    noted-keeps x c b (stamp_for c moment) (what.NoGame id) c.review
    (small-can x c (stamp_for c moment) (what.NoGame id) refl refl k (stamp-later c moment) (stamp-range x c moment k)
    (no-timer (stamp_for c moment) c waits.still)) adds found.sound.within k in
    record {
      answer = answer_to-note s events moment (Loaded c.latest id None) ∙ ap Added is;
      state = with_noted (stamp_in x moment) (what.NoGame id) x;
      same = state_of-no-game s (past_of s events) moment c.latest id None is;
      keeps = subst (λ (n : ℕ). Keeps (with_noted n (what.NoGame id) x) b) (stamp-is x c moment k) kept;
    })

-- a room keeps the state with the game
loaded-keeps : (s : Site) (x : State) (a b : Room) (moment id : ℕ) (game : Finished) → Sound s x → Waits x a → LoadsGame moment id game a b
    → a.stamp ≤ moment → moment ≤ MOMENT_LIMIT → Keeps x a → Keeps (with_loaded moment id (Some game) x) b
loaded-keeps s x a b moment id game sound waits loads later range k =
    let i : Item = item_at moment (what.Loaded id) in
    let timer : b.timer ≡ a.timer = loads.timer in
    record {
      latest = loads.latest ∙ k.latest;
      name = loads.name ∙ k.name;
      options = loads.options ∙ k.options;
      items = loads.items ∙ ap (λ (l : List Item). l ++ i ∷ []) k.items ∙ sym (reverse-append (i ∷ []) x.table.items);
      hosts = ap option_to_list loads.host ∙ k.hosts;
      standing = loads.standing ∙ k.standing;
      seats = loads.seats ∙ k.seats;
      watchers = loads.watchers ∙ k.watchers;
      kept = λ m. subst (λ (r : KeptReplies). StandsForOwn m r (x.own m)) (sym loads.kept) (k.kept m);
      load = loads.load ∙ sym (host_load-item x i sound.within refl);
      stamp = loads.stamp ∙ omega (arith, k.stamp, later);
      names = loads.names ∙ k.names;
      game = loads.same_game ∙ k.game ∙ sym (position_in-stays x.table i refl);
      timer = timer ∙ k.timer ∙ sym (history_in-stays x.table i (record { names = refl; calls = λ g past m before. refl }));
      saved = loads.saved ∙ k.saved;
      notes = ap (λ n. n.notes) loads.notes ∙ k.notes;
      loaded = loads.loaded;
      review = loads.review ∙ ap (λ (all : List Step). walk_of (Some game.game) all) (sym no-steps);
      halts = subst (λ (p : Option Position). HaltsAtEnd p b.timer) (sym loads.same_game) (subst (HaltsAtEnd a.game) (sym timer) k.halts);
      on_time = no-timer b.stamp b (timer ∙ waits.still);
      in_range = subst (λ (n : ℕ). n ≤ MOMENT_LIMIT) (sym loads.stamp) range;
    }
  where
    not-reviewing : is_reviewing x.table ≡ false
    not-reviewing = rw (has_ended-by x.table, waits.bare, waits.unloaded) refl

    no-steps : steps (item_at moment (what.Loaded id) ∷ x.table.items) ≡ []
    no-steps = steps-stay (item_at moment (what.Loaded id)) x.table.items refl ∙ sound.no_steps not-reviewing

-- it comes
pub loads-game : (c b : Room) (moment id : ℕ) (game : Finished) → c.load ≡ Some id → LoadsGame (stamp_for c moment) id game c b
    → Noting moment (Loaded c.latest id (Some game)) noted.Loaded c b
loads-game c b moment id game load loads a time whole =
    goes-answers a b (Notes moment (Loaded c.latest id (Some game))) (Added noted.Loaded) (loads.site ∙ time.site) whole (λ events stands.
    let s : Site = site_in a in
    let x : State = timed_state s (past_of s events) (Notes moment (Loaded c.latest id (Some game))) in
    let found : Finds s events (Notes moment (Loaded c.latest id (Some game))) c =
    timed-finds a c (Notes moment (Loaded c.latest id (Some game))) events time stands in
    let k : Keeps x c = found.keeps in
    let is : noted_in x (Loaded c.latest id (Some game)) ≡ noted.Loaded = waits-noted x c id (Some game) k load in
    let kept : Keeps (with_loaded (stamp_for c moment) id (Some game) x) b =
    loaded-keeps s x c b (stamp_for c moment) id game found.sound (waiting s x c id found.sound k load) loads (stamp-later c moment)
    (stamp-range x c moment k) k in
    record {
      answer = answer_to-note s events moment (Loaded c.latest id (Some game)) ∙ ap Added is;
      state = with_loaded (stamp_in x moment) id (Some game) x;
      same = state_of-loaded s (past_of s events) moment c.latest id (Some game) is;
      keeps = subst (λ (n : ℕ). Keeps (with_loaded n id (Some game) x) b) (stamp-is x c moment k) kept;
    })

-- what there is to do

-- time leaves the key, the seats, the name, the notes and the save
save-same : (c d : Room) (moment : ℕ) → TimesOut (due_in c moment) c d → save_at c moment ≡ save_of d d.game
save-same c d moment out = pick (due_in c moment) refl out
  where
    each : (game : Option Position) → key_in d ≡ key_in c → d.seats.items ≡ c.seats.items → d.name ≡ c.name → d.notes.notes ≡ c.notes.notes
        → d.saved ≡ c.saved → save_of c game ≡ save_of d game
    each None key seats name notes saved = refl
    each (Some p) key seats name notes saved =
        ap (λ (b : Bool). save_when (is_some (ended p) && not b) c p) (sym saved) ∙ chosen (is_some (ended p) && not d.saved)
      where
        chosen : (b : Bool) → save_when b c p ≡ save_when b d p
        chosen false = refl
        chosen true = ap (λ (k : Key). Some (k, row_with c.seats.items c.name p c.notes.notes)) (sym key)
            ∙ (ap (λ (n : List (List ℕ)). Some (key_in d, row_with n c.name p c.notes.notes)) (sym seats)
            ∙ (ap (λ (n : List ℕ). Some (key_in d, row_with d.seats.items n p c.notes.notes)) (sym name)
            ∙ ap (λ (n : List SetNote). Some (key_in d, row_with d.seats.items d.name p n)) (sym notes)))

    pick : (o : Option Lapse) → due_in c moment ≡ o → TimesOut o c d → save_at c moment ≡ save_of d d.game
    pick None due same =
        ap (λ (o : Option Lapse). save_of c (game_behind o c.game)) due ∙ ap (λ (r : Room). save_of r r.game) (sym same)
    pick (Some l) due adds = each (game_in_time c moment) key adds.seats adds.name (ap (λ n. n.notes) adds.notes) adds.saved
        ∙ ap (save_of d) (ap (λ (o : Option Lapse). game_behind o c.game) due ∙ sym adds.game)
      where
        key : key_in d ≡ key_in c
        key = rw (adds.latest, ap (λ (t : Site). t.run) adds.site, ap (λ (t : Site). t.room) adds.site) refl

save-is : (s : Site) (x : State) (d : Room) → s ≡ site_in d → IsTable s x.table → Keeps x d → save_in s x x.table.game ≡ save_of d d.game
save-is s x d site table k = pick x.table.game refl
  where
    pick : (g : Option Setup) → x.table.game ≡ g → save_in s x g ≡ save_of d d.game
    pick None game = let none : d.game ≡ None = k.game ∙ rw game refl in ap (save_of d) (sym none)
    pick (Some g) game = chosen (is_some (ended (played_game g x.table.items)) && not d.saved) refl ∙ ap (save_of d) (sym has)
      where
        has : d.game ≡ Some (played_game g x.table.items)
        has = k.game ∙ rw game refl

        on : is_started x.table.items ≡ true
        on = position-started s x.table table (rw game refl)

        due : is_due x.table ≡ (is_some (ended (played_game g x.table.items)) && not d.saved)
        due = rw (k.saved, game) refl

        names : d.seats.items ≡ players x.table.items
        names = k.seats ∙ table.seats on

        row : row_with d.seats.items d.name (played_game g x.table.items) d.notes.notes ≡ row_in x g
        row = ap (λ (n : List (List ℕ)). row_with n d.name (played_game g x.table.items) d.notes.notes) names
            ∙ (ap (λ (n : List ℕ). row_with (players x.table.items) n (played_game g x.table.items) d.notes.notes) k.name
            ∙ ap (λ (n : List SetNote). row_with (players x.table.items) x.table.name (played_game g x.table.items) n) k.notes)

        key_of : Site → ℕ → Key
        key_of t serial = record { run = t.run; room = t.room; serial = serial }

        key : key_of s x.table.latest ≡ key_of (site_in d) d.latest
        key = ap (λ (t : Site). key_of t x.table.latest) site ∙ ap (key_of (site_in d)) (sym k.latest)

        chosen : (b : Bool) → (is_some (ended (played_game g x.table.items)) && not d.saved) ≡ b
            → save_if (is_due x.table) s x g
            ≡ save_when (is_some (ended (played_game g x.table.items)) && not d.saved) d (played_game g x.table.items)
        chosen false is = rw (due, is) refl
        chosen true is = rw (due, is) (ap (λ (k : Key). Some (k, row_in x g)) key ∙ ap (λ (r : GameRow). Some (key_in d, r)) (sym row))

load-is : (s : Site) (x : State) (d : Room) → Keeps x d → (todo_in s x).load ≡ option_map (λ (id : ℕ). (d.latest, id)) d.load
load-is s x d k = rw (sym k.latest, sym k.load) refl

-- the clerk asks, and time is applied
pub asks-todo : (a c d : Room) (moment : ℕ) (todo : Todo) → SameFacts a c → TimesOut (due_in c (in_time moment)) c d
    → todo.save ≡ save_at c (in_time moment) → todo.load ≡ option_map (λ (id : ℕ). (d.latest, id)) d.load
    → Answers (AsksTodo moment) (Due todo) a d
asks-todo a c d moment todo facts out save load =
    let time : Timed (AsksTodo moment) a d = timed (AsksTodo moment) a c d facts out in
    goes-answers a d (AsksTodo moment) (Due todo) time.site tt (λ events stands.
    let s : Site = site_in a in
    let x : State = timed_state s (past_of s events) (AsksTodo moment) in
    let found : Finds s events (AsksTodo moment) d = timed-finds a d (AsksTodo moment) events time stands in
    let saves : (todo_in s x).save ≡ todo.save = save-is s x d (sym time.site) found.sound.table found.keeps
    ∙ sym (save ∙ save-same c d (in_time moment) out) in
    let loads : (todo_in s x).load ≡ todo.load = load-is s x d found.keeps ∙ sym load in
    record {
      answer = answer_to-todo s events moment ∙ ap Due (whole (todo_in s x) todo saves loads);
      state = x;
      same = state_of-todo s (past_of s events) moment;
      keeps = found.keeps;
    })
  where
    whole : (t u : Todo) → t.save ≡ u.save → t.load ≡ u.load → t ≡ u
    whole t u save load = ap (λ (o : Option (Key × GameRow)). record { save = o; load = t.load }) save
        ∙ ap (λ (o : Option (ℕ × ℕ)). record { save = u.save; load = o }) load
