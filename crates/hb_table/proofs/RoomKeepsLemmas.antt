-- Does a room keep the next state, if its fields moved so?
use Rattle.std.proofs.Common.{◌≡◌, ℕ, ◌+◌, ◌-◌, ◌≤◌, Bool, true, false, List, [], ◌∷◌, ◌++◌, refl, ap, arith, sym, subst, ◌∙◌, length, Some, None, Option}
use Rattle.std.specs.Prelude.{not, ◌&&◌, ◌||◌, ◌==◌, flat_map, option_map, reverse, max, is_some, is_none, if◌then◌else◌, bytes_eq}
use Rattle.std.specs.Option.{option_or, option_to_list}
use Rattle.std.proofs.lemmas.List.{append-nil, reverse-append}
use Rattle.std.proofs.lemmas.Slice.Eq.{bytes_eq-Decides}
use Rattle.hb_rules.specs.declared.acts.Options.{Options}
use Rattle.hb_rules.specs.Setup.{Position}
use Rattle.hb_timer.specs.declared.timing.TheConstants.{MOMENT_LIMIT}
use Rattle.hb_timer.specs.Timer.{History}
use Rattle.hb_review.specs.ReviewModel.{Walk}
use Rattle.hb_club.specs.declared.commands.Command.{Command}
use Rattle.hb_club.specs.declared.commands.Command.TheVariants as command
use Rattle.hb_club.specs.declared.commands.Entry.{Entry}
use Rattle.hb_club.specs.declared.items.Item.{Item}
use Rattle.hb_club.specs.declared.items.What.{What}
use Rattle.hb_club.specs.declared.replies.Reply.{Reply}
use Rattle.hb_club.specs.declared.replies.Reply.TheVariants.{Done, Refused}
use Rattle.hb_club.specs.ClerkCalls.{SetNote}
use Rattle.hb_club.specs.CommandKinds.{asked_id}
use Rattle.hb_club.specs.OwnEntries.{OwnEntry, accepted_load, is_done, is_kept, kept_entry, pending_id}
use Rattle.hb_club.specs.NewItems.{greatest_stamp}
use Rattle.hb_club.specs.Seating.{seated_after, seated_names, watchers, watchers_after}
use Rattle.hb_club.specs.Table.{Table}
use Rattle.hb_club.specs.TableItems.{all_of, ends_load, has, host, host_in, is_closed, is_opened, is_saved, is_standing, names_in, one_of}
use Rattle.hb_club.specs.TimeFirst.{with_items}
use Rattle.hb_club.proofs.PendingLemmas.{are_quiet}
use Rattle.hb_club.proofs.TableLoadsLemmas.{same-name}
use Rattle.hb_refusals.specs.declared.kept_replies.KeptReplies.{KeptReplies}
use Rattle.hb_refusals.specs.declared.kept_replies.KeptReply.{KeptReply}
use Rattle.hb_refusals.specs.KeptReplies.{SameReplies, is_keepable, kept_of}
use Rattle.hb_refusals.specs.ReplyLaws.{StandsForOwn, own_after}
use Rattle.hb_refusals.proofs.OwnRepliesLemmas.{is_first-own, own_after-stands}
use Rattle.hb_playing.specs.RoomClocks.{timer_after}
use Rattle.hb_playing.specs.Games.{game_after}
use Rattle.hb_table.specs.declared.room.Room.{Room}
use Rattle.hb_table.specs.State.{SameState, State, history_in, host_load, position_in}
use Rattle.hb_table.specs.StateMoves.{item_at, own_with, with_entry, with_item, with_note, with_noted, with_stamp, with_table}
use Rattle.hb_table.specs.Keeps.{HaltsAtEnd, IsTimely, Keeps, walk_in}
use Rattle.hb_table.proofs.KeptEntriesLemmas.{AreUnkept, kept_count-unkept, kept_entry-unkept}
use Rattle.hb_table.proofs.PendingStateLemmas.{LoadsAreWithin, host_load-entry, host_load-item, host_load-table}
use Rattle.hb_table.specs.Changes.{AddsItem, KeepsEntry, KeepsWhen, OpensTable, SameFacts, Stamps, keeps_in}

-- the same state, or the same facts

same-load : (x y : State) → SameState x y → (h : Option (List ℕ))
    → pending_id (flat_map x.own (option_to_list h)) x.table.items ≡ pending_id (flat_map y.own (option_to_list h)) x.table.items
same-load x y same None = refl
same-load x y same (Some name) = ap (λ (own : List OwnEntry). pending_id (own ++ []) x.table.items) (same.own name)

-- a room keeps a state with the same facts
pub keeps-same : (x y : State) (r : Room) → SameState x y → Keeps x r → Keeps y r
keeps-same x y r same k = record {
  latest = k.latest ∙ ap (λ (t : Table). t.latest) same.table;
  name = k.name ∙ ap (λ (t : Table). t.name) same.table;
  options = k.options ∙ ap (λ (t : Table). t.options) same.table;
  items = k.items ∙ ap (λ (t : Table). reverse t.items) same.table;
  hosts = k.hosts ∙ ap (λ (t : Table). all_of host_in t.items) same.table;
  standing = k.standing ∙ ap (λ (t : Table). is_standing t.items) same.table;
  seats = k.seats ∙ ap (λ (t : Table). seated_names t.items) same.table;
  watchers = k.watchers ∙ ap (λ (t : Table). watchers t.items) same.table;
  kept = λ m. subst (StandsForOwn m r.kept) (same.own m) (k.kept m);
  load = k.load ∙ same-load x y same (host x.table.items)
      ∙ ap (λ (t : Table). pending_id (flat_map y.own (option_to_list (host t.items))) t.items) same.table;
  stamp = k.stamp ∙ ap (λ (t : Table). max (greatest_stamp t.items) x.stamp) same.table
      ∙ ap (λ (n : ℕ). max (greatest_stamp y.table.items) n) same.stamp;
  names = k.names ∙ ap (λ (t : Table). one_of names_in t.items) same.table;
  game = k.game ∙ ap position_in same.table;
  timer = k.timer ∙ ap history_in same.table;
  saved = k.saved ∙ ap (λ (t : Table). has is_saved t.items) same.table;
  notes = k.notes ∙ same.notes;
  loaded = k.loaded ∙ ap (λ (t : Table). t.loaded) same.table;
  review = k.review ∙ ap walk_in same.table;
  halts = k.halts;
  on_time = k.on_time;
  in_range = k.in_range;
}

-- the same replies stand for the same entries
same-replies : (m : List ℕ) (a b : KeptReplies) (own : List OwnEntry) → SameReplies a b → StandsForOwn m a own → StandsForOwn m b own
same-replies m a b own same stands = record {
  replies = λ n. same.replies m n ∙ stands.replies n;
  count = same.counts m ∙ stands.count;
}

halts-same : (a b : Room) → b.game ≡ a.game → b.timer ≡ a.timer → HaltsAtEnd a.game a.timer → HaltsAtEnd b.game b.timer
halts-same a b game timer halts =
    subst (λ (p : Option Position). HaltsAtEnd p b.timer) (sym game) (subst (HaltsAtEnd a.game) (sym timer) halts)

timely-same : (a b : Room) → b.stamp ≡ a.stamp → b.timer ≡ a.timer → IsTimely a.stamp a.timer → IsTimely b.stamp b.timer
timely-same a b stamp timer timely =
    subst (λ (n : ℕ). IsTimely n b.timer) (sym stamp) (subst (IsTimely a.stamp) (sym timer) timely)

-- a room with the same facts keeps the same states
pub same-facts-keeps : (x : State) (a b : Room) → SameFacts a b → Keeps x a → Keeps x b
same-facts-keeps x a b same k = record {
  latest = same.latest ∙ k.latest;
  name = same.name ∙ k.name;
  options = same.options ∙ k.options;
  items = same.items ∙ k.items;
  hosts = ap option_to_list same.host ∙ k.hosts;
  standing = same.standing ∙ k.standing;
  seats = same.seats ∙ k.seats;
  watchers = same.watchers ∙ k.watchers;
  kept = λ m. same-replies m a.kept b.kept (x.own m) same.kept (k.kept m);
  load = same.load ∙ k.load;
  stamp = same.stamp ∙ k.stamp;
  names = same.names ∙ k.names;
  game = same.game ∙ k.game;
  timer = same.timer ∙ k.timer;
  saved = same.saved ∙ k.saved;
  notes = same.notes ∙ k.notes;
  loaded = same.loaded ∙ k.loaded;
  review = same.review ∙ k.review;
  halts = halts-same a b same.game same.timer k.halts;
  on_time = timely-same a b same.stamp same.timer k.on_time;
  in_range = subst (λ (n : ℕ). n ≤ MOMENT_LIMIT) (sym same.stamp) k.in_range;
}

-- an accepted command that adds no item

-- a room keeps the state with its stamp, and with its note
pub stamps-facts : (x y : State) (a b : Room) (moment : ℕ) (notes : List SetNote) → Stamps moment notes a b → a.stamp ≤ moment
    → moment ≤ MOMENT_LIMIT → IsTimely moment a.timer → Keeps x a
    → y ≡ record x { stamp = max moment x.stamp; notes = notes ++ x.notes } → Keeps y b
stamps-facts x y a b moment notes stamps later range timely k is = subst (λ (z : State). Keeps z b) (sym is) (record {
  latest = stamps.latest ∙ k.latest;
  name = stamps.name ∙ k.name;
  options = stamps.options ∙ k.options;
  items = ap (λ v. v.items) stamps.items ∙ k.items;
  hosts = ap option_to_list stamps.host ∙ k.hosts;
  standing = stamps.standing ∙ k.standing;
  seats = ap (λ v. v.items) stamps.seats ∙ k.seats;
  watchers = ap (λ v. v.items) stamps.watchers ∙ k.watchers;
  kept = λ m. subst (λ (r : KeptReplies). StandsForOwn m r (x.own m)) (sym stamps.kept) (k.kept m);
  load = stamps.load ∙ k.load;
  stamp = stamps.stamp ∙ omega (arith, k.stamp, later);
  names = stamps.names ∙ k.names;
  game = stamps.game ∙ k.game;
  timer = stamps.timer ∙ k.timer;
  saved = stamps.saved ∙ k.saved;
  notes = stamps.notes_are ∙ ap (λ (before : List SetNote). notes ++ before) k.notes;
  loaded = stamps.loaded ∙ k.loaded;
  review = stamps.review ∙ k.review;
  halts = halts-same a b stamps.game stamps.timer k.halts;
  on_time = subst (λ (n : ℕ). IsTimely n b.timer) (sym stamps.stamp) (subst (IsTimely moment) (sym stamps.timer) timely);
  in_range = subst (λ (n : ℕ). n ≤ MOMENT_LIMIT) (sym stamps.stamp) range;
})

-- its state is kept
pub stamp-keeps : (x : State) (a b : Room) (moment : ℕ) → Stamps moment [] a b → a.stamp ≤ moment → moment ≤ MOMENT_LIMIT
    → IsTimely moment a.timer → Keeps x a → Keeps (with_stamp moment x) b
stamp-keeps x a b moment stamps later range timely k =
    stamps-facts x (with_stamp moment x) a b moment [] stamps later range timely k refl

-- and so is that with its note
pub note-keeps : (x : State) (a b : Room) (moment : ℕ) (n : SetNote) → Stamps moment (n ∷ []) a b → a.stamp ≤ moment → moment ≤ MOMENT_LIMIT
    → IsTimely moment a.timer → Keeps x a → Keeps (with_note moment n x) b
note-keeps x a b moment n stamps later range timely k =
    stamps-facts x (with_note moment n x) a b moment (n ∷ []) stamps later range timely k refl

-- one item more

standing-more : (o c w : Bool) → ((o && not c) && not w) ≡ (o && not (w || c))
standing-more true true true = refl
standing-more true true false = refl
standing-more true false true = refl
standing-more true false false = refl
standing-more false c w = refl

-- when an item may be added: what it does to the game, the timer and the review is what the longer list has
pub record CanAdd (moment : ℕ) (w : What) (walk : Option Walk) (x : State) (a : Room) : Type 0 where
  pub host : host_in w ≡ None
  pub opened : is_opened w ≡ false
  pub names : names_in w ≡ None
  pub later : a.stamp ≤ moment
  pub in_range : moment ≤ MOMENT_LIMIT
  pub game : game_after w a.game ≡ position_in (with_items (item_at moment w ∷ []) x.table)
  pub timer : timer_after w moment (game_after w a.game) a.timer ≡ history_in (with_items (item_at moment w ∷ []) x.table)
  pub review : walk ≡ walk_in (with_items (item_at moment w ∷ []) x.table)
  pub halts : HaltsAtEnd (game_after w a.game) (timer_after w moment (game_after w a.game) a.timer)
  pub on_time : IsTimely moment (timer_after w moment (game_after w a.game) a.timer)

-- the state with one item more, and a stamp of commands
abbrev pub with_added : ℕ → What → ℕ → State → State
with_added moment w stamp x =
    record { table = with_items (item_at moment w ∷ []) x.table; own = x.own; stamp = stamp; notes = x.notes }

-- a room keeps it
pub added-keeps : (x : State) (a b : Room) (moment stamp : ℕ) (w : What) (walk : Option Walk) → CanAdd moment w walk x a
    → AddsItem moment w walk a b → LoadsAreWithin x → Keeps x a
    → moment ≡ max (max moment (greatest_stamp x.table.items)) stamp → Keeps (with_added moment w stamp x) b
added-keeps x a b moment n w walk can adds within k stamped = record {
  latest = adds.latest ∙ k.latest;
  name = adds.name ∙ k.name;
  options = adds.options ∙ k.options;
  items = adds.items ∙ ap (λ (l : List Item). l ++ item_at moment w ∷ []) k.items
      ∙ sym (reverse-append (item_at moment w ∷ []) x.table.items);
  hosts = ap option_to_list adds.host ∙ k.hosts ∙ rw can.host refl;
  standing = adds.standing ∙ ap (λ (g : Bool). g && not (is_closed w)) k.standing
      ∙ standing-more (has is_opened x.table.items) (has is_closed x.table.items) (is_closed w) ∙ rw can.opened refl;
  seats = adds.seats ∙ ap (seated_after w) k.seats;
  watchers = adds.watchers ∙ ap (watchers_after w) k.watchers;
  kept = λ m. subst (λ (r : KeptReplies). StandsForOwn m r (x.own m)) (sym adds.kept) (k.kept m);
  load = adds.load ∙ ap (λ (l : Option ℕ). if ends_load w then None else l) k.load
      ∙ sym (host_load-item x (item_at moment w) within can.host);
  stamp = adds.stamp ∙ stamped;
  names = adds.names ∙ k.names ∙ rw can.names refl;
  game = adds.game ∙ can.game;
  timer = adds.timer ∙ can.timer;
  saved = adds.saved ∙ ap (λ (s : Bool). is_saved w || s) k.saved;
  notes = ap (λ b. b.notes) adds.notes ∙ k.notes;
  loaded = adds.loaded ∙ k.loaded;
  review = adds.review ∙ can.review;
  halts = subst (λ (p : Option Position). HaltsAtEnd p b.timer) (sym adds.game)
      (subst (HaltsAtEnd (game_after w a.game)) (sym adds.timer) can.halts);
  on_time = subst (λ (m : ℕ). IsTimely m b.timer) (sym adds.stamp) (subst (IsTimely moment) (sym adds.timer) can.on_time);
  in_range = subst (λ (m : ℕ). m ≤ MOMENT_LIMIT) (sym adds.stamp) can.in_range;
}

-- so it is of the item of a command
pub item-keeps : (x : State) (a b : Room) (moment : ℕ) (w : What) (walk : Option Walk) → CanAdd moment w walk x a
    → AddsItem moment w walk a b → LoadsAreWithin x → Keeps x a → Keeps (with_item moment w x) b
item-keeps x a b moment w walk can adds within k =
    added-keeps x a b moment (max moment x.stamp) w walk can adds within k (omega (arith, k.stamp, can.later))

-- and of an item that is no command's
pub noted-keeps : (x : State) (a b : Room) (moment : ℕ) (w : What) (walk : Option Walk) → CanAdd moment w walk x a
    → AddsItem moment w walk a b → LoadsAreWithin x → Keeps x a → Keeps (with_noted moment w x) b
noted-keeps x a b moment w walk can adds within k =
    added-keeps x a b moment x.stamp w walk can adds within k (omega (arith, k.stamp, can.later))

-- an entry with its reply

same-refl : (a : List ℕ) → bytes_eq a a ≡ true
same-refl a = (bytes_eq-Decides a a).1 refl

same-sym : (a b : List ℕ) → bytes_eq a b ≡ bytes_eq b a
same-sym a b = pick (bytes_eq a b) (bytes_eq b a) refl refl
  where
    pick : (s t : Bool) → bytes_eq a b ≡ s → bytes_eq b a ≡ t → bytes_eq a b ≡ bytes_eq b a
    pick true t is was = let e : a ≡ b = same-name a b is in rw e refl
    pick false true is was = let e : b ≡ a = same-name b a was in rw e refl
    pick false false is was = is ∙ sym was

abbrev own_of : State → Entry → Reply → OwnEntry
own_of x e reply = record { entry = e; reply = reply; count = length x.table.items }

abbrev reply_as : Entry → Reply → KeptReply
reply_as e reply = record { command = e.command; reply = reply }

-- the own entries of others, and at another table, stay
own-other : (x : State) (e : Entry) (reply : Reply) (m : List ℕ) → (e.table == x.table.latest && bytes_eq m e.member) ≡ false
    → own_with e reply x m ≡ x.own m
own-other x e reply m is = rw is refl

own-here : (x : State) (e : Entry) (reply : Reply) → (e.table == x.table.latest) ≡ true
    → own_with e reply x e.member ≡ own_of x e reply ∷ x.own e.member
own-here x e reply is = rw (is, same-refl e.member) refl

-- the kept replies of each member stand for its own entries behind the entry
kept-after : (x : State) (a : Room) (b : KeptReplies) (e : Entry) (reply : Reply) (h : Bool) → (e.table == x.table.latest) ≡ h
    → KeepsWhen h e reply a.kept b → Keeps x a → (m : List ℕ) → StandsForOwn m b (own_with e reply x m)
kept-after x a b e reply false there same k m =
    subst (StandsForOwn m b) (sym (own-other x e reply m (rw there refl))) (same-replies m a.kept b (x.own m) same (k.kept m))
kept-after x a b e reply true here keeps k m =
    subst (StandsForOwn m b) (after (bytes_eq m e.member) refl) (own_after-stands m a.kept b (x.own m) (own_of x e reply) keeps (k.kept m))
  where
    after : (s : Bool) → bytes_eq m e.member ≡ s → own_after (own_of x e reply) m (x.own m) ≡ own_with e reply x m
    after true same = rw (same-sym e.member m, here, same) refl
    after false same = rw (same-sym e.member m, here, same) refl

-- the pending load

-- who has a load accepted is the host
abbrev pub LoadsAsHost : State → Room → Entry → Reply → Type 0
LoadsAsHost x a e reply = is_some (asked_id e.command) ≡ true → is_done reply ≡ true → keeps_in a e reply ≡ true
    → host x.table.items ≡ Some e.member

if-same : {A : Type 0} (b : Bool) (v : A) → (if b then v else v) ≡ v
if-same true v = refl
if-same false v = refl

-- a load that is done is kept
no-load-kept : (o : OwnEntry) (id : ℕ) → is_kept o ≡ false → is_done o.reply ≡ true → asked_id o.entry.command ≡ Some id → ⊥
no-load-kept o id unkept done is = pick o.entry.command o.reply refl refl
  where
    pick : (c : Command) (r : Reply) → o.entry.command ≡ c → o.reply ≡ r → ⊥
    pick (command.Load asked) Done at_c at_r = let never : true ≡ false = rw (at_c, at_r) at unkept in cc
    pick (command.Load asked) (Refused why) at_c at_r = let never : false ≡ true = rw at_r at done in cc
    pick (command.Open name options) r at_c at_r = let never : None ≡ Some id = rw at_c at is in cc
    pick command.Sit r at_c at_r = let never : None ≡ Some id = rw at_c at is in cc
    pick command.Rise r at_c at_r = let never : None ≡ Some id = rw at_c at is in cc
    pick command.Start r at_c at_r = let never : None ≡ Some id = rw at_c at is in cc
    pick (command.Act a) r at_c at_r = let never : None ≡ Some id = rw at_c at is in cc
    pick (command.Note order text) r at_c at_r = let never : None ≡ Some id = rw at_c at is in cc
    pick command.Pause r at_c at_r = let never : None ≡ Some id = rw at_c at is in cc
    pick command.Resume r at_c at_r = let never : None ≡ Some id = rw at_c at is in cc
    pick command.Terminate r at_c at_r = let never : None ≡ Some id = rw at_c at is in cc
    pick (command.Watch shadow) r at_c at_r = let never : None ≡ Some id = rw at_c at is in cc
    pick command.Leave r at_c at_r = let never : None ≡ Some id = rw at_c at is in cc
    pick (command.Go turn) r at_c at_r = let never : None ≡ Some id = rw at_c at is in cc
    pick (command.Hypo a) r at_c at_r = let never : None ≡ Some id = rw at_c at is in cc
    pick command.Undo r at_c at_r = let never : None ≡ Some id = rw at_c at is in cc
    pick command.Close r at_c at_r = let never : None ≡ Some id = rw at_c at is in cc
    pick command.Look r at_c at_r = let never : None ≡ Some id = rw at_c at is in cc

load-kept : (x : State) (a : Room) (e : Entry) (reply : Reply) → Keeps x a → LoadsAsHost x a e reply
    → (if keeps_in a e reply && is_done reply then option_or (asked_id e.command) a.load else a.load)
    ≡ host_load (with_entry e reply x)
load-kept x a e reply k hosts =
    pick (asked_id e.command) (is_done reply) (is_none (kept_entry (x.own e.member) e.number)) (is_keepable (reply_as e reply))
    (e.table == x.table.latest) refl refl refl refl refl
  where
    keeps : (h kp n : Bool) → (e.table == x.table.latest) ≡ h → is_keepable (reply_as e reply) ≡ kp
        → is_none (kept_entry (x.own e.member) e.number) ≡ n → keeps_in a e reply ≡ (h && (kp && n))
    keeps h kp n here able none =
        rw (k.latest, here, is_first-own e.member a.kept (x.own e.member) (own_of x e reply) (k.kept e.member), able, none) refl

    not-done : (b : Bool) (o l : Option ℕ) → (if b && false then o else l) ≡ l
    not-done true o l = refl
    not-done false o l = refl

    none-kept : (h kp : Bool) → (h && (kp && false)) ≡ false
    none-kept true true = refl
    none-kept true false = refl
    none-kept false kp = refl

    elsewhere : (e.table == x.table.latest) ≡ false → host_load (with_entry e reply x) ≡ host_load x
    elsewhere there = each (host x.table.items)
      where
        each : (h : Option (List ℕ)) → pending_id (flat_map (own_with e reply x) (option_to_list h)) x.table.items
            ≡ pending_id (flat_map x.own (option_to_list h)) x.table.items
        each None = refl
        each (Some h) = rw there refl

    quiet : (d n : Bool) → is_done reply ≡ d → is_none (kept_entry (x.own e.member) e.number) ≡ n → asked_id e.command ≡ None
        → accepted_load (x.own e.member) (own_of x e reply) ≡ None
    quiet true true done none loads = rw (done, none, loads) refl
    quiet true false done none loads = rw (done, none) refl
    quiet false n done none loads = rw done refl

    pick : (o : Option ℕ) (d n kp h : Bool) → asked_id e.command ≡ o → is_done reply ≡ d
        → is_none (kept_entry (x.own e.member) e.number) ≡ n → is_keepable (reply_as e reply) ≡ kp → (e.table == x.table.latest) ≡ h
        → (if keeps_in a e reply && is_done reply then option_or (asked_id e.command) a.load else a.load)
        ≡ host_load (with_entry e reply x)
    pick None d n kp h loads done none able here =
        rw loads (if-same (keeps_in a e reply && is_done reply) a.load) ∙ k.load
        ∙ sym (host_load-entry x e reply (λ here. quiet d n done none loads))
    pick (Some id) false n kp h loads done none able here =
        rw done (not-done (keeps_in a e reply) (option_or (asked_id e.command) a.load) a.load) ∙ k.load
        ∙ sym (host_load-entry x e reply (λ here. rw done refl))
    pick (Some id) true false kp h loads done none able here =
        let no-keep : keeps_in a e reply ≡ false = keeps h kp false here able none ∙ none-kept h kp in
        rw no-keep k.load ∙ sym (host_load-entry x e reply (λ here. rw (done, none) refl))
    pick (Some id) true true false h loads done none able here = absurd (no-load-kept (own_of x e reply) id able done loads)
    pick (Some id) true true true false loads done none able here =
        let no-keep : keeps_in a e reply ≡ false = keeps false true true here able none in
        rw no-keep k.load ∙ sym (elsewhere here)
    pick (Some id) true true true true loads done none able here =
        let keep : keeps_in a e reply ≡ true = keeps true true true here able none in
        let by_host : host x.table.items ≡ Some e.member = hosts (ap is_some loads) done keep in
        let none_since : length x.table.items - length x.table.items ≡ 0 = omega arith in
        rw (keep, done, loads)
        (sym (rw (by_host, here, same-refl e.member, append-nil (x.own e.member), done, none, loads, none_since) refl))

-- a room keeps the state with one entry more
pub entry-keeps : (x : State) (a b : Room) (e : Entry) (reply : Reply) → LoadsAsHost x a e reply → KeepsEntry e reply a b → Keeps x a
    → Keeps (with_entry e reply x) b
entry-keeps x a b e reply hosts keeps k =
    record {
      latest = keeps.latest ∙ k.latest;
      name = keeps.name ∙ k.name;
      options = keeps.options ∙ k.options;
      items = keeps.items ∙ k.items;
      hosts = ap option_to_list keeps.host ∙ k.hosts;
      standing = keeps.standing ∙ k.standing;
      seats = keeps.seats ∙ k.seats;
      watchers = keeps.watchers ∙ k.watchers;
      kept = kept-after x a b.kept e reply (e.table == a.latest) (ap (λ (n : ℕ). e.table == n) (sym k.latest)) keeps.kept k;
      load = keeps.load ∙ load-kept x a e reply k hosts;
      stamp = keeps.stamp ∙ k.stamp;
      names = keeps.names ∙ k.names;
      game = keeps.game ∙ k.game;
      timer = keeps.timer ∙ k.timer;
      saved = keeps.saved ∙ k.saved;
      notes = keeps.notes ∙ k.notes;
      loaded = keeps.loaded ∙ k.loaded;
      review = keeps.review ∙ k.review;
      halts = halts-same a b keeps.game keeps.timer k.halts;
      on_time = timely-same a b keeps.stamp keeps.timer k.on_time;
      in_range = subst (λ (n : ℕ). n ≤ MOMENT_LIMIT) (sym keeps.stamp) k.in_range;
    }

-- a new table: of the entries so far those for its serial count, and none of them keeps anything

none-some : {A : Type 0} {v : A} → None ≡ Some v → ⊥
none-some e = cc

no-history : (timed : Bool) (none : Option History) → none ≡ None → (if timed then none else None) ≡ None
no-history true nothing is = is
no-history false nothing is = refl

-- a room keeps the state with a new table
pub open-keeps : (x : State) (a b : Room) (moment : ℕ) (host : List ℕ) (opened : List ℕ × Options) (own : List ℕ → List OwnEntry)
    → ((m : List ℕ) → AreUnkept (own m)) → ((m : List ℕ) → are_quiet (own m) ≡ true) → moment ≤ MOMENT_LIMIT
    → OpensTable moment (x.table.latest + 1) host opened a b → Keeps (with_table moment host opened own x) b
open-keeps x a b moment host opened own unkept quiet range opens = record {
  latest = opens.latest;
  name = opens.name;
  options = opens.options;
  items = opens.items;
  hosts = ap option_to_list opens.host_is;
  standing = opens.standing;
  seats = opens.seats;
  watchers = opens.watchers;
  kept = λ m. record {
    replies = λ n. opens.replies m n ∙ sym (ap (option_map kept_of) (kept_entry-unkept (own m) n (unkept m)));
    count = opens.counts m ∙ sym (kept_count-unkept (own m) (unkept m));
  };
  load = opens.load ∙ sym (host_load-table moment host opened own x quiet);
  stamp = opens.stamp ∙ omega arith;
  names = opens.names;
  game = opens.game;
  timer = opens.timer ∙ sym (no-history opened.1.timed None refl);
  saved = opens.saved;
  notes = opens.notes;
  loaded = opens.loaded;
  review = opens.review;
  halts = λ t is. absurd (none-some (sym opens.timer ∙ is));
  on_time = λ t is end ends. absurd (none-some (sym opens.timer ∙ is));
  in_range = subst (λ (n : ℕ). n ≤ MOMENT_LIMIT) (sym opens.stamp) range;
}
