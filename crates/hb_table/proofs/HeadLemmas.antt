-- How does each part of a step move what the head of an answer shows?
use Rattle.std.proofs.Common.{◌≡◌, ℕ, ◌+◌, ◌≤◌, Bool, true, false, List, [], ◌∷◌, ◌++◌, refl, ap, arith, sym, subst, ◌∙◌, length, length-append, Some, None, Option}
use Rattle.std.specs.Prelude.{OnOk, Result, Ok, Err, is_some, if◌then◌else◌}
use Rattle.hb_rules.specs.declared.acts.Options.{Options}
use Rattle.hb_rules.specs.Setup.{Position}
use Rattle.hb_timer.specs.Timer.{History}
use Rattle.hb_review.specs.ReviewModel.{Walk}
use Rattle.hb_club.specs.declared.commands.Entry.{Entry}
use Rattle.hb_club.specs.declared.items.Item.{Item}
use Rattle.hb_club.specs.declared.items.What.{What}
use Rattle.hb_club.specs.declared.items.What.TheVariants as what
use Rattle.hb_club.specs.declared.replies.Reply.{Reply}
use Rattle.hb_club.specs.ClerkCalls.{SetNote}
use Rattle.hb_club.specs.EndedReplays.{Finished}
use Rattle.hb_club.specs.NewItems.{by_seat}
use Rattle.hb_club.specs.TableFacts.{opening_by}
use Rattle.hb_playing.specs.declared.clocks.Lapse.{Lapse}
use Rattle.hb_table.specs.declared.room.Room.{Room}
use Rattle.hb_table.specs.StateMoves.{item_at}
use Rattle.hb_table.specs.Changes.{AddsItem, KeepsEntry, OpensTable, SameFacts, Stamps, StartsGame, TimesOut}
use Rattle.hb_table.specs.HeadMoves.{MovesHead, PlayAfter, StaysTable}
use Rattle.hb_table.specs.Steps.{Does}
use Rattle.hb_table.specs.Verdicts.{opens_in}

-- the table stays

one-more : (i : Item) (items after : List Item) → after ≡ items ++ i ∷ [] → length after ≤ length items + 1
one-more i items after is =
    let count : length after ≡ length items + 1 = ap length is ∙ length-append items (i ∷ []) in omega (arith, count)

-- where nothing changes
pub stays-same : (n : ℕ) (a : Room) → StaysTable n a a
stays-same n a = record { name = refl; loaded = refl; names = refl; few = omega arith }

-- where one part follows another
pub stays-more : (m n : ℕ) (a b c : Room) → StaysTable m a b → StaysTable n b c → StaysTable (m + n) a c
stays-more m n a b c first second = record {
  name = second.name ∙ first.name;
  loaded = second.loaded ∙ first.loaded;
  names = second.names ∙ first.names;
  few = omega (arith, first.few, second.few);
}

-- where an entry is kept
pub keeps-stays : (e : Entry) (reply : Reply) (a b : Room) → KeepsEntry e reply a b → StaysTable 0 a b
keeps-stays e reply a b keeps =
    let count : length b.items.items ≡ length a.items.items = ap length keeps.items in
    record { name = keeps.name; loaded = keeps.loaded; names = keeps.names; few = omega (arith, count) }

-- where an item is added
pub adds-stays : (moment : ℕ) (w : What) (walk : Option Walk) (a b : Room) → AddsItem moment w walk a b → StaysTable 1 a b
adds-stays moment w walk a b adds = record {
  name = adds.name;
  loaded = adds.loaded;
  names = adds.names;
  few = one-more (item_at moment w) a.items.items b.items.items adds.items;
}

-- where an accepted command adds no item
pub stamps-stays : (moment : ℕ) (notes : List SetNote) (a b : Room) → Stamps moment notes a b → StaysTable 1 a b
stamps-stays moment notes a b stamps =
    let count : length b.items.items ≡ length a.items.items = ap (λ v. length v.items) stamps.items in
    record { name = stamps.name; loaded = stamps.loaded; names = stamps.names; few = omega (arith, count) }

-- where an accepted command does what it asks for
pub does-stays : (o : Option What) (e : Entry) (a b : Room) → Does o e a b → StaysTable 1 a b
does-stays None e a b does = stamps-stays _ _ a b does
does-stays (Some w) e a b does = adds-stays _ w _ a b does

-- and where it is kept then
pub accepted-stays : (o : Option What) (e : Entry) (reply : Reply) (a c b : Room) → Does o e a c → KeepsEntry e reply c b
    → StaysTable 1 a b
accepted-stays o e reply a c b does keeps = stays-more 1 0 a c b (does-stays o e a c does) (keeps-stays e reply c b keeps)

-- where an entry is kept that was refused
pub refused-stays : (e : Entry) (reply : Reply) (a b : Room) → KeepsEntry e reply a b → StaysTable 1 a b
refused-stays e reply a b keeps = stays-more 1 0 a a b (stays-same 1 a) (keeps-stays e reply a b keeps)

-- where time is applied
pub times-out-stays : (o : Option Lapse) (a b : Room) → TimesOut o a b → StaysTable 1 a b
times-out-stays None a b is = subst (λ (r : Room). StaysTable 1 a r) (sym is) (stays-same 1 a)
times-out-stays (Some l) a b adds = adds-stays _ _ _ a b adds

-- a step

play-same : (o : Option (List (Option (List ℕ)))) (seats : List (List ℕ)) → PlayAfter false o seats o
play-same None seats = tt
play-same (Some names) seats = refl

-- of an entry that leaves the table
pub stays-moves : (e : Entry) (a b : Room) → StaysTable 2 a b → MovesHead false e a b
stays-moves e a b stays = record {
  name = stays.name;
  loaded = stays.loaded;
  names = subst (λ (after : Option (List (Option (List ℕ)))). PlayAfter false a.names a.seats.items after) (sym stays.names)
      (play-same a.names a.seats.items);
  few = stays.few;
}

-- of one that is taken once time was applied
pub timed-moves : (o : Option Lapse) (e : Entry) (a d b : Room) → TimesOut o a d → StaysTable 1 d b → MovesHead false e a b
timed-moves o e a d b out stays = stays-moves e a b (stays-more 1 1 a d b (times-out-stays o a d out) stays)

-- of a look
pub look-moves : (o : Option Lapse) (e : Entry) (a d : Room) → TimesOut o a d → MovesHead false e a d
look-moves o e a d out = timed-moves o e a d d out (stays-same 1 d)

-- of a start that is refused
pub no-start-moves : (e : Entry) (reply : Reply) (a b : Room) → KeepsEntry e reply a b → MovesHead false e a b
no-start-moves e reply a b keeps = stays-moves e a b (stays-more 2 0 a a b (stays-same 2 a) (keeps-stays e reply a b keeps))

play-started : (o : Option (List (Option (List ℕ)))) (seats : List (List ℕ)) → is_some o ≡ false
    → PlayAfter false o seats (Some (by_seat seats))
play-started None seats bare = refl
play-started (Some names) seats bare = cc

-- of a start
pub start-moves : (moment : ℕ) (game : Option Position) (timer : Option History) (e : Entry) (reply : Reply) (a c b : Room)
    → StartsGame moment (by_seat a.seats.items) game timer a c → KeepsEntry e reply c b → is_some a.names ≡ false → MovesHead false e a b
start-moves moment game timer e reply a c b starts keeps bare =
    let one : length c.items.items ≤ length a.items.items + 1 =
    one-more (item_at moment (what.Started (by_seat a.seats.items))) a.items.items c.items.items starts.items in
    let count : length b.items.items ≡ length c.items.items = ap length keeps.items in record {
      name = keeps.name ∙ starts.name;
      loaded = keeps.loaded ∙ starts.loaded;
      names = subst (λ (after : Option (List (Option (List ℕ)))). PlayAfter false a.names a.seats.items after)
          (sym (keeps.names ∙ starts.names)) (play-started a.names a.seats.items bare);
      few = omega (arith, one, count);
    }

-- of an opening
pub open-moves : (moment serial : ℕ) (host : List ℕ) (opened : List ℕ × Options) (e : Entry) (reply : Reply) (a c b : Room)
    → OpensTable moment serial host opened a c → KeepsEntry e reply c b → opened.0 ≡ (opening_by e.command).0 → MovesHead true e a b
open-moves moment serial host opened e reply a c b opens keeps name =
    let count : length b.items.items ≡ 1 = ap length (keeps.items ∙ opens.items) in record {
      name = keeps.name ∙ opens.name ∙ name;
      loaded = keeps.loaded ∙ opens.loaded;
      names = keeps.names ∙ opens.names;
      few = omega (arith, count);
    }

-- what was reserved before is no fact
pub same-moves : (o : Bool) (e : Entry) (a c b : Room) → SameFacts a c → opens_in c e ≡ o → MovesHead o e c b
    → MovesHead (opens_in a e) e a b
same-moves o e a c b same opens moves =
    let before : opens_in c e ≡ opens_in a e = rw (same.latest, same.standing) refl in
    let count : length c.items.items ≡ length a.items.items = ap length same.items in
    subst (λ (p : Bool). MovesHead p e a b) (sym opens ∙ before) (record {
      name = moves.name ∙ ap (λ (n : List ℕ). if o then (opening_by e.command).0 else n) same.name;
      loaded = moves.loaded ∙ ap (λ (l : Option Finished). if o then None else l) same.loaded;
      names = subst (λ (names : Option (List (Option (List ℕ)))). PlayAfter o names a.seats.items b.names) same.names
          (subst (λ (seats : List (List ℕ)). PlayAfter o c.names seats b.names) same.seats moves.names);
      few = omega (arith, moves.few, count);
    })

-- which a part of the step gives if it succeeds
pub step-moves : {E : Type 0} (o : Bool) (e : Entry) (a c b : Room) (r : Result Reply E) → SameFacts a c → opens_in c e ≡ o
    → OnOk r (MovesHead o e c b) → OnOk r (MovesHead (opens_in a e) e a b)
step-moves o e a c b (Ok reply) same opens moves = same-moves o e a c b same opens moves
step-moves o e a c b (Err why) same opens moves = tt
