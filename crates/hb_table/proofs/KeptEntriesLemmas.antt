-- What is kept of entries, and set by them, at a table that is not opened yet? Nothing.
use Rattle.std.proofs.Common.{◌≡◌, ℕ, ◌+◌, ◌≤◌, Bool, true, false, List, [], ◌∷◌, ◌++◌, refl, ap, arith, sym, subst, ◌∙◌, length, Some, None, Option}
use Rattle.std.specs.Prelude.{◌&&◌, ◌==◌, bytes_eq, nat_lt, not, if◌then◌else◌}
use Rattle.std.specs.Option.{option_to_list}
use Rattle.std.proofs.lemmas.Bool.{and_parts}
use Rattle.hb_rules.specs.declared.acts.Act.{Act}
use Rattle.hb_rules.specs.declared.acts.Options.{Options}
use Rattle.hb_rules.specs.declared.setups.Setup.{Setup}
use Rattle.hb_rules.specs.Setup.{Position}
use Rattle.hb_review.specs.declared.steps.Step.{Step}
use Rattle.hb_club.specs.declared.commands.Command.{Command}
use Rattle.hb_club.specs.declared.commands.Command.TheVariants as command
use Rattle.hb_club.specs.declared.commands.Entry.{Entry}
use Rattle.hb_club.specs.declared.items.Item.{Item}
use Rattle.hb_club.specs.declared.items.What.TheVariants as what
use Rattle.hb_club.specs.CommandKinds.{is_long_note, is_look, is_open}
use Rattle.hb_club.specs.ClerkCalls.{note_at, note_by, note_in, set_notes}
use Rattle.hb_club.specs.OwnEntries.{OwnEntry, is_done, is_kept, is_unkept, kept_count, kept_entry}
use Rattle.hb_club.specs.NewItems.{entry_stamp}
use Rattle.hb_club.specs.RoomEvents.{AsksTodo, Call, Happening, Notes, RoomEvent, Site}
use Rattle.hb_club.specs.Rooms.{happening, past_of}
use Rattle.hb_club.specs.Table.{Table, seat_of}
use Rattle.hb_club.specs.TableFacts.{own_entries, record_of, table_of}
use Rattle.hb_club.specs.TableItems.{acts, is_standing, latest_items, opened_count, steps}
use Rattle.hb_club.specs.TableRefusals.{act_rule, is_accepted, opens_next, own_for, reply_by, reply_on}
use Rattle.hb_club.specs.TableReview.{reviewed_game, step_refusal}
use Rattle.hb_club.specs.TimeFirst.{with_items}
use Rattle.hb_club.proofs.RoomsLemmas.{opened_count-append}
use Rattle.hb_club.proofs.TableRefusalsLemmas.{done-above}
use Rattle.hb_table.specs.StateMoves.{item_at, late_items}
use Rattle.hb_table.proofs.TableMovesLemmas.{set_notes-more}

-- serials

above-not-same : (a b : ℕ) → nat_lt a b ≡ true → (b == a) ≡ false
above-not-same a b above = grind arith

above-not-below : (a b : ℕ) → nat_lt a b ≡ true → nat_lt b a ≡ false
above-not-below a b above = grind arith

same-serial : (a b : ℕ) → (a == b) ≡ true → a ≡ b
same-serial a b same = grind arith

fewer-tables : (a b n : ℕ) → nat_lt (a + b) n ≡ true → nat_lt b n ≡ true
fewer-tables a b n above = grind arith

next-serial : (a b : ℕ) → (a == b + 1) ≡ true → nat_lt b a ≡ true
next-serial a b next = grind arith

not-open : (b : Bool) → not b ≡ true → b ≡ false
not-open false h = refl
not-open true h = cc

-- what an entry above the latest table is replied

-- it opens the next table, and none is open
abbrev pub opens_table : Table → Entry → Bool
opens_table t e = opens_next t e && not (is_standing t.items)

act_rule-none : (g : Option Setup) (past : List Act) (seat : ℕ) → act_rule g past seat None ≡ None
act_rule-none None past seat = refl
act_rule-none (Some g) past seat = refl

step_refusal-open : (game : Option Position) (all : List Step) (name : List ℕ) (options : Options)
    → step_refusal game all (command.Open name options) ≡ None
step_refusal-open None all name options = refl
step_refusal-open (Some game) all name options = refl

-- such an opening is accepted
opens_table-accepted : (t : Table) (own : List OwnEntry) (e : Entry) (name : List ℕ) (options : Options)
    → (e.table == t.latest + 1) ≡ true → is_standing t.items ≡ false
    → is_accepted t own (record e { command = command.Open name options }) ≡ true
opens_table-accepted t own e name options next closed =
    let above : nat_lt t.latest e.table ≡ true = next-serial e.table t.latest next in
    rw (
      above-not-below t.latest e.table above,
      above-not-same t.latest e.table above,
      above,
      next,
      closed,
      act_rule-none t.game (acts t.items) (seat_of t e.member),
      step_refusal-open (reviewed_game t.loaded t.game t.items) (steps t.items) name options,
    ) refl

-- an opening is one of a name and options
open-is : (c : Command) → is_open c ≡ true → (name : List ℕ) × ((options : Options) × (c ≡ command.Open name options))
open-is (command.Open name options) is = (name, (options, refl))
open-is command.Sit is = cc
open-is command.Rise is = cc
open-is command.Start is = cc
open-is (command.Act a) is = cc
open-is (command.Note order text) is = cc
open-is command.Pause is = cc
open-is command.Resume is = cc
open-is command.Terminate is = cc
open-is (command.Watch shadow) is = cc
open-is command.Leave is = cc
open-is (command.Load id) is = cc
open-is (command.Go turn) is = cc
open-is (command.Hypo a) is = cc
open-is command.Undo is = cc
open-is command.Close is = cc
open-is command.Look is = cc

-- so it is with each opening of the next table, if none is open
pub opens_table-is : (t : Table) (e : Entry) → opens_table t e ≡ true
    → (is_open e.command ≡ true) × ((e.table == t.latest + 1) ≡ true) × (is_standing t.items ≡ false)
opens_table-is t e may =
    let parts : (opens_next t e ≡ true) × (not (is_standing t.items) ≡ true) = and_parts _ _ may in
    let test : (is_open e.command ≡ true) × ((e.table == t.latest + 1) ≡ true) = and_parts _ _ parts.0 in
    (test.0, test.1, not-open (is_standing t.items) parts.1)

-- it is accepted
pub opens_table-taken : (t : Table) (own : List OwnEntry) (e : Entry) → opens_table t e ≡ true → is_accepted t own e ≡ true
opens_table-taken t own e may = with_words (open-is e.command (opens_table-is t e may).0)
  where
    with_words : (name : List ℕ) × ((options : Options) × (e.command ≡ command.Open name options)) → is_accepted t own e ≡ true
    with_words (name, (options, is)) = subst (λ (c : Command). is_accepted t own (record e { command = c }) ≡ true) (sym is)
        (opens_table-accepted t own e name options (opens_table-is t e may).1 (opens_table-is t e may).2)

-- any other entry there is refused by a row whose reply is not kept
pub reply_on-above : (t : Table) (own : List OwnEntry) (e : Entry) → nat_lt t.latest e.table ≡ true → is_look e.command ≡ false
    → opens_table t e ≡ false → is_unkept (reply_on t own e) ≡ true
reply_on-above t own e above look shut = pick (is_open e.command) (e.table == t.latest + 1) (is_standing t.items) refl refl refl
  where
    below : nat_lt e.table t.latest ≡ false
    below = above-not-below t.latest e.table above

    apart : (e.table == t.latest) ≡ false
    apart = above-not-same t.latest e.table above

    pick : (o n b : Bool) → is_open e.command ≡ o → (e.table == t.latest + 1) ≡ n → is_standing t.items ≡ b
        → is_unkept (reply_on t own e) ≡ true
    pick false n b is next stands = rw (look, below, apart, above, is) refl
    pick true false b is next stands = rw (look, below, apart, above, is, next) refl
    pick true true true is next stands = rw (look, below, apart, above, is, next, stands) refl
    pick true true false is next stands = let never : true ≡ false = rw (is, next, stands) at shut in cc

-- entries of which none is kept
abbrev pub AreUnkept : List OwnEntry → Type 0
AreUnkept [] = Unit {0}
AreUnkept (o ∷ own) = (is_kept o ≡ false) × AreUnkept own

and-false : (b : Bool) → (b && false) ≡ false
and-false true = refl
and-false false = refl

-- nothing is kept for a number
pub kept_entry-unkept : (own : List OwnEntry) (number : ℕ) → AreUnkept own → kept_entry own number ≡ None
kept_entry-unkept [] number none = refl
kept_entry-unkept (o ∷ own) number none = rw (kept_entry-unkept own number none.1, none.0, and-false (o.entry.number == number)) refl

-- and no number is kept
pub kept_count-unkept : (own : List OwnEntry) → AreUnkept own → kept_count own ≡ 0
kept_count-unkept [] none = refl
kept_count-unkept (o ∷ own) none = rw (none.0, kept_count-unkept own none.1) refl

unkept-reply : (o : OwnEntry) → is_unkept o.reply ≡ true → is_kept o ≡ false
unkept-reply o is = rw is (and-false (not (is_look o.entry.command) && not (is_long_note o.entry.command)))

unkept-look : (o : OwnEntry) → is_look o.entry.command ≡ true → is_kept o ≡ false
unkept-look o is = rw is refl

unkept-if : (b : Bool) (o : OwnEntry) (own : List OwnEntry) → (b ≡ true → is_kept o ≡ false) → AreUnkept own
    → AreUnkept (option_to_list (if b then Some o else None) ++ own)
unkept-if true o own here rest = (here refl, rest)
unkept-if false o own here rest = rest

-- the table that an entry finds, and the own entries of its member
abbrev table_for : Site → List Happening → Entry → Table
table_for s past e = with_items (late_items s past (Call e)) (table_of s past)

abbrev own_of : Site → List Happening → Entry → List OwnEntry
own_of s past e = own_entries (table_of s past).latest e.member past

-- an accepted opening opens one table more
opened_count-open : (s : Site) (past : List Happening) (e : Entry) → opens_table (table_for s past e) e ≡ true
    → opened_count (record_of past) + 1 ≤ opened_count (record_of (happening s past (Call e) ∷ past))
opened_count-open s past e may = with_words (open-is e.command (opens_table-is (table_for s past e) e may).0)
  where
    taken : is_accepted (table_for s past e) (own_of s past e) e ≡ true
    taken = opens_table-taken (table_for s past e) (own_of s past e) e may

    late : List Item
    late = late_items s past (Call e)

    i : Item
    i = item_at (entry_stamp (table_for s past e) past e) (what.Opened e.member)

    with_words : (name : List ℕ) × ((options : Options) × (e.command ≡ command.Open name options))
        → opened_count (record_of past) + 1 ≤ opened_count (record_of (happening s past (Call e) ∷ past))
    with_words (name, (options, is)) =
        let added : (happening s past (Call e)).added ≡ i ∷ late = rw (taken, is) refl in
        let all : opened_count (record_of (happening s past (Call e) ∷ past)) ≡ opened_count ((i ∷ late) ++ record_of past) =
        ap (λ (l : List Item). opened_count (l ++ record_of past)) added in
        omega (arith, all, opened_count-append (i ∷ late) (record_of past), opened_count-append (i ∷ []) late)

passed-table : (a b n : ℕ) → a + 1 ≤ b → nat_lt b n ≡ true → (n == a + 1) ≡ true → ⊥
passed-table a b n more above next = grind (arith, more, above, next)

own_entries-unkept-call : (s : Site) (past : List Happening) (e : Entry) (table : ℕ) (member : List ℕ)
    → nat_lt (opened_count (record_of past)) table ≡ true
    → nat_lt (opened_count (record_of (happening s past (Call e) ∷ past))) table ≡ true
    → AreUnkept (own_entries table member past) → AreUnkept (own_entries table member (happening s past (Call e) ∷ past))
own_entries-unkept-call s past e table member before after rest =
    unkept-if (e.table == table && bytes_eq member e.member) o (own_entries table member past) this rest
  where
    t : Table
    t = table_for s past e

    own : List OwnEntry
    own = own_of s past e

    o : OwnEntry
    o = record {
      entry = e;
      reply = reply_on t own e;
      count = length (latest_items (record_of (happening s past (Call e) ∷ past)));
    }

    by_kind : (look may : Bool) → e.table ≡ table → is_look e.command ≡ look → opens_table t e ≡ may → is_kept o ≡ false
    by_kind true may same look opens = unkept-look o look
    by_kind false false same look shut =
        unkept-reply o (reply_on-above t own e (subst (λ (n : ℕ). nat_lt t.latest n ≡ true) (sym same) before) look shut)
    by_kind false true same look opens = absurd (passed-table (opened_count (record_of past))
        (opened_count (record_of (happening s past (Call e) ∷ past))) table (opened_count-open s past e opens) after
        (subst (λ (n : ℕ). (n == t.latest + 1) ≡ true) same (opens_table-is t e opens).1))

    this : (e.table == table && bytes_eq member e.member) ≡ true → is_kept o ≡ false
    this is = by_kind (is_look e.command) (opens_table t e) (same-serial e.table table (and_parts _ _ is).0) refl refl

own_entries-unkept-more : (s : Site) (past : List Happening) (e : RoomEvent) (table : ℕ) (member : List ℕ)
    → nat_lt (opened_count (record_of past)) table ≡ true
    → nat_lt (opened_count (record_of (happening s past e ∷ past))) table ≡ true
    → AreUnkept (own_entries table member past) → AreUnkept (own_entries table member (happening s past e ∷ past))
own_entries-unkept-more s past (Call e) table member before after rest = own_entries-unkept-call s past e table member before after rest
own_entries-unkept-more s past (AsksTodo moment) table member before after rest = rest
own_entries-unkept-more s past (Notes moment notice) table member before after rest = rest

above-before : (s : Site) (past : List Happening) (e : RoomEvent) (n : ℕ)
    → nat_lt (opened_count (record_of (happening s past e ∷ past))) n ≡ true → nat_lt (opened_count (record_of past)) n ≡ true
above-before s past e n above = fewer-tables (opened_count (happening s past e).added) (opened_count (record_of past)) n
    (subst (λ (k : ℕ). nat_lt k n ≡ true) (opened_count-append (happening s past e).added (record_of past)) above)

-- of the entries at a table that is not opened yet none is kept
pub own_entries-unkept : (s : Site) (events : List RoomEvent) (table : ℕ) (member : List ℕ)
    → nat_lt (opened_count (record_of (past_of s events))) table ≡ true → AreUnkept (own_entries table member (past_of s events))
own_entries-unkept s [] table member above = tt
own_entries-unkept s (e ∷ events) table member above =
    let before : nat_lt (opened_count (record_of (past_of s events))) table ≡ true = above-before s (past_of s events) e table above in
    own_entries-unkept-more s (past_of s events) e table member before above (own_entries-unkept s events table member before)

-- the notes that are set there

note_at-other : (table : ℕ) (e : Entry) (c : Command) → note_by e.member c ≡ None → note_at table (Call (record e { command = c })) ≡ None
note_at-other table e c none = pick (e.table == table)
  where
    pick : (b : Bool) → (if b then note_by e.member c else None) ≡ None
    pick true = none
    pick false = refl

note_in-call : (s : Site) (past : List Happening) (e : Entry) (c : Command) (n : ℕ) → e.command ≡ c
    → nat_lt (opened_count (record_of past)) n ≡ true
    → is_accepted (table_for s past e) (own_of s past e) e ≡ true → note_at n (Call e) ≡ None
note_in-call s past e (command.Note order text) n is above taken = pick (e.table == n) refl
  where
    t : Table
    t = table_for s past e

    pick : (b : Bool) → (e.table == n) ≡ b → (if b then note_by e.member e.command else None) ≡ None
    pick false other = refl
    pick true here =
        let high : nat_lt t.latest e.table ≡ true =
        subst (λ (k : ℕ). nat_lt (opened_count (record_of past)) k ≡ true) (sym (same-serial e.table n here)) above in
        let refused : is_done (reply_by t (own_for t (own_of s past e) e) e) ≡ false =
        done-above t (own_of s past e) e high (rw is refl) in
        let no_look : is_look e.command ≡ false = rw is refl in
        let never : false ≡ true = rw (no_look, refused) at taken in cc
note_in-call s past e (command.Open name options) n is above taken = rw is (note_at-other n e (command.Open name options) refl)
note_in-call s past e command.Sit n is above taken = rw is (note_at-other n e command.Sit refl)
note_in-call s past e command.Rise n is above taken = rw is (note_at-other n e command.Rise refl)
note_in-call s past e command.Start n is above taken = rw is (note_at-other n e command.Start refl)
note_in-call s past e (command.Act a) n is above taken = rw is (note_at-other n e (command.Act a) refl)
note_in-call s past e command.Pause n is above taken = rw is (note_at-other n e command.Pause refl)
note_in-call s past e command.Resume n is above taken = rw is (note_at-other n e command.Resume refl)
note_in-call s past e command.Terminate n is above taken = rw is (note_at-other n e command.Terminate refl)
note_in-call s past e (command.Watch shadow) n is above taken = rw is (note_at-other n e (command.Watch shadow) refl)
note_in-call s past e command.Leave n is above taken = rw is (note_at-other n e command.Leave refl)
note_in-call s past e (command.Load id) n is above taken = rw is (note_at-other n e (command.Load id) refl)
note_in-call s past e (command.Go turn) n is above taken = rw is (note_at-other n e (command.Go turn) refl)
note_in-call s past e (command.Hypo a) n is above taken = rw is (note_at-other n e (command.Hypo a) refl)
note_in-call s past e command.Undo n is above taken = rw is (note_at-other n e command.Undo refl)
note_in-call s past e command.Close n is above taken = rw is (note_at-other n e command.Close refl)
note_in-call s past e command.Look n is above taken = rw is (note_at-other n e command.Look refl)

note_in-above : (s : Site) (past : List Happening) (e : RoomEvent) (n : ℕ) → nat_lt (opened_count (record_of past)) n ≡ true
    → note_in n (happening s past e) ≡ None
note_in-above s past (AsksTodo moment) n above = refl
note_in-above s past (Notes moment notice) n above = refl
note_in-above s past (Call e) n above = pick (is_accepted (table_for s past e) (own_of s past e) e) refl
  where
    pick : (b : Bool) → is_accepted (table_for s past e) (own_of s past e) e ≡ b → note_in n (happening s past (Call e)) ≡ None
    pick false refused = rw refused refl
    pick true taken = rw taken (note_in-call s past e e.command n refl above taken)

-- there are none
pub set_notes-above : (s : Site) (events : List RoomEvent) (n : ℕ) → nat_lt (opened_count (record_of (past_of s events))) n ≡ true
    → set_notes n (past_of s events) ≡ []
set_notes-above s [] n above = refl
set_notes-above s (e ∷ events) n above =
    let before : nat_lt (opened_count (record_of (past_of s events))) n ≡ true = above-before s (past_of s events) e n above in
    set_notes-more n (happening s (past_of s events) e) (past_of s events)
    ∙ rw (note_in-above s (past_of s events) e n before, set_notes-above s events n before) refl

-- the serial behind the latest is above it
pub next-above : (n : ℕ) → nat_lt n (n + 1) ≡ true
next-above n = grind arith
