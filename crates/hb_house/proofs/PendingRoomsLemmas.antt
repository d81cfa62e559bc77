-- Does a load stay pending until an item ends it? Yes, at the table that asked for it.
use Rattle.std.proofs.Common.{◌≡◌, ℕ, ◌+◌, ◌-◌, ◌≤◌, ◌⊎◌, inl, inr, Bool, true, false, List, [], ◌∷◌, ◌++◌, refl, ap, arith, sym, ◌∙◌, length, length-append, take, Some, None, Option}
use Rattle.std.specs.Prelude.{◌&&◌, ◌==◌, bytes_eq, is_some, nat_le, if◌then◌else◌}
use Rattle.std.specs.List.{list_any}
use Rattle.std.specs.Option.{option_to_list}
use Rattle.std.proofs.Math.Seq.{take-append-add}
use Rattle.std.proofs.lemmas.Bool.{and_parts, or_cases}
use Rattle.std.proofs.lemmas.List.{append-nil}
use Rattle.std.proofs.lemmas.List.Folds.{list_any-append}
use Rattle.hb_rules.specs.declared.setups.Setup.{Setup}
use Rattle.hb_club.specs.declared.commands.Command.{Command}
use Rattle.hb_club.specs.declared.commands.Command.TheVariants as command
use Rattle.hb_club.specs.declared.commands.Entry.{Entry}
use Rattle.hb_club.specs.declared.items.Item.{Item}
use Rattle.hb_club.specs.declared.items.What.{What}
use Rattle.hb_club.specs.declared.items.What.TheVariants as what
use Rattle.hb_club.specs.ClerkCalls.{pending_load}
use Rattle.hb_club.specs.CommandKinds.{asked_id}
use Rattle.hb_club.specs.OwnEntries.{OwnEntry, accepted_load, pending_id, still_pending}
use Rattle.hb_club.specs.NewItems.{stamped_item}
use Rattle.hb_club.specs.RoomEvents.{AsksTodo, Call, Happening, Notes, RoomEvent, Site, event_moment}
use Rattle.hb_club.specs.Rooms.{happening}
use Rattle.hb_club.specs.Table.{Table}
use Rattle.hb_club.specs.TableFacts.{own_entries, table_of}
use Rattle.hb_club.specs.TableItems.{ends_load, has, host, is_host, is_standing, opened_count}
use Rattle.hb_club.specs.TableRefusals.{is_accepted, own_for}
use Rattle.hb_club.specs.TimeFirst.{timed_table, timeout}
use Rattle.hb_club.proofs.PendingLemmas.{accepted_load-quiet, are_within, is_quiet, is_within}
use Rattle.hb_club.proofs.TableInvariantLemmas.{IsFresh}
use Rattle.hb_club.proofs.TableLoadsLemmas.{HeadsAreQuiet, QuietHead, call-quiet, own_of, same-name, table_for}
use Rattle.hb_club.proofs.TableRefusalsLemmas.{done-here, done-host, done-not-loading}
use Rattle.hb_club.proofs.TimeFirstLemmas.{timeout-all}
use Rattle.hb_house.proofs.DoneLemmas.{done-standing}

-- items that open no table come on top of others

-- what is so of them
pub record OpenNone (added : List Item) : Type 0 where
  pub count : opened_count added ≡ 0
  pub host : (items : List Item) → host (added ++ items) ≡ host items

-- time opens no table
pub time-opens-none : (t : Table) (g : Option Setup) (moment : ℕ) → OpenNone (timeout t g moment)
time-opens-none t g moment = timeout-all OpenNone (record { count = refl; host = λ items. refl })
    (λ m act. record { count = refl; host = λ items. refl }) t g moment

-- nor does an item that is no Opened
pub opens-none : (stamp : ℕ) (o : Option What) (late : List Item) → ((name : List ℕ) → o ≡ Some (what.Opened name) → ⊥) → OpenNone late
    → OpenNone (stamped_item stamp o ++ late)
opens-none stamp None late apart are = are
opens-none stamp (Some (what.Opened name)) late apart are = absurd (apart name refl)
opens-none stamp (Some w) late apart are = record { count = are.count; host = are.host }

-- items that end no load leave what is pending

has-behind : (extra items : List Item) (count : ℕ) → nat_le count (length items) ≡ true → has ends_load extra ≡ false
    → has ends_load (take (length (extra ++ items) - count) (extra ++ items)) ≡ has ends_load (take (length items - count) items)
has-behind extra items count low none =
    let many : count ≤ length items = grind arith in
    let rest : List Item = take (length items - count) items in
    let size : length (extra ++ items) - count ≡ length extra + (length items - count) =
    omega (arith, many, length-append extra items) in
    let split : take (length (extra ++ items) - count) (extra ++ items) ≡ extra ++ rest =
    ap (λ (n : ℕ). take n (extra ++ items)) size ∙ take-append-add extra items (length items - count) in
    ap (has ends_load) split ∙ list_any-append (λ (i : Item). ends_load i.what) extra rest ∙ rw none refl

-- what is pending behind items that end no load
pub pending_id-behind : (own : List OwnEntry) (extra items : List Item) → are_within (length items) own ≡ true
    → has ends_load extra ≡ false → pending_id own (extra ++ items) ≡ pending_id own items
pending_id-behind [] extra items within none = refl
pending_id-behind (o ∷ own) extra items within none =
    let parts : (is_within (length items) o ≡ true) × (are_within (length items) own ≡ true) = and_parts _ _ within in
    let rest : pending_id own (extra ++ items) ≡ pending_id own items = pending_id-behind own extra items parts.1 none in
    pick (or_cases (is_quiet o.reply o.entry.command) (nat_le o.count (length items)) parts.0) rest
  where
    asked : (a : Option ℕ) → nat_le o.count (length items) ≡ true → pending_id own (extra ++ items) ≡ pending_id own items
        → still_pending (extra ++ items) o.count a (pending_id own (extra ++ items)) ≡ still_pending items o.count a (pending_id own items)
    asked None low rest = rest
    asked (Some id) low rest = ap (λ (b : Bool). if b then None else Some id) (has-behind extra items o.count low none)

    pick : (is_quiet o.reply o.entry.command ≡ true) ⊎ (nat_le o.count (length items) ≡ true)
        → pending_id own (extra ++ items) ≡ pending_id own items
        → still_pending (extra ++ items) o.count (accepted_load own o) (pending_id own (extra ++ items))
        ≡ still_pending items o.count (accepted_load own o) (pending_id own items)
    pick (inl quiet) rest =
        ap (λ (a : Option ℕ). still_pending (extra ++ items) o.count a (pending_id own (extra ++ items))) (accepted_load-quiet own o quiet)
        ∙ rest ∙ sym (ap (λ (a : Option ℕ). still_pending items o.count a (pending_id own items)) (accepted_load-quiet own o quiet))
    pick (inr low) rest = asked (accepted_load own o) low rest

-- an own entry that asks for none leaves it too
pub quiet-head : (head : Option OwnEntry) (own : List OwnEntry) (items : List Item) → QuietHead head own
    → pending_id (option_to_list head ++ own) items ≡ pending_id own items
quiet-head None own items quiet = refl
quiet-head (Some o) own items quiet = ap (λ (a : Option ℕ). still_pending items o.count a (pending_id own items)) quiet

-- what is pending is so by an entry of the host

-- the host of a table, and what is pending by its entries
pub record PendingOf (t : Table) (past : List Happening) (id : ℕ) : Type 0 where
  pub name : List ℕ
  pub host : host t.items ≡ Some name
  pub is : pending_id (own_entries t.latest name past) t.items ≡ Some id

-- what is pending is so by its entries
pub pending-of : (t : Table) (past : List Happening) (id : ℕ) → pending_load t past ≡ Some id → PendingOf t past id
pending-of t past id is = by (host t.items) refl
  where
    by : (h : Option (List ℕ)) → host t.items ≡ h → PendingOf t past id
    by None at = let none : ◌≡◌ {A = Option ℕ} None (Some id) = rw at at is in absurd cc
    by (Some name) at =
        let own : List OwnEntry = own_entries t.latest name past in
        let one : pending_id (own ++ []) t.items ≡ Some id = rw at at is in
        record { name = name; host = at; is = ap (λ (l : List OwnEntry). pending_id l t.items) (sym (append-nil own)) ∙ one }

-- and what is so by its entries is pending
pub pending-at : (t : Table) (past : List Happening) (name : List ℕ) → host t.items ≡ Some name
    → pending_load t past ≡ pending_id (own_entries t.latest name past) t.items
pending-at t past name at =
    rw at (ap (λ (l : List OwnEntry). pending_id l t.items) (append-nil (own_entries t.latest name past)))

-- the entry that an event makes

-- time ends no load
pub time-ends-none : (t : Table) (g : Option Setup) (moment : ℕ) → has ends_load (timeout t g moment) ≡ false
time-ends-none t g moment = timeout-all (λ late. has ends_load late ≡ false) refl (λ m act. refl) t g moment

-- what is so of an accepted load: it adds no item, comes at a table that stands, and only if none is pending
pub record LoadComes (s : Site) (past : List Happening) (e : RoomEvent) : Type 0 where
  pub added : (happening s past e).added ≡ timeout (table_of s past) (table_of s past).game (event_moment e)
  pub stands : is_standing (timed_table s past (event_moment e)).items ≡ true
  pub free : (name : List ℕ) (id : ℕ) → host (table_of s past).items ≡ Some name
      → pending_id (own_entries (table_of s past).latest name past) (timed_table s past (event_moment e)).items ≡ Some id → ⊥

only-host : (member name : List ℕ) → list_any (bytes_eq member) (name ∷ []) ≡ true → member ≡ name
only-host member name is = by (or_cases (bytes_eq member name) false is)
  where
    by : (bytes_eq member name ≡ true) ⊎ (false ≡ true) → member ≡ name
    by (inl same) = same-name member name same
    by (inr bad) = absurd cc

no-some : (o : Option ℕ) (id : ℕ) → o ≡ Some id → is_some o ≡ false → ⊥
no-some None id is none = cc
no-some (Some k) id is none = cc

load-comes : (s : Site) (past : List Happening) (e : Entry) (c : Command)
    → is_accepted (table_for s past (record e { command = c })) (own_of s past (record e { command = c })) (record e { command = c }) ≡ true
    → is_some (asked_id c) ≡ true → LoadComes s past (Call (record e { command = c }))
load-comes s past e (command.Load id) taken asks =
    let load : Entry = record e { command = command.Load id } in
    let u : Table = table_for s past load in
    let mine : List OwnEntry = own_of s past load in
    let fresh : IsFresh u mine load = and_parts _ _ taken in
    let hosts : is_host u.items e.member ≡ true = done-host u (own_for u mine load) load refl fresh.0 fresh.1 in
    let none : is_some (pending_id (own_for u mine load) u.items) ≡ false =
    done-not-loading u (own_for u mine load) load refl fresh.0 fresh.1 in
    let here : (e.table == u.latest) ≡ true = done-here u mine load refl fresh.0 in
    let own : own_for u mine load ≡ mine = ap (λ (b : Bool). if b then mine else []) here in
    record {
      added = rw taken refl;
      stands = done-standing u mine load refl fresh;
      free = λ name k at is.
          let same_host : host u.items ≡ Some name =
          (time-opens-none (table_of s past) (table_of s past).game (event_moment (Call load))).host (table_of s past).items ∙ at in
          let same : e.member ≡ name = only-host e.member name (rw same_host at hosts) in
          let some : pending_id (own_for u mine load) u.items ≡ Some k =
          ap (λ (l : List OwnEntry). pending_id l u.items) (own
          ∙ ap (λ (n : List ℕ). own_entries (table_of s past).latest n past) same) ∙ is in
          no-some (pending_id (own_for u mine load) u.items) k some none;
    }
load-comes s past e _ taken asks = absurd cc

-- each event asks for no load, or is an accepted one
pub event-asks : (s : Site) (past : List Happening) (e : RoomEvent) → HeadsAreQuiet s past e ⊎ LoadComes s past e
event-asks s past (AsksTodo moment) = inl (λ name count is. tt)
event-asks s past (Notes moment n) = inl (λ name count is. tt)
event-asks s past (Call e) = by (is_accepted (table_for s past e) (own_of s past e) e && is_some (asked_id e.command)) refl
  where
    by : (b : Bool) → (is_accepted (table_for s past e) (own_of s past e) e && is_some (asked_id e.command)) ≡ b
        → HeadsAreQuiet s past (Call e) ⊎ LoadComes s past (Call e)
    by false free = inl (call-quiet s past e free)
    by true both =
        let parts : (is_accepted (table_for s past e) (own_of s past e) e ≡ true) × (is_some (asked_id e.command) ≡ true) =
        and_parts _ _ both in
        inr (load-comes s past e e.command parts.0 parts.1)
