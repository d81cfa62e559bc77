-- May a load be pending where a game was started or loaded, behind a note of the clerk? No; and so in no room.
use Rattle.std.proofs.Common.{◌≡◌, ℕ, ◌+◌, Bool, true, false, List, [], ◌∷◌, ◌++◌, refl, ap, arith, sym, subst, ◌∙◌, length, length-append, Some, None, Option}
use Rattle.std.specs.Prelude.{◌&&◌, ◌==◌, flat_map, is_some, if◌then◌else◌}
use Rattle.std.specs.Option.{option_to_list}
use Rattle.std.proofs.lemmas.List.{append-nil}
use Rattle.hb_club.specs.declared.clerks.Noted.{Noted}
use Rattle.hb_club.specs.declared.clerks.Noted.TheVariants as noted
use Rattle.hb_club.specs.declared.items.Item.{Item}
use Rattle.hb_club.specs.declared.items.What.TheVariants as what
use Rattle.hb_club.specs.ClerkCalls.{is_due, noted_by, notice_id, pending_load}
use Rattle.hb_club.specs.OwnEntries.{OwnEntry, pending_id}
use Rattle.hb_club.specs.NewItems.{stamp_at}
use Rattle.hb_club.specs.RoomEvents.{AsksTodo, Call, Happening, Loaded, Notes, Notice, RoomEvent, Saved, Site, event_moment, in_time}
use Rattle.hb_club.specs.Rooms.{happening, past_of}
use Rattle.hb_club.specs.Table.{Table}
use Rattle.hb_club.specs.TableFacts.{loaded_game, own_entries, record_of, table_of}
use Rattle.hb_club.specs.TableItems.{host, is_started, latest_items, opened_count}
use Rattle.hb_club.specs.TableRefusals.{is_accepted}
use Rattle.hb_club.specs.TimeFirst.{timeout, with_items}
use Rattle.hb_club.proofs.OwnEntriesLemmas.{own_entries-within, within-more}
use Rattle.hb_club.proofs.PendingLemmas.{are_within, pending_id-ended, pending_id-more}
use Rattle.hb_club.proofs.RoomsLemmas.{latest_items-append, opened_count-append}
use Rattle.hb_club.proofs.TimeFirstLemmas.{item_at}
use Rattle.hb_club.proofs.PlainItemsLemmas.{AreKept, ArePlain, are-kept, plain-append, timeout-plain}
use Rattle.hb_club.proofs.TableLoadsLemmas.{AreApart, false-true, keeps-apart, none-some, own_of, pending_at, plain-apart, table_for, todo-apart}
use Rattle.hb_club.proofs.AcceptedLoadsLemmas.{taken-apart}

-- the table that a notice finds
abbrev pub table_noted : Site → List Happening → ℕ → Notice → Table
table_noted s past moment notice =
    with_items (timeout (table_of s past) (table_of s past).game (event_moment (Notes moment notice))) (table_of s past)

-- the stamp of what a note adds
abbrev pub note_stamp : Site → List Happening → ℕ → Notice → ℕ
note_stamp s past moment notice = stamp_at (table_noted s past moment notice) past (in_time moment)

plain-note : (s : Site) (past : List Happening) (moment : ℕ) (notice : Notice) (news : List Item)
    → (happening s past (Notes moment notice)).added
    ≡ news ++ timeout (table_of s past) (table_of s past).game (event_moment (Notes moment notice)) → ArePlain news → AreApart past
    → AreApart (happening s past (Notes moment notice) ∷ past)
plain-note s past moment notice news is plain before = keeps-apart s past (Notes moment notice)
    (subst (λ (added : List Item). AreKept added (latest_items (record_of past))) (sym is)
    (are-kept (news ++ timeout (table_of s past) (table_of s past).game (event_moment (Notes moment notice)))
    (latest_items (record_of past))
    (plain-append news _ plain (timeout-plain (table_of s past) (table_of s past).game (event_moment (Notes moment notice))))))
    (λ name count is. tt) before

-- a game that the clerk brings is noted as loaded where its load is pending
noted-loaded : (t : Table) (load : Option ℕ) (notice : Notice) → noted_by t load notice ≡ noted.Loaded → is_some load ≡ true
noted-loaded t load (Saved table id) h = pick (table == t.latest && is_due t) h
  where
    pick : (b : Bool) → (if b then noted.Saved else noted.Nothing) ≡ noted.Loaded → is_some load ≡ true
    pick true e = cc
    pick false e = cc
noted-loaded t None (Loaded table id game) h = cc
noted-loaded t (Some asked) (Loaded table id game) h = refl

-- so it comes where nothing was started or loaded
pub noted-free : (s : Site) (past : List Happening) (moment : ℕ) (notice : Notice)
    → noted_by (table_noted s past moment notice) (pending_load (table_noted s past moment notice) past) notice ≡ noted.Loaded
    → AreApart past → (is_started (latest_items (record_of past)) ≡ false) × (is_some (loaded_game past) ≡ false)
noted-free s past moment notice which before = before.waits pending
  where
    late : List Item
    late = timeout (table_of s past) (table_of s past).game (event_moment (Notes moment notice))

    items : List Item
    items = latest_items (record_of past)

    n : ℕ
    n = opened_count (record_of past)

    kept : AreKept late items
    kept = are-kept late items (timeout-plain (table_of s past) (table_of s past).game (event_moment (Notes moment notice)))

    pending : is_some (pending_at (host items) n past items) ≡ true
    pending = pending_id-more (flat_map (λ (name : List ℕ). own_entries n name past) (option_to_list (host items))) late items
        (subst (λ (by : Option (List ℕ)). is_some (pending_at by n past (late ++ items)) ≡ true) kept.host
        (noted-loaded (table_noted s past moment notice) (pending_load (table_noted s past moment notice) past) notice which))

-- and then nothing is pending
note-apart : (s : Site) (events : List RoomEvent) (moment : ℕ) (notice : Notice)
    → noted_by (table_noted s (past_of s events) moment notice)
    (pending_load (table_noted s (past_of s events) moment notice) (past_of s events)) notice ≡ noted.Loaded
    → AreApart (past_of s events) → AreApart (happening s (past_of s events) (Notes moment notice) ∷ past_of s events)
note-apart s events moment notice which before = record {
  waits = λ h. absurd (never (host items) (moved h));
  apart = λ on. absurd (false-true (sym (noted-free s past moment notice which before).0 ∙ (sym started ∙ on)));
}
  where
    past : List Happening
    past = past_of s events

    late : List Item
    late = timeout (table_of s past) (table_of s past).game (event_moment (Notes moment notice))

    t : Table
    t = with_items late (table_of s past)

    items : List Item
    items = latest_items (record_of past)

    n : ℕ
    n = opened_count (record_of past)

    item : Item
    item = item_at (stamp_at t past (in_time moment)) (what.Loaded (notice_id notice))

    h : Happening
    h = happening s past (Notes moment notice)

    added : h.added ≡ item ∷ late
    added = rw which refl

    kept : AreKept late items
    kept = are-kept late items (timeout-plain (table_of s past) (table_of s past).game (event_moment (Notes moment notice)))

    all : List Item
    all = latest_items (record_of (h ∷ past))

    same-all : all ≡ item ∷ (late ++ items)
    same-all = ap (λ (xs : List Item). latest_items (xs ++ record_of past)) added ∙ latest_items-append (item ∷ late)
        (record_of past) kept.count

    started : is_started all ≡ is_started items
    started = ap is_started same-all ∙ kept.started

    no-table : (k a b : ℕ) → a ≡ k + b → k ≡ 0 → a ≡ b
    no-table k a b is none = omega (arith, is, none)

    same-n : opened_count (record_of (h ∷ past)) ≡ n
    same-n = no-table (opened_count (item ∷ late)) (opened_count (record_of (h ∷ past))) n
        (ap (λ (xs : List Item). opened_count (xs ++ record_of past)) added ∙ opened_count-append (item ∷ late) (record_of past)) kept.count

    at_list : List Item → ℕ → Type 0
    at_list xs k = is_some (pending_at (host xs) k (h ∷ past) xs) ≡ true

    moved : at_list all (opened_count (record_of (h ∷ past))) → is_some (pending_at (host items) n (h ∷ past) (item ∷ (late ++ items)))
        ≡ true
    moved p = subst (λ (by : Option (List ℕ)). is_some (pending_at by n (h ∷ past) (item ∷ (late ++ items))) ≡ true) kept.host
        (subst (λ (xs : List Item). at_list xs n) same-all (subst (λ (k : ℕ). at_list all k) same-n p))

    never : (by : Option (List ℕ)) → is_some (pending_at by n (h ∷ past) (item ∷ (late ++ items))) ≡ true → ⊥
    never None p = false-true p
    never (Some name) p =
        let own : List OwnEntry = own_entries n name past in
        let p2 : is_some (pending_id own (item ∷ (late ++ items))) ≡ true =
        subst (λ (xs : List OwnEntry). is_some (pending_id xs (item ∷ (late ++ items))) ≡ true) (append-nil own) p in
        let within : are_within (length (late ++ items)) own ≡ true =
        within-more (length items) (length (late ++ items)) own (omega (arith, length-append late items))
        (own_entries-within s events name) in
        none-some (pending_id own (item ∷ (late ++ items))) (pending_id-ended own item (late ++ items) within refl) p2

notes-apart : (s : Site) (events : List RoomEvent) (moment : ℕ) (notice : Notice) (which : Noted)
    → noted_by (table_noted s (past_of s events) moment notice)
    (pending_load (table_noted s (past_of s events) moment notice) (past_of s events)) notice ≡ which
    → AreApart (past_of s events) → AreApart (happening s (past_of s events) (Notes moment notice) ∷ past_of s events)
notes-apart s events moment notice noted.Loaded is before = note-apart s events moment notice is before
notes-apart s events moment notice noted.Nothing is before = plain-note s (past_of s events) moment notice [] (rw is refl) tt before
notes-apart s events moment notice noted.Saved is before =
    plain-note s (past_of s events) moment notice (item_at (note_stamp s (past_of s events) moment notice)
    (what.Saved (notice_id notice)) ∷ []) (rw is refl) (refl, tt) before
notes-apart s events moment notice noted.NoGame is before =
    plain-note s (past_of s events) moment notice (item_at (note_stamp s (past_of s events) moment notice)
    (what.NoGame (notice_id notice)) ∷ []) (rw is refl) (refl, tt) before

-- so it is in each room
pub past_of-apart : (s : Site) (events : List RoomEvent) → AreApart (past_of s events)
past_of-apart s [] = record { waits = λ h. absurd (false-true h); apart = λ on. absurd (false-true on) }
past_of-apart s (AsksTodo moment ∷ events) = todo-apart s (past_of s events) moment (past_of-apart s events)
past_of-apart s (Notes moment notice ∷ events) = notes-apart s events moment notice _ refl (past_of-apart s events)
past_of-apart s (Call e ∷ events) = pick (is_accepted (table_for s past e) (own_of s past e) e) refl (past_of-apart s events)
  where
    past : List Happening
    past = past_of s events

    pick : (b : Bool) → is_accepted (table_for s past e) (own_of s past e) e ≡ b → AreApart past → AreApart
        (happening s past (Call e) ∷ past)
    pick true taken before = taken-apart s events e e.command refl taken before
    pick false refused before = plain-apart s past e [] (rw refused refl) tt (rw refused refl) before
