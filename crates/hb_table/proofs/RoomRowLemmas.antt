-- What does it say of an entry that no row of the table of refusals holds, and what does a row say that holds?
use Rattle.std.proofs.Common.{◌≡◌, ℕ, Bool, true, false, List, [], ◌∷◌, ◌++◌, refl, Some, None, Option, drop}
use Rattle.std.specs.Prelude.{◌&&◌, ◌||◌, ◌==◌, not, nat_le, nat_lt, is_some}
use Rattle.std.specs.List.{list_all}
use Rattle.hb_rules.specs.declared.acts.Rule.{Rule}
use Rattle.hb_rules.specs.declared.limits.TheConstants.{FEWEST_PLAYERS, MOST_PLAYERS}
use Rattle.hb_review.specs.declared.error.ReviewError.{ReviewError}
use Rattle.hb_club.specs.declared.commands.Command.{Command}
use Rattle.hb_club.specs.declared.commands.Entry.{Entry}
use Rattle.hb_club.specs.declared.replies.Refusal.{Refusal}
use Rattle.hb_club.specs.declared.replies.Refusal.TheVariants as refusal
use Rattle.hb_club.specs.declared.replies.Reply.{Reply}
use Rattle.hb_club.specs.declared.replies.Reply.TheVariants.{Done, Refused}
use Rattle.hb_club.specs.CommandKinds.{asked_shadow, is_act, is_close, is_for_beginning, is_for_game, is_for_gathering, is_for_host, is_open, is_pause, is_resume, is_review_step, is_sit, is_start}
use Rattle.hb_club.specs.OwnEntries.{is_done}
use Rattle.hb_club.specs.TableRefusals.{first_reply, for_some, number_limit, when}
use Rattle.hb_club.proofs.TableRefusalsLemmas.{one-more, refuse-append, refuses, refuses-for_some, refuses-when}
use Rattle.hb_refusals.specs.declared.facts.Facts.{Facts}
use Rattle.hb_refusals.specs.FactRows.{end_rows_on, game_rows_on, opens_next_to, rows_on, seat_rows_on, serial_rows_on, start_rows_on}

-- no row holds: what each of them says
pub record NoRow (x : Facts) (kept : Option Reply) (count : ℕ) (broken : Option Rule) (review : Option ReviewError) (e : Entry) : Type
    0 where
  pub not_old : nat_lt e.table x.latest ≡ false
  pub fresh : kept ≡ None
  pub few : (e.table == x.latest && nat_le (number_limit e.command) count) ≡ false
  pub there : ((e.table == x.latest && not x.standing) || (nat_lt x.latest e.table && not (opens_next_to x.latest e))) ≡ false
  pub opens : (is_open e.command && (e.table == x.latest || x.standing)) ≡ false
  pub host : (is_for_host e.command && not x.host) ≡ false
  pub gathering : (is_for_gathering e.command && (x.started || x.loaded)) ≡ false
  pub started : ((is_for_game e.command || is_some (asked_shadow e.command)) && not x.started) ≡ false
  pub full : (is_sit e.command && x.seats == MOST_PLAYERS) ≡ false
  pub two : (is_start e.command && nat_lt x.seats FEWEST_PLAYERS) ≡ false
  pub finished : ((is_review_step e.command && not x.ended && not x.loaded) || (is_close e.command && x.started && not x.ended)) ≡ false
  pub loading : (is_for_beginning e.command && x.loading) ≡ false
  pub clock : ((is_act e.command && x.paused) || (is_pause e.command && (not x.timed || x.paused || x.ended)) || (is_resume e.command
      && not x.paused)) ≡ false
  pub lawful : broken ≡ None
  pub reviewed : review ≡ None

-- no row of a list holds
abbrev AreNone : List (Option Reply) → Type 0
AreNone [] = Unit {0}
AreNone (row ∷ rows) = (row ≡ None) × AreNone rows

first-none : (rows : List (Option Reply)) → first_reply rows ≡ None → AreNone rows
first-none [] none = tt
first-none (None ∷ rows) none = (refl, first-none rows none)
first-none (Some reply ∷ rows) none = cc

when-none : (b : Bool) (why : Refusal) → when b why ≡ None → b ≡ false
when-none false why none = refl
when-none true why none = cc

for_some-none : {A : Type 0} (refuses : A → Refusal) (o : Option A) → for_some refuses o ≡ None → o ≡ None
for_some-none refuses None none = refl
for_some-none refuses (Some cause) none = cc

-- where no row holds, none of them does
pub rows_on-none : (x : Facts) (kept : Option Reply) (count : ℕ) (broken : Option Rule) (review : Option ReviewError) (e : Entry)
    → first_reply (rows_on x kept count broken review e) ≡ None → NoRow x kept count broken review e
rows_on-none x kept count broken review e none =
    let t0 = first-none (rows_on x kept count broken review e) none in
    let t1 = t0.1 in
    let t2 = t1.1 in
    let t3 = t2.1 in
    let t4 = t3.1 in
    let t5 = t4.1 in
    let t6 = t5.1 in
    let t7 = t6.1 in
    let t8 = t7.1 in
    let t9 = t8.1 in
    let t10 = t9.1 in
    let t11 = t10.1 in
    let t12 = t11.1 in
    let t13 = t12.1 in
    let t14 = t13.1 in
    let t15 = t14.1 in
    let t16 = t15.1 in
    let t17 = t16.1 in
    let t18 = t17.1 in
    let t19 = t18.1 in
    let t20 = t19.1 in
    let t21 = t20.1 in
    let t22 = t21.1 in
    let t23 = t22.1 in
    let t24 = t23.1 in
    let t25 = t24.1 in
    record {
      not_old = when-none _ _ t0.0;
      fresh = t1.0;
      few = when-none _ _ t2.0;
      there = when-none _ _ t3.0;
      opens = when-none _ _ t4.0;
      host = when-none _ _ t5.0;
      gathering = when-none _ _ t6.0;
      started = when-none _ _ t7.0;
      full = when-none _ _ t8.0;
      two = when-none _ _ t15.0;
      finished = when-none _ _ t16.0;
      loading = when-none _ _ t18.0;
      clock = when-none _ _ t21.0;
      lawful = for_some-none refusal.Rule broken t22.0;
      reviewed = for_some-none refusal.Review review t25.0;
    }

-- of rows that refuse, the first that holds is no Done
first-refuses : (rows : List (Option Reply)) (reply : Reply) → list_all refuses rows ≡ true → first_reply rows ≡ Some reply
    → is_done reply ≡ false
first-refuses [] reply all some = cc
first-refuses (None ∷ rows) reply all some = first-refuses rows reply all some
first-refuses (Some Done ∷ rows) reply all some = cc
first-refuses (Some (Refused why) ∷ rows) Done all some = cc
first-refuses (Some (Refused why) ∷ rows) (Refused other) all some = refl

serial-refuse : (x : Facts) (count : ℕ) (e : Entry) → list_all refuses (serial_rows_on x None count e) ≡ true
serial-refuse x count e =
    one-more _ (drop 1 (serial_rows_on x None count e)) (refuses-when _ _)
    (one-more None (drop 2 (serial_rows_on x None count e)) refl
    (one-more _ (drop 3 (serial_rows_on x None count e)) (refuses-when _ _)
    (one-more _ (drop 4 (serial_rows_on x None count e)) (refuses-when _ _)
    (one-more _ [] (refuses-when _ _) refl))))

start-refuse : (x : Facts) (c : Command) → list_all refuses (start_rows_on x c) ≡ true
start-refuse x c =
    one-more _ (drop 1 (start_rows_on x c)) (refuses-when _ _)
    (one-more _ (drop 2 (start_rows_on x c)) (refuses-when _ _)
    (one-more _ [] (refuses-when _ _) refl))

seat-refuse : (x : Facts) (c : Command) → list_all refuses (seat_rows_on x c) ≡ true
seat-refuse x c =
    one-more _ (drop 1 (seat_rows_on x c)) (refuses-when _ _)
    (one-more _ (drop 2 (seat_rows_on x c)) (refuses-when _ _)
    (one-more _ (drop 3 (seat_rows_on x c)) (refuses-when _ _)
    (one-more _ (drop 4 (seat_rows_on x c)) (refuses-when _ _)
    (one-more _ (drop 5 (seat_rows_on x c)) (refuses-when _ _)
    (one-more _ (drop 6 (seat_rows_on x c)) (refuses-when _ _)
    (one-more _ (drop 7 (seat_rows_on x c)) (refuses-when _ _)
    (one-more _ [] (refuses-when _ _) refl)))))))

end-refuse : (x : Facts) (c : Command) → list_all refuses (end_rows_on x c) ≡ true
end-refuse x c =
    one-more _ (drop 1 (end_rows_on x c)) (refuses-when _ _)
    (one-more _ (drop 2 (end_rows_on x c)) (refuses-when _ _)
    (one-more _ [] (refuses-when _ _) refl))

game-refuse : (x : Facts) (broken : Option Rule) (review : Option ReviewError) (c : Command)
    → list_all refuses (game_rows_on x broken review c) ≡ true
game-refuse x broken review c =
    one-more _ (drop 1 (game_rows_on x broken review c)) (refuses-when _ _)
    (one-more _ (drop 2 (game_rows_on x broken review c)) (refuses-when _ _)
    (one-more _ (drop 3 (game_rows_on x broken review c)) (refuses-when _ _)
    (one-more _ (drop 4 (game_rows_on x broken review c)) (refuses-for_some refusal.Rule broken)
    (one-more _ (drop 5 (game_rows_on x broken review c)) (refuses-when _ _)
    (one-more _ (drop 6 (game_rows_on x broken review c)) (refuses-when _ _)
    (one-more _ [] (refuses-for_some refusal.Review review) refl))))))

-- so a row that holds, where nothing is kept for the number, refuses
pub rows_on-refuse : (x : Facts) (count : ℕ) (broken : Option Rule) (review : Option ReviewError) (e : Entry) (reply : Reply)
    → first_reply (rows_on x None count broken review e) ≡ Some reply → is_done reply ≡ false
rows_on-refuse x count broken review e reply some = first-refuses (rows_on x None count broken review e) reply all some
  where
    all : list_all refuses (rows_on x None count broken review e) ≡ true
    all = refuse-append (serial_rows_on x None count e ++ start_rows_on x e.command ++ seat_rows_on x e.command ++ end_rows_on x e.command)
        (game_rows_on x broken review e.command)
        (refuse-append (serial_rows_on x None count e ++ start_rows_on x e.command ++ seat_rows_on x e.command) (end_rows_on x e.command)
        (refuse-append (serial_rows_on x None count e ++ start_rows_on x e.command) (seat_rows_on x e.command)
        (refuse-append (serial_rows_on x None count e) (start_rows_on x e.command) (serial-refuse x count e) (start-refuse x e.command))
        (seat-refuse x e.command)) (end-refuse x e.command)) (game-refuse x broken review e.command)
