-- Which row is the first of several groups, and whom does a pending load refuse?
use Rattle.std.proofs.Common.{◌≡◌, ℕ, Bool, true, false, List, [], ◌∷◌, ◌++◌, refl, ap, sym, ◌∙◌, arith, Option, Some, None}
use Rattle.std.specs.Prelude.{◌&&◌, ◌||◌, ◌==◌, is_none, nat_le, nat_lt, not}
use Rattle.std.specs.Option.{option_or}
use Rattle.hb_rules.specs.declared.acts.Rule.{Rule}
use Rattle.hb_review.specs.declared.error.ReviewError.{ReviewError}
use Rattle.hb_club.specs.declared.commands.Command.{Command}
use Rattle.hb_club.specs.declared.commands.Command.TheVariants as command
use Rattle.hb_club.specs.declared.commands.Entry.{Entry}
use Rattle.hb_club.specs.declared.replies.Refusal.TheVariants as refusal
use Rattle.hb_club.specs.declared.replies.Reply.{Reply}
use Rattle.hb_club.specs.CommandKinds.{is_for_beginning, is_for_host, is_open}
use Rattle.hb_club.specs.TableRefusals.{first_reply, number_limit, when}
use Rattle.hb_refusals.specs.declared.facts.Facts.{Facts}
use Rattle.hb_refusals.specs.FactRows.{end_rows_on, game_rows_on, opens_next_to, rows_on, seat_rows_on, serial_rows_on, start_rows_on}
use Rattle.hb_refusals.proofs.OptionLemmas.{option_or-assoc, option_or-some}

-- the first row of two groups is that of the first one, else that of the second
pub first_reply-append : (xs ys : List (Option Reply)) → first_reply (xs ++ ys) ≡ option_or (first_reply xs) (first_reply ys)
first_reply-append [] ys = refl
first_reply-append (None ∷ xs) ys = first_reply-append xs ys
first_reply-append (Some reply ∷ xs) ys = refl

-- and so it is of five
pub first_reply-groups : (a b c d e : List (Option Reply)) → first_reply (a ++ b ++ c ++ d ++ e)
    ≡ option_or (option_or (option_or (option_or (first_reply a) (first_reply b)) (first_reply c)) (first_reply d)) (first_reply e)
first_reply-groups a b c d e = simp (first_reply-append, option_or-assoc)

beginning-for-host : (c : Command) → is_for_beginning c ≡ true → (is_for_host c ≡ true) × (is_open c ≡ false)
beginning-for-host command.Start begins = (refl, refl)
beginning-for-host (command.Load id) begins = (refl, refl)
beginning-for-host (command.Open name options) begins = cc
beginning-for-host command.Sit begins = cc
beginning-for-host command.Rise begins = cc
beginning-for-host (command.Act a) begins = cc
beginning-for-host (command.Note order text) begins = cc
beginning-for-host command.Pause begins = cc
beginning-for-host command.Resume begins = cc
beginning-for-host command.Terminate begins = cc
beginning-for-host (command.Watch shadow) begins = cc
beginning-for-host command.Leave begins = cc
beginning-for-host (command.Go turn) begins = cc
beginning-for-host (command.Hypo a) begins = cc
beginning-for-host command.Undo begins = cc
beginning-for-host command.Close begins = cc
beginning-for-host command.Look begins = cc

above-or-below : (a b : ℕ) → (a == b) ≡ false → nat_lt a b ≡ false → nat_lt b a ≡ true
above-or-below a b other low = grind arith

-- at another table than the latest, a row by serial and number holds for all but an opening
serial_rows_on-elsewhere : (x : Facts) (kept : Option Reply) (count : ℕ) (e : Entry) → (e.table == x.latest) ≡ false
    → is_open e.command ≡ false → is_none (first_reply (serial_rows_on x kept count e)) ≡ false
serial_rows_on-elsewhere x kept count e elsewhere shut = by (nat_lt e.table x.latest) refl kept
  where
    rest : Option Reply → List (Option Reply)
    rest k = k ∷ when ((e.table == x.latest) && nat_le (number_limit e.command) count) refusal.RequestLimit
        ∷ when (((e.table == x.latest) && not x.standing) || (nat_lt x.latest e.table && not (opens_next_to x.latest e))) refusal.NoTable
        ∷ when (is_open e.command && ((e.table == x.latest) || x.standing)) refusal.TableOpen
        ∷ []

    by : (old : Bool) → nat_lt e.table x.latest ≡ old → (k : Option Reply)
        → is_none (first_reply (when (nat_lt e.table x.latest) (refusal.OldTable x.latest) ∷ rest k)) ≡ false
    by true old k = rw old refl
    by false late (Some reply) = rw late refl
    by false late None = rw (late, elsewhere, shut, above-or-below e.table x.latest elsewhere late) refl

-- a pending load refuses nothing to anybody but the host of the latest table
pub rows_on-loading : (x : Facts) (loading : Bool) (kept : Option Reply) (count : ℕ) (broken : Option Rule)
    (review : Option ReviewError) (e : Entry) → (e.table == x.latest && x.host) ≡ false
    → first_reply (rows_on (record x { loading = loading }) kept count broken review e)
    ≡ first_reply (rows_on x kept count broken review e)
rows_on-loading x loading kept count broken review e other = by (is_for_beginning e.command) refl (e.table == x.latest) refl
  where
    with_load : Facts
    with_load = record x { loading = loading }

    behind : Facts → List (Option Reply)
    behind y = seat_rows_on y e.command ++ end_rows_on y e.command ++ game_rows_on y broken review e.command

    by : (begins : Bool) → is_for_beginning e.command ≡ begins → (here : Bool) → (e.table == x.latest) ≡ here
        → first_reply (rows_on with_load kept count broken review e) ≡ first_reply (rows_on x kept count broken review e)
    by false begins here is = rw begins refl
    by true begins false elsewhere =
        let some : is_none (first_reply (serial_rows_on x kept count e)) ≡ false =
        serial_rows_on-elsewhere x kept count e elsewhere (beginning-for-host e.command begins).1 in
        first_reply-append (serial_rows_on with_load kept count e) (start_rows_on with_load e.command ++ behind with_load)
        ∙ option_or-some (first_reply (serial_rows_on x kept count e))
        (first_reply (start_rows_on with_load e.command ++ behind with_load)) some
        ∙ sym (first_reply-append (serial_rows_on x kept count e) (start_rows_on x e.command ++ behind x)
        ∙ option_or-some (first_reply (serial_rows_on x kept count e)) (first_reply (start_rows_on x e.command ++ behind x)) some)
    by true begins true here =
        let guest : x.host ≡ false = rw here at other in
        first_reply-append (serial_rows_on with_load kept count e) (start_rows_on with_load e.command ++ behind with_load)
        ∙ ap (λ (o : Option Reply). option_or (first_reply (serial_rows_on x kept count e)) o)
        (refused (behind with_load) (behind x) guest (beginning-for-host e.command begins).0)
        ∙ sym (first_reply-append (serial_rows_on x kept count e) (start_rows_on x e.command ++ behind x))
      where
        refused : (xs ys : List (Option Reply)) → x.host ≡ false → is_for_host e.command ≡ true
            → first_reply (start_rows_on with_load e.command ++ xs) ≡ first_reply (start_rows_on x e.command ++ ys)
        refused xs ys guest hosts = rw (hosts, guest) refl
