-- The replay that the checks find in their order is the one that the value is by its cases.
use Rattle.std.proofs.Common.{◌≡◌, ℕ, List, length, cond, Result, Ok, Err, Bool, true, false, refl, arith, sym}
use Rattle.std.specs.Prelude.{IfOk, codes, nat_lt, ◌&&◌}
use Rattle.std.specs.declared.option.Option.{Option}
use Rattle.std.specs.declared.option.Option.TheVariants.{None, Some}
use Rattle.serde_json.specs.Data.{Data, object, array, Members, no_members}
use Rattle.serde_json.specs.Find.{get, get_member, as_str, as_bool, as_object}
use Rattle.hb_rules.specs.Start.{are_options, started}
use Rattle.hb_replay.specs.declared.place.Place.{Place}
use Rattle.hb_replay.specs.declared.place.Part.TheVariants as part
use Rattle.hb_replay.specs.declared.written.WrittenOptions.{WrittenOptions}
use Rattle.hb_replay.specs.declared.written.WrittenReplay.{WrittenReplay}
use Rattle.hb_replay.specs.declared.errors.ReplayError.{ReplayError}
use Rattle.hb_replay.specs.declared.errors.ReplayError.TheVariants as fault
use Rattle.hb_replay.specs.Contents.{Contents}
use Rattle.hb_replay.specs.Places.{part_place, option_place}
use Rattle.hb_json.specs.Results.{◌>>=◌, found_or}
use Rattle.hb_json.specs.declared.modes.OptionFault.{OptionFault}
use Rattle.hb_json.specs.declared.modes.OptionFault.TheVariants as mode
use Rattle.hb_json.specs.declared.modes.WrittenModes.{WrittenModes}
use Rattle.hb_json.specs.declared.option_keys.OptionKey.{OptionKey}
use Rattle.hb_json.specs.declared.option_keys.OptionKey.TheVariants as option
use Rattle.hb_json.specs.OptionKey.{option_name, first_other}
use Rattle.hb_json.specs.JsonReading.{present, whole_of}
use Rattle.hb_json.specs.WrittenModes.{option_in, variant_in, starting_in, flag_in, modes_in, modes_fault, options_with}
use Rattle.hb_replay.specs.Shape.{option_shape, options_in, options_of, list_at, players_of, cards_of, actions_of, player_at, card_at, action_at, notes_of, shape_of}
use Rattle.hb_replay.specs.WrittenReplay.{game_options, contents_of}
use Rattle.hb_replay.specs.Refusals.{game_in, shaped, replay_of}
use Rattle.hb_replay.specs.ReplayReading.{ReadsAs, Gives}
use Rattle.hb_replay.specs.Says.{IsText, IsWhole, IsFlag, IsCard, IsAction, SaysOption, SaysOptions, AreOptions, Says}
use Rattle.hb_replay.specs.ReplayOf.{ReplayOf}
use Rattle.hb_rules.proofs.IsDeal.{deck-tests, deck-is}
use Rattle.hb_replay.proofs.Found.{err-is_ok, same-ok, bind-ok, Allowed, Found, game_in-found, game_in-gives}
use Rattle.hb_replay.proofs.LeadsLemmas.{leads-played, played-leads}
use Rattle.hb_replay.proofs.ValueKinds.{object-is, object-there}
use Rattle.hb_replay.proofs.ActionShapes.{action-to, action-from}
use Rattle.hb_replay.proofs.SaysLemmas.{list-to, list-from, player-to, player-from, card-to, card-from, or-to, or-from, text-to, text-from, whole-to, whole-from, flag-to, flag-from, notes-to, notes-from, others-to, others-from}

-- an option of an object
text-option : (key : OptionKey) (default s : List ℕ) (ms : Members) → SaysOption key default IsText ms s
    → option_in as_str key default (object ms) ≡ Ok s
text-option key default s ms h =
    or-to default (λ v. found_or key (as_str v)) IsText (text-to key) (present (get_member (option_name key) ms)) s h

whole-option : (key : OptionKey) (default n : ℕ) (ms : Members) → SaysOption key default IsWhole ms n
    → option_in whole_of key default (object ms) ≡ Ok n
whole-option key default n ms h =
    or-to default (λ v. found_or key (whole_of v)) IsWhole (whole-to key) (present (get_member (option_name key) ms)) n h

flag-option : (key : OptionKey) (b : Bool) (ms : Members) → SaysOption key false IsFlag ms b → flag_in key (object ms) ≡ Ok b
flag-option key b ms h = or-to false (λ v. found_or key (as_bool v)) IsFlag (flag-to key) (present (get_member (option_name key) ms)) b h

option-text : (key : OptionKey) (default s : List ℕ) (ms : Members) → option_in as_str key default (object ms) ≡ Ok s
    → SaysOption key default IsText ms s
option-text key default s ms h =
    or-from default (λ v. found_or key (as_str v)) IsText (text-from key) (present (get_member (option_name key) ms)) s h

option-whole : (key : OptionKey) (default n : ℕ) (ms : Members) → option_in whole_of key default (object ms) ≡ Ok n
    → SaysOption key default IsWhole ms n
option-whole key default n ms h =
    or-from default (λ v. found_or key (whole_of v)) IsWhole (whole-from key) (present (get_member (option_name key) ms)) n h

option-flag : (key : OptionKey) (b : Bool) (ms : Members) → flag_in key (object ms) ≡ Ok b → SaysOption key false IsFlag ms b
option-flag key b ms h = or-from false
    (λ v. found_or key (as_bool v)) IsFlag (flag-from key) (present (get_member (option_name key) ms)) b h

shape-ok : {X : Type 0} (m : Result X OptionKey) (x : X) → option_shape m ≡ Ok x → m ≡ Ok x
shape-ok (Ok y) x h = let e : y ≡ x = same-ok y x h in rw e refl
shape-ok (Err key) x h = absurd (err-is_ok (option_place key) x h)

-- the options of an object
object-to : (ms : Members) (o : WrittenOptions) → SaysOptions ms o → options_in (object ms) ≡ Ok o
unfolding options_in
object-to ms o h = rw (
  text-option option.Variant (codes "No Variant") o.variant ms h.variant,
  whole-option option.StartingPlayer 0 o.starting ms h.starting,
  flag-option option.EmptyClues o.modes.empty_clues ms h.empty_clues,
  flag-option option.OneExtraCard o.modes.extra_card ms h.extra_card,
  flag-option option.OneLessCard o.modes.less_card ms h.less_card,
  flag-option option.Timed o.modes.timed ms h.timed,
  whole-option option.TimeBase 120 o.modes.base_s ms h.base_s,
  whole-option option.TimePerTurn 20 o.modes.per_turn_s ms h.per_turn_s,
  others-to ms o.other h.other,
) refl

record SaysModes (ms : Members) (m : WrittenModes) : Type 0 where
  empty_clues : SaysOption option.EmptyClues false IsFlag ms m.empty_clues
  extra_card : SaysOption option.OneExtraCard false IsFlag ms m.extra_card
  less_card : SaysOption option.OneLessCard false IsFlag ms m.less_card
  timed : SaysOption option.Timed false IsFlag ms m.timed
  base_s : SaysOption option.TimeBase 120 IsWhole ms m.base_s
  per_turn_s : SaysOption option.TimePerTurn 20 IsWhole ms m.per_turn_s

modes-from : (ms : Members) (m : WrittenModes) → modes_in (object ms) ≡ Ok m → SaysModes ms m
modes-from ms m h =
    bind-ok (flag_in option.EmptyClues (object ms)) _ m h (λ empty_clues e3 h3.
    bind-ok (flag_in option.OneExtraCard (object ms)) _ m h3 (λ extra_card e4 h4.
    bind-ok (flag_in option.OneLessCard (object ms)) _ m h4 (λ less_card e5 h5.
    bind-ok (flag_in option.Timed (object ms)) _ m h5 (λ timed e6 h6.
    bind-ok (option_in whole_of option.TimeBase 120 (object ms)) _ m h6 (λ base_s e7 h7.
    bind-ok (option_in whole_of option.TimePerTurn 20 (object ms)) _ m h7 (λ per_turn_s e8 h8.
    let all : WrittenModes = record {
      empty_clues = empty_clues;
      extra_card = extra_card;
      less_card = less_card;
      timed = timed;
      base_s =
          base_s;
      per_turn_s = per_turn_s;
    } in
    let e : m ≡ all = sym (same-ok all m h8) in
    rw e (record {
      empty_clues = option-flag option.EmptyClues empty_clues ms e3;
      extra_card = option-flag option.OneExtraCard extra_card ms e4;
      less_card = option-flag option.OneLessCard less_card ms e5;
      timed = option-flag option.Timed timed ms e6;
      base_s = option-whole option.TimeBase 120 base_s ms e7;
      per_turn_s = option-whole option.TimePerTurn 20 per_turn_s ms e8;
    })))))))

object-from : (ms : Members) (w : WrittenOptions) → options_in (object ms) ≡ Ok w → SaysOptions ms w
unfolding options_in
object-from ms w h =
    bind-ok (option_shape (variant_in (object ms))) _ w h (λ variant e1 h1.
    bind-ok (option_shape (starting_in (object ms))) _ w h1 (λ starting e2 h2.
    bind-ok (option_shape (modes_in (object ms))) _ w h2 (λ modes e3 h3.
    let all : WrittenOptions = record { variant = variant; starting = starting; modes = modes; other = first_other ms } in
    let e : w ≡ all = sym (same-ok all w h3) in
    let m = modes-from ms modes (shape-ok (modes_in (object ms)) modes e3) in
    rw e (record {
      variant = option-text option.Variant (codes "No Variant") variant ms (shape-ok (variant_in (object ms)) variant e1);
      starting = option-whole option.StartingPlayer 0 starting ms (shape-ok (starting_in (object ms)) starting e2);
      empty_clues = m.empty_clues;
      extra_card = m.extra_card;
      less_card = m.less_card;
      timed = m.timed;
      base_s = m.base_s;
      per_turn_s = m.per_turn_s;
      other = others-from ms;
    }))))

-- the options, which may be absent
options-to : (found : Option Data) (o : WrittenOptions) → AreOptions (present found) o → options_of found ≡ Ok o
options-to found o h = pick (present found) refl
  where
    pick : (p : Option Data) → present found ≡ p → options_of found ≡ Ok o
    pick None e = rw e (object-to no_members o (rw e at h))
    pick (Some d) e =
        let some : AreOptions (Some d) o = rw e at h in
        rw (e, some.1) (object-to some.0 o some.2)

options-from : (found : Option Data) (o : WrittenOptions) → options_of found ≡ Ok o → AreOptions (present found) o
unfolding options_in
options-from found o h = pick (present found) refl
  where
    pick : (p : Option Data) → present found ≡ p → AreOptions (present found) o
    pick None e = rw e (object-from no_members o (rw e at h))
    pick (Some d) e = rw e (within (as_object d) refl)
      where
        read : options_in d ≡ Ok o
        read = rw e at h

        within : (m : Option Members) → as_object d ≡ m → AreOptions (Some d) o
        within (Some ms) t = let is : d ≡ object ms = object-is d ms t in (ms, is, object-from ms o (rw is at read))
        within None t = absurd (err-is_ok (part_place part.Options) o (rw t at read))

-- no option of a game that may start is refused, and what is not refused may start
no-fault : (n starting base turn : ℕ) (e x l t : Bool) →
    (let m : WrittenModes = record { empty_clues = e; extra_card = x; less_card = l; timed = t; base_s = base; per_turn_s = turn } in
    are_options n (options_with starting m) ≡ true → (nat_lt starting n ≡ true) × (modes_fault m ≡ None))
no-fault n starting base turn e x l true h = (grind arith, grind arith)
no-fault n starting base turn e x l false h = (grind arith, grind arith)

-- no option of a game that may start is refused
pub are_options-allowed : (n : ℕ) (w : WrittenOptions) → are_options n (game_options w) ≡ true → w.other ≡ None → Allowed n w
are_options-allowed n w h none =
    let m : WrittenModes = w.modes in
    let both = no-fault n w.starting m.base_s m.per_turn_s m.empty_clues m.extra_card m.less_card m.timed h in
    record { seat = both.0; modes = both.1; other = none }

cond-chain : (a b c : Bool) (x y z : OptionFault) → cond a (Some x) (cond b (Some y) (cond c (Some z) None)) ≡ None
    → (a ≡ false) × (b ≡ false) × (c ≡ false)
cond-chain a b c x y z h = grind arith

modes_fault-none : (n starting base turn : ℕ) (e x l t : Bool) → nat_lt starting n ≡ true → (x && l) ≡ false
    → (t && nat_lt 1000000 base) ≡ false
    → (t && nat_lt 1000000 turn) ≡ false
    → (let m : WrittenModes = record { empty_clues = e; extra_card = x; less_card = l; timed = t; base_s = base; per_turn_s = turn } in
    are_options n (options_with starting m) ≡ true)
modes_fault-none n starting base turn e x l true a b c d = grind arith
modes_fault-none n starting base turn e x l false a b c d = grind arith

-- options that are not refused may start a game
pub may-start : (n : ℕ) (w : WrittenOptions) → Allowed n w → are_options n (game_options w) ≡ true
may-start n w h =
    let m : WrittenModes = w.modes in
    let all = cond-chain (m.extra_card && m.less_card) (m.timed && nat_lt 1000000 m.base_s)
    (m.timed && nat_lt 1000000 m.per_turn_s) mode.OneLessCard mode.TimeBase mode.TimePerTurn h.modes in
    modes_fault-none n w.starting m.base_s m.per_turn_s m.empty_clues m.extra_card m.less_card m.timed h.seat all.0 all.1 all.2

-- what is shaped was found
pub shaped-ok : (r : Result WrittenReplay Place) (w : WrittenReplay) → shaped r ≡ Ok w → r ≡ Ok w
shaped-ok (Ok v) w h = let e : v ≡ w = same-ok v w h in rw e refl
shaped-ok (Err place) w h = absurd (err-is_ok (fault.Shape place) w h)

-- the steps find what a value of the right shape says
pub shape-to : (d : Data) (w : WrittenReplay) → Says d w → shape_of d ≡ Ok w
unfolding shape_of
shape-to d w h =
    let there = object-there (codes "players") d (array h.players.0) h.players.1 in
    rw (
      there.1,
      list-to player_at IsText player-to (part_place part.Players) (codes "players") d w.players h.players,
      list-to card_at IsCard card-to (part_place part.Deck) (codes "deck") d w.deck h.deck,
      list-to action_at IsAction action-to (part_place part.Actions) (codes "actions") d w.actions h.actions,
      options-to (get (codes "options") d) w.options h.options,
      notes-to (get (codes "notes") d) w.notes h.notes,
    ) refl

-- what the steps find is what the value says
pub shape-from : (d : Data) (w : WrittenReplay) → shape_of d ≡ Ok w → Says d w
unfolding shape_of
shape-from d w h =
    bind-ok (found_or (part_place part.Root) (as_object d)) _ w h (λ ms there h0.
    bind-ok (list_at (part_place part.Players) (get (codes "players") d) >>= players_of) _ w h0 (λ players e1 h1.
    bind-ok (list_at (part_place part.Deck) (get (codes "deck") d) >>= cards_of) _ w h1 (λ deck e2 h2.
    bind-ok (list_at (part_place part.Actions) (get (codes "actions") d) >>= actions_of) _ w h2 (λ actions e3 h3.
    bind-ok (options_of (get (codes "options") d)) _ w h3 (λ options e4 h4.
    bind-ok (notes_of (get (codes "notes") d)) _ w h4 (λ notes e5 h5.
    let all : WrittenReplay = record { players = players; deck = deck; actions = actions; options = options; notes = notes } in
    let e : w ≡ all = sym (same-ok all w h5) in
    rw e (record {
      players = list-from player_at IsText player-from (part_place part.Players) (codes "players") d players e1;
      deck = list-from card_at IsCard card-from (part_place part.Deck) (codes "deck") d deck e2;
      actions = list-from action_at IsAction action-from (part_place part.Actions) (codes "actions") d actions e3;
      options = options-from (get (codes "options") d) options e4;
      notes = notes-from (get (codes "notes") d) notes e5;
    })))))))

-- from the cases of the value to what the checks find
pub replay-to : (d : Data) (r : Contents) → ReplayOf d r → replay_of d ≡ Ok r
replay-to d r h =
    let w = h.written in
    let can = h.can in
    let all : Found w h.game = record {
      players = can.players;
      variant = h.variant;
      named = h.named;
      options = are_options-allowed (length w.players) w.options can.options h.understood;
      deck = deck-tests h.variant w.deck can.full;
      acts = leads-played 0 (started h.variant (game_options w.options) (length w.players) w.deck) w.actions h.game h.acts;
      notes = h.few;
    } in
    rw h.is (rw (shape-to d w h.says, game_in-gives w h.game all) refl)

-- and back
pub replay-from : (d : Data) (r : Contents) → replay_of d ≡ Ok r → ReplayOf d r
replay-from d r h =
    bind-ok (shaped (shape_of d)) _ r h (λ w e1 h1.
    bind-ok (game_in w) _ r h1 (λ q e2 h2.
    let all = game_in-found w q e2 in
    record {
      written = w;
      says = shape-from d w (shaped-ok (shape_of d) w e1);
      variant = all.variant;
      named = all.named;
      understood = all.options.other;
      can = record {
        players = all.players;
        options = may-start
            (length w.players) w.options all.options;
        full = deck-is all.variant w.deck all.deck;
      };
      game = q;
      acts = played-leads 0 (started all.variant (game_options w.options) (length w.players) w.deck) w.actions q all.acts;
      few = all.notes;
      is = sym (same-ok (contents_of w q) r h2);
    }))

-- what is read of bytes is the replay that their value is
pub read-replay : (bytes : List ℕ) (d : Data) (result : Result Contents ReplayError) → ReadsAs bytes d → Gives result (replay_of d)
    → IfOk result (λ r. (e : Data) × ReadsAs bytes e × ReplayOf e r)
read-replay bytes d (Ok r) reads given = (d, reads, replay-from d r given)
read-replay bytes d (Err e) reads given = tt
