-- Is the reply that is read off a view the reply by the facts of the table? Yes: each row of the table of refusals says the same of
-- both, or stands behind a row that holds.
use Rattle.std.proofs.Common.{◌≡◌, ℕ, ◌+◌, Bool, true, false, cond, List, [], ◌∷◌, ◌++◌, refl, ap, sym, ◌∙◌, length, drop, Some, None, Option}
use Rattle.std.specs.Prelude.{◌&&◌, ◌||◌, not, is_some, bytes_eq, unwrap_or, if◌then◌else◌, IsTrue}
use Rattle.std.specs.List.{list_any}
use Rattle.hb_rules.specs.declared.acts.Action.{Action}
use Rattle.hb_rules.specs.declared.acts.EndHow.{EndHow}
use Rattle.hb_rules.specs.declared.limits.TheConstants.{MOST_PLAYERS}
use Rattle.hb_rules.specs.declared.setups.Setup.{Setup}
use Rattle.hb_seen.specs.SeenSetup.{can_tell}
use Rattle.hb_seen.proofs.CanTellLemmas.{can_tell-own}
use Rattle.hb_club.specs.declared.commands.Command.{Command}
use Rattle.hb_club.specs.declared.commands.Command.TheVariants as command
use Rattle.hb_club.specs.declared.commands.Entry.{Entry}
use Rattle.hb_club.specs.declared.items.Item.{Item}
use Rattle.hb_club.specs.declared.replies.Refusal.{Refusal}
use Rattle.hb_club.specs.declared.replies.Refusal.TheVariants as refusal
use Rattle.hb_club.specs.declared.replies.Reply.{Reply}
use Rattle.hb_club.specs.declared.replies.Reply.TheVariants.{Done}
use Rattle.hb_club.specs.CommandKinds.{asked_action, is_for_seated, is_look}
use Rattle.hb_club.specs.EndedReplays.{Finished}
use Rattle.hb_club.specs.OwnEntries.{OwnEntry}
use Rattle.hb_club.specs.RoomEvents.{Site}
use Rattle.hb_club.specs.Seating.{place_from, players, seated_names, shadow_of, viewer_by, viewer_of, watchers}
use Rattle.hb_club.specs.SeenGames.{IsSeenGame}
use Rattle.hb_club.specs.SeenTable.{answer, seen_game}
use Rattle.hb_club.specs.Table.{Table, deck_size, player_count, seat_of}
use Rattle.hb_club.specs.TableInvariant.{IsTable}
use Rattle.hb_club.specs.TableItems.{acts, is_started}
use Rattle.hb_club.specs.TableRefusals.{act_rule, end_rows, first_reply, game_rows, own_for, reply_by, reply_on, seat_rows, serial_rows, start_rows, when}
use Rattle.hb_club.specs.TableReview.{game_end}
use Rattle.hb_club.specs.Views.{blind_of, view_on}
use Rattle.hb_club.proofs.SeenGameLemmas.{game_calls-seen, loaded-seen, reviewed_game-same, seen_game-seen}

-- what a row reads of the game

game_end-seen : (blind : ℕ) (items : List Item) (h g : Option Setup) → IsSeenGame blind items h g
    → is_some (game_end h items) ≡ is_some (game_end g items)
game_end-seen blind items None None is = refl
game_end-seen blind items (Some h) (Some g) is = ap (λ (how : Option EndHow). is_some how) (is.stands [] (acts items) refl).end
game_end-seen blind items (Some h) None is = absurd is
game_end-seen blind items None (Some g) is = absurd is

deck_size-seen : (blind : ℕ) (items : List Item) (h g : Option Setup) → IsSeenGame blind items h g → deck_size h ≡ deck_size g
deck_size-seen blind items None None is = refl
deck_size-seen blind items (Some h) (Some g) is = is.size
deck_size-seen blind items (Some h) None is = absurd is
deck_size-seen blind items None (Some g) is = absurd is

player_count-seen : (blind : ℕ) (items : List Item) (h g : Option Setup) → IsSeenGame blind items h g → player_count h ≡ player_count g
player_count-seen blind items None None is = refl
player_count-seen blind items (Some h) (Some g) is = is.count
player_count-seen blind items (Some h) None is = absurd is
player_count-seen blind items None (Some g) is = absurd is

act_rule-seen : (blind : ℕ) (items : List Item) (h g : Option Setup) → IsSeenGame blind items h g → (seat : ℕ) (o : Option Action)
    → (is_started items ≡ true → (a : Action) → o ≡ Some a → IsTrue (can_tell blind seat a))
    → act_rule h (acts items) seat o ≡ act_rule g (acts items) seat o
act_rule-seen blind items None None is seat o tell = refl
act_rule-seen blind items (Some h) (Some g) is seat None tell = refl
act_rule-seen blind items (Some h) (Some g) is seat (Some a) tell = is.rules seat a (tell is.started a refl)
act_rule-seen blind items (Some h) None is seat o tell = absurd is
act_rule-seen blind items None (Some g) is seat o tell = absurd is

-- a name that stands in a list has a place there
place_from-some : (k : ℕ) (name : List ℕ) (names : List (List ℕ)) → list_any (bytes_eq name) names ≡ true
    → is_some (place_from k name names) ≡ true
place_from-some k name [] there = cc
place_from-some k name (other ∷ names) there = pick (bytes_eq name other) there (place_from-some (k + 1) name names)
  where
    pick : (b : Bool) → (b || list_any (bytes_eq name) names) ≡ true
        → (list_any (bytes_eq name) names ≡ true → is_some (place_from (k + 1) name names) ≡ true)
        → is_some (cond b (Some k) (place_from (k + 1) name names)) ≡ true
    pick true there ih = refl
    pick false there ih = ih there

can_tell-place : (p : Option ℕ) (watch : Option (Option ℕ)) (count : ℕ) (a : Action) → is_some p ≡ true
    → IsTrue (can_tell (blind_of (viewer_by p watch) count) (unwrap_or p MOST_PLAYERS) a)
can_tell-place None watch count a there = cc
can_tell-place (Some seat) watch count a there = can_tell-own seat a

-- a player can tell of each of its own acts
can_tell-player : (s : Site) (t : Table) (member : List ℕ) → IsTable s t → is_started t.items ≡ true
    → list_any (bytes_eq member) (seated_names t.items) ≡ true → (a : Action)
    → IsTrue (can_tell (blind_of (viewer_of t.items member) (length (players t.items))) (seat_of t member) a)
can_tell-player s t member is started there a =
    can_tell-place (place_from 0 member (players t.items)) (shadow_of member (watchers t.items)) (length (players t.items)) a
    (place_from-some 0 member (players t.items) (ap (list_any (bytes_eq member)) (sym (is.seats started)) ∙ there))

-- only who is seated acts
asks-seated : (c : Command) (b : Bool) → (is_for_seated c && not b) ≡ false → (a : Action) → asked_action c ≡ Some a → b ≡ true
asks-seated (command.Act action) true h a e = refl
asks-seated (command.Act action) false h a e = cc
asks-seated command.Terminate true h a e = refl
asks-seated command.Terminate false h a e = cc
asks-seated (command.Open name options) b h a e = cc
asks-seated command.Sit b h a e = cc
asks-seated command.Rise b h a e = cc
asks-seated command.Start b h a e = cc
asks-seated (command.Note order text) b h a e = cc
asks-seated command.Pause b h a e = cc
asks-seated command.Resume b h a e = cc
asks-seated (command.Watch shadow) b h a e = cc
asks-seated command.Leave b h a e = cc
asks-seated (command.Load id) b h a e = cc
asks-seated (command.Go turn) b h a e = cc
asks-seated (command.Hypo action) b h a e = cc
asks-seated command.Undo b h a e = cc
asks-seated command.Close b h a e = cc
asks-seated command.Look b h a e = cc

-- the table with another game
abbrev with_game : Table → Option Setup → Table
with_game t h = record t { game = h }

end_rows-same : (t : Table) (h : Option Setup) (own : List OwnEntry) (e : Entry)
    → is_some (game_end h t.items) ≡ is_some (game_end t.game t.items) → end_rows (with_game t h) own e ≡ end_rows t own e
end_rows-same t h own e same = rw same refl

game_rows-same : (blind : ℕ) (t : Table) (h : Option Setup) (e : Entry) → IsSeenGame blind t.items h t.game
    → act_rule h (acts t.items) (seat_of t e.member) (asked_action e.command)
    ≡ act_rule t.game (acts t.items) (seat_of t e.member) (asked_action e.command)
    → game_rows (with_game t h) e ≡ game_rows t e
game_rows-same blind t h e is rules = rw (
  game_end-seen blind t.items h t.game is,
  deck_size-seen blind t.items h t.game is,
  game_calls-seen blind t.items h t.game is,
  rules,
  player_count-seen blind t.items h t.game is,
  reviewed_game-same blind t.items [] t.items t.loaded h t.game is refl,
) refl

-- rows behind a row that holds do not matter
first_reply-some : (xs ys zs : List (Option Reply)) → list_any (λ (row : Option Reply). is_some row) xs ≡ true
    → first_reply (xs ++ ys) ≡ first_reply (xs ++ zs)
first_reply-some [] ys zs h = cc
first_reply-some (Some reply ∷ xs) ys zs h = refl
first_reply-some (None ∷ xs) ys zs h = first_reply-some xs ys zs h

third-holds : (a b : Option Reply) (t : Bool) (why : Refusal) (rest : List (Option Reply)) → t ≡ true
    → list_any (λ (row : Option Reply). is_some row) (a ∷ b ∷ when t why ∷ rest) ≡ true
third-holds None None t why rest h = rw h refl
third-holds None (Some reply) t why rest h = refl
third-holds (Some reply) b t why rest h = refl

any-left : (xs ys : List (Option Reply)) → list_any (λ (row : Option Reply). is_some row) xs ≡ true
    → list_any (λ (row : Option Reply). is_some row) (xs ++ ys) ≡ true
any-left [] ys h = cc
any-left (Some reply ∷ xs) ys h = refl
any-left (None ∷ xs) ys h = any-left xs ys h

any-right : (xs ys : List (Option Reply)) → list_any (λ (row : Option Reply). is_some row) ys ≡ true
    → list_any (λ (row : Option Reply). is_some row) (xs ++ ys) ≡ true
any-right [] ys h = h
any-right (Some reply ∷ xs) ys h = refl
any-right (None ∷ xs) ys h = any-right xs ys h

-- the member is not seated, and asks for what only the seated may
abbrev is_unseated : Table → Entry → Bool
is_unseated t e = is_for_seated e.command && not (list_any (bytes_eq e.member) (seated_names t.items))

seat_rows-hold : (t : Table) (e : Entry) → is_unseated t e ≡ true → list_any (λ (row : Option Reply). is_some row) (seat_rows t e) ≡ true
seat_rows-hold t e unseated = third-holds _ _ _ refusal.NotSeated (drop 3 (seat_rows t e)) unseated

reply_by-seen : (s : Site) (t : Table) (own : List OwnEntry) (e : Entry) (h : Option Setup) → IsTable s t
    → IsSeenGame (blind_of (viewer_of t.items e.member) (length (players t.items))) t.items h t.game
    → reply_by (with_game t h) own e ≡ reply_by t own e
reply_by-seen s t own e h is seen =
    ap (λ (rows : List (Option Reply)). unwrap_or (first_reply (serial_rows t own e ++ start_rows t e ++ seat_rows t e ++ rows
    ++ game_rows (with_game t h) e)) Done) (end_rows-same t h own e (game_end-seen blind t.items h t.game seen))
    ∙ ap (λ (reply : Option Reply). unwrap_or reply Done) (pick (is_unseated t e) refl)
  where
    blind : ℕ
    blind = blind_of (viewer_of t.items e.member) (length (players t.items))

    before : List (Option Reply)
    before = serial_rows t own e ++ start_rows t e ++ seat_rows t e ++ end_rows t own e

    pick : (b : Bool) → is_unseated t e ≡ b → first_reply (before ++ game_rows (with_game t h) e) ≡ first_reply (before ++ game_rows t e)
    pick true unseated = first_reply-some before (game_rows (with_game t h) e) (game_rows t e)
        (any-left (serial_rows t own e ++ start_rows t e ++ seat_rows t e) (end_rows t own e)
        (any-right (serial_rows t own e ++ start_rows t e) (seat_rows t e) (seat_rows-hold t e unseated)))
    pick false allowed = ap (λ (rows : List (Option Reply)). first_reply (before ++ rows)) (game_rows-same blind t h e seen
        (act_rule-seen blind t.items h t.game seen (seat_of t e.member) (asked_action e.command)
        (λ started a asked. can_tell-player s t e.member is started
        (asks-seated e.command (list_any (bytes_eq e.member) (seated_names t.items)) allowed a asked) a)))

-- the reply that is read off the view of an entry's member is the reply by the facts of the table
pub answer-seen : (s : Site) (t : Table) (own : List OwnEntry) (e : Entry) → IsTable s t
    → answer (view_on t e.member) own e ≡ reply_on t own e
answer-seen s t own e is =
    let h : Option Setup = seen_game (view_on t e.member) in
    ap (λ (loaded : Option Finished). reply_on (record t { game = h; loaded = loaded }) own e) (loaded-seen t.loaded is.loaded)
    ∙ ap (λ (reply : Reply). if is_look e.command then Done else reply)
    (reply_by-seen s t (own_for t own e) e h is (seen_game-seen s t (viewer_of t.items e.member) is))
