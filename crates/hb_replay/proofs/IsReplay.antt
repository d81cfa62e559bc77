-- What is read is a replay.
use Rattle.std.proofs.Common.{◌≡◌, ℕ, length, List, [], ◌∷◌, Ok, Bool, true, false, refl, inl, inr}
use Rattle.std.specs.Prelude.{if◌then◌else◌}
use Rattle.hb_rules.specs.Setup.{Position, with_deck}
use Rattle.hb_rules.specs.Positions.{after, IsLegal}
use Rattle.hb_rules.specs.Start.{are_options, started}
use Rattle.hb_replay.specs.declared.written.WrittenAction.{WrittenAction}
use Rattle.hb_replay.specs.declared.written.WrittenReplay.{WrittenReplay}
use Rattle.hb_replay.specs.declared.written.WrittenOptions.{WrittenOptions}
use Rattle.hb_replay.specs.Contents.{Matches, HasTimes, IsPlayed, IsReplay}
use Rattle.hb_replay.specs.WrittenReplay.{act_of, game_options, contents_of}
use Rattle.hb_replay.specs.ReplayOf.{Leads}
use Rattle.hb_replay.specs.Refusals.{game_in}
use Rattle.hb_replay.proofs.ReplayOfLemmas.{may-start}
use Rattle.hb_rules.proofs.IsDeal.{deck-is}
use Rattle.hb_replay.proofs.Found.{Found, game_in-found}
use Rattle.hb_replay.proofs.LeadsLemmas.{played-leads, leads-setup}

if-untimed : (timed : Bool) (time default : ℕ) → timed ≡ false → (if timed then time else default) ≡ default
if-untimed timed time default h = rw h refl

has-times : (w : WrittenOptions) → HasTimes (game_options w)
has-times w h = (if-untimed w.modes.timed w.modes.base_s 120 h, if-untimed w.modes.timed w.modes.per_turn_s 20 h)

-- the setup that the game was started with
pub same-setup : (w : WrittenReplay) (q : Position) (h : Found w q)
    → q.setup ≡ with_deck h.variant (game_options w.options) (length w.players) w.deck
same-setup w q h = leads-setup (started h.variant (game_options w.options) (length w.players) w.deck) w.actions q
    (played-leads 0 (started h.variant (game_options w.options) (length w.players) w.deck) w.actions q h.acts)

matches-found : (w : WrittenReplay) (q : Position) → Found w q → Matches (contents_of w q)
matches-found w q h =
    let e : q.setup ≡ with_deck h.variant (game_options w.options) (length w.players) w.deck = same-setup w q h in
    record {
      seats = rw e refl;
      named = rw e h.named;
      times = rw e (has-times w.options);
      notes = h.notes;
    }

-- legal acts lead to legal acts
leads-legal : (p : Position) (actions : List WrittenAction) (q : Position) → IsLegal p → Leads p actions q → IsLegal q
leads-legal p [] q legal h = rw h legal
leads-legal p (a ∷ rest) q legal (inl h) = rw h.1 legal
leads-legal p (a ∷ rest) q legal (inr h) = leads-legal (after p (act_of p a)) rest q (h.1, legal) h.2

-- the game that is found was played
is-played : (w : WrittenReplay) (q : Position) → Found w q → IsPlayed q
is-played w q h =
    let start : Position = started h.variant (game_options w.options) (length w.players) w.deck in
    let e : q.setup ≡ with_deck h.variant (game_options w.options) (length w.players) w.deck = same-setup w q h in
    let options : are_options (length w.players) (game_options w.options) ≡ true = may-start (length w.players) w.options h.options in
    record {
      can = rw e (record { players = h.players; options = options; full = deck-is h.variant w.deck h.deck });
      legal = leads-legal start w.actions q tt (played-leads 0 start w.actions q h.acts);
    }

-- what is read is a replay
pub is-replay : (w : WrittenReplay) (q : Position) → game_in w ≡ Ok q → IsReplay (contents_of w q)
is-replay w q e = let all = game_in-found w q e in record { matches = matches-found w q all; played = is-played w q all }
