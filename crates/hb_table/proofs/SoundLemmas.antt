-- What is so of each state that a room may keep, and what follows for the room?
use Rattle.std.proofs.Common.{◌≡◌, ℕ, ◌≤◌, Bool, true, false, List, refl, ap, arith, sym, subst, ◌∙◌, Some, None, Option}
use Rattle.std.specs.Prelude.{is_some}
use Rattle.hb_rules.specs.declared.limits.TheConstants.{FEWEST_PLAYERS}
use Rattle.hb_rules.specs.declared.setups.Setup.{Setup}
use Rattle.hb_rules.specs.Setup.{Position}
use Rattle.hb_club.specs.RoomEvents.{RoomEvent, Site}
use Rattle.hb_club.specs.Rooms.{past_of}
use Rattle.hb_club.specs.Table.{Table}
use Rattle.hb_club.specs.TableInvariant.{IsApart, IsTable}
use Rattle.hb_club.specs.TableItems.{is_started}
use Rattle.hb_club.specs.TableReview.{played_game}
use Rattle.hb_club.specs.WholeGames.{BringWhole}
use Rattle.hb_table.specs.State.{State, host_load, position_in, state_at}
use Rattle.hb_table.specs.StateMoves.{timed_state}
use Rattle.hb_table.proofs.AddLemmas.{MayLapse}
use Rattle.hb_table.proofs.PendingStateLemmas.{LoadsAreWithin, state_at-apart, state_at-table, state_at-within, timed_state-apart, timed_state-table, timed_state-within}
use Rattle.hb_table.proofs.ReviewStepsLemmas.{NoStepsBefore, state_at-no-steps, timed_state-no-steps}
use Rattle.hb_table.proofs.TableFactsLemmas.{AreIdle, game-players, state_at-idle, timed_state-idle}

-- what is so of the state of each list of events, and of the one that an event finds
pub record Sound (s : Site) (x : State) : Type 0 where
  pub within : LoadsAreWithin x
  pub apart : IsApart x.table (host_load x)
  pub table : IsTable s x.table
  pub idle : is_started x.table.items ≡ false → AreIdle x.table.items
  pub no_steps : NoStepsBefore x.table

-- the state at the end of any list of events whose notes bring whole games is sound
pub state_at-sound : (s : Site) (events : List RoomEvent) → BringWhole events → Sound s (state_at s events)
state_at-sound s events whole = record {
  within = state_at-within s events;
  apart = state_at-apart s events;
  table = state_at-table s events whole;
  idle = state_at-idle s events;
  no_steps = state_at-no-steps s events;
}

-- and so is the state once time was applied before the next event
pub timed_state-sound : (s : Site) (events : List RoomEvent) (e : RoomEvent) → BringWhole events
    → Sound s (timed_state s (past_of s events) e)
timed_state-sound s events e whole = record {
  within = timed_state-within s events e;
  apart = timed_state-apart s events e;
  table = timed_state-table s events e whole;
  idle = timed_state-idle s events e;
  no_steps = timed_state-no-steps s events e;
}

-- what is not some is none
pub not-some : {A : Type 0} (o : Option A) → is_some o ≡ false → o ≡ None
not-some None is = refl
not-some (Some x) is = cc

-- no game stands at a table where none was started
pub unstarted-position : (s : Site) (t : Table) → IsTable s t → is_started t.items ≡ false → position_in t ≡ None
unstarted-position s t is off =
    let none : t.game ≡ None = is.game ∙ rw off refl in rw none refl

-- a game that stands at a table was started
pub position-started : (s : Site) (t : Table) → IsTable s t → is_some (position_in t) ≡ true → is_started t.items ≡ true
position-started s t is some = pick (is_started t.items) refl
  where
    pick : (b : Bool) → is_started t.items ≡ b → is_started t.items ≡ true
    pick true on = on
    pick false off = let never : false ≡ true = sym (ap is_some (unstarted-position s t is off)) ∙ some in cc

-- no table has a game that was started and one that was loaded
pub started-unloaded : (t : Table) (load : Option ℕ) → IsApart t load → is_started t.items ≡ true → t.loaded ≡ None
started-unloaded t load apart on = not-some t.loaded (apart.apart on)

position-players : (s : Site) (t : Table) → IsTable s t → (p : Position) → position_in t ≡ Some p → FEWEST_PLAYERS ≤ p.setup.players
position-players s t is p has = pick t.game refl
  where
    some-same : {u v : Position} → Some u ≡ Some v → u ≡ v
    some-same e = cc

    none-some : {v : Position} → None ≡ Some v → ⊥
    none-some e = cc

    pick : (g : Option Setup) → t.game ≡ g → FEWEST_PLAYERS ≤ p.setup.players
    pick None game = absurd (none-some (sym (rw game refl) ∙ has))
    pick (Some g) game =
        let same : played_game g t.items ≡ p = some-same (sym (rw game refl) ∙ has) in
        subst (λ (q : Position). FEWEST_PLAYERS ≤ q.setup.players) same (game-players s t g is game)

-- so a timeout may come
pub sound-may-lapse : (s : Site) (x : State) → Sound s x → MayLapse x
sound-may-lapse s x sound = record {
  unloaded = λ some. started-unloaded x.table (host_load x) sound.apart (position-started s x.table sound.table some);
  no_steps = sound.no_steps;
  players = λ p has. omega (arith, position-players s x.table sound.table p has);
}
