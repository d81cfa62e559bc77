-- Which ended game does a text say, by what a reader answers?
use Rattle.std.proofs.Common.{◌≡◌, ℕ, List, refl, Some, None, Option}
use Rattle.std.specs.Prelude.{IsUtf8, Ok, Err, is_some, option_and_then}
use Rattle.serde_json.specs.Data.{Data}
use Rattle.serde_json.specs.Read.{read}
use Rattle.hb_rules.specs.Positions.{ended}
use Rattle.hb_replay.specs.declared.errors.ReplayError.{ReplayError}
use Rattle.hb_replay.specs.declared.errors.ReplayError.TheVariants as fault
use Rattle.hb_replay.specs.Contents.{Contents}
use Rattle.hb_replay.specs.Refusals.{replay_of}
use Rattle.hb_replay.specs.ReplayReading.{IsReading, ReadsAs}
use Rattle.hb_club.specs.EndedReplays.{ended_in, finished_when, read_ended}

-- of the text of a replay it is the game of the replay, if that has ended
pub read_ended-replay : (text : List ℕ) (r : Contents) → IsReading text (Ok r) → finished_when (is_some (ended r.game)) r ≡ read_ended text
unfolding read_ended
read_ended-replay text r is = rw (is.1.1, is.2) refl

-- of a text whose value is no replay it is none
refused-none : (text : List ℕ) (e : ReplayError) → (d : Data) × ReadsAs text d × (replay_of d ≡ Err e) → None ≡ read_ended text
unfolding read_ended
refused-none text e is = rw (is.1.1, is.2) refl

-- nor is there one of a text that is no JSON value
value-none : (text : List ℕ) → ((d : Data) → read text ≡ Some d → ⊥) → None ≡ read_ended text
unfolding read_ended
value-none text not = pick (read text) refl
  where
    pick : (o : Option Data) → read text ≡ o → None ≡ option_and_then (λ (d : Data). ended_in (replay_of d)) o
    pick None is = refl
    pick (Some d) is = absurd (not d is)

-- so it is none of a text that is refused
pub read_ended-refused : (text : List ℕ) (e : ReplayError) → IsUtf8 text → IsReading text (Err e) → (e ≡ fault.NoMemory → ⊥)
    → None ≡ read_ended text
read_ended-refused text fault.Json utf8 is memory = value-none text (λ d found. is d (utf8, found))
read_ended-refused text (fault.Shape place) utf8 is memory = refused-none text (fault.Shape place) is
read_ended-refused text fault.Players utf8 is memory = refused-none text fault.Players is
read_ended-refused text fault.Variant utf8 is memory = refused-none text fault.Variant is
read_ended-refused text (fault.Option name) utf8 is memory = refused-none text (fault.Option name) is
read_ended-refused text fault.Deck utf8 is memory = refused-none text fault.Deck is
read_ended-refused text (fault.Action k rule) utf8 is memory = refused-none text (fault.Action k rule) is
read_ended-refused text fault.Notes utf8 is memory = refused-none text fault.Notes is
read_ended-refused text fault.NoMemory utf8 is memory = absurd (memory refl)
