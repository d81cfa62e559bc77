-- No line holds a float, so the text of each is exact.
use Rattle.std.proofs.Common.{◌≡◌, ℕ, List, false, refl}
use Rattle.std.specs.Prelude.{Option, Some, None, codes}
use Rattle.serde_json.specs.Data.{Members}
use Rattle.serde_json.specs.Written.{has_float}
use Rattle.hb_rules.specs.declared.acts.Action.{Action}
use Rattle.hb_rules.specs.declared.acts.Options.{Options}
use Rattle.hb_wire.specs.Lines.{game_data}
use Rattle.hb_wire.specs.declared.lines.Role.{Role}
use Rattle.hb_wire.specs.declared.lines.Role.TheVariants as role
use Rattle.hb_wire.specs.WireLine.{action_or_null, clock_data, opened_data, refused_data, review_data, viewer_data, watching_data, with_whole}
use Rattle.hb_json.proofs.IsPlain.{ArePlain, ArePlain-no_members, IsPlain-object, IsPlain-options_data, ArePlain-put, IsPlain-texts_data, IsPlain-whole, IsPlain-wholes_data, IsPlain-seat_data, IsPlain-action_data}

-- the line that begins a game
pub has_float-game_data : (name : List ℕ) (options : Options) (players : List (List ℕ)) → has_float (game_data name options players) ≡ false
has_float-game_data name options players = rw ((IsPlain-options_data name options).exact, (IsPlain-texts_data players).exact) refl

ArePlain-with_whole : (key : List ℕ) (n : Option ℕ) (ms : Members) → ArePlain 0 ms → ArePlain 0 (with_whole key n ms)
ArePlain-with_whole key None ms h = h
ArePlain-with_whole key (Some n) ms h = ArePlain-put 0 key _ ms (IsPlain-whole n 0) h

-- the line of a refusal
pub has_float-refused_data : (code number : ℕ) (review rule table : Option ℕ)
    → has_float (refused_data code number review rule table) ≡ false
has_float-refused_data code number review rule table = (IsPlain-object 0 _
    (ArePlain-with_whole (codes "table") table _
    (ArePlain-with_whole (codes "rule") rule _
    (ArePlain-with_whole (codes "review") review _
    (ArePlain-put 0 (codes "number") _ _ (IsPlain-whole number 0)
    (ArePlain-put 0 (codes "code") _ _ (IsPlain-whole code 0) (ArePlain-no_members 0))))))).exact

-- the line that begins a stream
pub has_float-viewer_data : (r : Role) (room table : ℕ) → has_float (viewer_data r room table) ≡ false
has_float-viewer_data role.Guest room table = refl
has_float-viewer_data (role.Seat seat) room table = refl
has_float-viewer_data (role.Watcher None) room table = refl
has_float-viewer_data (role.Watcher (Some seat)) room table = refl

has_float-action_or_null : (a : Option Action) → has_float (action_or_null a) ≡ false
has_float-action_or_null None = refl
has_float-action_or_null (Some a) = (IsPlain-action_data 0 a).exact

-- the line of an open table
pub has_float-opened_data : (host name : List ℕ) (options : Options) → has_float (opened_data host name options) ≡ false
has_float-opened_data host name options = rw ((IsPlain-options_data name options).exact) refl

-- the line of a watcher
pub has_float-watching_data : (name : List ℕ) (shadow : Option ℕ) → has_float (watching_data name shadow) ≡ false
has_float-watching_data name shadow = rw ((IsPlain-seat_data 0 shadow).exact) refl

-- the line of the clock
pub has_float-clock_data : (banks : List ℕ) (moment : ℕ) (running : Option ℕ) → has_float (clock_data banks moment running) ≡ false
has_float-clock_data banks moment running = rw ((IsPlain-wholes_data banks).exact, (IsPlain-seat_data 0 running).exact) refl

-- the line of a review
pub has_float-review_data : (action : Option Action) (hypos turn : ℕ) → has_float (review_data action hypos turn) ≡ false
has_float-review_data action hypos turn = rw (has_float-action_or_null action) refl
