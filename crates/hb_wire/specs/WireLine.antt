-- Which lines may a connection be sent, and how is each spelled? The lines are this project's own.
use Rattle.std.specs.Prelude.{ℕ, List, codes, map, Option, None, Some}
use Rattle.serde_json.specs.Data.{Data, null, string, object, Members, no_members, member, put}
use Rattle.hb_rules.specs.declared.acts.Action.{Action}
use Rattle.hb_rules.specs.declared.acts.Options.{Options}
use Rattle.hb_json.specs.Line.{line}
use Rattle.hb_json.specs.Values.{whole, wholes_data, options_data, seat_data, action_data}
use Rattle.hb_request.specs.declared.errors.WireError.{WireError}
use Rattle.hb_request.specs.declared.errors.WireError.TheVariants as error
use Rattle.hb_request.specs.WireError.{field_text, error_number}
use Rattle.hb_wire.specs.declared.lines.Role.{Role}
use Rattle.hb_wire.specs.declared.lines.Role.TheVariants as role
use Rattle.hb_wire.specs.declared.lines.WireLine.{WireLine}
use Rattle.hb_wire.specs.declared.lines.WireLine.TheVariants as wire
use Rattle.hb_wire.specs.Lines.{event_word, event_data, game_data, state_data, hand_data, listed}

-- an object with one key, which has a name
abbrev pub name_data : List ℕ → List ℕ → Data
name_data key name = object (member key (string name) no_members)

-- an object with one key, which has a number
abbrev pub whole_data : List ℕ → ℕ → Data
whole_data key n = object (member key (whole n) no_members)

-- why a message asks nothing; a wrong field is named
abbrev pub bad_data : WireError → Data
bad_data (error.Field f) =
    object (member (codes "code") (whole 4)
    (member (codes "field") (string (field_text f)) no_members))
bad_data e = whole_data (codes "code") (error_number e)

-- the members, with a number if there is one
abbrev pub with_whole : List ℕ → Option ℕ → Members → Members
with_whole key None ms = ms
with_whole key (Some n) ms = put key (whole n) ms

-- a refusal, with what is given besides its code
abbrev pub refused_data : ℕ → ℕ → Option ℕ → Option ℕ → Option ℕ → Data
refused_data code number review rule table = object (
    with_whole (codes "table") table
    (with_whole (codes "rule") rule
    (with_whole (codes "review") review
    (put (codes "number") (whole number)
    (put (codes "code") (whole code) no_members)))))

-- how a table is seen
abbrev pub viewer_data : Role → ℕ → ℕ → Data
viewer_data role.Guest room table =
    object (member (codes "role") (string (codes "guest"))
    (member (codes "room") (whole room)
    (member (codes "table") (whole table) no_members)))
viewer_data (role.Seat seat) room table =
    object (member (codes "role") (string (codes "seat"))
    (member (codes "room") (whole room)
    (member (codes "seat") (whole seat)
    (member (codes "table") (whole table) no_members))))
viewer_data (role.Watcher shadow) room table =
    object (member (codes "role") (string (codes "watcher"))
    (member (codes "room") (whole room)
    (member (codes "shadow") (seat_data shadow)
    (member (codes "table") (whole table) no_members))))

-- a host and the canonical options object
abbrev pub opened_data : List ℕ → List ℕ → Options → Data
opened_data host name options =
    object (member (codes "host") (string host)
    (member (codes "options") (options_data name options) no_members))

-- somebody who watches, and the seat whose sight is shared
abbrev pub watching_data : List ℕ → Option ℕ → Data
watching_data name shadow =
    object (member (codes "name") (string name)
    (member (codes "shadow") (seat_data shadow) no_members))

-- the banks by seat at a moment, and the seat whose time runs
abbrev pub clock_data : List ℕ → ℕ → Option ℕ → Data
clock_data banks moment running =
    object (member (codes "banks") (wholes_data banks)
    (member (codes "moment") (whole moment)
    (member (codes "running") (seat_data running) no_members)))

-- an action, or null
abbrev pub action_or_null : Option Action → Data
action_or_null None = null
action_or_null (Some action) = action_data 0 action

-- the action just taken, the number of hypothetical actions, and the turn
abbrev pub review_data : Option Action → ℕ → ℕ → Data
review_data action hypos turn =
    object (member (codes "action") (action_or_null action)
    (member (codes "hypos") (whole hypos)
    (member (codes "turn") (whole turn) no_members)))

-- the word of a line
abbrev pub line_word : WireLine → List ℕ
line_word (wire.Welcome name) = codes "welcome"
line_word (wire.Denied code) = codes "denied"
line_word (wire.Bad error) = codes "bad"
line_word (wire.Ok number) = codes "ok"
line_word (wire.Refused code number review rule table) = codes "refused"
line_word (wire.Viewer role room table) = codes "viewer"
line_word (wire.Opened host name options) = codes "opened"
line_word (wire.Sat name) = codes "sat"
line_word (wire.Rose name) = codes "rose"
line_word (wire.Left name) = codes "left"
line_word (wire.Watching name shadow) = codes "watching"
line_word (wire.Game name options players) = codes "game"
line_word (wire.Event event) = event_word event
line_word (wire.State state) = codes "state"
line_word (wire.Clock banks moment running) = codes "clock"
line_word (wire.Hand seat cards) = codes "hand"
line_word (wire.Paused by) = codes "paused"
line_word (wire.Resumed by) = codes "resumed"
line_word (wire.Saved id) = codes "saved"
line_word (wire.Loaded id) = codes "loaded"
line_word (wire.NoGame id) = codes "nogame"
line_word (wire.Review action hypos turn) = codes "review"
line_word wire.Closed = codes "closed"

-- what a line says
abbrev pub line_data : WireLine → Data
line_data (wire.Welcome name) = name_data (codes "name") name
line_data (wire.Denied code) = whole_data (codes "code") code
line_data (wire.Bad error) = bad_data error
line_data (wire.Ok number) = whole_data (codes "number") number
line_data (wire.Refused code number review rule table) = refused_data code number review rule table
line_data (wire.Viewer role room table) = viewer_data role room table
line_data (wire.Opened host name options) = opened_data host name options
line_data (wire.Sat name) = name_data (codes "name") name
line_data (wire.Rose name) = name_data (codes "name") name
line_data (wire.Left name) = name_data (codes "name") name
line_data (wire.Watching name shadow) = watching_data name shadow
line_data (wire.Game name options players) = game_data name options players
line_data (wire.Event event) = event_data event
line_data (wire.State state) = state_data state
line_data (wire.Clock banks moment running) = clock_data banks.items moment running
line_data (wire.Hand seat cards) = hand_data seat (map listed cards.items)
line_data (wire.Paused by) = name_data (codes "by") by
line_data (wire.Resumed by) = name_data (codes "by") by
line_data (wire.Saved id) = whole_data (codes "id") id
line_data (wire.Loaded id) = whole_data (codes "id") id
line_data (wire.NoGame id) = whole_data (codes "id") id
line_data (wire.Review action hypos turn) = review_data action hypos turn
line_data wire.Closed = object no_members

-- the text of a line
unfoldable pub line_text : WireLine → List ℕ
line_text l = line (line_word l) (line_data l)
