-- What messages say holds no float and nests little, so its text is exact and reads back.
use Rattle.std.proofs.Common.{ℕ, List}
use Rattle.std.specs.Prelude.{codes}
use Rattle.serde_json.specs.Data.{Members, put}
use Rattle.hb_json.specs.Values.{whole}
use Rattle.hb_json.proofs.IsPlain.{IsPlain, ArePlain, ArePlain-no_members, ArePlain-put, IsPlain-object, IsPlain-whole, IsPlain-string, IsPlain-options_data, IsPlain-seat_data, IsPlain-action_data}
use Rattle.hb_request.specs.declared.requests.WireClue.{WireClue}
use Rattle.hb_request.specs.declared.requests.WireClue.TheVariants as clue
use Rattle.hb_request.specs.declared.requests.Ask.{Ask}
use Rattle.hb_request.specs.declared.requests.Ask.TheVariants as ask
use Rattle.hb_request.specs.declared.requests.Request.{Request}
use Rattle.hb_request.specs.declared.requests.Request.TheVariants as request
use Rattle.hb_request.specs.Opening.{opening_options}
use Rattle.hb_request.specs.Printed.{game_action, request_members, request_data, with_ask, with_clue}

-- a member that is a whole number
ArePlain-put_whole : (key : List ℕ) (n : ℕ) (ms : Members) → ArePlain 1 ms → ArePlain 1 (put key (whole n) ms)
ArePlain-put_whole key n ms h = ArePlain-put 1 key _ ms (IsPlain-whole n 1) h

-- the members with those of a clue
ArePlain-with_clue : (c : WireClue) (ms : Members) → ArePlain 1 ms → ArePlain 1 (with_clue c ms)
ArePlain-with_clue (clue.Color index) ms h = ArePlain-put_whole (codes "color") index ms h
ArePlain-with_clue (clue.Rank rank) ms h = ArePlain-put_whole (codes "rank") rank ms h

-- the members with those of what is asked of a table
ArePlain-with_ask : (a : Ask) (ms : Members) → ArePlain 1 ms → ArePlain 1 (with_ask a ms)
ArePlain-with_ask (ask.Open name e x l t base turn) ms h =
    ArePlain-put 1 (codes "options") _ ms (IsPlain-options_data name (opening_options e x l t base turn)) h
ArePlain-with_ask ask.Sit ms h = h
ArePlain-with_ask ask.Rise ms h = h
ArePlain-with_ask ask.Start ms h = h
ArePlain-with_ask (ask.Play order) ms h = ArePlain-put_whole (codes "order") order ms h
ArePlain-with_ask (ask.Discard order) ms h = ArePlain-put_whole (codes "order") order ms h
ArePlain-with_ask (ask.Clue to c) ms h = ArePlain-put_whole (codes "to") to (with_clue c ms) (ArePlain-with_clue c ms h)
ArePlain-with_ask (ask.Note order text) ms h =
    ArePlain-put 1 (codes "text") _ _ (IsPlain-string 1 text) (ArePlain-put_whole (codes "order") order ms h)
ArePlain-with_ask ask.Pause ms h = h
ArePlain-with_ask ask.Resume ms h = h
ArePlain-with_ask ask.Terminate ms h = h
ArePlain-with_ask (ask.Watch shadow) ms h = ArePlain-put 1 (codes "shadow") _ ms (IsPlain-seat_data 1 shadow) h
ArePlain-with_ask ask.Leave ms h = h
ArePlain-with_ask (ask.Load id) ms h = ArePlain-put_whole (codes "id") id ms h
ArePlain-with_ask (ask.Go turn) ms h = ArePlain-put_whole (codes "turn") turn ms h
ArePlain-with_ask (ask.Hypo a) ms h = ArePlain-put 1 (codes "action") _ ms (IsPlain-action_data 0 (game_action a)) h
ArePlain-with_ask ask.Undo ms h = h
ArePlain-with_ask ask.Close ms h = h

-- the members of a request
ArePlain-request_members : (r : Request) → ArePlain 1 (request_members r)
ArePlain-request_members (request.Hello name key) =
    ArePlain-put 1 (codes "key") _ _ (IsPlain-string 1 key)
    (ArePlain-put 1 (codes "name") _ _ (IsPlain-string 1 name) (ArePlain-no_members 1))
ArePlain-request_members (request.Look room) = ArePlain-put_whole (codes "room") room _ (ArePlain-no_members 1)
ArePlain-request_members (request.Room room table number a) =
    ArePlain-with_ask a _
    (ArePlain-put_whole (codes "table") table _
    (ArePlain-put_whole (codes "room") room _
    (ArePlain-put_whole (codes "number") number _ (ArePlain-no_members 1))))

-- what a message says after its word
pub IsPlain-request_data : (r : Request) → IsPlain 2 (request_data r)
unfolding request_data
IsPlain-request_data r = IsPlain-object 1 (request_members r) (ArePlain-request_members r)
