-- What do the forms in memory hold, and what do their calls do to it?
use Rattle.std.specs.Prelude.{ℕ, zero, suc, ◌+◌, ◌-◌, ◌^◌, nat_lt, Bool, if◌then◌else◌, List, [], ◌∷◌, ◌++◌, replicate, take, drop, Contains, Result}
use Rattle.std.specs.declared.option.Option.{Option}
use Rattle.std.specs.declared.option.Option.TheVariants.{None, Some}
use Rattle.hb_io.specs.Causes.{next_count}
use Rattle.hb_io.specs.declared.got.Got.{Got}
use Rattle.hb_io.specs.declared.got.Got.TheVariants.{Closed}
use Rattle.hb_edge.specs.declared.door.Accepted.{Accepted}
use Rattle.hb_edge.specs.declared.door.Accepted.TheVariants as accepted
use Rattle.hb_edge.specs.declared.link.LinkError.{LinkError}
use Rattle.hb_edge.specs.Counts.{is_closed, links_in}
use Rattle.hb_edge.specs.Talk.{Talk}

-- the answer of a clock with this number, from 0: the last moment is repeated
abbrev pub moment_at : List ℕ → ℕ → ℕ
moment_at [] k = 0
moment_at (moment ∷ []) k = moment
moment_at (moment ∷ next ∷ later) zero = moment
moment_at (moment ∷ next ∷ later) (suc k) = moment_at (next ∷ later) k

-- the calls of one method
pub record MemoryCalls : Type 0 where
  -- the numbers, from 1, of those that fail
  pub fails : List ℕ
  -- how many there were, up to the largest u64
  pub count : ℕ

-- the next call is one of those that fail
abbrev pub IsListed : MemoryCalls → Type 0
IsListed calls = Contains calls.fails (next_count calls.count)

-- the calls after one more
abbrev pub one_more : MemoryCalls → MemoryCalls
one_more calls = record calls { count = next_count calls.count }

-- dice in memory
pub record MemoryDice : Type 0 where
  -- the seed of each answer
  pub seed : List ℕ
  pub calls : MemoryCalls
  pub faults : ℕ

-- a link in memory
pub record MemoryLink : Type 0 where
  -- what it has still to give, and what it gave of its list
  pub left : List Got
  pub gave : List Got
  -- how many times it answered Closed behind its list, up to the largest u64
  pub ended : ℕ
  pub sent : List (List ℕ)
  pub receives : MemoryCalls
  pub sends : MemoryCalls
  pub faults : ℕ

-- what it gave and was sent, which it tells as long as it can count
abbrev pub memory_talk : MemoryLink → Option Talk
memory_talk link =
    if nat_lt link.ended (2 ^ 64 - 1)
    then Some (record { gave = link.gave ++ replicate link.ended Closed; sent = link.sent })
    else None

-- what a link gives next: the front of its list, and Closed behind it
abbrev pub next_got : List Got → Got
next_got [] = Closed
next_got (got ∷ gots) = got

-- the count of the answers behind the list, after one more receive that gave something
abbrev pub ended_after : List Got → ℕ → ℕ
ended_after [] ended = next_count ended
ended_after (got ∷ gots) ended = ended

-- the link after a receive that gave something
abbrev pub after_gift : MemoryLink → MemoryLink
after_gift link =
    record link {
      left = drop 1 link.left;
      gave = link.gave ++ take 1 link.left;
      ended = ended_after link.left link.ended;
      receives = one_more link.receives;
    }

-- a count, after one more if there was one
abbrev pub count_after : Bool → ℕ → ℕ
count_after more count = if more then next_count count else count

-- the link after a receive that was refused, by a fault or for want of memory
abbrev pub refused_receive : Bool → MemoryLink → MemoryLink
refused_receive fault link =
    record link { receives = one_more link.receives; faults = count_after fault link.faults }

-- the link after it was sent this text
abbrev pub after_text : List ℕ → MemoryLink → MemoryLink
after_text text link =
    record link { sent = link.sent ++ text ∷ []; sends = one_more link.sends }

-- the link after a send that was refused, by a fault or for want of memory
abbrev pub refused_send : Bool → MemoryLink → MemoryLink
refused_send fault link =
    record link { sends = one_more link.sends; faults = count_after fault link.faults }

-- a door in memory
pub record MemoryDoor (A S : Type 0) : Type 0 where
  -- what it has still to answer
  pub left : List A
  -- how many links it has given, and the stubs that were given back
  pub given : ℕ
  pub back : List S
  pub calls : MemoryCalls
  pub faults : ℕ
  -- how many times it answered Closed, up to the largest u64
  pub closes : ℕ

-- what a door answers next: the front of its list, and Closed behind it
abbrev pub next_answer : {L : Type 0} → List (Accepted L) → Accepted L
next_answer [] = accepted.Closed
next_answer (answer ∷ answers) = answer

module _ {L S : Type 0} where
  -- the door after an accept that it answered so
  abbrev pub after_answer : Result (Accepted L) LinkError → MemoryDoor (Accepted L) S
      → MemoryDoor (Accepted L) S
  after_answer answer door =
      record door {
        left = drop 1 door.left;
        given = door.given + links_in answer;
        calls = one_more door.calls;
        closes = count_after (is_closed answer) door.closes;
      }

  -- the door after an accept that failed
  abbrev pub refused_accept : MemoryDoor (Accepted L) S → MemoryDoor (Accepted L) S
  refused_accept door =
      record door { calls = one_more door.calls; faults = next_count door.faults }
