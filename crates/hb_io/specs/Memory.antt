-- What do sources and sinks in memory hold?
use Rattle.std.specs.Prelude.{ℕ, List, Contains}
use Rattle.hb_io.specs.Causes.{next_count}

-- a source or a sink in memory
pub record MemoryStream : Type 0 where
  -- the bytes that a source has left, or that a sink holds
  pub bytes : List ℕ
  -- the most bytes that one call gives or takes
  pub piece_len : ℕ
  -- the numbers, from 1, of the calls that fail
  pub fails : List ℕ
  -- how many calls there were, and how many of them failed, up to the largest u64
  pub calls : ℕ
  pub faults : ℕ

-- the next call is one of those that fail
abbrev pub IsListed : MemoryStream → Type 0
IsListed s = Contains s.fails (next_count s.calls)

-- the stream after a call that leaves it with these bytes
abbrev pub after_call : MemoryStream → List ℕ → MemoryStream
after_call s bytes = record s { bytes = bytes; calls = next_count s.calls }

-- the stream after a call that failed
abbrev pub after_fault : MemoryStream → MemoryStream
after_fault s = record s { calls = next_count s.calls; faults = next_count s.faults }
