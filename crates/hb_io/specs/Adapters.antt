-- What do the adapters over std's readers and writers have inside?
use Rattle.std.specs.Prelude.{ℕ}
use Rattle.hb_io.specs.declared.adapters.StdSource.{StdSource}
use Rattle.hb_io.specs.declared.adapters.StdSink.{StdSink}

-- the reader
abbrev pub source_inner : {R : Type 0} → StdSource R → R
source_inner source = source.inner

-- how many of the source's calls failed
abbrev pub source_faults : {R : Type 0} → StdSource R → ℕ
source_faults source = source.faults

-- the writer
abbrev pub sink_inner : {W : Type 0} → StdSink W → W
sink_inner sink = sink.inner

-- how many of the sink's calls failed
abbrev pub sink_faults : {W : Type 0} → StdSink W → ℕ
sink_faults sink = sink.faults
