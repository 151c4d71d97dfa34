-- The writer of a sink.
use Rattle.vb_script.specs.declared.sink.ToWrite.{ToWrite}

-- the writer to which the sink writes
abbrev pub sink_writer : {T : Type 0} → ToWrite T → T
sink_writer sink = sink.inner
