-- The reader of a source.
use Rattle.vb_script.specs.declared.source.FromRead.{FromRead}

-- the reader from which the source reads
abbrev pub source_reader : {T : Type 0} → FromRead T → T
source_reader source = source.inner
