use Rattle.vb_set.specs.Appender.{set_of, pending_of}
use Rattle.vb_set.proofs.AddsLemmas.{AddsBits-reserved}
use Rattle.vb_set.proofs.bit_appender.BitAppender.start_word.Goals as goal

pub returns-clause-ok : goal.returns-clause-ok
returns-clause-ok g c =
    AddsBits-reserved (pending_of c.args.self.now) (set_of c.args.self.now) c.reserve.new.self
    c.append_word_unchecked.new.self c.reserve.ensures.keeps c.append_word_unchecked.ensures.adds
