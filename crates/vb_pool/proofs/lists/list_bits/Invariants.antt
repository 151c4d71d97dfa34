use Rattle.std.proofs.Common.{◌≡◌, ◌++◌, flat_map}
use Rattle.vb_bits.specs.Digits.{digits}
use Rattle.vb_set.specs.View.{bits_of}
use Rattle.vb_set.specs.Words.{full_words}
use Rattle.vb_pool.proofs.lists.list_bits.Given as goal

-- the digits of the previous words, followed by those of the remaining words
abbrev pub invariant-loop-word : goal.invariant-loop-word
invariant-loop-word g l = l.list.items ++ flat_map (λ w. digits w 0 64) l.word-iterator
    ≡ flat_map (λ w. digits w 0 64) (full_words (bits_of l.fn.view))
