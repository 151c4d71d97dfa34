use Rattle.vb_walk.proofs.WordsLemmas.{next_chunk}
use Rattle.vb_walk.proofs.chunks.BitChunkIteratorIterator.next.Goals as goal

pub returns-clause-steps : goal.returns-clause-steps
returns-clause-steps c =
    let it = c.self.inside in
    next_chunk it.bytes.now it.byte it.shift it.left c.full_word-word.result c.args.self.now
    c.self.view_is c.if-self-eq0.false c.full_word-word.ensures c.full_word-word.type_inv
