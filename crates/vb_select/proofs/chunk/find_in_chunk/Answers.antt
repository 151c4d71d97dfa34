use Rattle.std.proofs.Common.{ℕ, List, Bool, arith, refl}
use Rattle.vb_count.proofs.HitsLemmas.{count-hits-bits_none}
use Rattle.vb_select.proofs.SearchesLemmas.{Searched_on}
use Rattle.vb_select.proofs.chunk.find_in_chunk.Goals as goal

pub returns : goal.returns
returns c =
    let chunk : List ℕ = c.args.chunk.now in let v : Bool = c.args.value in
    Searched_on v chunk c.new.result.bytes 0 0
    512 512 c.args.n c.args.n c.find_in_units.result c.new.ensures.bytes refl
    (omega (arith, count-hits-bits_none v chunk 0)) c.find_in_units.ensures.found
