use Rattle.std.proofs.Common.{◌≡◌, ◌<◌, List, ℕ, Some, take, sym, subst, arith}
use Rattle.std.proofs.lemmas.List.{take_all}
use Rattle.vb_bits.specs.Bits.{bits, count, Selects}
use Rattle.vb_count.specs.Hits.{hits}
use Rattle.vb_select.proofs.chunk.ArrayU864Searchable.select.Goals as goal

pub select_in_chunk-requires : goal.select_in_chunk-requires
select_in_chunk-requires c =
    let b : List ℕ = c.args.self in
    let whole : take 64 b ≡ b = take_all 64 b (omega arith) in
    subst (λ x. c.args.n < count (hits c.args.value (bits x 0 512))) (sym whole) c.requires

pub returns : goal.returns
returns c =
    let b : List ℕ = c.args.self in
    let whole : take 64 b ≡ b = take_all 64 b (omega arith) in
    subst (λ x. Selects (hits c.args.value (bits x 0 512)) c.args.n
    (Some c.select_in_chunk.result)) whole c.select_in_chunk.ensures
