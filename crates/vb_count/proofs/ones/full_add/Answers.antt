use Rattle.std.proofs.Common.{arith, List, ℕ}
use Rattle.std.specs.Prelude.{bit_and, bit_xor}
use Rattle.std.specs.Simd.Lanes.{zip2}
use Rattle.vb_count.proofs.LanesLemmas.{EightWords-xor, EightWords-or, EightWords-and}
use Rattle.vb_count.proofs.LanesLemmas.{ones-adder_l}
use Rattle.vb_count.proofs.ones.full_add.Goals as goal

pub invariant_of-result : goal.invariant_of-result
invariant_of-result c =
    let x : List ℕ = c.a.inside.lanes in
    let y : List ℕ = c.b.inside.lanes in
    let z : List ℕ = c.c.inside.lanes in
    EightWords-xor
    (zip2 bit_xor x y) z (EightWords-xor x y c.a.invariant c.b.invariant) c.c.invariant

pub invariant_of-result-2 : goal.invariant_of-result-2
invariant_of-result-2 c =
    let x : List ℕ = c.a.inside.lanes in
    let y : List ℕ = c.b.inside.lanes in
    let z : List ℕ = c.c.inside.lanes in
    EightWords-or (zip2 bit_and x y)
    (zip2 bit_and (zip2 bit_xor x y) z) (EightWords-and x y c.a.invariant c.b.invariant)
    (EightWords-and (zip2 bit_xor x y) z
    (EightWords-xor x y c.a.invariant c.b.invariant) c.c.invariant)

pub returns : goal.returns
returns c =
    omega (
      arith,
      ones-adder_l c.a.inside.lanes c.b.inside.lanes c.c.inside.lanes
          c.a.invariant c.b.invariant c.c.invariant,
      c.a.view_is,
      c.b.view_is,
      c.c.view_is,
    )
