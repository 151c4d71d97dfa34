use Rattle.std.proofs.Common.{◌≡◌, ◌-◌, ℕ, Some, take, sym, ap, ◌∙◌, arith}
use Rattle.std.specs.Option.{option_map}
use Rattle.vb_view.specs.View.{bits_of}
use Rattle.vb_group.proofs.undo.front.Goals as goal

pub returns-in-Some-clause-bits : goal.returns-in-Some-clause-bits
returns-in-Some-clause-bits c =
    let n : ℕ = c.args.n in
    let same : n - 0 ≡ n = omega arith in
    ap Some (c.slice.ensures.bits ∙ ap (λ k. take k (bits_of c.in-Some.bits)) same)
    ∙ sym (ap (λ m. option_map (take n) (option_map bits_of m)) c.in-Some.is)
