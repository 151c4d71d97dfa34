use Rattle.std.proofs.Common.{ℕ, IsTrue, subst, sym, ◌∙◌, inl}
use Rattle.std.specs.Int.{is_power_of_two}
use Rattle.vb_core.proofs.Powers.{is_power_of_two-pow, pow-injective}
use Rattle.vb_core.proofs.alignment.Alignment.of.Goals as goal

pub new-requires : goal.new-requires
new-requires g c =
    let align = c.ALIGN.ensures ∙ g.met.T.Element.lawful.align_is_power in
    let P : ℕ → Type 0 = λ n. IsTrue (is_power_of_two n) in
    inl (subst P (sym align) (is_power_of_two-pow g.T.Element.align_exponent))

pub returns-clause-exponent : goal.returns-clause-exponent
returns-clause-exponent g c =
    pow-injective c.new.result g.T.Element.align_exponent
    (c.new.ensures ∙ c.ALIGN.ensures ∙ g.met.T.Element.lawful.align_is_power)
