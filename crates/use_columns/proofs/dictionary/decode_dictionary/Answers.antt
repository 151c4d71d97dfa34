-- One more code is known, and was looked up.
use Rattle.std.proofs.Common.{◌≡◌, ℕ, ◌+◌, ◌<◌, List, [], ◌∷◌, ◌++◌, length, slice_index, subst}
use Rattle.std.proofs.Common.{sym, take, arith}
use Rattle.std.proofs.lemmas.List.{take_more, map-append}
use Rattle.std.proofs.lemmas.List.Elements.{All-push}
use Rattle.use_columns.specs.Columns.{AreKnown}
use Rattle.use_columns.proofs.dictionary.decode_dictionary.Goals as goal

pub loop-code-preserved : goal.loop-code-preserved
loop-code-preserved g c =
    let codes = c.args.codes.now in
    let i = c.loop-code.code-index in
    let one : take (i + 1) codes ≡ take i codes ++ slice_index codes i ∷ [] =
    take_more codes i 0 c.loop-code-test.true in
    let read = c.from-index.ensures in
    let pushed = c.in_ok-push.ensures.ok.list in
    let so_far = c.loop-code.invariant.1 in
    let P : List ℕ → Type 0 = λ some. AreKnown (length c.args.dictionary.now) some in (
      subst P (sym one) (All-push (λ code. code < length c.args.dictionary.now) (take i codes)
          (slice_index codes i) c.loop-code.invariant.0
          (omega (arith, c.if-index-dictionary.false))),
      rw (one, map-append) (cc),
    )
