use Rattle.std.proofs.Common.{◌+◌, ◌++◌, ◌∷◌, [], sym, ap, ◌∙◌, arith, map, drop}
use Rattle.std.proofs.lemmas.List.{append_assoc, length-append, length-set, length-map, map_push}
use Rattle.std.proofs.lemmas.List.{map-append}
use Rattle.vb_bits.proofs.FillsLemmas.{set_next}
use Rattle.vb_c.proofs.FilledLemmas.{Fills-full}
use Rattle.vb_c.specs.Filled.{run_of}
use Rattle.vb_c.proofs.walk.vb_set_slices.Goals as goal

pub loop-run-preserved : goal.loop-run-preserved
loop-run-preserved c =
    let inv = c.loop-run.invariant in
    let n = c.loop-run.written in
    let front = c.loop-run.yielded in
    let run = c.in-Some.run' in
    let len = length-set c.loop-run.out n (run_of run) ∙ inv.len in
    record {
      can_next = tt;
      is_finite = tt;
      whole = append_assoc front (run ∷ []) c.next.new.self
          ∙ ap (λ l. front ++ l) (sym c.in-Some.ensures.steps) ∙ inv.whole;
      count = omega (arith, inv.count, length-append front (run ∷ []));
      room = omega (arith, inv.room, len, c.if-written-out.false);
      len = len;
      items = set_next (map run_of front) c.args.out.now c.loop-run.out (run_of run) n
          (inv.count ∙ sym (length-map front run_of)) inv.room inv.items
          ∙ ap (λ l. l ++ drop (n + 1) c.args.out.now) (sym (map_push run_of front run));
    }

pub returns-then-written-out : goal.returns-then-written-out
returns-then-written-out c =
    let inv = c.loop-run.invariant in
    let n = c.loop-run.written in
    let front = c.loop-run.yielded in
    let run = c.in-Some.run' in
    let rest = c.next.new.self in
    let len = length-set c.loop-run.out n (run_of run) ∙ inv.len in
    Fills-full (map run_of front ++ run_of run ∷ []) (map run_of rest) _ c.args.out.now _ (n + 1)
    (append_assoc (map run_of front) (run_of run ∷ []) (map run_of rest)
    ∙ sym (map-append run_of front (run ∷ rest))
    ∙ ap (λ l. map run_of (front ++ l)) (sym c.in-Some.ensures.steps) ∙ ap (map run_of) inv.whole)
    (omega (
      arith,
      inv.count,
      length-map front run_of,
      length-append (map run_of front) (run_of run ∷ []),
    ))
    (omega (arith, len, c.if-written-out.true))
    (set_next (map run_of front) c.args.out.now c.loop-run.out (run_of run) n
    (inv.count ∙ sym (length-map front run_of)) inv.room inv.items)
