use Rattle.std.proofs.Common.{◌≡◌, ℕ, ◌+◌, ◌-◌, ◌/◌, ◌≤◌, List, get_or, min, refl, sym}
use Rattle.std.proofs.Common.{ap, ◌∙◌, arith}
use Rattle.std.specs.Prelude.{IsTrue}
use Rattle.vb_bits.specs.Bits.{bits, at}
use Rattle.vb_bits.specs.Operators.{merged_by}
use Rattle.vb_count.specs.Looks.{looks}
use Rattle.vb_pair.specs.Beside.{part_looks}
use Rattle.vb_count.proofs.LooksLemmas.{looks_same, looks_some, looks_first, looks_on, looks_had}
use Rattle.vb_count.proofs.LooksLemmas.{looks_most}
use Rattle.vb_pair.proofs.BesideLemmas.{merged_ones_same, is_held_in}
use Rattle.vb_pair.proofs.MergedLemmas.{merged_ones_none, merged_ones_split}
use Rattle.vb_pair.proofs.StopsLemmas.{looks_held, looks_held_on, looks_beside_held}
use Rattle.vb_pair.proofs.StopsLemmas.{merged_within, merged_behind, merged_nowhere}
use Rattle.vb_pair.proofs.relation.is_none_beside.Given.{Over}
use Rattle.vb_pair.proofs.relation.is_none_beside.Goals as goal

-- looks at the same bits
held_same : (o p x y m n : ℕ) → o ≡ p → x ≡ y → m ≡ n → looks_held o x m ≡ looks_held p y n
held_same o p x y m n left right size =
    ap (λ z. looks_held z x m) left ∙ ap (λ z. looks_held p z m) right ∙ ap (looks_held p y) size

-- k fewer looks to come, and k more made
beside_on : (was now more most a b k : ℕ)
    → now + a ≤ was + most → a ≡ k + b → more ≡ now + k → more + b ≤ was + most
beside_on was now more most a b k before part look = omega arith

pub loop-done-init : goal.loop-done-init
loop-done-init g c =
    let same = c.next_byte.ensures.looks.same in
    let here : c.args.r ≡ c.args.r + 0 = omega arith in
    record {
      within = omega arith;
      left = refl;
      right = refl;
      none = merged_ones_none g.M.Merge.bit (g.L.Glance.seen c.args.left.now).bytes
          (g.R.Glance.seen c.next_byte.new.src).bytes c.args.l c.args.r;
      held = λ some. is_held_in refl here (record {
        held = λ part. c.next_byte.ensures.value (omega (arith, c.min.ensures))
            ∙ ap (λ b. get_or b (c.args.r / 8) 0) (sym same);
      });
      looks = λ n lo hi. looks_first _ _ _
          (looks_same (c.args.l + 0) c.args.l (n - 0) n (omega arith) (omega arith));
      beside = looks_first _ _ _ (held_same (c.args.l + 0) c.args.l (c.args.r + 0) c.args.r
          (c.args.len - 0) c.args.len (omega arith) (sym here) (omega arith));
      no_more = omega arith;
    }

pub loop-done-preserved : goal.loop-done-preserved
loop-done-preserved g c =
    let f = g.M.Merge.bit in
    let a : List ℕ = (g.L.Glance.seen c.args.left.now).bytes in
    let b : List ℕ = (g.R.Glance.seen c.next_byte.new.src).bytes in
    let l : ℕ = c.args.l in let r : ℕ = c.args.r in let len : ℕ = c.args.len in
    let done : ℕ = c.loop-done.done in
    let n : ℕ = c.first_look-bits.result in
    let inv = c.loop-done.invariant in
    let first = c.first_look-bits.ensures in
    let one = c.count_look.ensures in
    let here = one.value ∙ merged_ones_same f a b _ _ (l + done) (r + done) n inv.left inv.right in
    let on = looks_held_on (l + done) (r + done) (len - done) n (omega arith) first.head
    first.whole in
    let place : r + done + n ≡ r + (done + n) = omega arith in
    record {
      within = omega (arith, first.within);
      left = one.looks.same ∙ inv.left;
      right = one.beside.same ∙ inv.right;
      none = omega (
        arith,
        inv.none,
        here,
        c.if-count_look-gt0.false,
        merged_ones_split f a b l r done (done + n) (l + done) (r + done) n refl refl refl,
      );
      held = λ more. is_held_in inv.right place one.held;
      looks = λ m lo hi. looks_on _ _ _ _ _ _ (inv.looks m (omega arith) hi)
          (first.one (m - done) (omega arith) (omega arith)
          ∙ ap (λ x. 1 + x) (looks_same (l + done + n) (l + (done + n)) (m - done - n)
          (m - (done + n)) (omega arith) (omega arith)))
          one.looks.looks;
      beside = beside_on _ _ _ _ _ _ _ inv.beside (on ∙ ap (λ x. part_looks (r + done) n + x)
          (held_same (l + done + n) (l + (done + n)) (r + done + n) (r + (done + n))
          (len - done - n) (len - (done + n)) (omega arith) place (omega arith))) one.beside.looks;
      no_more = omega (arith, inv.no_more, one.looks.looks, one.beside.looks);
    }

-- the looks at the left source, if the search finds index p
stopped : (g : Over) (c : goal.Then-count_look-gt0 g) (p : ℕ) → IsTrue (at (merged_by g.M.Merge.bit
    (bits (g.L.Glance.seen c.args.left.now).bytes c.args.l c.args.len)
    (bits (g.R.Glance.seen c.args.right.now).bytes c.args.r c.args.len)) p)
    → (g.L.Glance.seen c.count_look.new.left).looks
    ≤ (g.L.Glance.seen c.args.left.now).looks + looks c.args.l (p + 1)
stopped g c p on =
    let f = g.M.Merge.bit in
    let a : List ℕ = (g.L.Glance.seen c.args.left.now).bytes in
    let b : List ℕ = (g.R.Glance.seen c.args.right.now).bytes in
    let l : ℕ = c.args.l in let r : ℕ = c.args.r in let len : ℕ = c.args.len in
    let done : ℕ = c.loop-done.done in
    let inv = c.loop-done.invariant in
    let none = sym (merged_ones_same f a b a (g.R.Glance.seen c.next_byte.new.src).bytes l r done
    refl c.next_byte.ensures.looks.same) ∙ inv.none in
    let from = merged_behind f a b l r len done p (omega (arith, inv.within)) none on in
    let to = merged_within f a b l r len p on in
    looks_had _ _ _ _ _ (inv.looks (p + 1) (omega arith) (omega arith))
    (looks_some (l + done) (p + 1 - done) (omega arith)) c.count_look.ensures.looks.looks

pub returns-then-count_look-gt0-clause-value : goal.returns-then-count_look-gt0-clause-value
returns-then-count_look-gt0-clause-value g c =
    let f = g.M.Merge.bit in
    let a : List ℕ = (g.L.Glance.seen c.args.left.now).bytes in
    let b : List ℕ = (g.R.Glance.seen c.args.right.now).bytes in
    let l : ℕ = c.args.l in let r : ℕ = c.args.r in let len : ℕ = c.args.len in
    let done : ℕ = c.loop-done.done in
    let n : ℕ = c.first_look-bits.result in
    let inv = c.loop-done.invariant in
    let here = c.count_look.ensures.value ∙ merged_ones_same f a b _ _ (l + done) (r + done) n
    inv.left (inv.right ∙ c.next_byte.ensures.looks.same) in
    let front = merged_ones_split f a b l r done (done + n) (l + done) (r + done) n
    refl refl refl in
    let whole = merged_ones_split f a b l r (done + n) len (l + (done + n)) (r + (done + n))
    (len - (done + n)) refl refl (omega (arith, c.first_look-bits.ensures.within)) in (
      λ t. absurd cc,
      λ e. absurd (omega (arith, e, here, front, whole, c.if-count_look-gt0.true)),
    )

pub returns-then-count_look-gt0-clause-beside : goal.returns-then-count_look-gt0-clause-beside
returns-then-count_look-gt0-clause-beside g c =
    let l : ℕ = c.args.l in let r : ℕ = c.args.r in let len : ℕ = c.args.len in
    let done : ℕ = c.loop-done.done in
    let inv = c.loop-done.invariant in
    let first = c.first_look-bits.ensures in
    let one = c.count_look.ensures.beside in
    let held = c.next_byte.ensures.looks in
    record {
      same = one.same ∙ inv.right ∙ held.same;
      looks = all _ _ _ _ _ _ _ _ _ inv.beside
          (looks_held_on (l + done) (r + done) (len - done) c.first_look-bits.result
          (omega arith) first.head first.whole)
          one.looks held.looks (ap (λ x. min x 1) c.min.ensures)
          (looks_beside_held l r len);
    }
  where
    all : (was start now more most a b k u : ℕ) → {x y : ℕ}
        → now + a ≤ start + most → a ≡ k + b → more ≡ now + k → start ≡ was + x → x ≡ y
        → u ≡ y + most → more ≤ was + u
    all was start now more most a b k u before part look held byte whole = omega arith

pub returns-then-count_look-gt0-clause-stops : goal.returns-then-count_look-gt0-clause-stops
returns-then-count_look-gt0-clause-stops g c = λ p lo on.
    record {
      same = c.count_look.ensures.looks.same ∙ c.loop-done.invariant.left;
      looks = looks_most _ _ _ _ (stopped g c p on)
          (looks_same c.args.l (c.args.l + 0) (p + 1) (p + 1 - 0) (omega arith) (omega arith));
    }

pub returns-then-count_look-gt0-clause-stops_beside :
    goal.returns-then-count_look-gt0-clause-stops_beside
returns-then-count_look-gt0-clause-stops_beside g c = λ p on.
    let inv = c.loop-done.invariant in
    let one = c.count_look.ensures in
    let held = c.next_byte.ensures.looks in
    record {
      same = one.beside.same ∙ inv.right ∙ held.same;
      looks = beside_most _ _ _ _ _ _ _ _ (looks c.args.l (p + 1)) inv.no_more
          one.looks.looks one.beside.looks (omega arith) held.looks (omega arith)
          (stopped g c p on);
    }
  where
    beside_most : (was start now more left left_now left_more part most : ℕ) → {byte : ℕ}
        → now + left ≤ left_now + start → left_more ≡ left_now + 1 → more ≡ now + part
        → part ≤ 1 → start ≡ was + byte → byte ≤ 1 → left_more ≤ left + most
        → more ≤ was + (most + 1)
    beside_most was start now more left left_now left_more part most no_more one look few
        byte least to = omega arith

pub returns-clause-stops : goal.returns-clause-stops
returns-clause-stops g c = λ p lo on.
    let inv = c.loop-done.invariant in
    absurd (merged_nowhere g.M.Merge.bit (g.L.Glance.seen c.args.left.now).bytes
    (g.R.Glance.seen c.args.right.now).bytes _ c.args.l c.args.r c.args.len c.loop-done.done p
    c.next_byte.ensures.looks.same (omega (arith, c.loop-done-test.false, inv.within)) inv.none on)

pub returns-clause-stops_beside : goal.returns-clause-stops_beside
returns-clause-stops_beside g c = λ p on.
    let inv = c.loop-done.invariant in
    absurd (merged_nowhere g.M.Merge.bit (g.L.Glance.seen c.args.left.now).bytes
    (g.R.Glance.seen c.args.right.now).bytes _ c.args.l c.args.r c.args.len c.loop-done.done p
    c.next_byte.ensures.looks.same (omega (arith, c.loop-done-test.false, inv.within)) inv.none on)
