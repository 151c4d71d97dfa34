-- The first run that a walk takes.
use Rattle.std.proofs.Common.{◌≡◌, ◌⊎◌, inl, inr, ℕ, ◌+◌, ◌-◌, ◌^◌, ◌<◌, ◌≤◌, Bool, true, false}
use Rattle.std.proofs.Common.{eqb, List, [], ◌∷◌, sym, ap, ◌∙◌, arith}
use Rattle.std.proofs.lemmas.Bool.{cases_lt}
use Rattle.std.proofs.lemmas.Nat.Bits.{bit_at_above}
use Rattle.vb_bits.specs.Bits.{bit_of, bits}
use Rattle.vb_bits.specs.Digits.{has_bit}
use Rattle.vb_bits.specs.Runs.{runs}
use Rattle.vb_walk.specs.declared.cursor.Cursor.{Cursor}
use Rattle.vb_walk.specs.declared.slices.TakenRun.{TakenRun}
use Rattle.vb_walk.specs.Ones.{CutsOnes}
use Rattle.vb_walk.specs.Walks.{bits_ahead, stop, pending_bit, runs_in, runs_left, IsCursor}
use Rattle.vb_walk.specs.Walks.{IsRefilled}
use Rattle.vb_walk.specs.Walks.{IsSkipped, TakesRun}
use Rattle.vb_walk.proofs.RunsInLemmas.{runs_in_none, runs_in_first, runs_in_skip, runs_in-bits}
use Rattle.vb_walk.proofs.WalkLemmas.{pending_below, pending_ahead, pending_zero}

pub clash : (b : Bool) → b ≡ true → b ≡ false → ⊥
clash b p q = cc

-- ones end within the digits of a number
pub ones_within : (w a z rest k : ℕ) → CutsOnes w a z rest → a < z → w < 2 ^ k → z ≤ k
ones_within w a z rest k cut some small = elim (cases_lt k z) [
  | inl past ↦ absurd (clash (has_bit w (z - 1)) (cut.ones (z - 1) (omega arith) (omega arith))
      (ap (λ x. eqb x 1) (bit_at_above w k (z - 1) small (omega arith))))
  | inr within ↦ within
]

-- a walk whose current word lost digits
pub IsCursor-fewer : (b : List ℕ) (c : Cursor) (w : ℕ)
    → IsCursor b c → w ≤ c.word → IsCursor b (record c { word = w })
IsCursor-fewer b c w v fewer = record {
  room = v.room;
  fits = v.fits;
  walked = v.walked;
  near = v.near;
  clear = omega (arith, v.clear);
  order = v.order;
  inside = v.inside;
  whole = v.whole;
  short = v.short;
  here = v.here;
}

-- the lowest ones of the current word
pub ones_in_hand : (b : List ℕ) (c : Cursor) (n rest : ℕ)
    → IsCursor b c → CutsOnes c.word 0 n rest → c.base + n ≤ c.next
ones_in_hand b c n rest v cut = elim (cases_lt 0 n) [
  | inl more ↦ let w = ones_within c.word 0 n rest (c.next - c.base) cut more v.clear in
      omega (arith, v.walked)
  | inr none ↦ omega (arith, v.walked)
]

-- ---- the run ends in the current word, or with the window
module _ (b : List ℕ) (c : Cursor) (s z rest : ℕ) (v : IsCursor b c) (some : s < z) (below : (i : ℕ)
    → i < s → has_bit c.word i ≡ false) (cut : CutsOnes c.word s z rest) where
  pub end_within : c.base + z ≤ c.next
  end_within =
      omega (arith, ones_within c.word s z rest (c.next - c.base) cut some v.clear, v.walked)

  front_off : (i : ℕ) → c.base ≤ i → i < c.base + s → pending_bit b c i ≡ false
  front_off i lo hi =
      pending_below b c i (omega (arith, end_within)) ∙ below (i - c.base) (omega arith)

  front_on : (i : ℕ) → c.base + s ≤ i → i < c.base + z → pending_bit b c i ≡ true
  front_on i lo hi = pending_below b c i (omega (arith, end_within))
      ∙ cut.ones (i - c.base) (omega arith) (omega arith)

  pub TakesRun-here : (c.base + z < c.next) ⊎ (bits_ahead c ≡ 0) → TakesRun b c
      (record { cursor = record c { word = rest }; start = c.base + s; end = c.base + z })
  TakesRun-here last = record {
    valid = IsCursor-fewer b c rest v cut.fewer;
    ends = cc;
    from = omega arith;
    some = omega arith;
    within = omega (arith, end_within);
    later = omega arith;
    off = front_off;
    on = front_on;
    over = elim (cases_lt (c.base + z) c.next) [
      | inl inside ↦ inr (
          let place : c.base + z - c.base ≡ z = omega arith in
          pending_below b c (c.base + z) inside
          ∙ ap (has_bit c.word) place ∙ cut.stop (omega (arith, v.near)))
      | inr all ↦
          inl (elim last [ inl l ↦ absurd (omega arith) | inr none ↦ omega (arith, end_within) ])
    ];
    gone = λ i lo hi. pending_below b (record c { word = rest }) i (omega (arith, end_within))
        ∙ cut.gone (i - c.base) (omega arith);
    same = λ i lo hi. elim (cases_lt i c.next) [
      | inl inside ↦ pending_below b (record c { word = rest }) i inside
          ∙ cut.kept (i - c.base) (omega arith) (omega (arith, v.near))
          ∙ sym (pending_below b c i inside)
      | inr past ↦ pending_ahead b (record c { word = rest }) i past
          ∙ sym (pending_ahead b c i past)
    ];
  }

  -- ---- the run continues after the current word
  module _ (f : Cursor) (n far_rest : ℕ) (all : c.next ≤ c.base + z) (r : IsRefilled b
      (record c { word = rest }) true f) (few : n < 64) (far : CutsOnes f.word 0 n far_rest) where
    pub TakesRun-far : TakesRun b c
        (record { cursor = record f { word = far_rest }; start = c.base + s; end = f.base + n })
    TakesRun-far =
        let g : Cursor = record f { word = far_rest } in
        let fw = r.valid.walked in
        let far_within : f.base + n ≤ f.next = ones_in_hand b f n far_rest r.valid far in
        record {
          valid = IsCursor-fewer b f far_rest r.valid far.fewer;
          ends = r.ends;
          from = omega arith;
          some = omega (arith, r.later, end_within);
          within = omega (arith, far_within, r.ends);
          later = omega arith;
          off = front_off;
          on = λ i lo hi. elim (cases_lt i c.next) [
            | inl here ↦ front_on i lo (omega arith)
            | inr past ↦ pending_ahead b c i past ∙ elim (cases_lt i f.base) [
              | inl between ↦ r.passed i past between
              | inr there ↦ sym (r.read i there (omega (arith, far_within)))
                  ∙ far.ones (i - f.base) (omega arith) (omega arith)
            ]
          ];
          over = elim (cases_lt (f.base + n) f.next) [
            | inl inside ↦ inr (
                let place : f.base + n - f.base ≡ n = omega arith in
                pending_ahead b c (f.base + n) (omega (arith, r.later))
                ∙ sym (r.read (f.base + n) (omega arith) inside)
                ∙ ap (has_bit f.word) place ∙ far.stop few)
            | inr end ↦ inl (elim r.other [
              | inl o ↦ absurd (omega (arith, o.1))
              | inr o ↦ omega (arith, o.0, r.ends, far_within)
            ])
          ];
          gone = λ i lo hi. pending_below b g i (omega (arith, far_within))
              ∙ far.gone (i - f.base) (omega arith);
          same = λ i lo hi. elim (cases_lt i f.next) [
            | inl inside ↦
                pending_below b g i inside ∙ far.kept (i - f.base) (omega arith)
                (omega (arith, r.valid.near)) ∙ r.read i (omega arith) inside
                ∙ sym (pending_ahead b c i (omega (arith, r.later)))
            | inr past ↦ pending_ahead b g i past ∙ ap (λ o. bit_of b (o + i)) r.offset
                ∙ sym (pending_ahead b c i (omega (arith, r.later, fw)))
          ];
        }

-- ---- the rest of a walk
-- the runs at the front of a window
pub runs_left_front : (b : List ℕ) (c : Cursor) (o n : ℕ) → c.base ≡ 0 → stop c
    ≡ n → ((i : ℕ) → i < n → pending_bit b c i ≡ bit_of b (o + i))
    → runs_left b c ≡ runs (bits b o n)
runs_left_front b c o n front all h =
    let size : stop c - c.base ≡ n = omega arith in
    ap (runs_in (pending_bit b c) c.base) size
    ∙ ap (λ a. runs_in (pending_bit b c) a n) front ∙ runs_in-bits (pending_bit b c) b o n h

-- passed zeros
pub runs_left-skip : (b : List ℕ) (c d : Cursor) → IsSkipped b c d → runs_left b c ≡ runs_left b d
runs_left-skip b c d s =
    runs_in_skip (pending_bit b c) (pending_bit b d) c.base d.base (stop c) s.later (omega (
      arith,
      s.ends,
      s.valid.walked,
    )) s.passed (λ i l r. sym (s.same i l (omega (arith, s.ends))))
    ∙ ap (λ e. runs_in (pending_bit b d) d.base (e - d.base)) (sym s.ends)

-- no runs remain if the current word is 0 and no bits are ahead
pub runs_left_none : (b : List ℕ) (c : Cursor)
    → IsCursor b c → c.word ≡ 0 → bits_ahead c ≡ 0 → runs_left b c ≡ []
runs_left_none b c v z none = runs_in_none (pending_bit b c) c.base
    (stop c - c.base) (λ i l r. pending_zero b c i z (omega (arith, v.walked)))

-- the run that is taken
pub runs_left-step : (b : List ℕ) (c : Cursor) (r : TakenRun)
    → TakesRun b c r → runs_left b c ≡ (r.start, r.end) ∷ runs_left b r.cursor
runs_left-step b c r t =
    let d : Cursor = r.cursor in
    runs_in_first (pending_bit b c) c.base
    (stop c) r.start r.end t.from t.some t.within t.off t.on t.over
    ∙ ap (λ x. (r.start, r.end) ∷ x)
    (sym (runs_in_skip (pending_bit b d)
    (pending_bit b c) d.base r.end (stop c) t.later t.within t.gone t.same)
    ∙ ap (λ e. runs_in (pending_bit b d) d.base (e - d.base)) (sym t.ends))
