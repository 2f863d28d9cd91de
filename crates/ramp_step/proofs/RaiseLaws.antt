-- Heights are raised block by block.
use Rattle.ramp_step.proofs.Common.{◌≡◌, ℕ, ◌+◌, ◌-◌, ◌<◌, List, length, get_or, sym, ap, ◌∙◌, subst, arith, inl, inr}
use Rattle.ramp_step.proofs.Common.{ℤ, pos, ◌+ℤ◌, ◌-ℤ◌, ◌*ℤ◌, ◌≤ℤ◌, ◌<ℤ◌, ints, cases_lt, zero-*ℤ, Knot, Block, power}
use Rattle.ramp_step.proofs.Common.{height, IsWide, AreRaised, IsAmount, block_end, curve_term, AreLimitedBlocks}
use Rattle.ramp_step.proofs.Common.{line_from, CanRaise, AreRaisedUpto, AreRaisedSoFar}
use Rattle.ramp_step.proofs.KnotLaws.{rises}
use Rattle.ramp_step.proofs.CurveLaws.{block_end_next, on_block_is, curve_begins}

-- a flat line
flat : (s v x : ℤ) → line_from s v (pos 0) x ≡ v
flat s v x = let z = zero-*ℤ (x -ℤ s) in omega (arith, ints)

-- the level at the next block's start
pub next_level : (v : ℤ) (bs : List Block) (s : ℤ) (j : ℕ) (d : Block) → AreLimitedBlocks v bs s → j < length bs →
    block_end bs s j ≤ℤ block_end bs s (j + 1)
    → curve_term v bs s (block_end bs s j) +ℤ (get_or bs j d).price *ℤ (get_or bs j d).width ≡ curve_term v bs s
    (block_end bs s (j + 1))
next_level v bs s j d l h order =
    let next = block_end_next bs s j d h in
    let b = on_block_is v bs s j d (block_end bs s (j + 1)) l h order (omega (arith, ints)) in
    let way : (get_or bs j d).price *ℤ (get_or bs j d).width ≡ (get_or bs j d).price *ℤ
    (block_end bs s (j + 1) -ℤ block_end bs s j) =
    ap (λ (z : ℤ). (get_or bs j d).price *ℤ z) (omega (arith, ints)) in
    omega (arith, ints)

pub CanRaise-begin : (v : ℤ) (bs : List Block) (s : ℤ) (q : Knot) → AreLimitedBlocks v bs s → s ≤ℤ q.at → q.at ≤ℤ s →
    IsAmount q.value → IsAmount (q.value +ℤ curve_term v bs s q.at) → CanRaise s v (pos 0) q
CanRaise-begin v bs s q l low high before after =
    let here : q.at ≡ s = omega (arith, ints) in
    let begins = curve_begins v bs s l in
    let e : curve_term v bs s q.at ≡ v = ap (curve_term v bs s) here ∙ begins in
    record {
      power = subst IsWide (sym here) (l.ends 0 (omega arith));
      before = before;
      line = subst IsAmount (sym (flat s v q.at)) (subst IsAmount begins (l.values 0 (omega arith)));
      after = subst (λ (z : ℤ). IsAmount (q.value +ℤ z)) (e ∙ sym (flat s v q.at)) after;
    }

pub CanRaise-on_block : (v : ℤ) (bs : List Block) (s : ℤ) (j : ℕ) (d : Block) (q : Knot) → AreLimitedBlocks v bs s →
    j < length bs → block_end bs s j <ℤ q.at → q.at ≤ℤ block_end bs s (j + 1)
    → IsAmount q.value → IsAmount (q.value +ℤ curve_term v bs s q.at) →
    CanRaise (block_end bs s j) (curve_term v bs s (block_end bs s j)) (get_or bs j d).price q
CanRaise-on_block v bs s j d q l h low high before after =
    let b = on_block_is v bs s j d q.at l h (omega (arith, ints)) high in
    let a0 = (l.ends j (omega arith)).0 in
    let b1 = (l.ends (j + 1) (omega arith)).1 in
    record {
      power = (omega (arith, ints), omega (arith, ints));
      before = before;
      line = subst IsAmount (sym b.is) b.amount;
      after = subst (λ (z : ℤ). IsAmount (q.value +ℤ z)) (sym b.is) after;
    }

pub AreRaisedSoFar-begin : (v : ℤ) (bs : List Block) (s : ℤ) (n done : ℕ) (ks ks' : List Knot) → AreLimitedBlocks v bs s
    → ((k : ℕ) → k + 1 < n → power ks k <ℤ power ks (k + 1)) → ((k : ℕ) → k < n → s ≤ℤ power ks k)
    → AreRaisedUpto (line_from s v (pos 0)) s n 0 done ks ks' → AreRaisedSoFar v bs s 0 n done ks ks'
AreRaisedSoFar-begin v bs s n done ks ks' l rise low r =
    let to = r.to in
    record {
      order = to;
      powers = λ k h. elim (cases_lt k done) [
        | inl early ↦ r.powers k (omega arith) early
        | inr later ↦
            ap (λ (q : Knot). q.at) (r.after k later)
      ];
      heights = λ k h.
          let a = low k (omega arith) in
          let b = r.upto k (omega arith) h in
          let e : curve_term v bs s (power ks k) ≡ v =
          ap (curve_term v bs s) (omega (arith, ints)) ∙ curve_begins v bs s l in
          let f = flat s v (power ks k) in
          let t = r.heights k (omega arith) h in
          omega (arith, ints);
      rest = r.after;
      beyond = λ k h i.
          let b = r.beyond (omega arith) in
          let order = rises n (power ks) rise (k - done) done k (omega arith) i in
          omega (arith, ints);
    }

pub AreRaisedSoFar-more : (v : ℤ) (bs : List Block) (s : ℤ) (j n done done' : ℕ) (d : Block) (ks k1 k2 : List Knot) →
    AreLimitedBlocks v bs s → j < length bs
    → ((k : ℕ) → k + 1 < n → power ks k <ℤ power ks (k + 1)) → AreRaisedSoFar v bs s j n done ks k1
    → AreRaisedUpto (line_from (block_end bs s j) (curve_term v bs s (block_end bs s j)) (get_or bs j d).price)
    (block_end bs s (j + 1)) n done done' k1 k2
    → AreRaisedSoFar v bs s (j + 1) n done' ks k2
AreRaisedSoFar-more v bs s j n done done' d ks k1 k2 l inside rise a r =
    let from = r.from in
    let to = r.to in
    record {
      order = to;
      powers = λ k h. elim (cases_lt k done) [
        | inl before ↦ ap (λ (q : Knot). q.at) (r.before k before) ∙ a.powers k h
        | inr past ↦ elim (cases_lt k done') [
          | inl now ↦ r.powers k past now ∙ a.powers k h
          | inr later ↦ ap (λ (q : Knot). q.at) (r.after k later) ∙ a.powers k h
        ]
      ];
      heights = λ k h. elim (cases_lt k done) [
        | inl before ↦ ap (λ (q : Knot). q.value) (r.before k before) ∙ a.heights k before
        | inr past ↦
            let same = a.rest k past in
            let at = ap (λ (q : Knot). q.at) same in
            let value = ap (λ (q : Knot). q.value) same in
            let low = a.beyond k past (omega arith) in
            let high = r.upto k past h in
            let b = on_block_is v bs s j d (power ks k) l inside (omega (arith, ints)) (omega (arith, ints)) in
            let t = r.heights k past h in
            let line = ap (line_from (block_end bs s j) (curve_term v bs s (block_end bs s j)) (get_or bs j d).price)
            at in
            t ∙ ap (λ (z : ℤ). z +ℤ line_from (block_end bs s j) (curve_term v bs s (block_end bs s j))
            (get_or bs j d).price (power k1 k)) value
            ∙ ap (λ (z : ℤ). height ks k +ℤ z) (line ∙ b.is)
      ];
      rest = λ k h. r.after k h ∙ a.rest k (omega arith);
      beyond = λ k h i.
          let b = r.beyond (omega arith) in
          let at = ap (λ (q : Knot). q.at) (a.rest done' from) in
          let order = rises n (power ks) rise (k - done') done' k (omega arith) i in
          omega (arith, ints);
    }

pub AreRaised-so_far : (v : ℤ) (bs : List Block) (s : ℤ) (n done : ℕ) (ks ks' : List Knot) →
    ((k : ℕ) → k < n → power ks k ≤ℤ block_end bs s (length bs))
    → AreRaisedSoFar v bs s (length bs) n done ks ks' → AreRaised (curve_term v bs s) n ks ks'
AreRaised-so_far v bs s n done ks ks' high a = record {
  powers = a.powers;
  heights = λ k h. elim (cases_lt k done) [
    | inl raised ↦ a.heights k raised
    | inr left ↦ let b = a.beyond k left h in let t = high k h in absurd (omega (arith, ints))
  ];
}
