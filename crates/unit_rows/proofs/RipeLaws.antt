-- When the unit has been off for long enough.
use Rattle.unit_rows.proofs.Common.{◌≡◌, ℕ, zero, suc, ◌+◌, ◌-◌, ◌<◌, ◌≤◌, true, false, cond, refl, arith}
use Rattle.unit_rows.proofs.Common.{ThermalUnit, IsRipe, off_time}

-- since before the horizon it has been off for all the periods at least
off_least : (g : ThermalUnit) (k : ℕ) → k ≤ off_time g 0 k
off_least g k = elim (g.on0) as (λ x. k ≤ cond x k (g.down0 + k)) [
  | true ↦ omega arith
  | false ↦ omega arith
]

pub off_next : (g : ThermalUnit) (last k : ℕ) → last ≤ k → off_time g last (suc k) ≡ suc (off_time g last k)
off_next g zero k low = elim (g.on0) as (λ x. cond x (suc k) (g.down0 + suc k) ≡ suc (cond x k (g.down0 + k))) [
  | true ↦ refl
  | false ↦ omega arith
]
off_next g (suc l) k low = omega arith

module _ (g : ThermalUnit) (one : 1 ≤ g.min_down) (k : ℕ) where
  abbrev Only : ℕ → Type 0
  Only n = (last : ℕ) → IsRipe g k last → n ≡ last

  -- after a spell
  suc_only : (n l : ℕ) → n + g.min_down ≡ k → IsRipe g k (suc l) → n ≡ suc l
  suc_only n l sum ripe =
      let long : g.min_down ≤ k - suc l = ripe.long in
      let short : k - 1 - suc l < g.min_down = ripe.before (k - 1) (omega arith) in
      omega arith

  pub spell_ripe : (n : ℕ) → n + g.min_down ≡ k → 1 ≤ n → IsRipe g k n × Only n
  spell_ripe zero sum some = absurd (omega arith)
  spell_ripe (suc n) sum some = (
    record {
      order = omega arith;
      long = (let h : g.min_down ≤ k - suc n = omega arith in h);
      before = λ b next. (let h : b - suc n < g.min_down = omega arith in h);
    },
    λ last ripe. elim last as (λ last. IsRipe g k last → suc n ≡ last) [
      | suc l ↦ λ ripe. suc_only (suc n) l sum ripe
      | zero ↦ λ ripe. (let short = ripe.before (k - 1) (omega arith) in let e = off_least g (k - 1) in
          absurd (omega arith))
    ] ripe,
  )

  none_after : (l : ℕ) → k ≤ g.min_down → IsRipe g k (suc l) → ⊥
  none_after l few ripe = (let long : g.min_down ≤ k - suc l = ripe.long in omega arith)

  -- since before the horizon
  pub none_before : k ≤ g.min_down → 1 ≤ k → g.min_down < off_time g 0 k → (last : ℕ) → IsRipe g k last → ⊥
  none_before few some long last ripe = elim last as (λ last. IsRipe g k last → ⊥) [
    | zero ↦ λ ripe.
        let is : k ≡ suc (k - 1) = omega arith in
        let short = ripe.before (k - 1) is in
        let e : off_time g 0 (suc (k - 1)) ≡ suc (off_time g 0 (k - 1)) = off_next g 0 (k - 1) (omega arith) in
        let more : g.min_down < off_time g 0 (suc (k - 1)) = rw is at long in
        omega arith
    | suc l ↦ λ ripe. none_after l few ripe
  ] ripe
