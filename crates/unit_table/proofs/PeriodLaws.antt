-- A period of the table, from its running spells.
use Rattle.unit_table.proofs.Common.{◌≡◌, ◌≢◌, ℕ, suc, ◌<◌, Option, Some, None, ℤ, List, length, refl, sym, arith}
use Rattle.unit_table.proofs.Common.{MustOff, StartCostsAreWithin, ThermalUnit, PriceLists, IsThermalUnit, mark_in}
use Rattle.unit_table.proofs.Common.{RunsMeetingAtPowerContinueAlike, DispatchesMeetingAtPowerContinueAlike}
use Rattle.unit_table.proofs.Common.{DispatchesAreRuns, Ended, IsFilledTo, row_at, cost_at}
use Rattle.unit_table.proofs.Common.{first_at, before_at, AreWithin, AreLimits, IsFilledWithin, Going, AreRunningSpells}
use Rattle.unit_table.proofs.Common.{IsRowOf, IsGoneOn}
use Rattle.unit_table.proofs.LimitLaws.{table_whole}
use Rattle.unit_table.proofs.RowByRowLaws.{spells_to, table_off, table_on}
use Rattle.unit_table.proofs.RowLaws.{cost-same, first-same, before-same}
use Rattle.unit_table.proofs.StandInLaws.{run_on}
use Rattle.unit_table.proofs.StartLaws.{all_stop}

module _ (g : ThermalUnit) (π : PriceLists) (limits : ℕ →
    ℤ) (unit : IsThermalUnit g) (t : ℕ) (rows : List (Option Ended)) (live : ℕ →
    Option Going) (filled : IsFilledTo g π limits t rows live) (within : t < length π.energy) where
  pub period_off : (live' : ℕ → Option Going) → ((f : ℕ) → live' f ≡ None) → mark_in g.window (suc t) ≡ MustOff →
      IsFilledTo g π limits (suc t) rows live'
  period_off live' off mark = record {
    table = table_off g π limits unit t (cost_at rows) (cost_at rows) (first_at rows) (first_at rows) (before_at rows)
        (before_at rows) filled.table within
        (λ l other. refl) (λ l other. refl) (λ l other. refl) mark (filled.table.none (suc t) (omega arith));
    spells = all_stop g π limits (cost_at rows) live' t off mark;
    within = filled.within;
  }

  pub no_row : cost_at rows (suc t) ≡ None
  no_row = filled.table.none (suc t) (omega arith)

  module _ (rows' : List (Option Ended)) (live₁ live₂ : ℕ →
      Option Going) (now : AreRunningSpells g π limits (cost_at rows) live₁ t (suc (suc t))) where
    pub period_run : (most : ℤ) → AreLimits g π most limits → RunsMeetingAtPowerContinueAlike →
        (mark_in g.window (suc t) ≡ MustOff → ⊥) →
        ((f : ℕ) (r : Going) → live₁ f ≡ Some r → IsGoneOn g π t f r (live₂ f)) →
        ((f : ℕ) → live₁ f ≡ None → live₂ f ≡ None) →
        AreRunningSpells g π limits (cost_at rows) live₂ (suc t) (suc (suc t))
    period_run most right go may goes only = run_on g π limits (cost_at rows) t live₁ live₂ most right go within now may
        goes only

    pub period_filled : (most : ℤ) → AreLimits g π most limits → DispatchesMeetingAtPowerContinueAlike →
        DispatchesAreRuns →
        (live₃ : ℕ → Option Going) → AreRunningSpells g π limits (cost_at rows) live₃ (suc t) (suc (suc t)) →
        IsRowOf g π (length π.energy) live₁ (suc (suc t)) (suc t) (cost_at rows' (suc t)) (first_at rows' (suc t))
        (before_at rows' (suc t)) →
        ((l : ℕ) → l ≢ suc t → row_at rows' l ≡ row_at rows l) → AreWithin rows' →
        IsFilledTo g π limits (suc t) rows' live₃
    period_filled most right go are_runs live₃ pruned row others bound = record {
      table = table_on g π limits unit t (cost_at rows) (cost_at rows') (first_at rows) (first_at rows')
          (before_at rows) (before_at rows') filled.table within
          (λ l other. cost-same rows' rows l l (others l other)) (λ l other. first-same rows' rows l l (others l other))
          (λ l other. before-same rows' rows l l (others l other))
          most right go are_runs live₁ now row;
      spells = spells_to g π limits (cost_at rows) (cost_at rows') live₃ (suc t) (suc (suc t))
          (λ l low. sym (cost-same rows' rows l l (others l (λ z. omega arith)))) pruned;
      within = bound;
    }

-- all periods
pub filled_whole : (g : ThermalUnit) (π : PriceLists) (unit : IsThermalUnit g) → StartCostsAreWithin →
    (most : ℤ) (limits : ℕ → ℤ) → AreLimits g π most limits → (rows : List (Option Ended)) (live : ℕ → Option Going) →
    IsFilledTo g π limits (length π.energy) rows live → IsFilledWithin g π most rows
filled_whole g π unit starts most limits right rows live filled = record {
  limits = limits;
  right = right;
  table = table_whole g π most limits right unit starts (cost_at rows) (first_at rows) (before_at rows) filled.table;
  within = filled.within;
}
