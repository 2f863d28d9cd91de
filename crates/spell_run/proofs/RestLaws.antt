-- The entries of a spell in a log, read from the last one back.
use Rattle.spell_run.proofs.Common.{◌≡◌, ℕ, suc, ◌<◌, List, length, refl, sym, ap, ◌∙◌, subst, arith, eqb, eq-eqb}
use Rattle.spell_run.proofs.Common.{cond-true, Logged, Trace, entry_at, left_from, left_by, AreLogged, IsTrace}
use Rattle.spell_run.proofs.LogLaws.{left_before}

-- what the entry at an index says is what was left of the last period
last_left : (log : List Logged) (i n m : ℕ) → n ≡ suc m → left_from log i n m ≡ (entry_at log i).passed
last_left log i n m z = ap (λ (n : ℕ). left_from log i n m) z ∙ cond-true (eqb m m) _ _ (eq-eqb m m refl)

-- n entries of a spell, the last of which is at place i, are its first ones
pub record IsRest (log : List Logged) (whole : Trace) (i n : ℕ) : Type 0 where
  pub there : AreLogged log i n
  pub same : (k : ℕ) → k < n → left_from log i n k ≡ left_by log whole k

pub rest_first : (log : List Logged) (whole t : Trace) (n : ℕ) → t.count ≡ n → IsTrace log t →
    ((k : ℕ) → k < n → left_by log t k ≡ left_by log whole k) → IsRest log whole t.last n
rest_first log whole t n count there same = record {
  there = subst (AreLogged log t.last) count there;
  same = λ k low. ap (λ (n : ℕ). left_from log t.last n k) (sym count) ∙ same k low;
}

module _ (log : List Logged) (whole : Trace) (i n m : ℕ) (z : n ≡ suc m) (rest : IsRest log whole i n) where
  pub rest_within : i < length log
  rest_within = (subst (AreLogged log i) z rest.there).0

  pub rest_entry : left_by log whole m ≡ (entry_at log i).passed
  rest_entry = sym (rest.same m (omega arith)) ∙ last_left log i n m z

  pub rest_before : IsRest log whole (entry_at log i).before m
  rest_before = record {
    there = (subst (AreLogged log i) z rest.there).1;
    same = λ k low. sym (left_before log i m k low) ∙ ap (λ (n : ℕ). left_from log i n k) (sym z) ∙
        rest.same k (omega arith);
  }
