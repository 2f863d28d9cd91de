-- Entries of spells in a log: one more, which leaves all others as they are.
use Rattle.spell_run.proofs.Common.{◌≡◌, ◌≢◌, ℕ, zero, suc, ◌<◌, List, [], ◌∷◌, ◌++◌, length, refl, sym, ap}
use Rattle.spell_run.proofs.Common.{◌∙◌, subst, arith, eqb, cond, get_or_append_left, get_or_push}
use Rattle.spell_run.proofs.Common.{cond-true, cond-false, ne_eqb, eq-eqb}
use Rattle.spell_run.proofs.Common.{length-append, Passed, Logged, entry_at, left_from, AreLogged}

pub entry_kept : (log : List Logged) (e : Logged) (i : ℕ) → i < length log → entry_at (log ++ e ∷ []) i ≡ entry_at log i
entry_kept log e i low = get_or_append_left log (e ∷ []) _ i low

pub logged_kept : (log : List Logged) (e : Logged) (i n : ℕ) → AreLogged log i n → AreLogged (log ++ e ∷ []) i n
logged_kept log e i zero there = tt
logged_kept log e i (suc n) there =
    let long : length (log ++ e ∷ []) ≡ suc (length log) = length-append log (e ∷ []) ∙ (omega arith) in (
      omega arith,
      subst (λ (x : Logged). AreLogged (log ++ e ∷ []) x.before n) (sym (entry_kept log e i there.0))
          (logged_kept log e (entry_at log i).before n there.1),
    )

pub left_kept : (log : List Logged) (e : Logged) (i n k : ℕ) → AreLogged log i n →
    left_from (log ++ e ∷ []) i n k ≡ left_from log i n k
left_kept log e i zero k there = refl
left_kept log e i (suc n) k there =
    ap (λ (x : Logged). cond (eqb k n) x.passed (left_from (log ++ e ∷ []) x.before n k)) (entry_kept log e i there.0) ∙
    ap (λ (p : Passed). cond (eqb k n) (entry_at log i).passed p)
    (left_kept log e (entry_at log i).before n k there.1)

-- ---- one entry more

module _ (log : List Logged) (e : Logged) where
  entry_last : entry_at (log ++ e ∷ []) (length log) ≡ e
  entry_last = get_or_push log e _ (length log) refl

  pub more_logged : (n : ℕ) → AreLogged log e.before n → AreLogged (log ++ e ∷ []) (length log) (suc n)
  more_logged n there =
      let long : length (log ++ e ∷ []) ≡ suc (length log) = length-append log (e ∷ []) ∙ (omega arith) in (
        omega arith,
        subst (λ (x : Logged). AreLogged (log ++ e ∷ []) x.before n) (sym entry_last)
            (logged_kept log e e.before n there),
      )

  pub more_here : (n : ℕ) → left_from (log ++ e ∷ []) (length log) (suc n) n ≡ e.passed
  more_here n = cond-true (eqb n n) _ _ (eq-eqb n n refl) ∙ ap (λ (x : Logged). x.passed) entry_last

  pub more_before : (n k : ℕ) → AreLogged log e.before n → k ≢ n →
      left_from (log ++ e ∷ []) (length log) (suc n) k ≡ left_from log e.before n k
  more_before n k there other = cond-false (eqb k n) _ _ (ne_eqb k n other) ∙
      ap (λ (x : Logged). left_from (log ++ e ∷ []) x.before n k) entry_last ∙ left_kept log e e.before n k there

-- ---- one entry back

pub left_before : (log : List Logged) (i n k : ℕ) → k < n →
    left_from log i (suc n) k ≡ left_from log (entry_at log i).before n k
left_before log i n k low = cond-false (eqb k n) _ _ (ne_eqb k n (λ z. omega arith))
