-- A job runs more.
use Rattle.task_deal.proofs.Common.{◌≡◌, ℕ, ◌+◌, List, [], ◌∷◌, ◌++◌, length, length-append, drop, append_assoc}
use Rattle.task_deal.proofs.Common.{append-nil, sym, refl, ap, ◌∙◌, arith, drop-append_seam, added, HasRun, sum_of}
use Rattle.task_deal.proofs.Sums.{sum_of-append}

module _ {J W : Type 0} (work : J → W) (runs : J → List ℕ) (spare : J → ℕ) where
  added_is : (i j : J) (more : List ℕ) → runs j ≡ runs i ++ more → added runs i j ≡ more
  added_is i j more e = ap (drop (length (runs i))) e ∙ drop-append_seam (runs i) more

  has_run : (i j : J) (more : List ℕ) → work j ≡ work i → runs j ≡ runs i ++ more → spare j + length more ≡ spare i →
      HasRun work runs spare i j
  has_run i j more on e less = let is = added_is i j more e in record {
    works_on = on;
    ran = e ∙ ap (λ l. runs i ++ l) (sym is);
    spares = omega (arith, less, ap length is);
  }

  pub runs_none : (i : J) → HasRun work runs spare i i
  runs_none i = has_run i i [] refl (sym (append-nil (runs i))) (omega arith)

  pub runs_on : (i j k : J) → HasRun work runs spare i j → HasRun work runs spare j k → HasRun work runs spare i k
  runs_on i j k a b = has_run i k (added runs i j ++ added runs j k) (b.works_on ∙ a.works_on)
      (b.ran ∙ (ap (λ l. l ++ added runs j k) a.ran ∙ append_assoc (runs i) (added runs i j) (added runs j k)))
      (omega (arith, a.spares, b.spares, length-append (added runs i j) (added runs j k)))

  pub runs_one : (i j k : J) (x : ℕ) → HasRun work runs spare i j → work k ≡ work j → runs k ≡ runs j ++ x ∷ [] →
      spare k + 1 ≡ spare j → HasRun work runs spare i k
  runs_one i j k x a on more less = runs_on i j k a (has_run j k (x ∷ []) on more (omega (arith, less)))

  -- how much its numbers weigh
  pub weighs : (h : ℕ → ℕ) (i j : J) → HasRun work runs spare i j →
      sum_of h (runs j) ≡ sum_of h (runs i) + sum_of h (added runs i j)
  weighs h i j a = ap (sum_of h) a.ran ∙ sum_of-append h (runs i) (added runs i j)

  pub spared : (i j : J) → HasRun work runs spare i j → spare j + length (runs j) ≡ spare i + length (runs i)
  spared i j a = omega (arith, a.spares, ap length a.ran, length-append (runs i) (added runs i j))
