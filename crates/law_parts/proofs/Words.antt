-- The numbers of a board of rounds in words: which proposals are open for work, and when all of them are closed.
use Rattle.law_parts.proofs.Common.{◌≡◌, ℕ, suc, ◌-◌, ◌<◌, ◌≤◌, Bool, true, false, List, get_or, refl, sym, ap, ◌∙◌}
use Rattle.law_parts.proofs.Common.{subst, arith, false≢true, le-leb, leb-true, prefix_len_passes, not, is_some, Rules}
use Rattle.law_parts.proofs.Common.{Posts, is_closed, rows_to, closed_front, rows_of, free_front, opened, is_finished}
use Rattle.law_parts.proofs.Common.{IsClosed, IsOpen, Means}
use Rattle.board_store.proofs.Fronts.{range_passes, prefix_most, front_most}
use Rattle.board_store.proofs.PostsKept.{post_of, rows_length, rows_take, front_closed, free_le, get_or_take_of}

not_of_true : (b : Bool) → not b ≡ true → b ≡ false
not_of_true true h = absurd (false≢true h)
not_of_true false h = refl

module _ {P R A : Type 0} (g : Rules P R A) (p : Posts A) where
  closed_says : (n : ℕ) → is_closed g p n ≡ true → IsClosed g p n
  closed_says n closed u unit = post_of g p n u closed unit

  says_closed : (n : ℕ) → IsClosed g p n → is_closed g p n ≡ true
  says_closed n each = range_passes (λ u. is_some (p n u)) 0 g.units
      (λ u low high. let x = each u (omega (arith, high)) in ap is_some x.1)

  opened_is_open : (n : ℕ) → n ≤ opened g p → IsOpen g p n
  opened_is_open n h =
      let low : n - g.ahead ≤ free_front g p = omega (arith, h) in
      let cf = closed_front g p in
      record {
        within = omega (arith, h);
        closed = λ k i. closed_says (suc k) (front_closed g p k (omega (arith, i, low, free_le g p)));
        unsettled = λ k d i.
            let same : get_or (rows_to g p (n - g.ahead)) k d ≡ get_or (rows_of g p) k d =
            ap (λ (xs : List R). get_or xs k d) (sym (rows_take g p cf (n - g.ahead) (omega (arith, low, free_le g p))))
            ∙ get_or_take_of g (rows_of g p) (n - g.ahead) k d i in
            ap g.settled same ∙ not_of_true (g.settled (get_or (rows_of g p) k d))
            (prefix_len_passes (λ (r : R). not (g.settled r)) (rows_of g p) k d (omega (arith, i, low)));
      }

  open_is_opened : R → (n : ℕ) → IsOpen g p n → n ≤ opened g p
  open_is_opened d n o =
      let cf = closed_front g p in
      let w = o.within in
      let within : n - g.ahead ≤ cf = front_most (is_closed g p) g.budget (n - g.ahead) (omega (arith, w))
      (λ k i. says_closed (suc k) (o.closed k i)) in
      let free : n - g.ahead ≤ free_front g p =
      prefix_most (λ (r : R). not (g.settled r)) (rows_of g p) (n - g.ahead) d
      (omega (arith, within, rows_length g p cf))
      (λ k i.
      let same : get_or (rows_to g p (n - g.ahead)) k d ≡ get_or (rows_of g p) k d =
      ap (λ (xs : List R). get_or xs k d) (sym (rows_take g p cf (n - g.ahead) within)) ∙
      get_or_take_of g (rows_of g p) (n - g.ahead) k d i in
      ap not (sym (ap g.settled same) ∙ o.unsettled k d i)) in
      omega (arith, w, free)

  -- finished: every proposal that is open for work is closed
  finished_says : is_finished g p ≡ true → (n : ℕ) → 0 < n → n ≤ opened g p → is_closed g p n ≡ true
  finished_says f n low high =
      let w = leb-true (opened g p) (closed_front g p) f in
      let e : suc (n - 1) ≡ n = omega (arith, low) in
      subst (λ (k : ℕ). is_closed g p k ≡ true) e (front_closed g p (n - 1) (omega (arith, w, low, high)))

  all_closed_is_finished : ((n : ℕ) → 0 < n → n ≤ opened g p → is_closed g p n ≡ true) → is_finished g p ≡ true
  all_closed_is_finished all =
      le-leb (opened g p) (closed_front g p)
      (front_most (is_closed g p) g.budget (opened g p) (omega arith)
      (λ k h. all (suc k) (omega arith) (omega (arith, h))))

  pub means : R → Means g p
  means d = record {
    closed = λ n. (closed_says n, says_closed n);
    opened = λ n. (opened_is_open n, open_is_opened d n);
    finished = (
      λ f n low o. closed_says n (finished_says f n low (open_is_opened d n o)),
      λ all. all_closed_is_finished (λ n low high. says_closed n (all n low (opened_is_open n high))),
    );
  }
