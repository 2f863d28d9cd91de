use Rattle.case_make.proofs.Common.{◌≡◌, ℕ, ◌+◌, ◌*◌, ◌/◌, ap, sym, ◌∙◌, subst, arith, Lcg, capacity_at, most_at}
use Rattle.case_make.proofs.Common.{most_powers, ArePowers, draw, word_at, moved_on}
use Rattle.case_make.proofs.Lemmas.{pushed, whole, powers_within, word_after, one_more}
use Rattle.case_make.proofs.renewables.draw_powers.Goals as goal

most_is : (g h : Lcg) (k x y : ℕ) → x ≡ draw 5 100 (word_at g 0) → h ≡ moved_on (1 + k) g →
    y ≡ draw 0 100 (word_at h 0) → 1000 * x * y / 100 ≡ most_at g 0 k
unfolding most_at capacity_at
most_is g h k x y first moved next =
    let index : 1 + k + 0 ≡ 0 + 1 + k = omega arith in
    let word = word_after (1 + k) g h moved ∙ ap (word_at g) index in
    ap (λ (n : ℕ). 1000 * n * y / 100) first ∙
    ap (λ (n : ℕ). 1000 * draw 5 100 (word_at g 0) * n / 100) (next ∙ ap (draw 0 100) word)

pub loop-preserved : goal.loop-preserved
loop-preserved c =
    let g = c.args.random.now in
    let k = c.loop.counter in
    let one : 1 + k + 1 ≡ 1 + (k + 1) = omega arith in
    record {
      so_far = pushed (most_at g 0) k _ _ _ c.push.ensures.items c.loop.invariant.so_far
          (most_is g _ k _ _ c.draw_number-capacity.ensures.value c.loop.invariant.moved c.draw_number.ensures.value);
      moved = one_more (1 + k) g _ _ c.loop.invariant.moved c.draw_number.ensures.moved ∙ ap (λ (n : ℕ). moved_on n g)
          one;
      room = omega (arith, c.push.ensures.spare, c.loop.invariant.room);
    }

pub returns-clause-powers : goal.returns-clause-powers
unfolding most_powers
returns-clause-powers c = whole (most_at c.args.random.now 0) c.loop.counter 48 _ c.loop.invariant.so_far (omega arith)

pub returns-clause-sizes : goal.returns-clause-sizes
unfolding most_powers
returns-clause-sizes c =
    subst ArePowers
    (sym (whole (most_at c.args.random.now 0) c.loop.counter 48 _ c.loop.invariant.so_far (omega arith)))
    (powers_within c.args.random.now 0)
