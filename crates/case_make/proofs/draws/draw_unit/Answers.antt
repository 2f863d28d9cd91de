use Rattle.case_make.proofs.Common.{◌≡◌, ◌+◌, ℕ, ap, ◌∙◌, Lcg, unit_draws, draw, word_at, moved_on}
use Rattle.case_make.proofs.Lemmas.{word_after, one_more}
use Rattle.case_make.proofs.draws.draw_unit.Goals as goal

-- a draw after so many words
later : (low high a x : ℕ) (g h : Lcg) → h ≡ moved_on a g → x ≡ draw low high (word_at h 0) →
    x ≡ draw low high (word_at g (a + 0))
later low high a x g h e is = is ∙ ap (draw low high) (word_after a g h e)

pub returns-clause-draws : goal.returns-clause-draws
unfolding unit_draws
returns-clause-draws c =
    let g = c.args.random.now in
    let m1 = c.draw_number.ensures.moved in
    let m2 = one_more 1 g _ _ m1 c.draw_number-2.ensures.moved in
    let m3 = one_more 2 g _ _ m2 c.draw_number-3.ensures.moved in
    let m4 = one_more 3 g _ _ m3 c.draw_number-4.ensures.moved in
    let m5 = one_more 4 g _ _ m4 c.draw_number-5.ensures.moved in
    let m6 = one_more 5 g _ _ m5 c.draw_number-6.ensures.moved in
    let m7 = one_more 6 g _ _ m6 c.draw_number-7.ensures.moved in
    let m8 = one_more 7 g _ _ m7 c.draw_number-8.ensures.moved in
    cc (
      c.draw_number.ensures.value,
      later 20 50 1 _ g _ m1 c.draw_number-2.ensures.value,
      later 2 6 2 _ g _ m2 c.draw_number-3.ensures.value,
      later 1 8 3 _ g _ m3 c.draw_number-4.ensures.value,
      later 1 8 4 _ g _ m4 c.draw_number-5.ensures.value,
      later 0 2 5 _ g _ m5 c.draw_number-6.ensures.value,
      later 15 60 6 _ g _ m6 c.draw_number-7.ensures.value,
      later 1 50 7 _ g _ m7 c.draw_number-8.ensures.value,
      later 0 100 8 _ g _ m8 c.draw_number-9.ensures.value,
    )

pub returns-clause-moved : goal.returns-clause-moved
returns-clause-moved c =
    let g = c.args.random.now in
    let m1 = c.draw_number.ensures.moved in
    let m2 = one_more 1 g _ _ m1 c.draw_number-2.ensures.moved in
    let m3 = one_more 2 g _ _ m2 c.draw_number-3.ensures.moved in
    let m4 = one_more 3 g _ _ m3 c.draw_number-4.ensures.moved in
    let m5 = one_more 4 g _ _ m4 c.draw_number-5.ensures.moved in
    let m6 = one_more 5 g _ _ m5 c.draw_number-6.ensures.moved in
    let m7 = one_more 6 g _ _ m6 c.draw_number-7.ensures.moved in
    let m8 = one_more 7 g _ _ m7 c.draw_number-8.ensures.moved in
    one_more 8 g _ _ m8 c.draw_number-9.ensures.moved
