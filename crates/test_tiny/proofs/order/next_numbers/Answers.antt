use Rattle.test_tiny.proofs.Common.{arith, ◌≡◌, ℕ, suc, ◌+◌, ◌<◌, ◌≤◌, List, ◌∷◌, ◌++◌, length, drop, replicate, sym}
use Rattle.test_tiny.proofs.Common.{ap, ◌∙◌, subst, add-one, length-set, All, slice_index_or, after_of, list_count}
use Rattle.std.proofs.lemmas.List.Elements.{All-set}
use Rattle.test_tiny.proofs.Lemmas.{IsTurned, new_set, old_split, turned_more, turned_all, after-one_more, after-lasts}
use Rattle.test_tiny.proofs.Lemmas.{after-firsts}
use Rattle.test_tiny.proofs.order.next_numbers.Goals as goal

pub loop-index-preserved : goal.loop-index-preserved
loop-index-preserved c =
    let low : c.loop-index.index < length c.args.list.now.items =
    omega (arith, c.loop-index-test.true, c.len-index-end.ensures) in
    let here : c.loop-index.index < length c.loop-index.list.items = omega (arith, low, c.loop-index.invariant.long) in
    let number = c.get-number.result.now in
    let at_most = c.loop-index.invariant.within c.loop-index.index number here in
    let value = c.get-number.ensures.value in
    let same : number ≡ c.args.most = omega (arith, at_most, value, c.if-number-most.false) in
    let most_here = subst (λ (z : ℕ). slice_index_or c.loop-index.list.items c.loop-index.index z ≡ z) same value in
    let items = c.set-in-loop-index.ensures.items in
    record {
      turned =
          subst (λ (zs : List ℕ). IsTurned 0 c.args.most (c.loop-index.index + 1) c.args.list.now.items zs) (sym items)
          (turned_more 0 c.args.most c.loop-index.index c.args.list.now.items c.loop-index.list.items low
          c.loop-index.invariant.turned most_here);
      within =
          subst (λ (zs : List ℕ). All (λ x. x ≤ c.args.most) zs) (sym items)
          (All-set (λ x. x ≤ c.args.most) c.loop-index.list.items c.loop-index.index 0 (omega arith)
          c.loop-index.invariant.within);
      long = ap length items ∙ length-set c.loop-index.list.items c.loop-index.index 0 ∙ c.loop-index.invariant.long;
    }

pub returns-then-number-most-clause-next : goal.returns-then-number-most-clause-next
returns-then-number-most-clause-next c = λ yes.
    let low : c.loop-index.index < length c.args.list.now.items =
    omega (arith, c.loop-index-test.true, c.len-index-end.ensures) in
    let number = c.get-number.result.now in
    let most = c.args.most in
    let index = c.loop-index.index in
    let old = c.args.list.now.items in
    let rest = drop (suc index) old in
    let new_is = c.set.ensures.items ∙ new_set 0 most index old c.loop-index.list.items low
    c.loop-index.invariant.turned number (number + 1) c.get-number.ensures.value in
    let old_is = old_split 0 most index old c.loop-index.list.items low c.loop-index.invariant.turned number
    c.get-number.ensures.value in
    ap (λ (zs : List ℕ). suc (after_of most zs))
    (new_is ∙ ap (λ (n : ℕ). replicate index 0 ++ (n ∷ rest)) (add-one number))
    ∙ after-one_more most index number rest c.if-number-most.true ∙ ap (after_of most) (sym old_is)

pub returns-clause-last : goal.returns-clause-last
returns-clause-last c = λ no.
    let far : length c.args.list.now.items ≤ c.loop-index.index =
    omega (arith, c.loop-index-test.false, c.len-index-end.ensures) in
    let all = turned_all 0 c.args.most c.loop-index.index c.args.list.now.items c.loop-index.list.items far
    c.loop-index.invariant.turned in
    ap (after_of c.args.most) all.1 ∙ after-lasts c.args.most c.loop-index.index

pub returns-clause-again : goal.returns-clause-again
returns-clause-again c = λ no.
    let far : length c.args.list.now.items ≤ c.loop-index.index =
    omega (arith, c.loop-index-test.false, c.len-index-end.ensures) in
    let end : c.loop-index.index ≡ length c.args.list.now.items =
    omega (arith, far, c.loop-index.auto.index-end, c.len-index-end.ensures) in
    let all = turned_all 0 c.args.most c.loop-index.index c.args.list.now.items c.loop-index.list.items far
    c.loop-index.invariant.turned in
    ap (λ (zs : List ℕ). suc (after_of c.args.most zs)) all.0 ∙ after-firsts c.args.most c.loop-index.index ∙
    ap (list_count c.args.most) end
