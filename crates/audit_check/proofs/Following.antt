-- The prices that follow rows.
use Rattle.audit_check.proofs.Common.{◌≡◌, ℕ, suc, ◌-◌, ◌<◌, ◌≤◌, Bool, true, false, if◌then◌else◌, Option, ℤ, List, []}
use Rattle.audit_check.proofs.Common.{◌∷◌, take, length, refl, sym, ap, ◌∙◌, arith, rules, get_or, false≢true}
use Rattle.audit_check.proofs.Common.{length-map, get_or-take, length-take-le, length-range_with_len, slice_get-get_or}
use Rattle.audit_check.proofs.Common.{range_with_len, option_map_or, not, nat_le, IsTrue, IsFalse, slice_index_or}
use Rattle.audit_check.proofs.Common.{PriceLists, Market, Proposal, no_prices, age, stepped_prices, next_prices}
use Rattle.audit_check.proofs.Common.{is_settled, opening_prices_of, start_prices, IsNextProposal, IsLast}
use Rattle.std.proofs.lemmas.Bool.Decides.{nat_tests}
use Rattle.price_space.specs.declared.next.Moved.{Moved}
use Rattle.price_space.specs.declared.next.Moved.TheVariants.{Made, Settled}
use Rattle.price_space.specs.Moves.{is_last_settled}

next_over : (m : Market) (cost : ℤ) (rows : List Proposal) → 1 ≤ length rows →
    length (next_prices m cost rows).energy ≡ m.periods
next_over m cost [] some = absurd (omega (arith, some))
next_over m cost (r ∷ rows) some =
    let last = slice_get-get_or (r ∷ rows) (length (r ∷ rows) - 1) r (omega arith) in
    let from : Option Proposal → PriceLists = λ o. option_map_or (stepped_prices m cost (age (r ∷ rows))) o no_prices in
    ap (λ (o : Option Proposal). length (from o).energy) last
    ∙ (length-map (range_with_len 0 m.periods) _ ∙ length-range_with_len 0 m.periods)

pub moved_over : (moved : Moved) (m : Market) (cost : ℤ) (rows : List Proposal) (π old : PriceLists) →
    (moved ≡ Made → π ≡ next_prices m cost rows) → (moved ≡ Settled → π ≡ old)
    → 1 ≤ length rows → length old.energy ≡ m.periods → length π.energy ≡ m.periods
moved_over Made m cost rows π old made settled some over =
    ap (λ (p : PriceLists). length p.energy) (made refl) ∙ next_over m cost rows some
moved_over Settled m cost rows π old made settled some over =
    ap (λ (p : PriceLists). length p.energy) (settled refl) ∙ over

-- the last of the first rows
last_settled : (m : Market) (cost : ℤ) (rows : List Proposal) (k : ℕ) (d : Proposal) → k < length rows →
    is_last_settled m cost (take (suc k) rows) ≡ is_settled m cost (slice_index_or rows k d)
last_settled m cost rows k d inside =
    let long : length (take (suc k) rows) ≡ suc k = length-take-le (suc k) rows (omega (arith, inside)) in
    let at : length (take (suc k) rows) - 1 ≡ k = omega (arith, long) in
    let there = slice_get-get_or (take (suc k) rows) (length (take (suc k) rows) - 1) d (omega (arith, long)) in
    ap (λ (o : Option Proposal). option_map_or (is_settled m cost) o false) there
    ∙ (ap (λ (i : ℕ). is_settled m cost (get_or (take (suc k) rows) i d)) at
    ∙ ap (is_settled m cost) (get_or-take (suc k) rows k d (omega arith)))

past_opening : (n ahead : ℕ) → ahead < n → nat_le n ahead ≡ false
past_opening n ahead h = grind (arith, nat_tests)

not_true : (b : Bool) → not b ≡ true → IsFalse b
not_true true h = absurd (false≢true h)
not_true false h = search rules

not_false : (b : Bool) → not b ≡ false → IsTrue b
not_false true h = search rules
not_false false h = absurd (false≢true (sym h))

module _ (m : Market) (cost : ℤ) (ahead : ℕ) (some : 1 ≤ ahead) (rows past : List Proposal)
    (is_past : past ≡ take (suc (length rows) - ahead) rows) (enough : ahead ≤ length rows) where
  settled_at : (d : Proposal) →
      is_last_settled m cost past ≡ is_settled m cost (slice_index_or rows (length rows - ahead) d)
  settled_at d =
      let count : suc (length rows) - ahead ≡ suc (length rows - ahead) = omega (arith, enough) in
      ap (is_last_settled m cost) (is_past ∙ ap (λ (n : ℕ). take n rows) count)
      ∙ last_settled m cost rows (length rows - ahead) d (omega (arith, enough, some))

  pub next_is : (π : PriceLists) (made : Bool) → made ≡ not (is_last_settled m cost past) →
      (made ≡ true → π ≡ next_prices m cost past) → made ≡ true → IsNextProposal m cost ahead rows π
  next_is π made settled prices is_made = record {
    prices = prices is_made ∙ (ap (next_prices m cost) is_past
        ∙ sym (ap (λ (t : Bool). if t then opening_prices_of (start_prices m) (suc (length rows)) else next_prices m
        cost (take (suc (length rows) - ahead) rows))
        (past_opening (suc (length rows)) ahead (omega (arith, enough)))));
    open_so_far = λ d h. not_true (is_settled m cost (slice_index_or rows (length rows - ahead) d))
        (ap not (sym (settled_at d)) ∙ (sym settled ∙ is_made));
  }

  pub last_is : (made : Bool) → made ≡ not (is_last_settled m cost past) → made ≡ false → IsLast m cost ahead rows
  last_is made settled is_none = record {
    enough = enough;
    settled = λ d. not_false (is_settled m cost (slice_index_or rows (length rows - ahead) d))
        (ap not (sym (settled_at d)) ∙ (sym settled ∙ is_none));
  }

pub past_long : {X : Type 0} (xs ys : List X) (n : ℕ) → ys ≡ take n xs → n ≤ length xs → length ys ≡ n
past_long xs ys n is le = ap length is ∙ length-take-le n xs le
