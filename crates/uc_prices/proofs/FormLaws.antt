-- What the prices of a file keep.
use Rattle.uc_prices.proofs.Common.{◌≡◌, ℕ, ◌+◌, ℤ, pos, Bool, true, false, ◌&&◌, List, [], ◌∷◌, ◌++◌, length, Result}
use Rattle.uc_prices.proofs.Common.{Ok, Err, Some, None, refl, sym, ap, ◌∙◌, subst, arith, All, All-nil, All-push}
use Rattle.uc_prices.proofs.Common.{nat_lt, int_lt, unsigned_abs, PriceLists, of_value, most_price, position, each}
use Rattle.uc_prices.proofs.Common.{item_at, IsPriceOf, PriceSite}
use Rattle.uc_prices.specs.Tables.{is_reserve, price, prices, list, energy, reserve, prices_in}
use Rattle.std.proofs.Common.{length-append, replicate}
use Rattle.std.proofs.lemmas.List.{length-replicate, get_or-replicate}
use Rattle.std.proofs.lemmas.Int.{ints}
use Rattle.std.proofs.lemmas.List.Elements.{All-from_get_or}
use Rattle.std.proofs.lemmas.Bool.{eqb-true}
use Rattle.std.specs.Prelude.{Option, not, ◌==◌, codes}
use Rattle.uc_text.specs.Values.{Value}
use Rattle.text_tokens.specs.Rounding.{rounded}
use Rattle.uc_text.specs.declared.fault.TextFault.{TextFault}
use Rattle.uc_text.specs.Inside.{number_in, list_in, object_in, value_under}
use Rattle.uc_text.specs.Words.{◌>>=◌, ◌>>◌, refuse, need}
use Rattle.uc_prices.specs.Faults.{site, fault}
use Rattle.uc_prices.specs.Laws.{HaveForm}
use Rattle.uc_prices.specs.PricesFiles.{IsPricesOf}
use Rattle.uc_text.specs.FileLaws.{FileIsOneJsonValueOrOneFault}
use Rattle.uc_text.specs.Pairs.{Pair}
use Rattle.uc_prices.specs.declared.fault.PriceCode.TheVariants.{WrongKind, Negative, TooLarge, WrongLength}
use Rattle.uc_prices.specs.declared.fault.PriceField.{PriceField}
use Rattle.uc_prices.specs.declared.fault.PriceField.TheVariants.{Whole, Energy, Reserve}
use Rattle.uc_prices.proofs.Fits.{is_price}

-- ---- steps that did not fail

bound : {A B F : Type 0} (r : Result A F) (f : A → Result B F) (y : B) → (r >>= f) ≡ Ok y →
    (x : A) × (r ≡ Ok x) × (f x ≡ Ok y)
bound (Ok x) f y e = (x, refl, e)
bound (Err g) f y e = absurd cc

gone_on : {A B F : Type 0} (r : Result A F) (s : Result B F) (y : B) → (r >> s) ≡ Ok y →
    (x : A) × (r ≡ Ok x) × (s ≡ Ok y)
gone_on (Ok x) s y e = (x, refl, e)
gone_on (Err g) s y e = absurd cc

needed : {A F : Type 0} (f : F) (o : Option A) (x : A) → need f o ≡ Ok x → o ≡ Some x
needed f (Some y) x e = let same : y ≡ x = cc in ap Some same
needed f None x e = absurd cc

passed : {F : Type 0} (f : F) (b : Bool) (x : Unit {0}) → refuse f b ≡ Ok x → b ≡ false
passed f true x e = absurd cc
passed f false x e = refl

-- ---- the prices of a list

price_is : (at : PriceSite) (v : Value) (x : ℤ) → price at v ≡ Ok x → IsPriceOf at.field x
unfolding price
price_is at v x e =
    let p = bound (need (fault at WrongKind) (number_in v))
    (λ d. refuse (fault at TooLarge) (nat_lt most_price (unsigned_abs (rounded d 3))) >>
    (refuse (fault at Negative) (is_reserve at.field && int_lt (rounded d 3) (pos 0)) >> Ok (rounded d 3))) x e in
    let q = gone_on (refuse (fault at TooLarge) (nat_lt most_price (unsigned_abs (rounded p.0 3))))
    (refuse (fault at Negative) (is_reserve at.field && int_lt (rounded p.0 3) (pos 0)) >> Ok (rounded p.0 3)) x p.2 in
    let r = gone_on (refuse (fault at Negative) (is_reserve at.field && int_lt (rounded p.0 3) (pos 0)))
    (Ok (rounded p.0 3)) x q.2 in
    let above = passed (fault at TooLarge) (nat_lt most_price (unsigned_abs (rounded p.0 3))) q.0 q.1 in
    let below = passed (fault at Negative) (is_reserve at.field && int_lt (rounded p.0 3) (pos 0)) r.0 r.1 in
    let last = r.2 in
    let same : rounded p.0 3 ≡ x = cc in
    subst (IsPriceOf at.field) same (is_price at.field (rounded p.0 3) above below)

each_is : (at : PriceSite) (vs : List Value) (before xs : List ℤ) → All (IsPriceOf at.field) before →
    each (λ before. price (item_at at (position before))) before vs ≡ Ok xs →
    All (IsPriceOf at.field) xs × (length xs ≡ length before + length vs)
unfolding each
each_is at [] before xs all e =
    let same : before ≡ xs = cc in
    (subst (All (IsPriceOf at.field)) same all, omega (arith, ap (length {A = ℤ}) same))
each_is at (v ∷ vs) before xs all e =
    let p = bound (price (item_at at (position before)) v)
    (λ x. each (λ before. price (item_at at (position before))) (before ++ x ∷ []) vs) xs e in
    let q = each_is at vs (before ++ p.0 ∷ []) xs
    (All-push (IsPriceOf at.field) before p.0 all (price_is (item_at at (position before)) v p.0 p.1)) p.2 in
    (q.0, omega (arith, q.1, length-append before (p.0 ∷ [])))

not_false : (b : Bool) → not b ≡ false → b ≡ true
not_false true e = refl
not_false false e = absurd cc

list_is : (periods : ℕ) (field : PriceField) (v : Value) (xs : List ℤ) → list periods field v ≡ Ok xs →
    All (IsPriceOf field) xs × (length xs ≡ periods)
unfolding list prices
list_is periods field v xs e =
    let p = bound (need (fault (site field) WrongKind) (list_in v))
    (λ vs. refuse (fault (site field) WrongLength) (not (length vs == periods)) >> prices (site field) vs) xs
    e in
    let q = gone_on (refuse (fault (site field) WrongLength) (not (length p.0 == periods))) (prices (site field) p.0) xs
    p.2 in
    let long = eqb-true (length p.0) periods
    (not_false (length p.0 == periods)
    (passed (fault (site field) WrongLength) (not (length p.0 == periods)) q.0 q.1)) in
    let r = each_is (site field) p.0 [] xs (All-nil (IsPriceOf field)) q.2 in
    (r.0, omega (arith, r.1, long))

nothing : IsPriceOf Reserve (pos 0)
nothing = record { at_least = omega (arith, ints); at_most = omega (arith, ints) }

reserve_is : (periods : ℕ) (o : Option Value) (xs : List ℤ) → reserve periods o ≡ Ok xs →
    All (IsPriceOf Reserve) xs × (length xs ≡ periods)
unfolding reserve
reserve_is periods None xs e =
    let same : replicate periods (pos 0) ≡ xs = cc in
    let count = length-replicate periods (pos 0) in (
      subst (All (IsPriceOf Reserve)) same
          (All-from_get_or (IsPriceOf Reserve) (replicate periods (pos 0)) (pos 0)
          (λ k lt. subst (IsPriceOf Reserve)
          (sym (get_or-replicate periods k (pos 0) (pos 0) (omega (arith, lt, count)))) nothing)),
      sym (ap (length {A = ℤ}) same) ∙ count,
    )
reserve_is periods (Some v) xs e = list_is periods Reserve v xs e

left_out_is : (periods : ℕ) (o : Option Value) (xs : List ℤ) → reserve periods o ≡ Ok xs → o ≡ None →
    xs ≡ replicate periods (pos 0)
unfolding reserve
left_out_is periods None xs e none = let same : replicate periods (pos 0) ≡ xs = cc in sym same
left_out_is periods (Some v) xs e none = absurd cc

energy_is : (periods : ℕ) (o : Option Value) (xs : List ℤ) → energy periods o ≡ Ok xs →
    All (IsPriceOf Energy) xs × (length xs ≡ periods)
unfolding energy
energy_is periods None xs e = absurd cc
energy_is periods (Some v) xs e = list_is periods Energy v xs e

-- ---- the prices of a file

record ValueForm (periods : ℕ) (v : Value) (π : PriceLists) : Type 0 where
  energy : length π.energy ≡ periods
  reserve : length π.reserve ≡ periods
  energy_within : All (IsPriceOf Energy) π.energy
  reserve_within : All (IsPriceOf Reserve) π.reserve
  left_out : (ms : List Pair) → object_in v ≡ Some ms → value_under (codes "reserve") ms ≡ None →
      π.reserve ≡ replicate periods (pos 0)

value_form : (periods : ℕ) (v : Value) (π : PriceLists) → prices_in periods v ≡ Ok π → ValueForm periods v π
unfolding prices_in
value_form periods v π e =
    let p = bound (need (fault (site Whole) WrongKind) (object_in v))
    (λ ms. energy periods (value_under (codes "energy") ms) >>=
    (λ es. reserve periods (value_under (codes "reserve") ms) >>=
    (λ rs. let π : PriceLists = record { energy = es; reserve = rs } in Ok π))) π e in
    let q = bound (energy periods (value_under (codes "energy") p.0))
    (λ es. reserve periods (value_under (codes "reserve") p.0) >>=
    (λ rs. let π : PriceLists = record { energy = es; reserve = rs } in Ok π)) π p.2 in
    let r = bound (reserve periods (value_under (codes "reserve") p.0))
    (λ rs. let π : PriceLists = record { energy = q.0; reserve = rs } in Ok π) π q.2 in
    let last = r.2 in
    let at : PriceLists = record { energy = q.0; reserve = r.0 } in
    let same : at ≡ π = cc in
    let is = needed (fault (site Whole) WrongKind) (object_in v) p.0 p.1 in
    let energies = energy_is periods (value_under (codes "energy") p.0) q.0 q.1 in
    let reserves = reserve_is periods (value_under (codes "reserve") p.0) r.0 r.1 in
    let form : ValueForm periods v at = record {
      energy = energies.1;
      reserve = reserves.1;
      energy_within = energies.0;
      reserve_within = reserves.0;
      left_out = λ ms given none. (let one : ms ≡ p.0 = cc in
          left_out_is periods (value_under (codes "reserve") p.0) r.0 r.1
          (subst (λ (xs : List Pair). value_under (codes "reserve") xs ≡ None) one none));
    } in
    subst (ValueForm periods v) {x = at} same form

was_value : {A F : Type 0} (r : Result A F) (x : A) → of_value r ≡ Ok x → r ≡ Ok x
was_value (Ok y) x e = cc
was_value (Err f) x e = absurd cc

same_value : {F : Type 0} {v w : Value} → ◌≡◌ {A = Result Value F} (Ok v) (Ok w) → w ≡ v
same_value e = cc

pub prices_have_form : FileIsOneJsonValueOrOneFault → (periods : ℕ) (bytes : List ℕ) (π : PriceLists) → IsPricesOf
    periods bytes (Ok π) →
    HaveForm periods bytes π
prices_have_form one periods bytes π (Ok v, file, e) =
    let f = value_form periods v π (was_value (prices_in periods v) π e) in
    record {
      energy = f.energy;
      reserve = f.reserve;
      energy_within = f.energy_within;
      reserve_within = f.reserve_within;
      left_out = λ h. f.left_out h.1 (subst (λ (w : Value). object_in w ≡ Some h.1)
          (same_value {F = TextFault} (one bytes (Ok v) (Ok h.0) file h.2)) h.3) h.4;
    }
prices_have_form one periods bytes π (Err f, file, e) = absurd cc
