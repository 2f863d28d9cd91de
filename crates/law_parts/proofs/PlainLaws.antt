-- What is read of a value, in plain words.
use Rattle.std.proofs.Common.{◌≡◌, ℕ, zero, suc, ◌+◌, ◌<◌, Bool, true, false, true≢false, ◌&&◌, List, [], ◌∷◌, ◌++◌}
use Rattle.std.proofs.Common.{length, Option, Ok, Err, Some, None, refl, sym, ap, ◌∙◌, subst, arith, inl, inr}
use Rattle.std.proofs.lemmas.Bool.{ltb-true, ltb-false}
use Rattle.std.proofs.lemmas.Int.{ints}
use Rattle.std.specs.Prelude.{ℤ, pos, negsuc, neg_ℤ, unsigned_abs, nat_lt, int_lt}
use Rattle.uc_text.specs.Magnitudes.{most_price}
use Rattle.uc_text.specs.Words.{position}
unfoldable use Rattle.uc_text.specs.Words.{each}
use Rattle.uc_model.specs.Data.{PriceLists}
use Rattle.uc_prices.specs.Faults.{item_at}
use Rattle.uc_prices.specs.declared.fault.PriceSite.{PriceSite}
use Rattle.uc_prices.specs.Tables.{Read, is_reserve, price, prices, list, energy, reserve, prices_in}
use Rattle.std.proofs.Common.{append_assoc, length-append, ◌<ℤ◌}
use Rattle.std.proofs.lemmas.Bool.{eqb-true, eq-eqb}
use Rattle.std.proofs.lemmas.List.{append-nil}
use Rattle.std.proofs.lemmas.Option.{none-some, same_Some}
use Rattle.std.specs.Prelude.{not, ◌==◌, codes}
use Rattle.plain_lists.specs.Ranges.{IsFrom}
use Rattle.uc_model.specs.Limits.{price_limit}
use Rattle.uc_text.specs.Pairs.{Pair}
use Rattle.uc_text.specs.Values.{Value}
use Rattle.text_tokens.specs.Rounding.{DecimalRoundsToNearestInteger, rounded}
use Rattle.text_tokens.specs.declared.decimal.Decimal.{Decimal}
use Rattle.uc_text.specs.Inside.{number_in, list_in, object_in, value_under}
use Rattle.uc_text.specs.Words.{◌>>=◌, ◌>>◌, refuse, need}
use Rattle.uc_prices.specs.Faults.{site, fault}
use Rattle.law_parts.specs.PlainPrices.{ReadsAs, IsItem, IsTooLarge, IsItemFault, IsItemAt, IsPriceList, IsListFault}
use Rattle.law_parts.specs.PlainPrices.{AreEnergyPrices, AreReservePrices, IsEnergyFault, IsReserveFault, HasFault}
use Rattle.law_parts.specs.PlainPrices.{IsReadAs}
use Rattle.uc_prices.specs.declared.fault.PriceCode.{PriceCode}
use Rattle.uc_prices.specs.declared.fault.PriceCode.TheVariants.{WrongKind, Negative, TooLarge, WrongLength}
use Rattle.uc_prices.specs.declared.fault.PriceField.{PriceField}
use Rattle.uc_prices.specs.declared.fault.PriceField.TheVariants.{Whole, Energy, Reserve}
use Rattle.uc_prices.proofs.Fits.{is_price}

-- ---- an item

too_large : (x : ℤ) → nat_lt most_price (unsigned_abs x) ≡ true → IsTooLarge x
too_large (pos m) above = let lt : most_price < m = ltb-true _ _ above in inl (omega (arith, ints, lt))
too_large (negsuc m) above = let lt = ltb-true _ _ above in inr (omega (arith, ints, lt))

below_0 : (field : PriceField) (x : ℤ) → nat_lt most_price (unsigned_abs x) ≡ false →
    is_reserve field && int_lt x (pos 0) ≡ true → (field ≡ Reserve) × IsFrom (neg_ℤ price_limit) price_limit x ×
    (x <ℤ pos 0)
below_0 Reserve (pos m) above below = let lt : m < 0 = ltb-true _ _ below in absurd (omega (arith, lt))
below_0 Reserve (negsuc m) above below = let le = ltb-false _ _ above in
    (refl, record { at_least = omega (arith, ints, le); at_most = omega (arith, ints) }, omega (arith, ints))
below_0 Energy x above below = absurd (true≢false (sym below))
below_0 Whole x above below = absurd (true≢false (sym below))

-- what a price's tests give
abbrev ItemIs : PriceSite → Value → Read ℤ → Type 0
ItemIs at v (Ok x) = IsItem at.field v x
ItemIs at v (Err f) = (f.field ≡ at.field) × (f.item ≡ at.item) × IsItemFault at.field v f.code

tested : (at : PriceSite) (v : Value) (x : ℤ) → ReadsAs v x → (large below : Bool) →
    nat_lt most_price (unsigned_abs x) ≡ large → is_reserve at.field && int_lt x (pos 0) ≡ below
    → ItemIs at v (refuse (fault at TooLarge) large >> (refuse (fault at Negative) below >> Ok x))
tested at v x reads true below is_large is_below = (refl, refl, (x, reads, too_large x is_large))
tested at v x reads false true is_large is_below = let n = below_0 at.field x is_large is_below in
    (refl, refl, (n.0, x, reads, n.1, n.2))
tested at v x reads false false is_large is_below = (reads, is_price at.field x is_large is_below)

module _ (nearest : DecimalRoundsToNearestInteger) where
  item_by : (at : PriceSite) (v : Value) (o : Option Decimal) → number_in v ≡ o
      → ItemIs at v (need (fault at WrongKind) o >>= (λ d. refuse (fault at TooLarge) (nat_lt most_price
      (unsigned_abs (rounded d 3))) >> (refuse (fault at Negative) (is_reserve at.field && int_lt (rounded d 3)
      (pos 0)) >> Ok (rounded d 3))))
  item_by at v None e = (refl, refl, e)
  item_by at v (Some d) e = tested at v (rounded d 3) (d, e, (nearest d 3).0) (nat_lt most_price (unsigned_abs
      (rounded d 3))) (is_reserve at.field && int_lt (rounded d 3) (pos 0)) refl refl

  item_is : (at : PriceSite) (v : Value) → ItemIs at v (price at v)
  unfolding price
  item_is at v = item_by at v (number_in v) refl

-- ---- the items of a list

record AreRead (at : PriceSite) (vs : List Value) (before xs : List ℤ) : Type 0 where
  ys : List ℤ
  all : xs ≡ before ++ ys
  as_many : length ys ≡ length vs
  prices : (k : ℕ) (item : Value) (x : ℤ) → IsItemAt vs k item → IsItemAt ys k x → IsItem at.field item x

record IsFirst (at : PriceSite) (vs : List Value) (n : ℕ) (field : PriceField) (code : PriceCode)
    (number : ℕ) : Type 0 where
  k : ℕ
  same_field : field ≡ at.field
  number_is : number ≡ n + suc k
  before : (i : ℕ) (item : Value) → i < k → IsItemAt vs i item → (x : ℤ) × IsItem at.field item x
  item : Value
  stands : IsItemAt vs k item
  is_fault : IsItemFault at.field item code

abbrev EachIs : PriceSite → List Value → List ℤ → Read (List ℤ) → Type 0
EachIs at vs before (Ok xs) = AreRead at vs before xs
EachIs at vs before (Err f) = IsFirst at vs (length before) f.field f.code f.item

both_stand : (field : PriceField) (v : Value) (vs : List Value) (x : ℤ) (ys : List ℤ) → IsItem field v x →
    ((k : ℕ) (item : Value) (y : ℤ) → IsItemAt vs k item → IsItemAt ys k y → IsItem field item y)
    → (k : ℕ) (item : Value) (y : ℤ) → IsItemAt (v ∷ vs) k item → IsItemAt (x ∷ ys) k y → IsItem field item y
both_stand field v vs x ys is all zero item y a b = subst (λ (w : Value). IsItem field w y) (same_Some v item a)
    (subst (IsItem field v) (same_Some x y b) is)
both_stand field v vs x ys is all (suc k) item y a b = all k item y a b

good_before : (field : PriceField) (v : Value) (vs : List Value) (x : ℤ) (k : ℕ) → IsItem field v x →
    ((i : ℕ) (item : Value) → i < k → IsItemAt vs i item → (y : ℤ) × IsItem field item y)
    → (i : ℕ) (item : Value) → i < suc k → IsItemAt (v ∷ vs) i item → (y : ℤ) × IsItem field item y
good_before field v vs x k is all zero item lt a = (x, subst (λ (w : Value). IsItem field w x) (same_Some v item a) is)
good_before field v vs x k is all (suc i) item lt a = all i item (omega arith) a

grown : (at : PriceSite) (v : Value) (vs : List Value) (before : List ℤ) (x : ℤ) → IsItem at.field v x →
    (r : Read (List ℤ)) → EachIs at vs (before ++ x ∷ []) r → EachIs at (v ∷ vs) before r
grown at v vs before x is (Ok xs) e =
    record {
      ys = x ∷ e.ys;
      all = e.all ∙ append_assoc before (x ∷ []) e.ys;
      as_many = ap suc e.as_many;
      prices = both_stand at.field v vs x e.ys is e.prices;
    }
grown at v vs before x is (Err f) e =
    record {
      k = suc e.k;
      same_field = e.same_field;
      number_is = omega (arith, e.number_is, length-append before (x ∷ []));
      before = good_before at.field v vs x e.k is e.before;
      item = e.item;
      stands = e.stands;
      is_fault = e.is_fault;
    }

first_of : (at : PriceSite) (v : Value) (vs : List Value) (before : List ℤ) (r : Read ℤ) (rest : ℤ →
    Read (List ℤ)) → ItemIs (item_at at (position before)) v r → ((x : ℤ) → EachIs at vs (before ++ x ∷ []) (rest x))
    → EachIs at (v ∷ vs) before (r >>= rest)
first_of at v vs before (Ok x) rest is next = grown at v vs before x is (rest x) (next x)
first_of at v vs before (Err f) rest is next =
    record {
      k = 0;
      same_field = is.0;
      number_is = is.1;
      before = λ i item lt. absurd (omega (arith, lt));
      item = v;
      stands = refl;
      is_fault = is.2;
    }

-- ---- a list

-- what a list is read as
abbrev Reads : PriceField → (List ℤ → Type 0) → (PriceCode → ℕ → Type 0) → Read (List ℤ) → Type 0
Reads field Are Is (Ok xs) = Are xs
Reads field Are Is (Err f) = (f.field ≡ field) × Is f.code f.item

listed : (periods : ℕ) (field : PriceField) (v : Value) (vs : List Value) → list_in v ≡ Some vs →
    length vs ≡ periods → (r : Read (List ℤ)) → EachIs (site field) vs [] r →
    Reads field (IsPriceList periods field v) (IsListFault periods field v) r
listed periods field v vs is long (Ok xs) e =
    record {
      items = vs;
      is_list = is;
      long = long;
      as_many = ap length e.all ∙ (e.as_many ∙ long);
      prices = λ k item x a b. e.prices k item x a (subst (λ (zs : List ℤ). IsItemAt zs k x) e.all b);
    }
listed periods field v vs is long (Err f) e =
    let number : f.item ≡ suc e.k = omega (arith, e.number_is) in (
      e.same_field,
      subst (IsListFault periods field v f.code) (sym number)
          (record {
            items = vs;
            is_list = is;
            long = long;
            before = e.before;
            item = e.item;
            stands = e.stands;
            fault = e.is_fault;
          }),
    )

not_true : (b : Bool) → not b ≡ false → b ≡ true
not_true true e = refl
not_true false e = absurd (true≢false e)

module _ (nearest : DecimalRoundsToNearestInteger) where
  each_is : (at : PriceSite) (vs : List Value) (before : List ℤ) →
      EachIs at vs before (each (λ before. price (item_at at (position before))) before vs)
  unfolding each
  each_is at [] before = record {
    ys = [];
    all = sym (append-nil before);
    as_many = refl;
    prices = λ k item x a b.
        absurd (none-some item a);
  }
  each_is at (v ∷ vs) before =
      first_of at v vs before (price (item_at at (position before)) v) (λ x. each
      (λ before. price (item_at at (position before))) (before ++ x ∷ []) vs) (item_is nearest (item_at at
      (position before)) v)
      (λ x. each_is at vs (before ++ x ∷ []))

  long_by : (periods : ℕ) (field : PriceField) (v : Value) (vs : List Value) → list_in v ≡ Some vs → (b : Bool) →
      not (length vs == periods) ≡ b
      → Reads field (IsPriceList periods field v) (IsListFault periods field v) (refuse (fault
      (site field) WrongLength) b >> prices (site field) vs)
  unfolding prices
  long_by periods field v vs is true e = (
    refl,
    (
      vs,
      is,
      λ same. true≢false (sym e ∙ ap not (eq-eqb
          (length vs) periods same)),
    ),
  )
  long_by periods field v vs is false e =
      listed periods field v vs is (eqb-true (length vs) periods (not_true (length vs == periods) e)) (prices
      (site field) vs) (each_is (site field) vs [])

  list_by : (periods : ℕ) (field : PriceField) (v : Value) (o : Option (List Value)) → list_in v ≡ o
      → Reads field (IsPriceList periods field v) (IsListFault periods field v) (need (fault
      (site field) WrongKind) o >>= (λ vs. refuse (fault (site field) WrongLength) (not
      (length vs == periods)) >> prices (site field) vs))
  list_by periods field v None e = (refl, e)
  list_by periods field v (Some vs) e = long_by periods field v vs e (not (length vs == periods)) refl

  list_is : (periods : ℕ) (field : PriceField) (v : Value) → Reads field (IsPriceList periods field v)
      (IsListFault periods field v) (list periods field v)
  unfolding list
  list_is periods field v = list_by periods field v (list_in v) refl

  energy_is : (periods : ℕ) (o : Option Value) → Reads Energy (AreEnergyPrices periods o)
      (IsEnergyFault periods o) (energy periods o)
  unfolding energy
  energy_is periods None = (refl, (refl, refl))
  energy_is periods (Some v) = list_is periods Energy v

  reserve_is : (periods : ℕ) (o : Option Value) → Reads Reserve (AreReservePrices periods o)
      (IsReserveFault periods o) (reserve periods o)
  unfolding reserve
  reserve_is periods None = refl
  reserve_is periods (Some v) = list_is periods Reserve v

-- ---- the value

joined : (periods : ℕ) (v : Value) (ms : List Pair) → object_in v ≡ Some ms → (es rs : Read (List ℤ))
    → Reads Energy (AreEnergyPrices periods (value_under (codes "energy") ms)) (IsEnergyFault periods (value_under
    (codes "energy") ms)) es
    → Reads Reserve (AreReservePrices periods (value_under (codes "reserve") ms)) (IsReserveFault periods (value_under
    (codes "reserve") ms)) rs
    → IsReadAs periods v (es >>= (λ e. rs >>= (λ r. let π : PriceLists = record { energy = e; reserve = r } in Ok π)))
joined periods v ms is (Ok e) (Ok r) a b = record { members = ms; is_object = is; energy = a; reserve = b }
joined periods v ms is (Ok e) (Err f) a b = subst (λ (field : PriceField). HasFault periods v field f.code f.item)
    (sym b.0) (ms, is, (e, a), b.1)
joined periods v ms is (Err f) rs a b = subst (λ (field : PriceField). HasFault periods v field f.code f.item)
    (sym a.0) (ms, is, a.1)

module _ (nearest : DecimalRoundsToNearestInteger) where
  value_by : (periods : ℕ) (v : Value) (o : Option (List Pair)) → object_in v ≡ o
      → IsReadAs periods v (need (fault (site Whole) WrongKind) o
      >>= (λ ms. energy periods (value_under (codes "energy") ms)
      >>= (λ e. reserve periods (value_under (codes "reserve") ms)
      >>= (λ r. let π : PriceLists = record { energy = e; reserve = r } in Ok π))))
  value_by periods v None e = (e, refl, refl)
  value_by periods v (Some ms) e =
      joined periods v ms e (energy periods (value_under (codes "energy") ms)) (reserve periods (value_under
      (codes "reserve") ms)) (energy_is nearest periods (value_under (codes "energy") ms))
      (reserve_is nearest periods (value_under (codes "reserve") ms))

  pub is_read_as : (periods : ℕ) (v : Value) → IsReadAs periods v (prices_in periods v)
  unfolding prices_in
  is_read_as periods v = value_by periods v (object_in v) refl
