-- The prices of a list, read one after the other as a loop does.
use Rattle.uc_prices.proofs.Common.{◌≡◌, ℕ, ◌+◌, ◌<◌, ◌≤◌, ℤ, List, [], ◌∷◌, ◌++◌, length, get_or, drop, Ok, refl, sym}
use Rattle.uc_prices.proofs.Common.{subst, ◌∙◌, view, views, goes_on, ends, is_done, each, position, item_at, price}
use Rattle.uc_prices.proofs.Common.{prices, Read, PriceSite}
use Rattle.uc_text.specs.Values.{Value}
use Rattle.uc_text.specs.declared.branch.Branch.{Branch}
use Rattle.uc_text.specs.Given.{Fails}
use Rattle.uc_text.specs.declared.stop.Stop.{Stop}
use Rattle.uc_prices.specs.declared.fault.PriceFault.{PriceFault}

-- one of the prices, with those before it
abbrev pub one_price : PriceSite → List ℤ → Value → Read ℤ
one_price at before = price (item_at at (position before))

here : (at p : PriceSite) (front : List ℤ) (n : ℕ) (v : Value) → p ≡ item_at at (n + 1) → n ≡ length front →
    price p v ≡ one_price at front v
here at p front n v p-is n-is = rw (p-is, n-is) refl

pub price_goes_on : (at p : PriceSite) (ts : List Branch) (i : ℕ) (t : Branch) (front : List ℤ) (n : ℕ) (x : ℤ) →
    i < length ts → t ≡ get_or ts i t → p ≡ item_at at (n + 1) → n ≡ length front → price p (view t) ≡ Ok x
    → each (one_price at) front (views (drop i ts)) ≡ prices at (views ts) →
    each (one_price at) (front ++ x ∷ []) (views (drop (i + 1) ts)) ≡ prices at (views ts)
price_goes_on at p ts i t front n x lt is p-is n-is read so_far =
    goes_on (one_price at) view ts i t front x (prices at (views ts)) lt is
    (sym (here at p front n (view t) p-is n-is) ∙ read) so_far

pub price_ends : (e : Stop PriceFault) (at p : PriceSite) (ts : List Branch) (i : ℕ) (t : Branch) (front : List ℤ)
    (n : ℕ) → i < length ts → t ≡ get_or ts i t → p ≡ item_at at (n + 1) → n ≡ length front → Fails e (price p (view t))
    → each (one_price at) front (views (drop i ts)) ≡ prices at (views ts) → Fails e (prices at (views ts))
price_ends e at p ts i t front n lt is p-is n-is fails so_far =
    ends e (one_price at) view ts i t front (prices at (views ts)) lt is
    (subst (λ (r : Read ℤ). Fails e r) (here at p front n (view t) p-is n-is) fails) so_far

pub prices_done : (at : PriceSite) (ts : List Branch) (i : ℕ) (front : List ℤ) → length ts ≤ i →
    each (one_price at) front (views (drop i ts)) ≡ prices at (views ts) → prices at (views ts) ≡ Ok front
prices_done at ts i front le so_far = is_done (one_price at) view ts i front (prices at (views ts)) le so_far

pub prices_begin : (at : PriceSite) (ts : List Branch) → each (one_price at) [] (views ts) ≡ prices at (views ts)
unfolding prices
prices_begin at ts = refl
