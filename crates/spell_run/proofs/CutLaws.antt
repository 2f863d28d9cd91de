-- A function cut above a power, and a step before a stop that only cuts.
use Rattle.spell_run.proofs.Common
use Common.{◌≡◌, ℕ, zero, suc, ◌<◌, ◌≤◌, ◌⊎◌, inl, inr, ℤ, pos, negsuc, ◌+ℤ◌, ◌-ℤ◌, ◌*ℤ◌, ◌≤ℤ◌, ◌<ℤ◌, Bool, true}
use Common.{false, List, [], ◌∷◌, take, Some, None, refl, sym, ap, ◌∙◌, arith, slice_get}
use Common.{option_map, by_lt_z, IsCostCurve, curve_value, reserve_term, IsLeast, IsLeastIn, IsSum, IsCurveSum, Table}
use Common.{value_of, offset_value, IsTurn, Curve, ThermalUnit, PriceLists, IsThermalUnit, int_at, cap_at, step_at}
use Common.{IsKinked, IsStepped, signed}
use Rattle.std.proofs.Common.{get_or}
use Rattle.std.proofs.lemmas.Option.{slice_get_within, slice_get-get_or}
use Rattle.slope_list.specs.Pieces.{powers_to}
use Rattle.spell_run.proofs.StepLaws.{under_cap, cap_over, under_most, step_sound}

-- ---- powers of a table

get_before : (xs : List ℤ) (j k : ℕ) (w : ℤ) → slice_get xs j ≡ Some w → k ≤ j → (v : ℤ) × (slice_get xs k ≡ Some v)
get_before xs j k w h low =
    let inside = slice_get_within xs j w h in
    (get_or xs k (pos 0), slice_get-get_or xs k (pos 0) (omega arith))

between_by : (values : List ℤ) (d e z u w : ℤ) → offset_value values d ≡ Some u → offset_value values e ≡ Some w →
    d ≤ℤ z → z ≤ℤ e → (v : ℤ) × (offset_value values z ≡ Some v)
between_by values (pos i) (pos j) (pos k) u w p q low high = get_before values j k w q (omega signed)
between_by values (pos i) (pos j) (negsuc k) u w p q low high = absurd (omega signed)
between_by values (pos i) (negsuc j) z u w p q low high = cc
between_by values (negsuc i) e z u w p q low high = cc

-- between two powers of a function there are others
pub between_powers : (f : Table) (a b x u w : ℤ) → value_of f a ≡ Some u → value_of f b ≡ Some w → a ≤ℤ x → x ≤ℤ b →
    (v : ℤ) × (value_of f x ≡ Some v)
between_powers f a b x u w p q low high = between_by f.values (a -ℤ f.lo) (b -ℤ f.lo) (x -ℤ f.lo) u w p q
    (omega signed) (omega signed)

-- ---- the powers up to one

pub cut : Table → ℤ → Table
cut f hi = record { lo = f.lo; values = take (powers_to (hi -ℤ f.lo)) f.values }

take_inside : (n : ℕ) (xs : List ℤ) (k : ℕ) → k < n → slice_get (take n xs) k ≡ slice_get xs k
take_inside zero xs k h = absurd (omega arith)
take_inside (suc n) [] k h = refl
take_inside (suc n) (x ∷ xs) zero h = refl
take_inside (suc n) (x ∷ xs) (suc k) h = take_inside n xs k (omega arith)

take_past : (n : ℕ) (xs : List ℤ) (k : ℕ) → n ≤ k → slice_get (take n xs) k ≡ None
take_past zero xs k h = refl
take_past (suc n) [] k h = refl
take_past (suc n) (x ∷ xs) zero h = absurd (omega arith)
take_past (suc n) (x ∷ xs) (suc k) h = take_past n xs k (omega arith)

inside_by : (values : List ℤ) (d e : ℤ) → d ≤ℤ e → offset_value (take (powers_to e) values) d ≡ offset_value values d
inside_by values (pos k) (pos m) h = take_inside (suc m) values k (omega signed)
inside_by values (pos k) (negsuc m) h = absurd (omega signed)
inside_by values (negsuc k) e h = refl

past_by : (values : List ℤ) (d e : ℤ) → e <ℤ d → offset_value (take (powers_to e) values) d ≡ None
past_by values (pos k) (pos m) h = take_past (suc m) values k (omega signed)
past_by values (pos k) (negsuc m) h = take_past 0 values k (omega arith)
past_by values (negsuc k) e h = refl

pub cut_inside : (f : Table) {hi x : ℤ} → x ≤ℤ hi → value_of (cut f hi) x ≡ value_of f x
unfolding cut
cut_inside f {hi = hi} {x = x} h = inside_by f.values (x -ℤ f.lo) (hi -ℤ f.lo) (omega signed)

pub cut_past : (f : Table) {hi x : ℤ} → hi <ℤ x → value_of (cut f hi) x ≡ None
unfolding cut
cut_past f {hi = hi} {x = x} h = past_by f.values (x -ℤ f.lo) (hi -ℤ f.lo) (omega signed)

pub cut_value : (f : Table) (hi x : ℤ) {v : ℤ} → value_of (cut f hi) x ≡ Some v → (x ≤ℤ hi) × (value_of f x ≡ Some v)
cut_value f hi x h = by_lt_z hi x
    (λ l. let none = cut_past f l in cc)
    (λ (l : x ≤ℤ hi). (l, sym (cut_inside f l) ∙ h))

cut_sum : (term : ℤ → ℤ) (f g : Table) (hi : ℤ) → IsSum term f g → IsSum term (cut f hi) (cut g hi)
cut_sum term f g hi sum x = by_lt_z hi x
    (λ l. rw (cut_past g l, cut_past f l))
    (λ l. rw (cut_inside g l, cut_inside f l) (sum x))

cut_curve : (c : Curve) (f g : Table) (hi : ℤ) → IsCurveSum (curve_value c) (pos 0) f g →
    IsCurveSum (curve_value c) (pos 0) (cut f hi) (cut g hi)
cut_curve c f g hi sum x = by_lt_z hi x
    (λ l. rw (cut_past f l) (cut_past g l))
    (λ l. rw (cut_inside f l, cut_inside g l) (sum x))

-- ---- a step before a stop that has the same kink

kink_same : (mu a b up x : ℤ) → (mu ≡ pos 0) ⊎ (a ≡ b) → reserve_term mu a up x ≡ reserve_term mu b up x
kink_same mu a b up x (inl none) = ap (λ m. reserve_term m a up x) none ∙ free a ∙ sym (free b) ∙
    sym (cc)
  where
    free : (c : ℤ) → reserve_term (pos 0) c up x ≡ pos 0
    free c = omega signed
kink_same mu a b up x (inr same) = ap (λ c. reserve_term mu c up x) same

module _ (g : ThermalUnit) (π : PriceLists) (k : ℕ) (starts : Bool)
    (alike : (int_at π.reserve k ≡ pos 0) ⊎ (cap_at g starts true ≡ cap_at g starts false)) where
  abbrev high : ℤ
  high = (step_at g π k starts true).most

  kinked_same : (f h : Table) → IsKinked (step_at g π k starts false) f h → IsKinked (step_at g π k starts true) f h
  kinked_same f h kink x =
      kink x ∙ sym (ap (λ t. option_map (λ v. v +ℤ t) (value_of f x))
      (kink_same (int_at π.reserve k) (cap_at g starts true) (cap_at g starts false) g.ramp_up x alike))

  pub turn_alike : (f : Table) (m : ℤ) → IsTurn (step_at g π k starts false) f m →
      IsTurn (step_at g π k starts true) f m
  turn_alike f m turn = (turn.0, kinked_same f turn.0 turn.1, turn.2)

  high_is : (x : ℤ) → x ≤ℤ high → x ≤ℤ (step_at g π k starts false).most
  high_is x h =
      let u = under_cap g starts true (under_most g π k starts true h).0 in
      cap_over g starts false (record { most = u.most; start = u.start; stop = λ e. cc })

  pub stepped_cut : {c : Curve} {f h : Table} → IsStepped (step_at g π k starts false) c f h →
      IsStepped (step_at g π k starts true) c f (cut h high)
  stepped_cut {c = c} {f = f} {h = h} step = record {
    kinked = step.kinked;
    window = cut step.window high;
    line = cut step.line high;
    is_kinked = kinked_same f step.kinked step.is_kinked;
    is_window = record {
      reached = λ x v there.
          (let inside = cut_value step.window high x there in
          let r = step.is_window.reached x v inside.1 in
          (r.0, r.1, (r.2.0, inside.0), r.3));
      least = λ x y w there inside reach.
          (let r = step.is_window.least x y w there (inside.0, high_is x inside.1) reach in
          (r.0, cut_inside step.window inside.1 ∙ r.1, r.2));
    };
    is_line = cut_sum (λ x. (int_at π.reserve k -ℤ int_at π.energy k) *ℤ x) step.window step.line high step.is_line;
    is_curve = cut_curve c step.line h high step.is_curve;
  }

  pub least_cut : {c : Curve} (unit : IsThermalUnit g) (price : pos 0 ≤ℤ int_at π.reserve k)
      (curve : IsCostCurve g.points c) {f h : Table} {v x : ℤ} → IsStepped (step_at g π k starts false) c f h →
      IsLeastIn g.min_power high h v x → IsLeast (cut h high) v x
  least_cut unit price curve {h = h} {v = v} {x = x} step least =
      let low : (y w : ℤ) → value_of h y ≡ Some w → g.min_power ≤ℤ y = λ y w there.
      (step_sound π k unit price curve starts false step y there).move.least in
      record {
        there = cut_inside h least.inside.1 ∙ least.there;
        least = λ y w there. (let i = cut_value h high y there in least.least y w i.1 (low y w i.1) i.0);
        first = λ y there. (let i = cut_value h high y there in least.first y i.1 (low y v i.1) i.0);
      }
