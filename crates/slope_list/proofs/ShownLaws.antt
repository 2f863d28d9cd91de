-- What is seen of pieces, and of none.
use Rattle.slope_list.proofs.Common.{◌≡◌, [], true, false, Option, Some, None, refl, sym, ap, ◌∙◌, subst, IfSome, ℤ}
use Rattle.slope_list.proofs.Common.{pos, negsuc, ◌+ℤ◌, ◌-ℤ◌, ◌*ℤ◌, MatchOption, IsStepped, Table, value_of}
use Rattle.slope_list.proofs.Common.{offset_value, IsEmpty, Made, IsLeast, IsTurn}
use Rattle.std.specs.Option.{option_map}
use Rattle.uc_model.specs.declared.units.Curve.{Curve}
use Rattle.slope_list.specs.declared.step_terms.Step.{Step}
use Rattle.slope_list.specs.Curve.{curve_value, reserve_term}
use Rattle.slope_list.specs.declared.slopes.Lowest.{Lowest}

-- ---- an empty interval

none_in : (d : ℤ) → offset_value [] d ≡ None
none_in (pos k) = refl
none_in (negsuc k) = refl

pub none_at : (x : ℤ) → value_of (record { lo = pos 0; values = [] }) x ≡ None
none_at x = none_in (x -ℤ pos 0)

not_some : {P : Type 0} {v : ℤ} → (o : Option ℤ) → o ≡ None → o ≡ Some v → P
not_some o p q = cc

-- a step of nothing is nothing
pub stepped_nothing : (s : Step) (c : Curve) →
    IsStepped s c (record { lo = pos 0; values = [] }) (record { lo = pos 0; values = [] })
stepped_nothing s c =
    let e : Table = record { lo = pos 0; values = [] } in
    record {
      kinked = e;
      window = e;
      line = e;
      is_kinked = λ x. none_at x ∙
          sym (ap (option_map (λ (v : ℤ). v +ℤ reserve_term s.reserve_price s.cap s.ramp_up x)) (none_at x));
      is_window = record {
        reached = λ x v h. not_some (value_of e x) (none_at x) h;
        least = λ x y w h inside reach. not_some (value_of e y) (none_at y) h;
      };
      is_line = λ x. none_at x ∙ sym (ap (option_map (λ (v : ℤ). v +ℤ s.slope *ℤ x)) (none_at x));
      is_curve =
          λ x. subst (λ (o : Option ℤ). MatchOption o (value_of e x ≡ None)
          (λ v. (k : ℤ) × (curve_value c (x +ℤ pos 0) ≡ Some k) × (value_of e x ≡ Some (v +ℤ k)))) (sym (none_at x))
          (none_at x);
    }

pub none_of : (o : Option Made) → ((m : Made) → o ≡ Some m → ⊥) → o ≡ None
none_of None h = refl
none_of (Some m) h = absurd (h m refl)

pub never : false ≡ true → ⊥
never h = cc

pub at_some : {X : Type 0} (P : X → Type 0) (o : Option X) (x : X) → o ≡ Some x → IfSome o P → P x
at_some {X = X} P o x is h = subst (λ (o : Option X). IfSome o P) is h

-- the least value of what is drawn, with the turn that is known
pub lowest_turned : (s : Step) (c : Curve) (f after : Table) (turn : ℤ) (o : Option Lowest) → IsStepped s c f after →
    MatchOption o (IsEmpty after) (λ r. IsLeast after r.value r.at) → IfSome o (λ r. r.turn ≡ turn) → IsTurn s f turn →
    (h : Table) × IsStepped s c f h × MatchOption o (IsEmpty h) (λ r. IsLeast h r.value r.at × IsTurn s f r.turn)
lowest_turned s c f after turn None step least same is = (after, step, least)
lowest_turned s c f after turn (Some r) step least same is = (after, step, (least, subst (IsTurn s f) (sym same) is))
