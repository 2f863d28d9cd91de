-- The schedules of the three kinds make up the plan.
use Rattle.uc_plan.proofs.Common.{◌≡◌, ℕ, List, [], ◌∷◌, ◌++◌, length, map, Result, Ok, Err, refl, sym, ap, ◌∙◌, arith}
use Rattle.uc_plan.proofs.Common.{length-append, subst, All, append_assoc, All-append, Schedule, Market}
use Rattle.uc_plan.proofs.Common.{NamedThermalUnit, NamedRenewableUnit, NamedBidUnit, thermal_names, renewable_names}
use Rattle.uc_plan.proofs.Common.{bid_names, HasPlanShape, named_thermal_of, named_renewable_of, named_bid_of, Value}
use Rattle.uc_plan.proofs.Common.{Fails, ◌>>=◌, ◌>>◌, Stop, IsShaped, HasLengths, IsFlat, Groups, Read, groups}
use Rattle.uc_plan.proofs.Common.{all_known, all_named, schedules, all_schedules, plan_of, ShapeFault}
use Rattle.std.proofs.Math.Seq.{drop-append_seam}
use Rattle.std.specs.Prelude.{IfOk}
use Rattle.uc_text.specs.Given.{Gives}
use Rattle.uc_plan.specs.Added.{Adds}
use Rattle.uc_model.specs.declared.kinds.Kind.TheVariants.{Thermal, Renewable, Bid}
use Rattle.uc_model.specs.declared.units.NamedUnit.{NamedUnit}
use Rattle.uc_model.specs.declared.units.NamedFlat.{NamedFlat}
use Rattle.uc_model.specs.declared.units.NamedBid.{NamedBid}
use Rattle.uc_text.specs.declared.stop.Stop.TheVariants as stops

pub thermal_named : (ts : List NamedUnit) →
    map (λ (n : NamedThermalUnit). n.name) (map named_thermal_of ts) ≡ map (λ (n : NamedUnit). n.name.items) ts
thermal_named [] = refl
thermal_named (t ∷ ts) = ap (λ (ns : List (List ℕ)). t.name.items ∷ ns) (thermal_named ts)

pub renewable_named : (ts : List NamedFlat) →
    map (λ (n : NamedRenewableUnit). n.name) (map named_renewable_of ts) ≡ map (λ (n : NamedFlat). n.name.items) ts
renewable_named [] = refl
renewable_named (t ∷ ts) = ap (λ (ns : List (List ℕ)). t.name.items ∷ ns) (renewable_named ts)

pub bids_named : (ts : List NamedBid) →
    map (λ (n : NamedBidUnit). n.name) (map named_bid_of ts) ≡ map (λ (n : NamedBid). n.name.items) ts
bids_named [] = refl
bids_named (t ∷ ts) = ap (λ (ns : List (List ℕ)). t.name.items ∷ ns) (bids_named ts)

-- ---- each step that fails ends the reading

pub bind_fails : {A B F : Type 0} (e : Stop F) (r : Result A F) (f : A → Result B F) → Fails e r → Fails e (r >>= f)
bind_fails stops.Memory r f h = tt
bind_fails (stops.Fault x) r f h = rw h refl

pub then_fails : {A B F : Type 0} (e : Stop F) (r : Result A F) (s : Result B F) → Fails e r → Fails e (r >> s)
then_fails stops.Memory r s h = tt
then_fails (stops.Fault x) r s h = rw h refl

module _ (m : Market) (g : Groups) where
  pub thermal_unknown : (e : Stop ShapeFault) → Fails e (all_known Thermal (thermal_names m) g.thermal) →
      Fails e (all_named m g)
  unfolding all_named
  thermal_unknown e h = then_fails e (all_known Thermal (thermal_names m) g.thermal) _ h

  module _ (t_known : all_known Thermal (thermal_names m) g.thermal ≡ Ok tt) where
    pub renewable_unknown : (e : Stop ShapeFault) → Fails e (all_known Renewable (renewable_names m) g.renewable) →
        Fails e (all_named m g)
    unfolding all_named
    renewable_unknown e h = rw t_known (then_fails e (all_known Renewable (renewable_names m) g.renewable) _ h)

    pub bids_named_last : all_known Renewable (renewable_names m) g.renewable ≡ Ok tt →
        all_known Bid (bid_names m) g.bids ≡ all_named m g
    unfolding all_named
    bids_named_last r_known = rw (t_known, r_known) refl

  pub thermal_fails : (e : Stop ShapeFault) → Fails e (schedules m.periods Thermal g.thermal (thermal_names m)) →
      Fails e (all_schedules m g)
  unfolding all_schedules
  thermal_fails e h = bind_fails e (schedules m.periods Thermal g.thermal (thermal_names m)) _ h

  module _ (t : List Schedule) (t_read : schedules m.periods Thermal g.thermal (thermal_names m) ≡ Ok t) where
    pub renewable_fails : (e : Stop ShapeFault) →
        Fails e (schedules m.periods Renewable g.renewable (renewable_names m)) → Fails e (all_schedules m g)
    unfolding all_schedules
    renewable_fails e h = rw t_read (bind_fails e (schedules m.periods Renewable g.renewable (renewable_names m)) _ h)

    module _ (r : List Schedule) (r_read : schedules m.periods Renewable g.renewable (renewable_names m) ≡ Ok r) where
      pub bids_fail : (e : Stop ShapeFault) → Fails e (schedules m.periods Bid g.bids (bid_names m)) →
          Fails e (all_schedules m g)
      unfolding all_schedules
      bids_fail e h = rw (t_read, r_read) (bind_fails e (schedules m.periods Bid g.bids (bid_names m)) _ h)

      pub plan_read : (b : List Schedule) → schedules m.periods Bid g.bids (bid_names m) ≡ Ok b →
          all_schedules m g ≡ Ok (t ++ (r ++ b))
      unfolding all_schedules
      plan_read b b_read = rw (t_read, r_read, b_read) refl

module _ (m : Market) (v : Value) (g : Groups) (found : groups (length m.bids) v ≡ Ok g) where
  pub names_fail : (e : Stop ShapeFault) → Fails e (all_named m g) → Fails e (plan_of m v)
  unfolding plan_of
  names_fail e h = rw found (then_fails e (all_named m g) _ h)

  pub schedules_last : all_named m g ≡ Ok tt → all_schedules m g ≡ plan_of m v
  unfolding plan_of
  schedules_last known = rw (found, known) refl

-- ---- the shape of the plan

pub joined_shape : (m : Market) (t r b : List Schedule) → length t ≡ length m.thermal → length r ≡ length m.flat →
    length b ≡ length m.bids
    → All (λ s. IsShaped Thermal m.periods s) t → All (λ s. IsShaped Renewable m.periods s) r →
    All (λ s. IsShaped Bid m.periods s) b → HasPlanShape m (t ++ (r ++ b))
joined_shape m t r b t_count r_count b_count t_shape r_shape b_shape = record {
  count = length-append t (r ++ b) ∙ omega (arith, length-append r b, t_count, r_count, b_count);
  lengths = All-append (λ (s : Schedule). HasLengths m.periods s) t (r ++ b) (λ k d lt. (t_shape k d lt).0)
      (All-append (λ (s : Schedule). HasLengths m.periods s) r b (λ k d lt. (r_shape k d lt).0)
      (λ k d lt. (b_shape k d lt).0));
  always_on = subst (λ (ss : List Schedule). All IsFlat ss) (sym (rw (← t_count) (drop-append_seam t (r ++ b))))
      (All-append IsFlat r b (λ k d lt. (r_shape k d lt).1) (λ k d lt. (b_shape k d lt).1));
}

-- what three readers in turn added to an empty list
pub joined : (n0 n1 n2 n3 t r b : List Schedule) → n0 ≡ [] → n1 ≡ n0 ++ t → n2 ≡ n1 ++ r → n3 ≡ n2 ++ b →
    n3 ≡ t ++ (r ++ b)
joined n0 n1 n2 n3 t r b none first second third = rw (third, second, first, none) (append_assoc t r b)

abbrev planned : List Schedule → Read (List Schedule)
planned ss = Ok ss

pub plan_is : (m : Market) (g : Groups) (ss ts : List Schedule) → all_schedules m g ≡ Ok ts → ss ≡ ts →
    all_schedules m g ≡ Ok ss
plan_is m g ss ts read same = read ∙ ap planned (sym same)

-- ---- the last reader ends the reading of all

module _ (m : Market) (g : Groups) (t r n0 n1 n2 n3 : List Schedule) (none : n0 ≡ []) (first : n1 ≡ n0 ++ t)
    (second : n2 ≡ n1 ++ r) where
  pub all_added : (count : ℕ) (done : Result (Unit {0}) (Stop ShapeFault)) →
      schedules m.periods Thermal g.thermal (thermal_names m) ≡ Ok t →
      schedules m.periods Renewable g.renewable (renewable_names m) ≡ Ok r
      → Adds (λ s. IsShaped Bid m.periods s) count n2 n3 done (schedules m.periods Bid g.bids (bid_names m)) →
      Gives (λ (_ : Unit {0}). n3) done (all_schedules m g)
  all_added count (Ok u) t_read r_read last =
      plan_is m g n3 (t ++ (r ++ last.0)) (plan_read m g t t_read r r_read last.0 last.1)
      (joined n0 n1 n2 n3 t r last.0 none first second last.2)
  all_added count (Err e) t_read r_read last = bids_fail m g t t_read r r_read e last

  pub all_shaped : (done : Result (Unit {0}) (Stop ShapeFault)) → length t ≡ length m.thermal →
      length r ≡ length m.flat → All (λ s. IsShaped Thermal m.periods s) t → All (λ s. IsShaped Renewable m.periods s) r
      → Adds (λ s. IsShaped Bid m.periods s) (length m.bids) n2 n3 done (schedules m.periods Bid g.bids (bid_names m)) →
      IfOk done (λ _. HasPlanShape m n3)
  all_shaped (Ok u) t_count r_count t_shape r_shape last =
      subst (HasPlanShape m) (sym (joined n0 n1 n2 n3 t r last.0 none first second last.2))
      (joined_shape m t r last.0 t_count r_count last.3 t_shape r_shape last.4)
  all_shaped (Err e) t_count r_count t_shape r_shape last = tt
