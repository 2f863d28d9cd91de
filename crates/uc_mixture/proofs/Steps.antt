-- Each step of a mixture's reading that fails ends it, and steps that don't make up the mixture.
use Rattle.uc_mixture.proofs.Common.{◌≡◌, List, Ok, refl, Fails, Stop, Value, Market, thermal_names, WeighedSchedule}
use Rattle.uc_mixture.proofs.Common.{within, units, mixture_in, frame_of, ShareFault}
use Rattle.uc_model.specs.declared.kinds.Kind.TheVariants.{Thermal}
use Rattle.uc_plan.proofs.Joined.{bind_fails, then_fails}
use Rattle.uc_plan.specs.Plans.{all_known}
use Rattle.uc_mixture.specs.Tables.{Head, head}

module _ (m : Market) (v : Value) (h : Head) (found : head v ≡ Ok h) where
  pub units_unknown : (e : Stop ShareFault) → Fails e (within 0 (all_known Thermal (thermal_names m) h.thermal)) →
      Fails e (mixture_in m v)
  unfolding mixture_in
  units_unknown e fails = rw found (then_fails e (within 0 (all_known Thermal (thermal_names m) h.thermal)) _ fails)

  module _ (known : within 0 (all_known Thermal (thermal_names m) h.thermal) ≡ Ok tt) where
    pub units_fail : (e : Stop ShareFault) → Fails e (units (frame_of m h) h.thermal (thermal_names m)) →
        Fails e (mixture_in m v)
    unfolding mixture_in
    units_fail e fails = rw (found, known) (bind_fails e (units (frame_of m h) h.thermal (thermal_names m)) _ fails)

    pub mixture_read : (ess : List (List WeighedSchedule)) → units (frame_of m h) h.thermal (thermal_names m) ≡ Ok ess →
        mixture_in m v ≡ Ok (record { whole = h.whole; entries = ess })
    unfolding mixture_in
    mixture_read ess read = rw (found, known, read) refl
