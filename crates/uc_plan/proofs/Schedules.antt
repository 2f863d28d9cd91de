-- The schedules of units, read one after the other as a loop does.
use Rattle.uc_plan.proofs.Common.{◌≡◌, ℕ, ◌+◌, ◌<◌, ◌≤◌, List, [], ◌∷◌, ◌++◌, length, map, get_or, drop, Ok, refl, sym}
use Rattle.uc_plan.proofs.Common.{subst, ◌∙◌, All, All-nil, All-push, map_push, append-nil, append_assoc, Schedule}
use Rattle.uc_plan.proofs.Common.{schedule_of, Pair, Fails, each, position, Stop, goes_on, ends, is_done, counted}
use Rattle.uc_plan.proofs.Common.{IsShaped, Read, shape_site, named, schedules, ShapeSite, ShapeFault}
use Rattle.uc_model.specs.declared.kinds.Kind.{Kind}
use Rattle.uc_model.specs.declared.units.Response.{Response}

-- one of the schedules, with those before it
abbrev pub one_schedule : ℕ → Kind → List Pair → List Schedule → List ℕ → Read Schedule
one_schedule periods kind ms before = named periods ms (shape_site kind (position before))

-- what the list has in addition, once i units are read
pub record Front (N : Type 0) (name_of : N → List ℕ) (periods : ℕ) (kind : Kind) (ms : List Pair) (us : List N) (i : ℕ)
    (old now : List Response) : Type 0 where
  pub front : List Schedule
  pub items : map schedule_of now ≡ map schedule_of old ++ front
  pub count : length front ≡ i
  pub shaped : All (λ s. IsShaped kind periods s) front
  pub so_far : each (one_schedule periods kind ms) front (map name_of (drop i us)) ≡ schedules periods kind ms
      (map name_of us)

pub front_begin : (N : Type 0) (name_of : N → List ℕ) (periods : ℕ) (kind : Kind) (ms : List Pair) (us : List N)
    (old : List Response) → Front N name_of periods kind ms us 0 old old
unfolding schedules
front_begin N name_of periods kind ms us old = record {
  front = [];
  items = sym (append-nil (map schedule_of old));
  count = refl;
  shaped = All-nil (λ s. IsShaped kind periods s);
  so_far = refl;
}

here : (periods : ℕ) (kind : Kind) (ms : List Pair) (i : ℕ) (front : List Schedule) (at : ShapeSite)
    (name told : List ℕ) → length front ≡ i → at ≡ shape_site kind (i + 1) → name ≡ told →
    named periods ms at name ≡ one_schedule periods kind ms front told
here periods kind ms i front at name told count at-is name-is = rw (at-is, name-is, count) refl

pub front_more : (N : Type 0) (name_of : N → List ℕ) (periods : ℕ) (kind : Kind) (ms : List Pair) (us : List N) (i : ℕ)
    (old now new : List Response) (u : N) (at : ShapeSite) (name : List ℕ) (r : Response)
    → Front N name_of periods kind ms us i old now → i < length us → u ≡ get_or us i u → at ≡ shape_site kind (i + 1) →
    name ≡ name_of u → named periods ms at name ≡ Ok (schedule_of r) → IsShaped kind periods (schedule_of r) →
    new ≡ now ++ r ∷ []
    → Front N name_of periods kind ms us (i + 1) old new
front_more N name_of periods kind ms us i old now new u at name r f lt is at-is name-is read shape pushed = record {
  front = f.front ++ schedule_of r ∷ [];
  items = rw (pushed, map_push schedule_of now r, f.items)
      (append_assoc (map schedule_of old) f.front (schedule_of r ∷ []));
  count = counted f.front (f.front ++ schedule_of r ∷ []) (schedule_of r) i refl f.count;
  shaped = All-push (λ s. IsShaped kind periods s) f.front (schedule_of r) f.shaped shape;
  so_far = goes_on (one_schedule periods kind ms) name_of us i u f.front (schedule_of r)
      (schedules periods kind ms (map name_of us)) lt is
      (sym (here periods kind ms i f.front at name (name_of u) f.count at-is name-is) ∙ read) f.so_far;
}

pub front_fails : (N : Type 0) (name_of : N → List ℕ) (periods : ℕ) (kind : Kind) (ms : List Pair) (us : List N) (i : ℕ)
    (old now : List Response) (u : N) (at : ShapeSite) (name : List ℕ) (e : Stop ShapeFault)
    → Front N name_of periods kind ms us i old now → i < length us → u ≡ get_or us i u → at ≡ shape_site kind (i + 1) →
    name ≡ name_of u → Fails e (named periods ms at name) → Fails e (schedules periods kind ms (map name_of us))
front_fails N name_of periods kind ms us i old now u at name e f lt is at-is name-is fails =
    ends e (one_schedule periods kind ms) name_of us i u f.front (schedules periods kind ms (map name_of us)) lt is
    (subst (λ (r : Read Schedule). Fails e r)
    (here periods kind ms i f.front at name (name_of u) f.count at-is name-is) fails) f.so_far

pub front_done : (N : Type 0) (name_of : N → List ℕ) (periods : ℕ) (kind : Kind) (ms : List Pair) (us : List N) (i : ℕ)
    (old now : List Response) (f : Front N name_of periods kind ms us i old now) → length us ≤ i →
    schedules periods kind ms (map name_of us) ≡ Ok f.front
front_done N name_of periods kind ms us i old now f le =
    is_done (one_schedule periods kind ms) name_of us i f.front (schedules periods kind ms (map name_of us)) le f.so_far
