-- The title and the lines of the unit of a number.
use Rattle.report_compare.proofs.Common.{◌≡◌, ℕ, zero, suc, ◌+◌, ◌<◌, ◌≤◌, Some, List, [], ◌∷◌, ◌++◌, map, drop, length}
use Rattle.report_compare.proofs.Common.{sym, ap, ◌∙◌, subst, refl, arith, length-append, slice_get, slice_index_or}
use Rattle.report_compare.proofs.Common.{AllZip, length-map, none-some, slice_get_read, append_assoc, AnyUnit, Thermal}
use Rattle.report_compare.proofs.Common.{Flat, Bid, kind_of, units, unit_names, NamedThermalUnit, NamedRenewableUnit}
use Rattle.report_compare.proofs.Common.{NamedBidUnit, Market, unit_count, thermal_names, renewable_names, bid_names}
use Rattle.report_compare.proofs.Common.{Kind, Title, titles_of, titles}
use Rattle.uc_model.specs.declared.kinds.Kind.TheVariants as kinds

pub same_item : {X : Type 0} → (x y : X) → Some x ≡ Some y → x ≡ y
same_item x y e = cc

pub map_item : {X Y : Type 0} → (f : X → Y) (xs : List X) (k : ℕ) (x : X) → slice_get xs k ≡ Some x →
    slice_get (map f xs) k ≡ Some (f x)
map_item f [] k x e = absurd (none-some x e)
map_item f (y ∷ xs) zero x e = ap (λ z. Some (f z)) (same_item y x e)
map_item f (y ∷ xs) (suc k) x e = map_item f xs k x e

pub zip_at : {A B : Type 0} (Q : A → B → Type 0) (us : List A) (ys : List B) (k : ℕ) (u : A) (d : B) → AllZip Q us ys →
    slice_get us k ≡ Some u → Q u (slice_index_or ys k d)
zip_at Q [] ys k u d h e = absurd (none-some u e)
zip_at Q (x ∷ us) [] k u d h e = absurd h
zip_at Q (x ∷ us) (y ∷ ys) zero u d h e = subst (λ z. Q z y) (same_item x u e) h.0
zip_at Q (x ∷ us) (y ∷ ys) (suc k) u d h e = zip_at Q us ys k u d h.1 e

pub drop_item : {X : Type 0} → (xs : List X) (k : ℕ) (x : X) → slice_get xs k ≡ Some x → drop k xs ≡ x ∷ drop (k + 1) xs
drop_item [] k x e = absurd (none-some x e)
drop_item (y ∷ xs) zero x e = ap (λ z. z ∷ xs) (same_item y x e)
drop_item (y ∷ xs) (suc k) x e = let n : suc k + 1 ≡ suc (k + 1) = omega arith in
    drop_item xs k x e ∙ ap (λ (i : ℕ). x ∷ drop i (y ∷ xs)) (sym n)

pub drop_all : {X : Type 0} → (xs : List X) (k : ℕ) → length xs ≤ k → drop k xs ≡ []
drop_all [] zero h = refl
drop_all [] (suc k) h = refl
drop_all (x ∷ xs) zero h = absurd (omega (arith, h))
drop_all (x ∷ xs) (suc k) h = drop_all xs k (omega (arith, h))

-- the item that indexing gave
pub read_item : {X Y : Type 0} → (f : X → Y) (xs : List X) (k : ℕ) (x : X) → k < length xs → x ≡ slice_index_or xs k x →
    slice_get (map f xs) k ≡ Some (f x)
read_item f xs k x h e = map_item f xs k x (slice_get_read xs (length xs) k x refl h e)

-- ---- titles

abbrev pub title : Kind → List ℕ → Title
title kind name = record { kind = kind; name = name }

titled_length : (kind : Kind) (names : List (List ℕ)) → length (titles_of kind names) ≡ length names
titled_length kind names = length-map names (title kind)

-- each unit has its kind and name
abbrev pub AreTitled : List AnyUnit → List (List ℕ) → List Title → Type 0
AreTitled us names ts = (k : ℕ) (u : AnyUnit) (called : List ℕ) → slice_get us k ≡ Some u →
    slice_get names k ≡ Some called → slice_get ts k ≡ Some (title (kind_of u) called)

nothing_titled : AreTitled [] [] []
nothing_titled k u called a b = absurd (none-some u a)

-- units of one kind, alone and before others
module _ {N : Type 0} (unit : N → AnyUnit) (name : N → List ℕ) (kind : Kind)
    (same : (n : N) → kind_of (unit n) ≡ kind) where
  one_titled : (n : N) (u : AnyUnit) (called : List ℕ) → Some (unit n) ≡ Some u → Some (name n) ≡ Some called →
      Some (title kind (name n)) ≡ Some (title (kind_of u) called)
  one_titled n u called a b =
      let own = sym (same n) ∙ ap kind_of (same_item (unit n) u a) in
      let named = same_item (name n) called b in
      λ i. Some (title (own i) (named i))

  kind_titled : (ns : List N) → AreTitled (map unit ns) (map name ns) (titles_of kind (map name ns))
  kind_titled [] k u called a b = nothing_titled k u called a b
  kind_titled (n ∷ ns) zero u called a b = one_titled n u called a b
  kind_titled (n ∷ ns) (suc k) u called a b = kind_titled ns k u called a b

  before_titled : (ns : List N) (us : List AnyUnit) (names : List (List ℕ)) (ts : List Title) → AreTitled us names ts →
      AreTitled (map unit ns ++ us) (map name ns ++ names) (titles_of kind (map name ns) ++ ts)
  before_titled [] us names ts rest k u called a b = rest k u called a b
  before_titled (n ∷ ns) us names ts rest zero u called a b = one_titled n u called a b
  before_titled (n ∷ ns) us names ts rest (suc k) u called a b = before_titled ns us names ts rest k u called a b

pub titled : (m : Market) → AreTitled (units m) (unit_names m) (titles m)
titled m k u called a b =
    let ts = map (λ (n : NamedThermalUnit). Thermal n.unit) m.thermal in
    let fs = map (λ (n : NamedRenewableUnit). Flat n.unit) m.flat in
    let bs = map (λ (n : NamedBidUnit). Bid n.unit) m.bids in
    let bids = kind_titled (λ (n : NamedBidUnit). Bid n.unit) (λ (n : NamedBidUnit). n.name) kinds.Bid (λ n. refl)
    m.bids in
    let others = before_titled (λ (n : NamedRenewableUnit). Flat n.unit) (λ (n : NamedRenewableUnit). n.name)
    kinds.Renewable (λ n. refl) m.flat bs (bid_names m) (titles_of kinds.Bid (bid_names m)) bids in
    before_titled (λ (n : NamedThermalUnit). Thermal n.unit) (λ (n : NamedThermalUnit). n.name) kinds.Thermal
    (λ n. refl) m.thermal (fs ++ bs) (renewable_names m ++ bid_names m)
    (titles_of kinds.Renewable (renewable_names m) ++ titles_of kinds.Bid (bid_names m)) others k u called
    (ap (λ (xs : List AnyUnit). slice_get xs k) (sym (append_assoc ts fs bs)) ∙ a)
    (ap (λ (xs : List (List ℕ)). slice_get xs k)
    (sym (append_assoc (thermal_names m) (renewable_names m) (bid_names m))) ∙ b)

pub titles_length : (m : Market) → length (titles m) ≡ unit_count m
titles_length m =
    let ts = titles_of kinds.Thermal (thermal_names m) in
    let fs = titles_of kinds.Renewable (renewable_names m) in
    let bs = titles_of kinds.Bid (bid_names m) in
    let t1 = titled_length kinds.Thermal (thermal_names m) in
    let t2 = length-map m.thermal (λ (n : NamedThermalUnit). n.name) in
    let f1 = titled_length kinds.Renewable (renewable_names m) in
    let f2 = length-map m.flat (λ (n : NamedRenewableUnit). n.name) in
    let b1 = titled_length kinds.Bid (bid_names m) in
    let b2 = length-map m.bids (λ (n : NamedBidUnit). n.name) in
    omega (arith, length-append ts (fs ++ bs), length-append fs bs, t1, t2, f1, f2, b1, b2)
