-- What a search for convex hull prices tells, read back from its text block by block.
use Rattle.report_form.proofs.Common.{◌≡◌, ℕ, ℤ, List, [], ◌∷◌, ◌++◌, length, drop, codes, refl, sym, ap, ◌∙◌, arith}
use Rattle.report_form.proofs.Common.{append_assoc, append_cancel_left, flat_map, thermal_text}
use Rattle.report_form.proofs.Common.{renewable_text, bid_text}
use Rattle.report_form.proofs.Common.{ShareLine, MixtureLine, ConvexReport, search_text, searched_text, weighed_text}
use Rattle.report_form.proofs.Common.{share_text, mixed_text, mixture_text, bounded_text, convex_text}
use Rattle.report_form.proofs.Common.{TextDeterminesConvex}
use Rattle.report_form.proofs.ReadBack.{after_count, after_amount, after_counts, after_flags, after_name}
use Rattle.report_form.proofs.ReadLines.{Begins, BeginsWith, BeginsOther, ReadsLine, read_lines}
use Rattle.report_form.proofs.ReadLines.{other_byte, read_levels}
use Rattle.report_form.proofs.ReadLines.{read_units}

-- the lines before the units
abbrev front_text : ConvexReport → List ℕ
front_text r =
    searched_text r.settled.periods r.settled.units r.settled.cost r.within r.rounds r.made r.settled.row

-- these lines tell the same
record AreSame (a b : ConvexReport) : Type 0 where
  pub periods : a.settled.periods ≡ b.settled.periods
  pub units : a.settled.units ≡ b.settled.units
  pub cost : a.settled.cost ≡ b.settled.cost
  pub within : a.within ≡ b.within
  pub rounds : a.rounds ≡ b.rounds
  pub made : a.made ≡ b.made
  pub row : a.settled.row ≡ b.settled.row

read_front : (a b : ConvexReport) (u v : List ℕ) → front_text a ++ u ≡ front_text b ++ v → AreSame a b × (u ≡ v)
unfolding search_text searched_text
read_front a b u v same =
    let text = simp append_assoc at same in
    let periods = after_count (codes "hull-convex 1\nperiods ") a.settled.periods b.settled.periods _ _ text
    refl refl in
    let units = after_count (codes "\nunits ") a.settled.units b.settled.units _ _ periods.1 refl refl in
    let cost = after_amount (codes "\ncost ") a.settled.cost b.settled.cost _ _ units.1 refl refl in
    let within = after_amount (codes "\nwithin ") a.within b.within _ _ cost.1 refl refl in
    let rounds = after_count (codes "\nrounds ") a.rounds b.rounds _ _ within.1 refl refl in
    let made = after_count (codes "\nmade ") a.made b.made _ _ rounds.1 refl refl in
    let row = read_levels a.settled.row b.settled.row u v (append_cancel_left (codes "\n") _ _ made.1) in (
      record {
        periods = periods.0;
        units = units.0;
        cost = cost.0;
        within = within.0;
        rounds = rounds.0;
        made = made.0;
        row = row.0;
      },
      row.1,
    )

-- ---- the lines behind the units

weighed_begins : (x y z w : ℤ) (u : List ℕ) → BeginsWith 115 (weighed_text x y z w ++ u)
unfolding weighed_text
weighed_begins x y z w u = (drop 1 (weighed_text x y z w ++ u), refl)

read_weighed : (x y z w p q r s : ℤ) (u v : List ℕ) → weighed_text x y z w ++ u ≡ weighed_text p q r s ++ v →
    (x ≡ p) × (y ≡ q) × (z ≡ r) × (w ≡ s) × (u ≡ v)
unfolding weighed_text
read_weighed x y z w p q r s u v same =
    let text = simp append_assoc at same in
    let surplus = after_amount (codes "surplus ") x p _ _ text refl refl in
    let payments = after_amount (codes "\npayments ") y q _ _ surplus.1 refl refl in
    let gap = after_amount (codes "\ngap ") z r _ _ payments.1 refl refl in
    let weight = after_amount (codes "\nweight ") w s _ _ gap.1 refl refl in
    (surplus.0, payments.0, gap.0, weight.0, append_cancel_left (codes "\n") u v weight.1)

-- ---- the mixture

read_share : (e f : ShareLine) (u v : List ℕ) → share_text e ++ u ≡ share_text f ++ v → (e ≡ f) × (u ≡ v)
unfolding share_text
read_share e f u v same =
    let text = simp append_assoc at same in
    let weight = after_amount (codes "share ") e.weight f.weight _ _ text refl refl in
    let on = after_flags (codes "\non") e.schedule.on f.schedule.on _ _ weight.1 in
    let power = after_counts (codes "power") e.schedule.power f.schedule.power _ _ on.1 in
    let reserve = after_counts (codes "reserve") e.schedule.reserve f.schedule.reserve u v power.1 in (
      λ i. record {
        weight = weight.0 i;
        schedule = record { on = on.0 i; power = power.0 i; reserve = reserve.0 i };
      },
      reserve.1,
    )

-- as many entries as the line before them says
read_shares : (es fs : List ShareLine) (u v : List ℕ) → length es ≡ length fs →
    flat_map share_text es ++ u ≡ flat_map share_text fs ++ v → (es ≡ fs) × (u ≡ v)
read_shares [] [] u v l same = (refl, same)
read_shares [] (f ∷ fs) u v l same = absurd (omega arith)
read_shares (e ∷ es) [] u v l same = absurd (omega arith)
read_shares (e ∷ es) (f ∷ fs) u v l same =
    let nested = sym (append_assoc (share_text e) (flat_map share_text es) u) ∙ same ∙
    append_assoc (share_text f) (flat_map share_text fs) v in
    let first = read_share e f _ _ nested in
    let rest = read_shares es fs u v (omega arith) first.1 in
    (ap (λ z. z ∷ es) first.0 ∙ ap (λ zs. f ∷ zs) rest.0, rest.1)

read_mixture : ReadsLine (λ (l : MixtureLine). Unit {0}) mixture_text
unfolding mixed_text
read_mixture l m u v i j same =
    let text = simp append_assoc at same in
    let name = after_name (codes "mixture thermal \"") l.name m.name _ _ text in
    let count = after_count (codes " entries ") (length l.entries) (length m.entries) _ _ name.1 refl refl in
    let entries = read_shares l.entries m.entries u v count.0 (append_cancel_left (codes "\n") _ _ count.1) in
    (λ i. record { name = name.0 i; entries = entries.0 i }, entries.1)

mixture_begins : Begins (codes "mixture thermal ") mixture_text
unfolding mixed_text
mixture_begins l u = (drop 16 (mixture_text l ++ u), refl)

-- ---- the last lines

bounded_behind_mixture : (x y z : ℤ) → BeginsOther (codes "mixture thermal ") (bounded_text x y z)
unfolding bounded_text
bounded_behind_mixture x y z =
    other_byte 98 109 (codes "ixture thermal ") (bounded_text x y z) refl (drop 1 (bounded_text x y z), refl)

read_bounded : (x y z p q r : ℤ) → bounded_text x y z ≡ bounded_text p q r → (x ≡ p) × (y ≡ q) × (z ≡ r)
unfolding bounded_text
read_bounded x y z p q r same =
    let bound = after_amount (codes "bound ") x p _ _ same refl refl in
    let distance = after_amount (codes "\ndistance ") y q _ _ bound.1 refl refl in
    let least = after_amount (codes "\nleast ") z r _ _ distance.1 refl refl in
    (bound.0, distance.0, least.0)

-- ---- the whole text

-- the last lines with the mixture before them
abbrev mixed_rest : ConvexReport → List ℕ
mixed_rest r = flat_map mixture_text r.mixture ++ bounded_text r.bound r.distance r.least

-- what comes behind the units
abbrev weighed_rest : ConvexReport → List ℕ
weighed_rest r = weighed_text r.settled.surplus r.settled.payments r.settled.gap r.weight ++ mixed_rest r

-- what comes behind the first lines
abbrev rest_text : ConvexReport → List ℕ
rest_text r =
    flat_map thermal_text r.settled.thermal ++ (flat_map renewable_text
    r.settled.renewable ++ (flat_map bid_text r.settled.bids ++ weighed_rest r))

opened : (r : ConvexReport) → convex_text r ≡ front_text r ++ rest_text r
unfolding convex_text
opened r = simp append_assoc

begins : (r : ConvexReport) → BeginsWith 115 (weighed_rest r)
begins r = weighed_begins r.settled.surplus r.settled.payments r.settled.gap r.weight (mixed_rest r)

pub search_determined : TextDeterminesConvex
search_determined a b h k same =
    let front = read_front a b (rest_text a) (rest_text b) (sym (opened a) ∙ same ∙ opened b) in
    let units = read_units a.settled.thermal b.settled.thermal a.settled.renewable b.settled.renewable a.settled.bids
    b.settled.bids (weighed_rest a) (weighed_rest b) h.renewable k.renewable h.bids k.bids (begins a) (begins b)
    front.1 in
    let weighed = read_weighed a.settled.surplus a.settled.payments a.settled.gap a.weight b.settled.surplus
    b.settled.payments b.settled.gap b.weight (mixed_rest a) (mixed_rest b) units.3 in
    let mixture = read_lines (λ (l : MixtureLine). Unit {0}) mixture_text (codes "mixture thermal ") read_mixture
    mixture_begins a.mixture b.mixture _ _ (λ k d lt. tt) (λ k d lt. tt)
    (bounded_behind_mixture a.bound a.distance a.least) (bounded_behind_mixture b.bound b.distance b.least)
    weighed.4 in
    let bounded = read_bounded a.bound a.distance a.least b.bound b.distance b.least mixture.1 in
    λ i. record {
      within = front.0.within i;
      rounds = front.0.rounds i;
      made = front.0.made i;
      settled = record {
        periods = front.0.periods i;
        units = front.0.units i;
        cost = front.0.cost i;
        row = front.0.row i;
        thermal = units.0 i;
        renewable = units.1 i;
        bids = units.2 i;
        surplus = weighed.0 i;
        payments = weighed.1 i;
        gap = weighed.2 i;
      };
      weight = weighed.3 i;
      mixture = mixture.0 i;
      bound = bounded.0 i;
      distance = bounded.1 i;
      least = bounded.2 i;
    }
