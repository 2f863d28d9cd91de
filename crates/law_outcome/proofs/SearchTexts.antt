-- The text of a search tells what was found.
use Rattle.law_outcome.proofs.Common.{◌≡◌, ℕ, List, [], ◌∷◌, refl, sym, ap, ◌∙◌, subst, PriceLists}
use Rattle.law_outcome.proofs.Common.{PlanHasAtMostOneSettlement}
use Rattle.law_outcome.proofs.Common.{IsSettledAt}
use Rattle.law_outcome.proofs.Common.{Proposal}
use Rattle.std.proofs.Common.{map}
use Rattle.std.specs.List.{AllZip}
use Rattle.uc_model.specs.Data.{NamedThermalUnit}
use Rattle.plain_lists.specs.Sums.{zip_with}
use Rattle.gap_proof.specs.Mixtures.{WeighedSchedule}
use Rattle.report_form.specs.ConvexText.{MixtureLine, ConvexReport, TextDeterminesConvex}
use Rattle.hull_report.specs.ConvexText.{share_line, mixture_line, convex_of}
use Rattle.hull_report.specs.SettledText.{settlement_of}
use Rattle.law_outcome.specs.SearchTexts.{TextTellsTheSearch}
use Rattle.law_outcome.specs.SettledTexts.{SettlementsHaveForm}

-- ---- the mixture

same_shares : (xs ys : List WeighedSchedule) → map share_line xs ≡ map share_line ys → xs ≡ ys
same_shares [] [] e = refl
same_shares [] (y ∷ ys) e = absurd cc
same_shares (x ∷ xs) [] e = absurd cc
same_shares (x ∷ xs) (y ∷ ys) e =
    let head : share_line x ≡ share_line y = cc in
    let rest : map share_line xs ≡ map share_line ys = cc in
    let later = same_shares xs ys rest in
    λ i. record { weight = (head i).weight; schedule = (head i).schedule } ∷ later i

abbrev name_of : NamedThermalUnit → List ℕ
name_of n = n.name

-- lists of entries, one for each unit
module _ (R S : NamedThermalUnit → List WeighedSchedule → Type 0) where
  same_entries : (ns : List NamedThermalUnit) (xs ys : List (List WeighedSchedule)) → AllZip R ns xs → AllZip S ns ys →
      zip_with mixture_line (map name_of ns) xs ≡ zip_with mixture_line (map name_of ns) ys → xs ≡ ys
  same_entries [] [] [] p q e = refl
  same_entries [] [] (y ∷ ys) p q e = absurd q
  same_entries [] (x ∷ xs) ys p q e = absurd p
  same_entries (n ∷ ns) [] ys p q e = absurd p
  same_entries (n ∷ ns) (x ∷ xs) [] p q e = absurd q
  same_entries (n ∷ ns) (x ∷ xs) (y ∷ ys) p q e =
      let head : mixture_line n.name x ≡ mixture_line n.name y = cc in
      let rest : zip_with mixture_line (map name_of ns) xs ≡ zip_with mixture_line (map name_of ns) ys = cc in
      let first = same_shares x y (ap (λ (l : MixtureLine). l.entries) head) in
      let later = same_entries ns xs ys p.1 q.1 rest in
      λ i. first i ∷ later i

-- ---- what was found

pub text_tells_the_search : SettlementsHaveForm → TextDeterminesConvex → PlanHasAtMostOneSettlement → TextTellsTheSearch
unfolding convex_of settlement_of
text_tells_the_search form text one m plan cost other_cost goal other_goal f other s other_s h h_at k k_at same =
    let e = text (convex_of m cost s f.mixture goal.within goal.rounds f.made f.bound)
    (convex_of m other_cost other_s other.mixture other_goal.within other_goal.rounds other.made other.bound)
    (form m plan f.prices cost s h_at) (form m plan other.prices other_cost other_s k_at) same in
    let row : s.row ≡ other_s.row = ap (λ (r : ConvexReport). r.settled.row) e in
    let prices : f.prices ≡ other.prices = sym h_at.prices ∙ ap (λ (p : Proposal). p.prices) row ∙ k_at.prices in
    let settled = one m plan other.prices s other_s
    (subst (λ (π : PriceLists). IsSettledAt m plan π s) prices h_at) k_at in
    let whole : f.mixture.whole ≡ other.mixture.whole = ap (λ (r : ConvexReport). r.weight) e in
    let entries = same_entries _ _ m.thermal f.mixture.entries other.mixture.entries h.mixture.mixed k.mixture.mixed
    (ap (λ (r : ConvexReport). r.mixture) e) in
    let within : goal.within ≡ other_goal.within = ap (λ (r : ConvexReport). r.within) e in
    let rounds : goal.rounds ≡ other_goal.rounds = ap (λ (r : ConvexReport). r.rounds) e in
    let made : f.made ≡ other.made = ap (λ (r : ConvexReport). r.made) e in
    let bound : f.bound ≡ other.bound = ap (λ (r : ConvexReport). r.bound) e in (
      ap (λ (r : ConvexReport). r.settled.cost) e,
      λ i. record { within = within i; rounds = rounds i },
      λ i. record {
        prices = prices i;
        mixture = record { whole = whole i; entries = entries i };
        bound = bound i;
        made = made i;
      },
      settled,
    )
