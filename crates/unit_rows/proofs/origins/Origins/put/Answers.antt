use Rattle.unit_rows.proofs.Common.{rules, ◌≡◌, ℕ, suc, ◌<◌, ◌≤◌, Some, pos, ◌+ℤ◌, ◌≤ℤ◌, List, refl, ap, ◌∙◌, arith}
use Rattle.unit_rows.proofs.Common.{FitsSigned, IsTrue, slice_get, w64, to_z-of_z, Origin}
use Rattle.unit_rows.proofs.Lemmas.{get_set_same, get_set_other}
use Rattle.unit_rows.proofs.origins.Origins.put.Goals as goal

pub returns-clause-put : goal.returns-clause-put
returns-clause-put c =
    let index = c.index_past_cheaper_spell_ends-index.result in
    let within = c.index_past_cheaper_spell_ends-index.ensures.within in
    let items = c.set.ensures.items in
    let fits : FitsSigned w64 c.args.origin.cost = search rules in
    let dearer : (i : ℕ) (a : Origin) → index ≤ i → i < c.args.self.now.count →
    slice_get c.args.self.now.list.items i ≡ Some a → IsTrue c.args.self.now.is_rising ×
    ((c.args.origin.cost +ℤ pos 1) ≤ℤ a.cost) = simp
    to_z-of_z at c.index_past_cheaper_spell_ends-index.ensures.dearer in
    let cheaper : IsTrue c.args.self.now.is_rising → (i : ℕ) (a : Origin) → index ≡ suc i →
    slice_get c.args.self.now.list.items i ≡ Some a → a.cost ≤ℤ c.args.origin.cost = simp to_z-of_z at
    c.index_past_cheaper_spell_ends-index.ensures.cheaper in
    record {
      index = index;
      within = within;
      count = omega arith;
      here = ap (λ (xs : List Origin). slice_get xs index) items ∙
          get_set_same c.args.self.now.list.items index c.args.origin (omega arith);
      before = λ i low. ap (λ (xs : List Origin). slice_get xs i) items ∙
          get_set_other c.args.self.now.list.items index i c.args.origin (λ z. omega arith);
      dearer = dearer;
      cheaper = cheaper;
      is_rising = refl;
      off_from = refl;
    }
