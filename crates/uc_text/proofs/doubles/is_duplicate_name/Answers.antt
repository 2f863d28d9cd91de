use Rattle.uc_text.proofs.Common.{◌≡◌, ◌-◌, ◌<◌, ℕ, [], inl, inr, get_or, length, arith, sym, ap, ◌∙◌, cases_lt}
use Rattle.uc_text.proofs.Common.{names_said}
use Rattle.std.specs.Prelude.{◌%◌}
use Rattle.uc_text.proofs.Lemmas.{said_at, names_len, equal_bytes, unequal_bytes, stands_in}
use Rattle.uc_text.proofs.doubles.is_duplicate_name.Goals as goal
use Rattle.uc_text.proofs.doubles.is_duplicate_name.Goals.{
  else-other-index-via-then-other-index+in_ok-are_names_equal+else-branch,
}
use Rattle.uc_text.proofs.doubles.is_duplicate_name.Goals.{else-other-index-via-else-other-index}

pub returns-then-branch-clause-some : goal.returns-then-branch-clause-some
returns-then-branch-clause-some c = λ _.
    let ns = c.args.names.now in
    let o = c.index_in_key-other.result in
    let i = c.index_in_key-index.result in
    let within : i < length ns = omega (arith, c.index_in_key-index.ensures, c.requires) in
    let one = said_at ns o c.index-names-other.result (omega (arith, c.if-other-index.true, within)) in
    let two = said_at ns i c.index-names-index.result within in
    let same = equal_bytes _ _ (sym c.in_ok-are_names_equal.ensures ∙ c.if-branch.true) in
    stands_in (names_said ns) o i (c.args.key % 16777216) c.if-other-index.true (omega (arith, within, names_len ns))
    (one ∙ same ∙ sym two) c.index_in_key-index.ensures

pub back-preserved : goal.back-preserved
back-preserved c =
    let ns = c.args.names.now in
    let keys = c.args.keys.now in
    let o = c.index_in_key-other.result in
    let i = c.index_in_key-index.result in
    let within : i < length ns = omega (arith, c.index_in_key-index.ensures, c.requires) in
    record {
      within = omega (arith, c.back.invariant.within);
      alone = λ p from to less same. elim (cases_lt p c.back.back) [
        | inr far ↦ c.back.invariant.alone p far to less same
        | inl near ↦
            let here : p ≡ c.back.back - 1 = omega (arith, from, near) in
            let index : get_or keys p 0 % 16777216 ≡ o =
            ap (λ (q : ℕ). get_or keys q 0 % 16777216) here ∙ sym c.index_in_key-other.ensures in
            elim c.else-other-index.branch [
              | else-other-index-via-then-other-index+in_ok-are_names_equal+else-branch w ↦
                  let one = said_at ns o w.index-names-other.result (omega (arith, w.if-other-index.true, within)) in
                  let two = said_at ns i w.index-names-index.result within in
                  let alike = sym one ∙ ap (λ (n : ℕ). get_or (names_said ns) n []) (sym index) ∙ same ∙
                  ap (λ (n : ℕ). get_or (names_said ns) n []) (sym c.index_in_key-index.ensures) ∙ two in
                  unequal_bytes _ _ (sym w.in_ok-are_names_equal.ensures ∙ w.if-branch.false) alike
              | else-other-index-via-else-other-index w ↦
                  absurd (omega (arith, less, index, c.index_in_key-index.ensures, w.if-other-index.false))
            ]
      ];
    }
