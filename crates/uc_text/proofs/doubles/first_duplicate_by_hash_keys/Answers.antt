use Rattle.uc_text.proofs.Common.{◌+◌, get_or, arith, refl, sym, subst, ◌∙◌, names_said}
use Rattle.uc_text.proofs.Lemmas.{Least, least_passed, least_less, least_alone, least_all, names_len}
use Rattle.uc_text.proofs.doubles.first_duplicate_by_hash_keys.Goals as goal
use Rattle.uc_text.proofs.doubles.first_duplicate_by_hash_keys.Goals.{
  then-index-found+in_ok-is_duplicate_name+then-branch,
}
use Rattle.uc_text.proofs.doubles.first_duplicate_by_hash_keys.Goals.{else-index-found}
use Rattle.uc_text.proofs.doubles.first_duplicate_by_hash_keys.Goals.{else-index-found-via-else-index-found}

pub loop-place-preserved : goal.loop-place-preserved
loop-place-preserved c =
    let ks = names_said c.args.names.now in
    let keys = c.args.keys.now in
    let at = c.loop-place.place in
    let found = c.loop-place.found in
    let key = get_or keys at 0 in
    let count = names_len c.args.names.now in
    let index = c.index_in_key-index.ensures in
    elim c.if-index-found.branch [
      | then-index-found+in_ok-is_duplicate_name+then-branch w ↦
          subst (Least ks keys (at + 1)) (sym (w.found-is ∙ index))
          (least_less ks keys at found key (omega (arith, count, c.requires.few)) refl c.loop-place.invariant
          (omega (arith, index, w.if-index-found.true)) (w.in_ok-is_duplicate_name.ensures.some w.if-branch.true))
      | else-index-found w ↦
          subst (Least ks keys (at + 1)) (sym w.found-is)
          (elim w.else-index-found.branch [
            | goal.else-index-found-via-then-index-found+in_ok-is_duplicate_name+else-branch x ↦
                least_alone ks keys at found key (omega (arith, count, c.requires.few)) c.requires.keys
                c.requires.sorted c.loop-place-test.true refl c.loop-place.invariant
                (x.in_ok-is_duplicate_name.ensures.none x.if-branch.false)
            | else-index-found-via-else-index-found x ↦
                least_passed ks keys at found key (omega (arith, count, c.requires.few)) refl c.loop-place.invariant
                (omega (arith, index, x.if-index-found.false))
          ])
    ]

pub returns : goal.returns
returns c = least_all (names_said c.args.names.now) c.args.keys.now c.loop-place.place c.loop-place.found
    c.requires.keys (omega (arith, c.loop-place-test.false)) c.loop-place.invariant
