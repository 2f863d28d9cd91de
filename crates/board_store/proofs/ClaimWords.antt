-- What each answer of a claim says.
use Rattle.board_store.proofs.Common.{◌≡◌, ℕ, Bool, true, false, cond, Option, Some, None, List, refl, sym, ap, ◌∙◌}
use Rattle.board_store.proofs.Common.{arith, false≢true, list_any, is_none, Rules, Event, is_halt, Holders, holders}
use Rattle.board_store.proofs.Common.{Posts, posts, opened, is_finished, ClaimReply, Finished, Halted, GivenTask}
use Rattle.board_store.proofs.Common.{NotYet, next_task, IsOpenTask, IsHeld, IsFirstFree, ClaimSays}
use Rattle.board_store.proofs.Held.{given_or, is_given, not_none}
use Rattle.board_store.proofs.NextTask.{first_in_rows, found_in_rows, none_in_rows, not_in_rows}

module _ {P R A : Type 0} (g : Rules P R A) where
  abbrev claim_of : Bool → Bool → Option (ℕ × ℕ) → ClaimReply
  claim_of f t o = cond f Finished (cond t Halted (given_or g o))

  is_finished_of : (f t : Bool) (o : Option (ℕ × ℕ)) → claim_of f t o ≡ Finished → f ≡ true
  is_finished_of true t o e = refl
  is_finished_of false true o e = (cc)
  is_finished_of false false None e = (cc)
  is_finished_of false false (Some x) e = (cc)

  is_halted_of : (f t : Bool) (o : Option (ℕ × ℕ)) → claim_of f t o ≡ Halted → (f ≡ false) × (t ≡ true)
  is_halted_of true t o e = (cc)
  is_halted_of false true o e = (refl, refl)
  is_halted_of false false None e = (cc)
  is_halted_of false false (Some x) e = (cc)

  is_given_of : (f t : Bool) (o : Option (ℕ × ℕ)) (n u : ℕ) → claim_of f t o ≡ GivenTask n u →
      (f ≡ false) × (t ≡ false) × (o ≡ Some (n, u))
  is_given_of true t o n u e = (cc)
  is_given_of false true o n u e = (cc)
  is_given_of false false o n u e = (refl, refl, is_given g o n u e)

  is_not_yet_of : (f t : Bool) (o : Option (ℕ × ℕ)) → claim_of f t o ≡ NotYet → (f ≡ false) × (t ≡ false) × (o ≡ None)
  is_not_yet_of true t o e = (cc)
  is_not_yet_of false true o e = (cc)
  is_not_yet_of false false None e = (refl, refl, refl)
  is_not_yet_of false false (Some x) e = (cc)

  past_both : (f t : Bool) (o q : Option (ℕ × ℕ)) → f ≡ false → t ≡ false → o ≡ q → claim_of f t o ≡ given_or g q
  past_both f t o q a b e =
      ap (λ (x : Bool). claim_of x t o) a ∙ ap (λ (x : Bool). claim_of false x o) b ∙
      ap (λ (x : Option (ℕ × ℕ)). given_or g x) e

  module _ (p : Posts A) (held : Holders) where
    abbrev unheld : ℕ × ℕ → Bool
    unheld x = is_none (held x.0 x.1)

    abbrev next : Option (ℕ × ℕ)
    next = next_task g.units (opened g p) held

    held_of : (o : Option ℕ) → is_none o ≡ false → (c : ℕ) × (o ≡ Some c)
    held_of None h = absurd (false≢true (sym h))
    held_of (Some c) h = (c, refl)

    not_free : (o : Option ℕ) → (c : ℕ) × (o ≡ Some c) → is_none o ≡ false
    not_free o h = ap is_none h.1

    next_is_first : (n u : ℕ) → next ≡ Some (n, u) → IsFirstFree g p held n u
    next_is_first n u is =
        let r = found_in_rows unheld g.units 1 (opened g p) n u is in
        let lo = r.from in
        let hi = r.to in
        record {
          task = record { from_one = omega (arith, lo); open_ = omega (arith, hi); unit = r.unit };
          free = not_none (held n u) r.passes;
          lower_proposals = λ m v less t. let one = t.from_one in
              held_of (held m v) (r.before m v (omega (arith, one)) less t.unit);
          lower_units = λ v less. held_of (held n v) (r.here v less);
        }

    first_is_next : (n u : ℕ) → IsFirstFree g p held n u → next ≡ Some (n, u)
    first_is_next n u f =
        let one = f.task.from_one in
        let to = f.task.open_ in
        first_in_rows unheld g.units 1 (opened g p) n u (omega (arith, one)) (omega (arith, to)) f.task.unit
        (ap is_none f.free)
        (λ k v low less i. not_free (held k v)
        (f.lower_proposals k v less
        (record { from_one = omega (arith, low); open_ = omega (arith, less, to); unit = i })))
        (λ v less. not_free (held n v) (f.lower_units v less))

    none_is_held : next ≡ None → (n u : ℕ) → IsOpenTask g p n u → IsHeld g held n u
    none_is_held is n u t =
        let one = t.from_one in
        let to = t.open_ in
        held_of (held n u)
        (none_in_rows unheld g.units 1 (opened g p) n u is (omega (arith, one)) (omega (arith, to)) t.unit)

    held_is_none : ((n u : ℕ) → IsOpenTask g p n u → IsHeld g held n u) → next ≡ None
    held_is_none all =
        not_in_rows unheld g.units 1 (opened g p)
        (λ n u low high i. not_free (held n u)
        (all n u (record { from_one = omega (arith, low); open_ = omega (arith, high); unit = i })))

  pub claim_says : (h : List (Event A)) → ClaimSays g h
  claim_says h =
      let f = is_finished g (posts h) in
      let t = list_any is_halt h in
      let o = next_task g.units (opened g (posts h)) (holders h) in
      record {
        finished = (is_finished_of f t o, λ is. ap (λ (x : Bool). claim_of x t o) is);
        halted = (
          is_halted_of f t o,
          λ is. ap (λ (x : Bool). claim_of x t o) is.0 ∙
              ap (λ (x : Bool). claim_of false x o) is.1,
        );
        given = λ n u. (
          λ is. let r = is_given_of f t o n u is in ((r.0, r.1), next_is_first (posts h) (holders h) n u r.2),
          λ is. past_both f t o (Some (n, u)) is.0.0 is.0.1 (first_is_next (posts h) (holders h) n u is.1),
        );
        not_yet = (
          λ is. let r = is_not_yet_of f t o is in ((r.0, r.1), none_is_held (posts h) (holders h) r.2),
          λ is. past_both f t o None is.0.0 is.0.1 (held_is_none (posts h) (holders h) is.1),
        );
      }
