-- How one step's answer goes on to the next.
use Rattle.hull_input.proofs.Common.{◌≡◌, ℕ, List, Option, Result, Ok, Err, refl, sym, subst, inl, inr, TopFault, Then}
use Rattle.hull_input.proofs.Common.{IsFaultOf, IsAnswer, HasReads, AreReads, IsReadOf, Reads, Rose, case_and_schedule}
use Rattle.hull_fault.specs.declared.fault.FileKind.{FileKind}
use Rattle.std.specs.Prelude.{IsErrAnd}

module _ {A B : Type 0} (first : Result A TopFault → Type 0) (next : A → Result B TopFault → Type 0) where
  pub refused_then : (f : TopFault) → IsFaultOf first f → IsFaultOf (Then first next) f
  refused_then f (inl due) = inl (Err f, due, refl)
  refused_then f (inr memory) = inr memory

  pub fault_then : (x : A) (f : TopFault) → first (Ok x) → IsFaultOf (next x) f → IsFaultOf (Then first next) f
  fault_then x f before (inl due) = inl (Ok x, before, due)
  fault_then x f before (inr memory) = inr memory

  pub answer_then : {X : Type 0} (x : A) (view : X → B) (r : Result X TopFault) → first (Ok x) →
      IsAnswer (next x) view r → IsAnswer (Then first next) view r
  answer_then x view (Ok y) before after = (Ok x, before, after)
  answer_then x view (Err f) before (inl due) = inl (Ok x, before, due)
  answer_then x view (Err f) before (inr memory) = inr memory

-- ---- over a shelf

module _ {F : Type 0} (told : F → List ℕ → Option (List ℕ)) (faults : F → List ℕ → ℕ) (last : Option ℕ) (old new : F)
  where
    -- a fault that a `?` hands on, over what was read up to it
    pub fault_handed_on : {X : Type 0} (names : FileKind → Option (List ℕ)) (P : Reads → Result X TopFault → Type 0)
        (r : Result X TopFault) (f : TopFault) → IsErrAnd r (λ g. g ≡ f) → (reads : Reads) →
        AreReads (told old) (λ name. Rose last (faults old name) (faults new name)) names reads → P reads (Err f) →
        HasReads (told old) (λ name. Rose last (faults old name) (faults new name)) names (λ each. P each r)
    fault_handed_on names P (Ok x) f h reads are p = absurd h
    fault_handed_on names P (Err g) f same reads are p =
        (reads, are, subst (λ (e : TopFault). P reads (Err e)) (sym same) p)

    -- what was read of an input's files, under names that are the same
    pub are_named : (a b x y : List ℕ) → a ≡ x → b ≡ y → (reads : Reads) →
        AreReads (told old) (λ name. Rose last (faults old name) (faults new name)) (case_and_schedule a b) reads →
        AreReads (told old) (λ name. Rose last (faults old name) (faults new name)) (case_and_schedule x y) reads
    are_named a b x y e f reads are =
        subst (λ (names : FileKind → Option (List ℕ)). AreReads (told old)
        (λ name. Rose last (faults old name) (faults new name)) names reads)
        (λ i. case_and_schedule (e i) (f i)) are

    -- and of one file, by a shelf that tells the same
    pub read_named : (other : List ℕ → Option (List ℕ)) (a x : List ℕ) → a ≡ x → told old ≡ other →
        (read : Option (List ℕ)) → IsReadOf (told old a) (Rose last (faults old a) (faults new a)) read →
        IsReadOf (other x) (Rose last (faults old x) (faults new x)) read
    read_named other a x e same read is =
        subst (λ (known : List ℕ → Option (List ℕ)). IsReadOf (known x) (Rose last (faults old x) (faults new x)) read)
        same
        (subst (λ (name : List ℕ). IsReadOf (told old name) (Rose last (faults old name) (faults new name)) read) e is)
