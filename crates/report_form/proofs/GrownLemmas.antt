-- How what a sink holds grows, one text after another.
use Rattle.report_form.proofs.Common.{◌≡◌, ℕ, ◌≤◌, List, [], ◌++◌, Option, None, Some, Result, Ok, Err, IsErr, refl}
use Rattle.report_form.proofs.Common.{sym, ap, ◌∙◌, inl, inr, arith, append_assoc, append-nil, Rose, grown, Gains}
use Rattle.report_form.proofs.Common.{FallsShort, Writes}

grown_nothing : (o : Option (List ℕ)) → grown o [] ≡ o
grown_nothing None = refl
grown_nothing (Some bytes) = ap Some (append-nil bytes)

grown-grown : (o : Option (List ℕ)) (a b : List ℕ) → grown (grown o a) b ≡ grown o (a ++ b)
grown-grown None a b = refl
grown-grown (Some bytes) a b = ap Some (append_assoc bytes a b)

-- a later start, or a count that goes on, leaves what rose risen
rose_wider : (last : Option ℕ) (a b c d : ℕ) → a ≤ b → Rose last b c → c ≤ d → Rose last a d
rose_wider None a b c d p h q = omega arith
rose_wider (Some most) a b c d p (inl h) q = inl (omega arith)
rose_wider (Some most) a b c d p (inr h) q = inr (omega arith)

module _ {S : Type 0} {held : S → Option (List ℕ)} {faults : S → ℕ} where
  -- nothing was written
  pub gains_nothing : (s : S) → Gains held faults s s []
  gains_nothing s = record { gained = sym (grown_nothing (held s)); later = omega arith }

  -- one text whole, and then more
  pub gains_then : {old mid new : S} (a b : List ℕ) → Gains held faults mid new b → Gains held faults old mid a →
      Gains held faults old new (a ++ b)
  gains_then {old = old} a b q p = record {
    gained = q.gained ∙ ap (λ o. grown o b) p.gained ∙ grown-grown (held old) a b;
    later = omega (arith, p.later, q.later);
  }

  -- one text whole, and then a front of more
  pub short_then : {last : Option ℕ} {old mid new : S} (a b : List ℕ) → FallsShort held faults last mid new b →
      Gains held faults old mid a → FallsShort held faults last old new (a ++ b)
  short_then {last = last} {old = old} a b q p = record {
    front = a ++ q.front;
    rest = q.rest;
    begins = ap (λ x. a ++ x) q.begins ∙ sym (append_assoc a q.front q.rest);
    gained = q.gained ∙ ap (λ o. grown o q.front) p.gained ∙ grown-grown (held old) a q.front;
    rose = rose_wider last _ _ _ _ p.later q.rose (omega arith);
    later = omega (arith, p.later, q.later);
  }

  -- where one text was cut short, so is a longer one
  pub short_more : {last : Option ℕ} {old new : S} (a b : List ℕ) → FallsShort held faults last old new a →
      FallsShort held faults last old new (a ++ b)
  short_more a b h = record {
    front = h.front;
    rest = h.rest ++ b;
    begins = ap (λ x. x ++ b) h.begins ∙ append_assoc h.front h.rest b;
    gained = h.gained;
    rose = h.rose;
    later = h.later;
  }

  -- one text whole, and then what a writer of more did
  pub writes_then : {E : Type 0} {last : Option ℕ} {old mid new : S} (a b : List ℕ) (r : Result (Unit {0}) E) →
      Writes held faults last mid new r b → Gains held faults old mid a → Writes held faults last old new r (a ++ b)
  writes_then a b (Ok u) q p = record { ok = gains_then a b q.ok p; err = tt }
  writes_then a b (Err e) q p = record { ok = tt; err = short_then a b q.err p }

  -- the exit of a `?`
  pub writes_exit : {E : Type 0} {last : Option ℕ} {old new : S} (text : List ℕ) (r : Result (Unit {0}) E) → IsErr r →
      FallsShort held faults last old new text → Writes held faults last old new r text
  writes_exit text (Ok u) e h = cc
  writes_exit text (Err d) e h = record { ok = tt; err = h }
