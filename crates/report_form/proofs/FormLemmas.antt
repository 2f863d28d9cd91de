-- Forms, cut at their blanks, and what of a form is written.
use Rattle.report_form.proofs.Common.{◌≡◌, ℕ, suc, ◌+◌, ◌<◌, ◌≤◌, List, [], ◌++◌, length, take, drop, get_or, Option}
use Rattle.report_form.proofs.Common.{None, Some, Result, IsErr, refl, sym, ap, subst, ◌∙◌, arith, append_assoc}
use Rattle.report_form.proofs.Common.{take_all, true, false, cond, nat_lt, nat_tests, FallsShort, Writes, Pends}
use Rattle.report_form.proofs.Common.{part_text, is_blank, filled}
use Rattle.report_form.specs.declared.parts.Part.{Part}
use Rattle.std.proofs.Math.Seq.{drop-cons}
use Rattle.std.proofs.Common.{◌-◌, length-drop}
use Rattle.std.proofs.lemmas.List.{drop_all}
use Rattle.std.specs.List.{position, position_or_len, before_first, after_first}
use Rattle.report_form.proofs.GrownLemmas.{short_more, writes_then, writes_exit}
use Rattle.report_form.proofs.PieceLemmas.{pends_all, pends_then, short_behind}

-- ---- the first blank

pub blank_at : (form : List ℕ) (i : ℕ) → position is_blank form ≡ Some i → position_or_len is_blank form ≡ i
blank_at form i h =
    elim (nat_lt (position_or_len is_blank form) (length form)) as (λ b.
    cond b (Some (position_or_len is_blank form)) None ≡ Some i → position_or_len is_blank form ≡ i) [
      | true ↦ λ e. (cc)
      | false ↦ λ e. (cc)
    ] h

pub no_blank : (form : List ℕ) → position is_blank form ≡ None → length form ≤ position_or_len is_blank form
no_blank form h =
    elim (nat_lt (position_or_len is_blank form) (length form)) as (λ b.
    nat_lt (position_or_len is_blank form) (length form) ≡ b → cond b (Some (position_or_len is_blank form)) None ≡ None
    → length form ≤ position_or_len is_blank form) [
      | true ↦ λ t e. (cc)
      | false ↦ λ t e. grind (arith, nat_tests)
    ] refl h

pub before_blank : (form : List ℕ) (i : ℕ) → position is_blank form ≡ Some i → take i form ≡ before_first is_blank form
before_blank form i h = ap (λ (k : ℕ). take k form) (sym (blank_at form i h))

pub behind_blank : (form : List ℕ) (i : ℕ) → position is_blank form ≡ Some i →
    take (length form - (i + 1)) (drop (i + 1) form) ≡ after_first is_blank form
behind_blank form i h =
    let long = length-drop (i + 1) form in
    take_all (length form - (i + 1)) (drop (i + 1) form) (omega (arith, long))
    ∙ ap (λ (k : ℕ). drop (k + 1) form) (sym (blank_at form i h))

pub before_none : (form : List ℕ) → position is_blank form ≡ None → form ≡ before_first is_blank form
before_none form h = sym (take_all (position_or_len is_blank form) form (no_blank form h))

pub behind_none : (form : List ℕ) → position is_blank form ≡ None → [] ≡ after_first is_blank form
behind_none form h =
    let past = no_blank form h in sym (drop_all (position_or_len is_blank form + 1) form (omega (arith, past)))

-- ---- a form, part by part

pub filled_at : (form : List ℕ) (parts : List Part) (i : ℕ) (d : Part) → i < length parts →
    filled form (drop i parts) ≡ before_first is_blank form ++ part_text (get_or parts i d)
    ++ filled (after_first is_blank form) (drop (i + 1) parts)
filled_at form parts i d h =
    let next : suc i ≡ i + 1 = omega arith in
    ap (filled form) (drop-cons parts i d h)
    ∙ ap (λ (k : ℕ). before_first is_blank form ++ part_text (get_or parts i d)
    ++ filled (after_first is_blank form) (drop k parts)) next

-- the same of a form that was cut
pub filled_next : (form : List ℕ) (parts : List Part) (i : ℕ) (d : Part) (before behind : List ℕ) →
    before ≡ before_first is_blank form → behind ≡ after_first is_blank form → i < length parts →
    filled form (drop i parts) ≡ (before ++ part_text (get_or parts i d)) ++ filled behind (drop (i + 1) parts)
filled_next form parts i d before behind b a h =
    filled_at form parts i d h
    ∙ (λ j. (sym b j ++ part_text (get_or parts i d)) ++ filled (sym a j) (drop (i + 1) parts))

-- behind all parts
pub filled_end : (form : List ℕ) (parts : List Part) (i : ℕ) → length parts ≤ i → filled form (drop i parts) ≡ form
filled_end form parts i h = ap (filled form) (drop_all i parts h)

module _ {S : Type 0} (held : S → Option (List ℕ)) (faults : S → ℕ) where
  -- a front of a text was gained, what waits comes behind it, and then the rest
  pub record Goes (old new : S) (waiting rest text : List ℕ) : Type 0 where
    pub gone : List ℕ
    pub pends : Pends held faults old new waiting gone
    pub joins : text ≡ gone ++ rest

module _ {S : Type 0} {held : S → Option (List ℕ)} {faults : S → ℕ} where
  pub goes_first : (s : S) (text : List ℕ) → Goes held faults s s [] text text
  goes_first s text = record { gone = []; pends = pends_all s []; joins = refl }

  pub goes_on : {old mid new : S} (waiting later more rest next text : List ℕ) → rest ≡ more ++ next →
      Pends held faults mid new later (waiting ++ more) → Goes held faults old mid waiting rest text →
      Goes held faults old new later next text
  goes_on waiting later more rest next text e q p = record {
    gone = p.gone ++ more;
    pends = pends_then waiting later p.gone more q p.pends;
    joins = p.joins ∙ ap (λ t. p.gone ++ t) e ∙ sym (append_assoc p.gone more next);
  }

  pub goes_short : {E : Type 0} {last : Option ℕ} {old mid new : S} (waiting more rest next text : List ℕ)
      (r : Result (Unit {0}) E) → IsErr r → rest ≡ more ++ next →
      FallsShort held faults last mid new (waiting ++ more) → Goes held faults old mid waiting rest text →
      Writes held faults last old new r text
  goes_short {last = last} {old = old} {new = new} waiting more rest next text r b e q p =
      writes_exit text r b
      (subst (FallsShort held faults last old new)
      (sym (p.joins ∙ ap (λ t. p.gone ++ t) e ∙ sym (append_assoc p.gone more next)))
      (short_more (p.gone ++ more) next (short_behind waiting p.gone more q p.pends)))

  -- the rest may be said in another way
  pub goes_same : {old new : S} {waiting rest other text : List ℕ} → rest ≡ other →
      Goes held faults old new waiting rest text → Goes held faults old new waiting other text
  goes_same {old = old} {new = new} {waiting = waiting} {text = text} e p =
      subst (λ (t : List ℕ). Goes held faults old new waiting t text) e p

  -- what waits is written
  pub writes_waiting : {E : Type 0} {last : Option ℕ} {old mid new : S} (waiting text : List ℕ)
      (r : Result (Unit {0}) E) → Writes held faults last mid new r waiting →
      Pends held faults old mid waiting text → Writes held faults last old new r text
  writes_waiting {last = last} {old = old} {new = new} waiting text r q p =
      subst (Writes held faults last old new r) (sym p.joins) (writes_then p.front waiting r q p.gained)

  -- and what is left behind it
  pub writes_left : {E : Type 0} {last : Option ℕ} {old mid new : S} (waiting rest text : List ℕ)
      (r : Result (Unit {0}) E) → Writes held faults last mid new r (waiting ++ rest) →
      Goes held faults old mid waiting rest text → Writes held faults last old new r text
  writes_left {last = last} {old = old} {new = new} waiting rest text r q p =
      let same = p.joins ∙ ap (λ t. t ++ rest) p.pends.joins ∙ append_assoc p.pends.front waiting rest in
      subst (Writes held faults last old new r) (sym same)
      (writes_then p.pends.front (waiting ++ rest) r q p.pends.gained)
