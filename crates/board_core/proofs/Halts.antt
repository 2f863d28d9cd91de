-- A caller's first halt.
use Rattle.board_core.proofs.Common.{◌≡◌, ℕ, ◌+◌, ◌<◌, ◌≤◌, ◌⊎◌, Bool, true, false, ◌||◌, ◌==◌, inl, inr, List, [], ◌∷◌}
use Rattle.board_core.proofs.Common.{◌++◌, length, get_or, refl, sym, ap, ◌∙◌, subst, arith, set, length-set, nat_tests}
use Rattle.board_core.proofs.Common.{get_or-set_same, get_or-set_other, list_any-append, list_any, not, Setup, Answer}
use Rattle.board_core.proofs.Common.{BoardLaws, Event, Stopped, is_halt, is_halt_of, LedgerValue, bit, unset, Lists}
use Rattle.board_core.proofs.Common.{sums_of, fronts_of, AreTakers, AreMarks, AreTallies, AreRounds, AreHalts, IsBoard}
use Rattle.std.proofs.lemmas.List.Sums.{sum_by-set}

pub or_false : (b : Bool) → (b || false) ≡ b
or_false true = refl
or_false false = refl

or_true : (b : Bool) → (b || true) ≡ true
or_true true = refl
or_true false = refl

same_or : (x y : ℕ) → (x ≡ y) ⊎ (x ≡ y → ⊥)
same_or x y = grind arith

pub one_less : (marks : List Bool) (i : ℕ) → i < length marks → get_or marks i false ≡ false →
    unset (set marks i true) + 1 ≡ unset marks
one_less marks i lt was =
    let e = sum_by-set (λ (t : Bool). bit (not t)) marks i true false lt in
    let f = ap (λ (t : Bool). bit (not t)) was in
    omega (arith, e, f)

-- a caller has a place among those who may halt
pub halt_place : (b : Setup) (h : List (Event Answer)) (x : Lists) (l : LedgerValue) → IsBoard b h x l → (c : ℕ) →
    c < b.callers → c < length x.halted
halt_place b h x l I c caller = subst (λ (n : ℕ). c < n) (sym I.halts.count) caller

-- there is room for the entry of a first halt
pub halt_room : (entries tasks marks before after room : ℕ) → entries + tasks + marks + before ≤ room →
    after + 1 ≡ before → entries < room
halt_room entries tasks marks before after room h e = omega (arith, h, e)

abbrev pub halted_lists : Lists → ℕ → Lists
halted_lists x c = record x { halted = set x.halted c true; any_halt = true }

module _ (b : Setup) (h : List (Event Answer)) (x : Lists) (l : LedgerValue) (I : IsBoard b h x l) (c : ℕ)
    (caller : c < b.callers) (first : get_or x.halted c false ≡ false) where
  halts_more : AreHalts b (set x.halted c true) true (h ++ Stopped c ∷ [])
  halts_more = record {
    count = length-set x.halted c true ∙ I.halts.count;
    each = λ d i. elim (same_or d c) [
      | inl e ↦
          let w : c < length x.halted = let k = I.halts.count in omega (arith, k, caller) in
          let s : (c == d) ≡ true = grind (arith, nat_tests) in
          subst (λ (k : ℕ). get_or (set x.halted c true) k false ≡ true) (sym e)
          (get_or-set_same x.halted c true false w)
          ∙ sym (list_any-append (is_halt_of d) h (Stopped c ∷ []) ∙
          ap (λ (t : Bool). list_any (is_halt_of d) h || (t || false)) s ∙ or_true (list_any (is_halt_of d) h))
      | inr e ↦
          let s : (c == d) ≡ false = grind (arith, nat_tests, e) in
          get_or-set_other x.halted c d true false e ∙ I.halts.each d i
          ∙ sym (list_any-append (is_halt_of d) h (Stopped c ∷ []) ∙
          ap (λ (t : Bool). list_any (is_halt_of d) h || (t || false)) s ∙ or_false (list_any (is_halt_of d) h))
    ];
    some = sym (list_any-append is_halt h (Stopped c ∷ []) ∙ or_true (list_any is_halt h));
  }

  pub not_yet : list_any (is_halt_of c) h ≡ false
  not_yet = sym (I.halts.each c caller) ∙ first

  pub stopped : BoardLaws → IsBoard b (h ++ Stopped c ∷ []) (halted_lists x c) l
  stopped laws =
      let after = laws.one_event h (Stopped c) in
      let same = sym after.posts_are in
      record {
        setup = I.setup;
        legal = laws.next_is_legal b h (Stopped c) I.legal (caller, not_yet);
        takers_are = subst (AreTakers b x.takers) (sym after.holders_are) I.takers_are;
        marks_are = subst (AreMarks b x.marks x.takers x.kept) same I.marks_are;
        tallies = subst (AreTallies b x.counts (sums_of l)) same I.tallies;
        ledger = I.ledger;
        rounds = subst (AreRounds b (fronts_of l)) same I.rounds;
        halts = halts_more;
      }
