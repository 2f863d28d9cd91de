-- Lists of lines that are compared, piece by piece.
use Rattle.report_compare.proofs.Common.{◌≡◌, ℕ, ◌+◌, Bool, true, false, Result, Ok, Err, List, [], ◌∷◌, ◌++◌, length}
use Rattle.report_compare.proofs.Common.{refl, sym, ap, ◌∙◌, arith, append_assoc, length-append, Decides}
use Rattle.report_compare.proofs.Common.{TextDeterminesReport, Differ, DifferBehind, Compares, wrong_from, Judged}
use Rattle.report_compare.proofs.Common.{AreJudged, WrongLine}

abbrev Lines : Type 0
Lines = List (List ℕ)

-- ---- one list behind another

-- what differs behind lines that are the same
pub later : (a b c d : Lines) (count : ℕ) → a ≡ b → DifferBehind c d count →
    DifferBehind (a ++ c) (b ++ d) (length a + count)
later a b c d count e h = record {
  same = a ++ h.same;
  here = h.here;
  other = h.other;
  rest = h.rest;
  other_rest = h.other_rest;
  cut = ap (λ (z : Lines). a ++ z) h.cut ∙ sym (append_assoc a h.same (h.here ∷ h.rest));
  other_cut = ap (λ (z : Lines). b ++ z) h.other_cut ∙
      ap (λ (z : Lines). z ++ (h.same ++ h.other ∷ h.other_rest)) (sym e) ∙
      sym (append_assoc a h.same (h.other ∷ h.other_rest));
  long = length-append a h.same ∙ ap (λ (n : ℕ). length a + n) h.long;
  differ = h.differ;
}

pub behind : (first next : ℕ) (result : Result ℕ WrongLine) (a b c d : Lines) → Compares first (Ok next) a b →
    Compares next result c d → Compares first result (a ++ c) (b ++ d)
behind first next (Ok last) a b c d h k =
    let long = length-append a c in
    (ap (λ (z : Lines). z ++ c) h.0 ∙ ap (λ (z : Lines). b ++ z) k.0, omega (arith, h.1, k.1, long))
behind first next (Err wrong) a b c d h k = (length a + k.0, later a b c d k.0 h.0 k.1, omega (arith, h.1, k.2))

-- what differs does so before any further lines
earlier : (a b c d : Lines) (count : ℕ) → DifferBehind a b count → DifferBehind (a ++ c) (b ++ d) count
earlier a b c d count h = record {
  same = h.same;
  here = h.here;
  other = h.other;
  rest = h.rest ++ c;
  other_rest = h.other_rest ++ d;
  cut = ap (λ (z : Lines). z ++ c) h.cut ∙ append_assoc h.same (h.here ∷ h.rest) c;
  other_cut = ap (λ (z : Lines). z ++ d) h.other_cut ∙ append_assoc h.same (h.other ∷ h.other_rest) d;
  long = h.long;
  differ = h.differ;
}

pub stops : (first : ℕ) (wrong : WrongLine) (a b c d : Lines) → Compares first (Err wrong) a b →
    Compares first (Err wrong) (a ++ c) (b ++ d)
stops first wrong a b c d h = (h.0, earlier a b c d h.0 h.1, h.2)

-- ---- lines that are judged

pub here_differ : (first : ℕ) (x y : List ℕ) (xs ys : Lines) → Differ x y →
    Compares first (Err (record { line = first })) (x ∷ xs) (y ∷ ys)
here_differ first x y xs ys h = (
  0,
  record {
    same = [];
    here = x;
    other = y;
    rest = xs;
    other_rest = ys;
    cut = refl;
    other_cut = refl;
    long = refl;
    differ = h;
  },
  omega arith,
)

pub judged_compare : (first : ℕ) (same : List Bool) (mine right : Lines) → AreJudged same mine right →
    Compares first (wrong_from first same) mine right
judged_compare first [] [] [] h = (refl, omega arith)
judged_compare first [] [] (y ∷ ys) h = absurd h
judged_compare first [] (x ∷ xs) ys h = absurd h
judged_compare first (b ∷ bs) [] ys h = absurd h
judged_compare first (b ∷ bs) (x ∷ xs) [] h = absurd h
judged_compare first (true ∷ bs) (x ∷ xs) (y ∷ ys) h =
    let one : Compares first (Ok (first + 1)) (x ∷ []) (y ∷ []) = (ap (λ (z : List ℕ). z ∷ []) h.0, refl) in
    behind first (first + 1) (wrong_from (first + 1) bs) (x ∷ []) (y ∷ []) xs ys one
    (judged_compare (first + 1) bs xs ys h.1)
judged_compare first (false ∷ bs) (x ∷ xs) (y ∷ ys) h = here_differ first x y xs ys h.0

-- ---- how a line is judged

pub judged : {X : Type 0} (f : X → List ℕ) → (TextDeterminesReport → (x y : X) → f x ≡ f y → x ≡ y) →
    (b : Bool) (x y : X) → Decides b (x ≡ y) → Judged b (f x) (f y)
judged f one true x y h = ap f (h.0 refl)
judged f one false x y h = λ law e. let same = h.1 (one law x y e) in absurd (let no : false ≡ true = same in cc)

-- ---- five parts, one behind another

module _ (h k r s c d u v f g : Lines) where
  abbrev Mine : Lines
  Mine = h ++ (r ++ (c ++ (u ++ f)))

  abbrev Right : Lines
  Right = k ++ (s ++ (d ++ (v ++ g)))

  pub first_part : (wrong : WrongLine) → Compares 1 (Err wrong) h k → Compares 1 (Err wrong) Mine Right
  first_part wrong a = stops 1 wrong h k (r ++ (c ++ (u ++ f))) (s ++ (d ++ (v ++ g))) a

  pub second_part : (i : ℕ) (wrong : WrongLine) → Compares 1 (Ok i) h k → Compares i (Err wrong) r s →
      Compares 1 (Err wrong) Mine Right
  second_part i wrong a b = behind 1 i (Err wrong) h k (r ++ (c ++ (u ++ f))) (s ++ (d ++ (v ++ g))) a
      (stops i wrong r s (c ++ (u ++ f)) (d ++ (v ++ g)) b)

  pub third_part : (i j : ℕ) (wrong : WrongLine) → Compares 1 (Ok i) h k → Compares i (Ok j) r s →
      Compares j (Err wrong) c d → Compares 1 (Err wrong) Mine Right
  third_part i j wrong a b x = behind 1 i (Err wrong) h k (r ++ (c ++ (u ++ f))) (s ++ (d ++ (v ++ g))) a
      (behind i j (Err wrong) r s (c ++ (u ++ f)) (d ++ (v ++ g)) b (stops j wrong c d (u ++ f) (v ++ g) x))

  pub fourth_part : (i j n : ℕ) (wrong : WrongLine) → Compares 1 (Ok i) h k → Compares i (Ok j) r s →
      Compares j (Ok n) c d → Compares n (Err wrong) u v → Compares 1 (Err wrong) Mine Right
  fourth_part i j n wrong a b x y = behind 1 i (Err wrong) h k (r ++ (c ++ (u ++ f))) (s ++ (d ++ (v ++ g))) a
      (behind i j (Err wrong) r s (c ++ (u ++ f)) (d ++ (v ++ g)) b
      (behind j n (Err wrong) c d (u ++ f) (v ++ g) x (stops n wrong u v f g y)))

  pub all_parts : (i j n m : ℕ) (result : Result ℕ WrongLine) → Compares 1 (Ok i) h k → Compares i (Ok j) r s →
      Compares j (Ok n) c d → Compares n (Ok m) u v → Compares m result f g → Compares 1 result Mine Right
  all_parts i j n m result a b x y z = behind 1 i result h k (r ++ (c ++ (u ++ f))) (s ++ (d ++ (v ++ g))) a
      (behind i j result r s (c ++ (u ++ f)) (d ++ (v ++ g)) b
      (behind j n result c d (u ++ f) (v ++ g) x (behind n m result u v f g y z)))
