-- Lists whose items keep an order, one item more at the end.
use Rattle.uc_field.proofs.Common.{◌≡◌, ℕ, zero, suc, ◌-◌, ◌<◌, ◌≤◌, Bool, true, false, ◌||◌, List, [], ◌∷◌, ◌++◌}
use Rattle.uc_field.proofs.Common.{length, get_or, Some, refl, sym, ap, ◌∙◌, arith, true≢false, ℤ, ◌≤ℤ◌, nat_lt, int_lt}
use Rattle.uc_field.proofs.Common.{slice_get, ltb-false, ints, All-nil, All-push, Lag, Point, Block, IsLag, IsPoint}
use Rattle.uc_field.proofs.Common.{IsBlock, Spans, ends_miss, AreLags, ArePoints, AreBlocks, IsPointList, last_is}
use Rattle.std.specs.Option.{option_map_or}
use Rattle.uc_model.specs.declared.limits.TheConstants.{MOST_POINTS}
use Rattle.std.proofs.lemmas.Option.{slice_get-get_or}

-- each item but the first keeps R with the one before it
abbrev Chain : {A : Type 0} → (A → A → Type 0) → List A → Type 0
Chain {A = A} R xs = (k : ℕ) (d : A) → suc k < length xs → R (get_or xs k d) (get_or xs (suc k) d)

chain_none : {A : Type 0} (R : A → A → Type 0) → Chain R []
chain_none R k d lt = absurd (omega arith)

chain_push : {A : Type 0} (R : A → A → Type 0) (xs : List A) (x : A) → Chain R xs →
    ((n : ℕ) (d : A) → suc n ≡ length xs → R (get_or xs n d) x) → Chain R (xs ++ x ∷ [])
chain_push R [] x chain last k d lt = absurd (omega arith)
chain_push R (y ∷ []) x chain last zero d lt = last 0 d refl
chain_push R (y ∷ []) x chain last (suc k) d lt = absurd (omega arith)
chain_push R (y ∷ (z ∷ ys)) x chain last zero d lt = chain 0 d (omega arith)
chain_push R (y ∷ (z ∷ ys)) x chain last (suc k) d lt =
    chain_push R (z ∷ ys) x (λ j e m. chain (suc j) e (omega (arith, m))) (λ n e is. last (suc n) e (ap suc is)) k d
    (omega (arith, lt))

-- the last item, of which a test fails
last_fails : {A : Type 0} (p : A → Bool) (xs : List A) → last_is p xs ≡ false → (n : ℕ) (d : A) → suc n ≡ length xs →
    p (get_or xs n d) ≡ false
last_fails p xs fails n d is =
    let place : length xs - 1 ≡ n = omega (arith, is) in
    let there : slice_get xs n ≡ Some (get_or xs n d) = slice_get-get_or xs n d (omega (arith, is)) in
    let found : slice_get xs (length xs - 1) ≡ Some (get_or xs n d) = ap (slice_get xs) place ∙ there in
    sym (ap (λ o. option_map_or p o false) found) ∙ fails

-- the same, where a last item is wanted
last_misses : {A : Type 0} (p : A → Bool) (xs : List A) → option_map_or p (slice_get xs (length xs - 1)) true ≡ false →
    (n : ℕ) (d : A) → suc n ≡ length xs → p (get_or xs n d) ≡ false
last_misses p xs fails n d is =
    let place : length xs - 1 ≡ n = omega (arith, is) in
    let there : slice_get xs n ≡ Some (get_or xs n d) = slice_get-get_or xs n d (omega (arith, is)) in
    let found : slice_get xs (length xs - 1) ≡ Some (get_or xs n d) = ap (slice_get xs) place ∙ there in
    sym (ap (λ o. option_map_or p o true) found) ∙ fails

pub int_not_below : (a b : ℤ) → int_lt a b ≡ false → b ≤ℤ a
int_not_below a b e = omega (arith, ints, e)

pub no_lags : AreLags []
no_lags = record { lags = All-nil (λ l. IsLag l); ordered = chain_none (λ (a b : Lag). a.lag ≤ b.lag) }

pub lags_push : (ls : List Lag) (l : Lag) → AreLags ls → IsLag l →
    last_is (λ (b : Lag). nat_lt l.lag b.lag) ls ≡ false → AreLags (ls ++ l ∷ [])
lags_push ls l are fits order = record {
  lags = All-push (λ l. IsLag l) ls l are.lags fits;
  ordered = chain_push (λ (a b : Lag). a.lag ≤ b.lag) ls l are.ordered
      (λ n d is. ltb-false _ _ (last_fails (λ (b : Lag). nat_lt l.lag b.lag) ls order n d is));
}

pub no_points : ArePoints []
no_points = record { points = All-nil (λ p. IsPoint p); ordered = chain_none (λ (a b : Point). a.at ≤ℤ b.at) }

pub points_push : (ps : List Point) (p : Point) → ArePoints ps → IsPoint p →
    last_is (λ (b : Point). int_lt p.at b.at) ps ≡ false → ArePoints (ps ++ p ∷ [])
points_push ps p are fits order = record {
  points = All-push (λ p. IsPoint p) ps p are.points fits;
  ordered = chain_push (λ (a b : Point). a.at ≤ℤ b.at) ps p are.ordered
      (λ n d is. int_not_below p.at (get_or ps n d).at (last_fails (λ (b : Point). int_lt p.at b.at) ps order n d is));
}

pub no_blocks : AreBlocks []
no_blocks = record { blocks = All-nil (λ b. IsBlock b); falling = chain_none (λ (a b : Block). b.price ≤ℤ a.price) }

pub blocks_push : (bs : List Block) (b : Block) → AreBlocks bs → IsBlock b →
    last_is (λ (a : Block). int_lt a.price b.price) bs ≡ false → AreBlocks (bs ++ b ∷ [])
blocks_push bs b are fits order = record {
  blocks = All-push (λ b. IsBlock b) bs b are.blocks fits;
  falling = chain_push (λ (a b : Block). b.price ≤ℤ a.price) bs b are.falling
      (λ n d is. int_not_below (get_or bs n d).price b.price
      (last_fails (λ (a : Block). int_lt a.price b.price) bs order n d is));
}

or_false : (a b : Bool) → a || b ≡ false → (a ≡ false) × (b ≡ false)
or_false true b e = absurd (true≢false e)
or_false false b e = (refl, e)

some_point : (low high : ℤ) (ps : List Point) → ends_miss low high ps ≡ false → 1 ≤ length ps
some_point low high [] e = absurd (true≢false e)
some_point low high (p ∷ ps) e = omega arith

-- points that don't miss the ends
spans : (low high : ℤ) (ps : List Point) → ends_miss low high ps ≡ false → Spans ps low high
spans low high [] e = absurd (true≢false e)
spans low high (p ∷ ps) e =
    let both = or_false _ _ e in
    record {
      first = λ d. int_not_below low p.at both.0;
      last = λ n d is. int_not_below (get_or (p ∷ ps) n d).at high
          (last_misses (λ (q : Point). int_lt q.at high) (p ∷ ps) both.1 n d is);
    }

pub is_point_list : (low high : ℤ) (ps : List Point) → length ps ≤ MOST_POINTS → ArePoints ps →
    ends_miss low high ps ≡ false → IsPointList ps low high
is_point_list low high ps count are reached =
    record { count = count; some = some_point low high ps reached; points = are; span = spans low high ps reached }
