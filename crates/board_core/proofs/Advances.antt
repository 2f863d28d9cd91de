-- One more round keeps what rounds are.
use Rattle.board_core.proofs.Common.{eq-eqb, ne_eqb, ◌≡◌, ℕ, suc, ◌+◌, ◌-◌, ◌<◌, ◌≤◌, ℤ, Bool, true, false, cond, ◌&&◌}
use Rattle.board_core.proofs.Common.{◌==◌, Option, Some, inl, inr, List, [], ◌∷◌, ◌++◌, length, map, get_or, refl, sym}
use Rattle.board_core.proofs.Common.{ap, ◌∙◌, subst, arith, length-append, false≢true, cases_lt, nat_tests}
use Rattle.board_core.proofs.Common.{length-map-range_with_len, get_or-map-range_with_len, map-range_with_len_more}
use Rattle.board_core.proofs.Common.{slice_get-get_or, range_with_len, option_map_or, not, nat_lt, nat_le, slice_get}
use Rattle.board_core.proofs.Common.{slice_index, Setup, Answer, rules_of, RoundLaws, Rules, rows_by, prices_by}
use Rattle.board_core.proofs.Common.{opened_in, is_last_settled, Market, PriceLists, Proposal, age, stepped_prices}
use Rattle.board_core.proofs.Common.{price_rule, next_prices, no_prices, opening_prices_of, start_prices, is_settled}
use Rattle.board_core.proofs.Common.{Sums, Fronts, is_full, row_in, with_row, opens, with_round, IsRound}
use Rattle.price_space.specs.declared.next.Moved.{Moved}
use Rattle.price_space.specs.declared.next.Moved.TheVariants.{Made, Settled}

pub choose_true : {X : Type 0} (b : Bool) (x y : X) → b ≡ true → cond b x y ≡ x
choose_true true x y h = refl
choose_true false x y h = absurd (false≢true h)

pub choose_false : {X : Type 0} (b : Bool) (x y : X) → b ≡ false → cond b x y ≡ y
choose_false true x y h = absurd (false≢true (sym h))
choose_false false x y h = refl

pub bool_cases : (b : Bool) {Q : Type 0} → (b ≡ true → Q) → (b ≡ false → Q) → Q
bool_cases true f g = f refl
bool_cases false f g = g refl

opens_says : (a b c d : ℕ) (e : Bool) → (((a == b) && nat_lt c d) && not e) ≡ true → (a ≡ b) × (c < d) × (e ≡ false)
opens_says a b c d false h = let p : (a ≡ b) × (c < d) = grind (arith, nat_tests) in (p.0, p.1, refl)
opens_says a b c d true h = grind (arith, nat_tests)

opens_from : (a b c d : ℕ) (e : Bool) → (((a == b) && nat_lt c d) && not e) ≡ false → a ≡ b → c < d → e ≡ false → ⊥
opens_from a b c d false h i j k = grind (arith, nat_tests)
opens_from a b c d true h i j k = false≢true (sym k)

later_price : (m : Market) (cost : ℤ) (ahead n : ℕ) (rows : List Proposal) → ahead < n →
    price_rule m cost ahead rows n ≡ next_prices m cost rows
later_price m cost ahead n rows h = choose_false (nat_le n ahead) (opening_prices_of (start_prices m) n)
    (next_prices m cost rows) (grind (arith, nat_tests))

pub full_is : (units m : ℕ) (counts : List ℕ) → slice_index counts m ≡ units → is_full units counts (suc m) ≡ true
full_is units m counts h =
    let e : suc m - 1 ≡ m = omega arith in
    subst (λ (k : ℕ). (slice_index counts k == units) ≡ true) (sym e) (eq-eqb (slice_index counts m) units h)

pub not_full : (units m : ℕ) (counts : List ℕ) → (slice_index counts m ≡ units → ⊥) →
    is_full units counts (suc m) ≡ false
not_full units m counts h =
    let e : suc m - 1 ≡ m = omega arith in
    subst (λ (k : ℕ). (slice_index counts k == units) ≡ false) (sym e) (ne_eqb (slice_index counts m) units h)

last_got : {X : Type 0} (xs : List X) (x : X) → slice_get (xs ++ x ∷ []) (length xs) ≡ Some x
last_got [] x = refl
last_got (y ∷ xs) x = last_got xs x

pub last_settled : (m : Market) (cost : ℤ) (rows : List Proposal) (r : Proposal) →
    is_last_settled m cost (rows ++ r ∷ []) ≡ is_settled m cost r
last_settled m cost rows r =
    let e : length (rows ++ r ∷ []) - 1 ≡ length rows = omega (arith, length-append rows (r ∷ [])) in
    ap (λ (k : ℕ). option_map_or (is_settled m cost) (slice_get (rows ++ r ∷ []) k) false) e
    ∙ ap (λ o. option_map_or (is_settled m cost) o false) (last_got rows r)

-- the prices that follow some rows are over the horizon
next_over : (m : Market) (cost : ℤ) (rows : List Proposal) → 1 ≤ length rows →
    length (next_prices m cost rows).energy ≡ m.periods
next_over m cost [] h = absurd (omega (arith, h))
next_over m cost (r ∷ rs) h =
    ap (λ (o : Option Proposal). length (option_map_or (stepped_prices m cost (age (r ∷ rs))) o no_prices).energy)
    (slice_get-get_or (r ∷ rs) (length (r ∷ rs) - 1) r (omega arith))
    ∙ length-map-range_with_len _ 0 m.periods

pub moved_over : (moved : Moved) (m : Market) (cost : ℤ) (rows : List Proposal) (π old : PriceLists) →
    (moved ≡ Made → π ≡ next_prices m cost rows) → (moved ≡ Settled → π ≡ old) →
    1 ≤ length rows → length old.energy ≡ m.periods → length π.energy ≡ m.periods
moved_over Made m cost rows π old made settled some over =
    ap (λ (p : PriceLists). length p.energy) (made refl) ∙ next_over m cost rows some
moved_over Settled m cost rows π old made settled some over =
    ap (λ (p : PriceLists). length p.energy) (settled refl) ∙ over

module _ (b : Setup) (laws : RoundLaws b) (ahead : 1 ≤ b.ahead) (units : ℕ) (counts : List ℕ) (s : Sums) (f : Fronts)
    (old : IsRound b units counts s f) where
  abbrev m : ℕ
  m = length f.rows

  abbrev make : PriceLists → ℕ → Proposal
  make = row_in b.market s

  abbrev g : Rules PriceLists Proposal Answer
  g = rules_of b

  abbrev r : Proposal
  r = make (get_or f.prices m no_prices) (suc m)

  abbrev more_rows : List Proposal
  more_rows = with_row b.market s f

  pub prices_length : length f.prices ≡ opened_in g f.rows
  prices_length = ap (λ (xs : List PriceLists). length xs) old.prices_are ∙
      length-map-range_with_len (prices_by g make) 1 (opened_in g f.rows)

  rows_long : length more_rows ≡ suc m
  rows_long = omega (arith, length-append f.rows (r ∷ []))

  price_is : m < length f.prices → get_or f.prices m no_prices ≡ prices_by g make (suc m)
  price_is h =
      ap (λ (xs : List PriceLists). get_or xs m no_prices) old.prices_are
      ∙ get_or-map-range_with_len (prices_by g make) 1 (opened_in g f.rows) m (suc m) no_prices
      (omega (arith, h, prices_length)) (omega arith)

  pub rows_next : m < length f.prices → more_rows ≡ rows_by g make (suc m)
  rows_next h =
      ap (λ (π : PriceLists). f.rows ++ make π (suc m) ∷ []) (price_is h)
      ∙ ap (λ (xs : List Proposal). xs ++ make (prices_by g make (suc m)) (suc m) ∷ []) old.rows_are
      ∙ sym ((laws.rows make).more ahead m)

  abbrev due : Bool
  due = opens b (record { rows = more_rows; prices = f.prices })

  prices_next : m < length f.prices → (t : Bool) → due ≡ t →
      cond t (f.prices ++ next_prices b.market b.cost more_rows ∷ []) f.prices ≡ map (prices_by g make)
      (range_with_len 1 (opened_in g more_rows))
  prices_next h true is =
      let say = opens_says (length f.prices + 1) (length more_rows + b.ahead) (length f.prices) b.budget
      (is_last_settled b.market b.cost more_rows) is in
      let all = say.0 in
      let few = say.1 in
      let free : is_settled b.market b.cost r ≡ false = sym (last_settled b.market b.cost f.rows r) ∙ say.2 in
      let one = (laws.opens f.rows r).one
      (record {
        all_free = omega (arith, all, prices_length, rows_long);
        within =
            omega (arith, few, prices_length);
        free = free;
      }) in
      let fn = prices_by g make in
      let j = opened_in g f.rows + 1 in
      let place : j - b.ahead ≡ suc m = omega (arith, all, prices_length, rows_long) in
      let next : fn j ≡ next_prices b.market b.cost more_rows =
      ap (λ (k : ℕ). price_rule b.market b.cost b.ahead (rows_by g make k) j) place
      ∙ ap (λ (xs : List Proposal). price_rule b.market b.cost b.ahead xs j) (sym (rows_next h))
      ∙ later_price b.market b.cost b.ahead j more_rows (omega (arith, all, prices_length, rows_long)) in
      ap (λ (xs : List PriceLists). xs ++ next_prices b.market b.cost more_rows ∷ []) old.prices_are
      ∙ ap (λ (x : PriceLists). map fn (range_with_len 1 (opened_in g f.rows)) ++ x ∷ []) (sym next)
      ∙ sym (map-range_with_len_more fn 1 (opened_in g f.rows) j (omega arith))
      ∙ ap (λ (n : ℕ). map fn (range_with_len 1 n)) (sym one)
  prices_next h false is =
      let none = (laws.opens f.rows r).none (λ o.
      let all = o.all_free in
      let few = o.within in
      opens_from (length f.prices + 1) (length more_rows + b.ahead) (length f.prices) b.budget
      (is_last_settled b.market b.cost more_rows) is (omega (arith, all, prices_length, rows_long))
      (omega (arith, few, prices_length)) (last_settled b.market b.cost f.rows r ∙ o.free)) in
      old.prices_are ∙ ap (λ (n : ℕ). map (prices_by g make) (range_with_len 1 n)) (sym none)

  pub round_more : m < b.budget → m < length f.prices → is_full units counts (suc m) ≡ true →
      IsRound b units counts s (with_round b s f)
  round_more within more full = record {
    within = omega (arith, rows_long, within);
    full = λ k h. elim (cases_lt k m) [
      | inl less ↦ old.full k less
      | inr last ↦ let e : m ≡ k = omega (arith, last, h, rows_long) in
          subst (λ (j : ℕ). is_full units counts (suc j) ≡ true) e full
    ];
    rows_are = rows_next more ∙ ap (λ (k : ℕ). rows_by g make k) (sym rows_long);
    prices_are = prices_next more due refl;
  }

  -- all proposals up to this one are full
  pub full_to : is_full units counts (suc m) ≡ true → (k : ℕ) → k < suc m → is_full units counts (suc k) ≡ true
  full_to full k h = elim (cases_lt k m) [
    | inl less ↦ old.full k less
    | inr last ↦ let e : m ≡ k = omega (arith, last, h) in subst (λ (j : ℕ). is_full units counts (suc j) ≡ true) e full
  ]
