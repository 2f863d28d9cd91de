-- A bid's best power: all blocks whose price is above the energy price, and no more.
use Rattle.flat_answer.proofs.Common.{◌≡◌, ℕ, zero, suc, ◌+◌, ◌≤◌, ◌<◌, ◌⊎◌, inl, inr, ⊎_elim, Bool, true, false, ℤ}
use Rattle.flat_answer.proofs.Common.{pos, neg_ℤ, ◌+ℤ◌, ◌-ℤ◌, ◌*ℤ◌, ◌≤ℤ◌, ◌<ℤ◌, int_lt, if◌then◌else◌, List, [], ◌∷◌}
use Rattle.flat_answer.proofs.Common.{drop, length, slice_index_or, refl, ap, sym, ◌∙◌, arith, ints, clamps, by_lt_z}
use Rattle.flat_answer.proofs.Common.{drop_more, drop_all, *ℤ_comm, *ℤ-zero, int_min, Block, worth_of, IsBlock}
use Rattle.flat_answer.proofs.Common.{IsBlockList, IsFrom, price_limit, width_of, IsLeastChoice, IsWithinBlocks}
use Rattle.flat_answer.proofs.Common.{bought_at, added_power, added_gain, mul-sub, mul-add, mul-mono_of}
use Rattle.flat_answer.proofs.Powers.{mul-fall, mul-rise, sub-mul}

-- the widths of the blocks above the price, and what they earn
abbrev pub wanted : ℤ → List Block → ℤ
wanted p [] = pos 0
wanted p (b ∷ bs) = added_power p b +ℤ wanted p bs

abbrev pub gain : ℤ → List Block → ℤ
gain p [] = pos 0
gain p (b ∷ bs) = added_gain p b +ℤ gain p bs

pub record AreBlocks (bs : List Block) : Type 0 where
  pub each : (k : ℕ) (d : Block) → k < length bs → IsBlock (slice_index_or bs k d)

abbrev pub FallsFrom : List Block → Type 0
FallsFrom bs = (k : ℕ) (d : Block) → suc k < length bs →
    (slice_index_or bs (suc k) d).price ≤ℤ (slice_index_or bs k d).price

blocks_rest : (b : Block) (bs : List Block) → AreBlocks (b ∷ bs) → AreBlocks bs
blocks_rest b bs h = record { each = λ k d i. h.each (suc k) d (omega (arith, i)) }

block_first : (b : Block) (bs : List Block) → AreBlocks (b ∷ bs) → IsBlock b
block_first b bs h = h.each 0 b (omega arith)

falls_rest : (b : Block) (bs : List Block) → FallsFrom (b ∷ bs) → FallsFrom bs
falls_rest b bs h = λ k d i. h (suc k) d (omega (arith, i))

pub blocks_drop : (i : ℕ) (bs : List Block) → AreBlocks bs → AreBlocks (drop i bs)
blocks_drop zero bs h = h
blocks_drop (suc i) [] h = h
blocks_drop (suc i) (b ∷ bs) h = blocks_drop i bs (blocks_rest b bs h)

-- ---- one block

-- it is above the price and counts whole, or it doesn't count
pub record Counts (p : ℤ) (b : Block) : Type 0 where
  pub above : p <ℤ b.price
  pub power : added_power p b ≡ b.width
  pub won : added_gain p b ≡ (b.price -ℤ p) *ℤ b.width

pub record IsLeftOut (p : ℤ) (b : Block) : Type 0 where
  pub below : b.price ≤ℤ p
  pub power : added_power p b ≡ pos 0
  pub won : added_gain p b ≡ pos 0

pub counts : (p : ℤ) (b : Block) → p <ℤ b.price → Counts p b
counts p b h =
    let e : int_lt p b.price ≡ true = grind (arith, ints) in
    record {
      above = h;
      power = ap (λ (t : Bool). if t then b.width else pos 0) e;
      won = ap (λ (t : Bool). if t then (b.price -ℤ p) *ℤ b.width else pos 0) e;
    }

left_out : (p : ℤ) (b : Block) → b.price ≤ℤ p → IsLeftOut p b
left_out p b h =
    let e : int_lt p b.price ≡ false = grind (arith, ints) in
    record {
      below = h;
      power = ap (λ (t : Bool). if t then b.width else pos 0) e;
      won = ap (λ (t : Bool). if t then (b.price -ℤ p) *ℤ b.width else pos 0) e;
    }

one_of : (p : ℤ) (b : Block) → Counts p b ⊎ IsLeftOut p b
one_of p b = by_lt_z p b.price (λ h. inl (counts p b h)) (λ h. inr (left_out p b h))

-- what a block adds, in bounds
record IsAdded (p : ℤ) (b : Block) : Type 0 where
  low : pos 0 ≤ℤ added_power p b
  high : added_power p b ≤ℤ b.width
  gain_low : pos 0 ≤ℤ added_gain p b
  gain_high : added_gain p b ≤ℤ (pos 20000000 *ℤ added_power p b)

added_counts : (p : ℤ) (b : Block) → IsBlock b → neg_ℤ price_limit ≤ℤ p → Counts p b → IsAdded p b
added_counts p b h low c =
    let wide = h.width.at_least in
    let dear = h.price.at_most in
    let above = c.above in
    let power = c.power in
    let won = c.won in
    let diff : pos 0 ≤ℤ (b.price -ℤ p) = omega (arith, ints) in
    let rise = mul-mono_of (b.price -ℤ p) (pos 0) b.width diff wide in
    let none = *ℤ-zero (b.price -ℤ p) in
    let few : (b.price -ℤ p) ≤ℤ pos 20000000 = omega (arith, ints) in
    let most = mul-mono_of b.width (b.price -ℤ p) (pos 20000000) wide few in
    let turn = *ℤ_comm b.width (b.price -ℤ p) in
    let other = *ℤ_comm b.width (pos 20000000) in
    let whole = ap (λ (z : ℤ). pos 20000000 *ℤ z) power in
    record {
      low = omega (arith, ints);
      high = omega (arith, ints);
      gain_low = omega (arith, ints, rise, none, won);
      gain_high = omega (arith, ints, most, turn, other, whole, won);
    }

added_left : (p : ℤ) (b : Block) → IsBlock b → IsLeftOut p b → IsAdded p b
added_left p b h c =
    let wide = h.width.at_least in
    let power = c.power in
    let won = c.won in
    let whole = ap (λ (z : ℤ). pos 20000000 *ℤ z) power in
    let none = *ℤ-zero (pos 20000000) in
    record {
      low = omega (arith, ints);
      high = omega (arith, ints);
      gain_low = omega (arith, ints);
      gain_high = omega (arith, ints, whole, none, won);
    }

added : (p : ℤ) (b : Block) → IsBlock b → neg_ℤ price_limit ≤ℤ p → IsAdded p b
added p b h low = ⊎_elim (added_counts p b h low) (added_left p b h) (one_of p b)

-- ---- all blocks

pub record IsInBounds (p : ℤ) (bs : List Block) : Type 0 where
  pub low : pos 0 ≤ℤ wanted p bs
  pub high : wanted p bs ≤ℤ width_of bs
  pub gain_low : pos 0 ≤ℤ gain p bs
  pub gain_high : gain p bs ≤ℤ (pos 20000000 *ℤ wanted p bs)

pub in_bounds : (p : ℤ) (bs : List Block) → AreBlocks bs → neg_ℤ price_limit ≤ℤ p → IsInBounds p bs
in_bounds p [] h low = let none = *ℤ-zero (pos 20000000) in record {
  low = omega (arith, ints);
  high = omega (arith, ints);
  gain_low = omega (arith, ints);
  gain_high = omega (arith, ints, none);
}
in_bounds p (b ∷ bs) h low =
    let one = added p b (block_first b bs h) low in
    let rest = in_bounds p bs (blocks_rest b bs h) low in
    let a = one.low in
    let c = one.high in
    let d = one.gain_low in
    let e = one.gain_high in
    let f = rest.low in
    let g = rest.high in
    let i = rest.gain_low in
    let j = rest.gain_high in
    let apart = mul-add (pos 20000000) (added_power p b) (wanted p bs) in
    record {
      low = omega (arith, ints, a, f);
      high = omega (arith, ints, c, g);
      gain_low = omega (arith, ints, d, i);
      gain_high = omega (arith, ints, e, j, apart);
    }

-- no power earns more than the wanted one, and none below it earns as much
pub record IsNoBetter (p : ℤ) (bs : List Block) (x : ℤ) : Type 0 where
  pub at_most : (worth_of bs x -ℤ (p *ℤ x)) ≤ℤ gain p bs
  pub at_least : worth_of bs x -ℤ (p *ℤ x) ≡ gain p bs → wanted p bs ≤ℤ x

-- a power in two parts: what the first block takes, and the rest
record IsParted (b : Block) (bs : List Block) (x : ℤ) : Type 0 where
  low : pos 0 ≤ℤ int_min x b.width
  first : int_min x b.width ≤ℤ b.width
  rest_low : pos 0 ≤ℤ (x -ℤ int_min x b.width)
  rest_high : (x -ℤ int_min x b.width) ≤ℤ width_of bs

parted : (b : Block) (bs : List Block) (x : ℤ) → pos 0 ≤ℤ b.width → pos 0 ≤ℤ x → x ≤ℤ width_of (b ∷ bs) →
    pos 0 ≤ℤ width_of bs → IsParted b bs x
parted b bs x wide low high rest = record {
  low = omega (arith, ints, clamps);
  first = omega (arith, ints, clamps);
  rest_low = omega (arith, ints, clamps);
  rest_high = omega (arith, ints, clamps);
}

widths_low : (bs : List Block) → AreBlocks bs → pos 0 ≤ℤ width_of bs
widths_low [] h = omega (arith, ints)
widths_low (b ∷ bs) h =
    let wide = (block_first b bs h).width.at_least in
    let rest = widths_low bs (blocks_rest b bs h) in
    omega (arith, ints, wide, rest)

-- the earnings in those two parts
earned_parts : (p : ℤ) (b : Block) (bs : List Block) (x m : ℤ) →
    ((b.price *ℤ m) +ℤ worth_of bs (x -ℤ m)) -ℤ (p *ℤ x) ≡ ((b.price -ℤ p) *ℤ m)
    +ℤ (worth_of bs (x -ℤ m) -ℤ (p *ℤ (x -ℤ m)))
earned_parts p b bs x m = let e = mul-sub p x m in let f = sub-mul b.price p m in omega (arith, ints, e, f)

counts_no_better : (p : ℤ) (b : Block) (bs : List Block) (x : ℤ) → Counts p b → IsParted b bs x →
    IsNoBetter p bs (x -ℤ int_min x b.width) → IsNoBetter p (b ∷ bs) x
counts_no_better p b bs x c two rest =
    let m = int_min x b.width in
    let parts = earned_parts p b bs x m in
    let above = c.above in
    let diff : pos 0 <ℤ (b.price -ℤ p) = omega (arith, ints) in
    let first = two.first in
    let rise = mul-rise (b.price -ℤ p) m b.width diff first in
    let most = rest.at_most in
    let won = c.won in
    let power = c.power in
    record {
      at_most = omega (arith, ints, parts, rise, most, won, first);
      at_least = λ e.
          let tight : worth_of bs (x -ℤ m) -ℤ (p *ℤ (x -ℤ m)) ≡ gain p bs =
          omega (arith, ints, parts, rise, most, won, first, e) in
          let least = rest.at_least tight in
          omega (arith, ints, parts, rise, most, won, first, e, least, power);
    }

left_no_better : (p : ℤ) (b : Block) (bs : List Block) (x : ℤ) → IsLeftOut p b → IsParted b bs x →
    IsNoBetter p bs (x -ℤ int_min x b.width) → IsNoBetter p (b ∷ bs) x
left_no_better p b bs x c two rest =
    let m = int_min x b.width in
    let parts = earned_parts p b bs x m in
    let below = c.below in
    let diff : (b.price -ℤ p) ≤ℤ pos 0 = omega (arith, ints) in
    let low = two.low in
    let fall = mul-fall (b.price -ℤ p) (pos 0) m diff low in
    let none = *ℤ-zero (b.price -ℤ p) in
    let most = rest.at_most in
    let won = c.won in
    let power = c.power in
    record {
      at_most = omega (arith, ints, parts, fall, none, most, won);
      at_least = λ e.
          let tight : worth_of bs (x -ℤ m) -ℤ (p *ℤ (x -ℤ m)) ≡ gain p bs =
          omega (arith, ints, parts, fall, none, most, won, e) in
          let least = rest.at_least tight in
          omega (arith, ints, least, power, low);
    }

pub no_better : (p : ℤ) (bs : List Block) (x : ℤ) → AreBlocks bs → pos 0 ≤ℤ x → x ≤ℤ width_of bs → IsNoBetter p bs x
no_better p [] x h low high =
    let zero_ : x ≡ pos 0 = omega (arith, ints) in
    let e = ap (λ (z : ℤ). p *ℤ z) zero_ ∙ *ℤ-zero p in
    record { at_most = omega (arith, ints, e); at_least = λ f. low }
no_better p (b ∷ bs) x h low high =
    let two = parted b bs x (block_first b bs h).width.at_least low high (widths_low bs (blocks_rest b bs h)) in
    let rest = no_better p bs (x -ℤ int_min x b.width) (blocks_rest b bs h) two.rest_low two.rest_high in
    ⊎_elim (λ (c : Counts p b). counts_no_better p b bs x c two rest)
    (λ (c : IsLeftOut p b). left_no_better p b bs x c two rest) (one_of p b)

-- ---- what the wanted power earns, where the dearest block comes first

worth_none : (bs : List Block) → AreBlocks bs → worth_of bs (pos 0) ≡ pos 0
worth_none [] h = refl
worth_none (b ∷ bs) h =
    let wide = (block_first b bs h).width.at_least in
    let first : int_min (pos 0) b.width ≡ pos 0 = omega (arith, ints, clamps, wide) in
    let e = ap (λ (z : ℤ). (b.price *ℤ z) +ℤ worth_of bs (pos 0 -ℤ z)) first in
    let none = *ℤ-zero b.price in
    let rest = worth_none bs (blocks_rest b bs h) in
    e ∙ (omega (arith, ints, none, rest))

-- where the first block is left out, all are
record IsNothing (p : ℤ) (bs : List Block) : Type 0 where
  power : wanted p bs ≡ pos 0
  won : gain p bs ≡ pos 0

all_left_out : (p : ℤ) (b : Block) (bs : List Block) → FallsFrom (b ∷ bs) → b.price ≤ℤ p → IsNothing p (b ∷ bs)
all_left_out p b [] falls h = let c = left_out p b h in record {
  power = let e = c.power in omega (arith, ints, e);
  won = let e = c.won in omega (arith, ints, e);
}
all_left_out p b (b2 ∷ bs) falls h =
    let c = left_out p b h in
    let next = falls 0 b (omega arith) in
    let rest = all_left_out p b2 bs (falls_rest b (b2 ∷ bs) falls) (omega (arith, ints, next, h)) in
    record {
      power = let e = c.power in let f = rest.power in omega (arith, ints, e, f);
      won = let e = c.won in let f = rest.won in omega (arith, ints, e, f);
    }

counts_earns : (p : ℤ) (b : Block) (bs : List Block) → Counts p b → pos 0 ≤ℤ wanted p bs →
    worth_of bs (wanted p bs) -ℤ (p *ℤ wanted p bs) ≡ gain p bs →
    worth_of (b ∷ bs) (wanted p (b ∷ bs)) -ℤ (p *ℤ wanted p (b ∷ bs)) ≡ gain p (b ∷ bs)
counts_earns p b bs c low rest =
    let x = wanted p (b ∷ bs) in
    let power = c.power in
    let won = c.won in
    let first : int_min x b.width ≡ b.width = omega (arith, ints, clamps, power, low) in
    let behind : x -ℤ b.width ≡ wanted p bs = omega (arith, ints, power) in
    let e = ap (λ (z : ℤ). (b.price *ℤ z) +ℤ worth_of bs (x -ℤ z)) first in
    let parts = earned_parts p b bs x b.width in
    let f = ap (λ (z : ℤ). worth_of bs z -ℤ (p *ℤ z)) behind in
    omega (arith, ints, e, parts, f, rest, won)

left_earns : (p : ℤ) (b : Block) (bs : List Block) → AreBlocks (b ∷ bs) → IsNothing p (b ∷ bs) →
    worth_of (b ∷ bs) (wanted p (b ∷ bs)) -ℤ (p *ℤ wanted p (b ∷ bs)) ≡ gain p (b ∷ bs)
left_earns p b bs h none =
    let e = ap (λ (z : ℤ). worth_of (b ∷ bs) z -ℤ (p *ℤ z)) none.power in
    let f = worth_none (b ∷ bs) h in
    let g = *ℤ-zero p in
    let won = none.won in
    e ∙ (omega (arith, ints, f, g, won))

wanted_earns : (p : ℤ) (bs : List Block) → AreBlocks bs → neg_ℤ price_limit ≤ℤ p → FallsFrom bs →
    worth_of bs (wanted p bs) -ℤ (p *ℤ wanted p bs) ≡ gain p bs
wanted_earns p [] h low falls = let e = *ℤ-zero p in omega (arith, ints, e)
wanted_earns p (b ∷ bs) h low falls =
    let rest = wanted_earns p bs (blocks_rest b bs h) low (falls_rest b bs falls) in
    ⊎_elim (λ (c : Counts p b). counts_earns p b bs c (in_bounds p bs (blocks_rest b bs h) low).low rest)
    (λ (c : IsLeftOut p b). left_earns p b bs h (all_left_out p b bs falls c.below)) (one_of p b)

-- ---- one block after another

-- what the first blocks and the rest add up to
pub record IsPart (p : ℤ) (bs : List Block) (i power : ℕ) (earned : ℤ) : Type 0 where
  pub power_is : pos power +ℤ wanted p (drop i bs) ≡ wanted p bs
  pub earned_is : earned +ℤ gain p (drop i bs) ≡ gain p bs
  pub low : pos 0 ≤ℤ earned

pub record IsStep (p : ℤ) (bs : List Block) (i power : ℕ) (earned : ℤ) (d : Block) : Type 0 where
  pub power_room : IsFrom (pos 0) (pos 1000000000) (pos power +ℤ added_power p (slice_index_or bs i d))
  pub earned_room : IsFrom (pos 0) (pos 20000000000000000) (earned +ℤ added_gain p (slice_index_or bs i d))
  pub next : (more : ℕ) (won : ℤ) → pos more ≡ pos power +ℤ added_power p (slice_index_or bs i d) →
      won ≡ earned +ℤ added_gain p (slice_index_or bs i d) → IsPart p bs (i + 1) more won

pub part_step : (p : ℤ) (bs : List Block) (i power : ℕ) (earned : ℤ) (d : Block) → IsBlockList bs →
    neg_ℤ price_limit ≤ℤ p → i < length bs → IsPart p bs i power earned → IsStep p bs i power earned d
part_step p bs i power earned d h low within part =
    let blocks : AreBlocks bs = record { each = h.blocks } in
    let b = slice_index_or bs i d in
    let one = added p b (h.blocks i d within) low in
    let rest = in_bounds p (drop (i + 1) bs) (blocks_drop (i + 1) bs blocks) low in
    let all_ = in_bounds p bs blocks low in
    let wide = h.width in
    let most = all_.high in
    let top = all_.gain_high in
    let scaled = mul-mono_of (pos 20000000) (wanted p bs) (pos 1000000000) (omega (arith, ints))
    (omega (arith, ints, most, wide)) in
    let split = drop_more bs i d within in
    let e = ap (wanted p) split in
    let f = ap (gain p) split in
    let a = part.power_is in
    let c = part.earned_is in
    let g = part.low in
    let j = one.low in
    let k = one.gain_low in
    let m = rest.low in
    let n = rest.gain_low in
    record {
      power_room = record { at_least = omega (arith, ints, j); at_most = omega (arith, ints, e, a, m, most, wide) };
      earned_room = record {
        at_least = omega (arith, ints, g, k);
        at_most =
            omega (arith, ints, f, c, n, top, scaled);
      };
      next = λ more won q r. record {
        power_is = omega (arith, ints, e, a, q);
        earned_is = omega (arith, ints, f, c, r);
        low = omega (arith, ints, g, k, r);
      };
    }

-- ---- the choice

pub wanted_is_choice : (bs : List Block) (p : ℤ) (power : ℕ) (earned : ℤ) → IsBlockList bs → neg_ℤ price_limit ≤ℤ p →
    pos power ≡ wanted p bs → earned ≡ gain p bs →
    IsLeastChoice (IsWithinBlocks bs) (bought_at bs p) power earned
wanted_is_choice bs p power earned h low is won =
    let blocks : AreBlocks bs = record { each = h.blocks } in
    let bounds = in_bounds p bs blocks low in
    let a = bounds.low in
    let b = bounds.high in
    let c = bounds.gain_low in
    let d = bounds.gain_high in
    let wide = h.width in
    let e = wanted_earns p bs blocks low h.falling in
    let f = ap (λ (z : ℤ). worth_of bs z -ℤ (p *ℤ z)) is in
    let scaled = mul-mono_of (pos 20000000) (wanted p bs) (pos 1000000000) (omega (arith, ints))
    (omega (arith, ints, b, wide)) in
    record {
      best = record {
        allowed = omega (arith, ints, is, b);
        greatest = λ other i. let g = (no_better p bs (pos other) blocks (omega (arith, ints)) i).at_most in
            omega (arith, ints, e, f, g);
        least = λ other i j.
            let g = (no_better p bs (pos other) blocks (omega (arith, ints)) i).at_least (j ∙ f ∙ e) in
            omega (arith, ints, g, is);
      };
      is = won ∙ sym (f ∙ e);
      bound = record { at_least = omega (arith, ints, c, won); at_most = omega (arith, ints, d, scaled, won) };
    }

pub part_is_choice : (bs : List Block) (p : ℤ) (i power : ℕ) (earned : ℤ) → IsBlockList bs → neg_ℤ price_limit ≤ℤ p →
    length bs ≤ i → IsPart p bs i power earned →
    IsLeastChoice (IsWithinBlocks bs) (bought_at bs p) power earned
part_is_choice bs p i power earned h low past part =
    let none = drop_all i bs past in
    let e = ap (wanted p) none in
    let f = ap (gain p) none in
    let a = part.power_is in
    let c = part.earned_is in
    wanted_is_choice bs p power earned h low (omega (arith, ints, e, a)) (omega (arith, ints, f, c))
