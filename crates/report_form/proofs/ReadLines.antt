-- The blocks of a report, read back from its text.
use Rattle.report_form.proofs.Common.{◌≡◌, ◌==◌, ℕ, suc, ℤ, true, false, List, [], ◌∷◌, ◌++◌, length, replicate, drop}
use Rattle.report_form.proofs.Common.{codes, levels_text}
use Rattle.report_form.proofs.Common.{refl, sym, ap, ◌∙◌, arith, append_assoc, All, flat_map, append_cancel_left}
use Rattle.report_form.proofs.Common.{Proposal, UnitLine, head_text, row_text, rows_text, chosen_text, thermal_text}
use Rattle.report_form.proofs.Common.{flat_text, renewable_text, bid_text, foot_text, IsFlatLine}
use Rattle.std.proofs.lemmas.List.Elements.{All-head, All-tail}
use Rattle.report_form.proofs.ReadBack.{bytes_apart, after_count, after_amount, after_amounts, after_counts}
use Rattle.report_form.proofs.ReadBack.{after_flags, after_name}

-- the numbers of the first lines
pub record AreHeads (p g b a n : ℕ) (c : ℤ) (q h d e m : ℕ) (k : ℤ) : Type 0 where
  pub periods : p ≡ q
  pub units : g ≡ h
  pub budget : b ≡ d
  pub ahead : a ≡ e
  pub cost : c ≡ k
  pub proposals : n ≡ m

pub read_head : (p g b a n : ℕ) (c : ℤ) (q h d e m : ℕ) (k : ℤ) (u v : List ℕ) →
    head_text p g b a c n ++ u ≡ head_text q h d e k m ++ v → AreHeads p g b a n c q h d e m k × (u ≡ v)
unfolding head_text
read_head p g b a n c q h d e m k u v same =
    let text = simp append_assoc at same in
    let r0 = after_count (codes "hull-report 1\nperiods ") p q _ _ text refl refl in
    let r1 = after_count (codes "\nunits ") g h _ _ r0.1 refl refl in
    let r2 = after_count (codes "\nbudget ") b d _ _ r1.1 refl refl in
    let r3 = after_count (codes "\nahead ") a e _ _ r2.1 refl refl in
    let r4 = after_amount (codes "\ncost ") c k _ _ r3.1 refl refl in
    let r5 = after_count (codes "\nproposals ") n m _ _ r4.1 refl refl in (
      record { periods = r0.0; units = r1.0; budget = r2.0; ahead = r3.0; cost = r4.0; proposals = r5.0 },
      append_cancel_left (codes "\n") u v r5.1,
    )

-- ---- proposals

read_row : (n : ℕ) (r s : Proposal) (u v : List ℕ) → row_text n r ++ u ≡ row_text n s ++ v → (r ≡ s) × (u ≡ v)
unfolding row_text
read_row n r s u v same =
    let text = simp append_assoc at (append_cancel_left (codes "proposal ") _ _ same) in
    let tail = append_cancel_left _ _ _ text in
    let value = after_amount (codes " value ") r.value s.value _ _ tail refl refl in
    let energy = after_amounts (codes "\nenergy") r.prices.energy s.prices.energy _ _ value.1 in
    let reserve = after_amounts (codes "reserve") r.prices.reserve s.prices.reserve _ _ energy.1 in
    let supplied = after_amounts (codes "supplied") r.supply s.supply _ _ reserve.1 in
    let reserved = after_amounts (codes "reserved") r.reserve s.reserve u v supplied.1 in (
      λ i. record {
        prices = record { energy = energy.0 i; reserve = reserve.0 i };
        value = value.0 i;
        supply =
            supplied.0 i;
        reserve = reserved.0 i;
      },
      reserved.1,
    )

pub read_rows : (n : ℕ) (rs ss : List Proposal) (u v : List ℕ) → length rs ≡ length ss →
    rows_text n rs ++ u ≡ rows_text n ss ++ v → (rs ≡ ss) × (u ≡ v)
read_rows n [] [] u v l e = (refl, e)
read_rows n [] (s ∷ ss) u v l e = absurd (omega arith)
read_rows n (r ∷ rs) [] u v l e = absurd (omega arith)
read_rows n (r ∷ rs) (s ∷ ss) u v l e =
    let nested = sym (append_assoc (row_text n r) (rows_text (suc n) rs) u) ∙ e ∙
    append_assoc (row_text n s) (rows_text (suc n) ss) v in
    let first = read_row n r s _ _ nested in
    let rest = read_rows (suc n) rs ss u v (omega arith) first.1 in
    (ap (λ z. z ∷ rs) first.0 ∙ ap (λ zs. s ∷ zs) rest.0, rest.1)

pub read_chosen : (m n : ℕ) (y z : ℤ) (u v : List ℕ) → chosen_text m y ++ u ≡ chosen_text n z ++ v →
    (m ≡ n) × (y ≡ z) × (u ≡ v)
unfolding chosen_text
read_chosen m n y z u v same =
    let text = simp append_assoc at same in
    let number = after_count (codes "chosen ") m n _ _ text refl refl in
    let value = after_amount (codes " value ") y z _ _ number.1 refl refl in
    (number.0, value.0, append_cancel_left (codes "\n") u v value.1)

pub read_levels : (r s : Proposal) (u v : List ℕ) → levels_text r ++ u ≡ levels_text s ++ v → (r ≡ s) × (u ≡ v)
unfolding levels_text
read_levels r s u v same =
    let text = simp append_assoc at same in
    let value = after_amount (codes "value ") r.value s.value _ _ text refl refl in
    let energy = after_amounts (codes "\nenergy") r.prices.energy s.prices.energy _ _ value.1 in
    let reserve = after_amounts (codes "reserve") r.prices.reserve s.prices.reserve _ _ energy.1 in
    let supplied = after_amounts (codes "supplied") r.supply s.supply _ _ reserve.1 in
    let reserved = after_amounts (codes "reserved") r.reserve s.reserve u v supplied.1 in (
      λ i. record {
        prices = record { energy = energy.0 i; reserve = reserve.0 i };
        value = value.0 i;
        supply =
            supplied.0 i;
        reserve = reserved.0 i;
      },
      reserved.1,
    )

-- ---- units

-- each line of a kind begins so
abbrev pub Begins : {A : Type 0} → List ℕ → (A → List ℕ) → Type 0
Begins {A} p f = (l : A) (u : List ℕ) → (rest : List ℕ) × (f l ++ u ≡ p ++ rest)

-- no line of that kind comes next
abbrev pub BeginsOther : List ℕ → List ℕ → Type 0
BeginsOther p u = (rest : List ℕ) → u ≡ p ++ rest → ⊥

abbrev pub ReadsLine : {A : Type 0} → (A → Type 0) → (A → List ℕ) → Type 0
ReadsLine {A} P f = (l m : A) (u v : List ℕ) → P l → P m → f l ++ u ≡ f m ++ v → (l ≡ m) × (u ≡ v)

pub read_lines : {A : Type 0} (P : A → Type 0) (f : A → List ℕ) (p : List ℕ) → ReadsLine P f → Begins p f
    → (ls ms : List A) (u v : List ℕ) → All P ls → All P ms → BeginsOther p u → BeginsOther p v →
    flat_map f ls ++ u ≡ flat_map f ms ++ v → (ls ≡ ms) × (u ≡ v)
read_lines P f p reads begins [] [] u v i j a b e = (refl, e)
read_lines P f p reads begins [] (m ∷ ms) u v i j a b e =
    let first = begins m (flat_map f ms ++ v) in
    absurd (a first.0 (e ∙ append_assoc (f m) (flat_map f ms) v ∙ first.1))
read_lines P f p reads begins (l ∷ ls) [] u v i j a b e =
    let first = begins l (flat_map f ls ++ u) in
    absurd (b first.0 (sym e ∙ append_assoc (f l) (flat_map f ls) u ∙ first.1))
read_lines P f p reads begins (l ∷ ls) (m ∷ ms) u v i j a b e =
    let nested = sym (append_assoc (f l) (flat_map f ls) u) ∙ e ∙ append_assoc (f m) (flat_map f ms) v in
    let first = reads l m _ _ (All-head P l ls i) (All-head P m ms j) nested in
    let rest = read_lines P f p reads begins ls ms u v (All-tail P l ls i) (All-tail P m ms j) a b first.1 in
    (ap (λ z. z ∷ ls) first.0 ∙ ap (λ zs. m ∷ zs) rest.0, rest.1)

pub read_thermal : ReadsLine (λ (l : UnitLine). Unit {0}) thermal_text
unfolding thermal_text
read_thermal l m u v i j same =
    let text = simp append_assoc at same in
    let name = after_name (codes "unit thermal \"") l.name m.name _ _ text in
    let earned = after_amount (codes " earned ") l.earned m.earned _ _ name.1 refl refl in
    let scheduled = after_amount (codes " scheduled ") l.scheduled m.scheduled _ _ earned.1 refl refl in
    let payment = after_amount (codes " payment ") l.payment m.payment _ _ scheduled.1 refl refl in
    let on = after_flags (codes "\non") l.response.on m.response.on _ _ payment.1 in
    let power = after_counts (codes "power") l.response.power m.response.power _ _ on.1 in
    let reserve = after_counts (codes "reserve") l.response.reserve m.response.reserve u v power.1 in (
      λ i. record {
        name = name.0 i;
        earned = earned.0 i;
        scheduled = scheduled.0 i;
        payment = payment.0 i;
        response = record { on = on.0 i; power = power.0 i; reserve = reserve.0 i };
      },
      reserve.1,
    )

-- the power of a flat line tells its on flags and its reserve
flat_same : (l m : UnitLine) → IsFlatLine l → IsFlatLine m → l.name ≡ m.name → l.earned ≡ m.earned →
    l.scheduled ≡ m.scheduled → l.payment ≡ m.payment → l.response.power ≡ m.response.power → l ≡ m
flat_same l m h k name earned scheduled payment power =
    let on = h.on ∙ ap (λ (ps : List ℕ). replicate (length ps) true) power ∙ sym k.on in
    let reserve = h.reserve ∙ ap (λ (ps : List ℕ). replicate (length ps) 0) power ∙ sym k.reserve in
    λ i. record {
      name = name i;
      earned = earned i;
      scheduled = scheduled i;
      payment = payment i;
      response = record { on = on i; power = power i; reserve = reserve i };
    }

read_flat : (kind : List ℕ) → ReadsLine IsFlatLine (flat_text kind)
unfolding flat_text
read_flat kind l m u v i j same =
    let text = simp append_assoc at same in
    let name = after_name [] l.name m.name _ _
    (append_cancel_left (codes "\"") _ _ (append_cancel_left kind _ _ text)) in
    let earned = after_amount (codes " earned ") l.earned m.earned _ _ name.1 refl refl in
    let scheduled = after_amount (codes " scheduled ") l.scheduled m.scheduled _ _ earned.1 refl refl in
    let payment = after_amount (codes " payment ") l.payment m.payment _ _ scheduled.1 refl refl in
    let power = after_counts (codes "\npower") l.response.power m.response.power u v payment.1 in
    (flat_same l m i j name.0 earned.0 scheduled.0 payment.0 power.0, power.1)

pub read_renewable : ReadsLine IsFlatLine renewable_text
read_renewable = read_flat (codes "unit renewable ")

pub read_bid : ReadsLine IsFlatLine bid_text
read_bid = read_flat (codes "unit bid ")

pub thermal_begins : Begins (codes "unit thermal ") thermal_text
unfolding thermal_text
thermal_begins l u = (drop 13 (thermal_text l ++ u), refl)

pub renewable_begins : Begins (codes "unit renewable ") renewable_text
unfolding flat_text
renewable_begins l u = (drop 15 (renewable_text l ++ u), refl)

pub bid_begins : Begins (codes "unit bid ") bid_text
unfolding flat_text
bid_begins l u = (drop 9 (bid_text l ++ u), refl)

-- ---- which line comes next

abbrev pub BeginsWith : ℕ → List ℕ → Type 0
BeginsWith byte u = (rest : List ℕ) × (u ≡ byte ∷ rest)

pub other_byte : (b c : ℕ) (p u : List ℕ) → (b == c) ≡ false → BeginsWith b u → BeginsOther (c ∷ p) u
other_byte b c p u apart begins rest e = bytes_apart b c begins.0 (p ++ rest) apart (sym begins.1 ∙ e)

pub foot_begins : (x y z : ℤ) → BeginsWith 115 (foot_text x y z)
unfolding foot_text
foot_begins x y z = (drop 1 (foot_text x y z), refl)

foot_behind_bids : (foot : List ℕ) → BeginsWith 115 foot → BeginsOther (codes "unit bid ") foot
foot_behind_bids foot begins = other_byte 115 117 (codes "nit bid ") foot refl begins

bids_behind_renewables : (bids : List UnitLine) (foot : List ℕ) → BeginsWith 115 foot →
    BeginsOther (codes "unit renewable ") (flat_map bid_text bids ++ foot)
unfolding flat_text
bids_behind_renewables [] foot begins = other_byte 115 117 (codes "nit renewable ") foot refl begins
bids_behind_renewables (b ∷ bids) foot begins =
    λ rest e. bytes_apart 98 114 _ _ refl (append_cancel_left (codes "unit ") _ _ e)

flat_behind_thermal : (renewables bids : List UnitLine) (foot : List ℕ) → BeginsWith 115 foot →
    BeginsOther (codes "unit thermal ") (flat_map renewable_text renewables ++ (flat_map bid_text bids ++ foot))
unfolding flat_text
flat_behind_thermal [] [] foot begins = other_byte 115 117 (codes "nit thermal ") foot refl begins
flat_behind_thermal [] (b ∷ bids) foot begins =
    λ rest e. bytes_apart 98 116 _ _ refl (append_cancel_left (codes "unit ") _ _ e)
flat_behind_thermal (r ∷ renewables) bids foot begins =
    λ rest e. bytes_apart 114 116 _ _ refl (append_cancel_left (codes "unit ") _ _ e)

-- the lines of all units, and then a text that begins as the last lines do
pub read_units : (t x r y b z : List UnitLine) (u v : List ℕ) → All IsFlatLine r → All IsFlatLine y
    → All IsFlatLine b → All IsFlatLine z → BeginsWith 115 u → BeginsWith 115 v →
    flat_map thermal_text t ++ (flat_map renewable_text r ++ (flat_map bid_text b ++ u))
    ≡ flat_map thermal_text x ++ (flat_map renewable_text y ++ (flat_map bid_text z ++ v)) →
    (t ≡ x) × (r ≡ y) × (b ≡ z) × (u ≡ v)
read_units t x r y b z u v flat_r flat_y flat_b flat_z m n same =
    let thermal = read_lines (λ (l : UnitLine). Unit {0}) thermal_text (codes "unit thermal ") read_thermal
    thermal_begins t x _ _ (λ k d lt. tt) (λ k d lt. tt)
    (flat_behind_thermal r b u m) (flat_behind_thermal y z v n) same in
    let renewable = read_lines IsFlatLine renewable_text (codes "unit renewable ") read_renewable renewable_begins
    r y _ _ flat_r flat_y (bids_behind_renewables b u m) (bids_behind_renewables z v n) thermal.1 in
    let bids = read_lines IsFlatLine bid_text (codes "unit bid ") read_bid bid_begins b z _ _ flat_b flat_z
    (foot_behind_bids u m) (foot_behind_bids v n) renewable.1 in
    (thermal.0, renewable.0, bids.0, bids.1)

-- ---- the last lines

pub read_foot : (x y z p q r : ℤ) → foot_text x y z ≡ foot_text p q r → (x ≡ p) × (y ≡ q) × (z ≡ r)
unfolding foot_text
read_foot x y z p q r same =
    let surplus = after_amount (codes "surplus ") x p _ _ same refl refl in
    let payments = after_amount (codes "\npayments ") y q _ _ surplus.1 refl refl in
    let gap = after_amount (codes "\ngap ") z r _ _ payments.1 refl refl in
    (surplus.0, payments.0, gap.0)
