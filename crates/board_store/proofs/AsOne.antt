-- Lists and units that were compared part by part.
use Rattle.board_store.proofs.Common.{◌≡◌, ℕ, suc, ◌<◌, Some, List, [], ◌∷◌, length, map, get_or, refl, sym, ap, ◌∙◌}
use Rattle.board_store.proofs.Common.{arith, slice_get, ThermalUnit, Reserved, items_in, Block, HaveSamePowers}
use Rattle.board_store.proofs.Common.{HaveSameTimes}
use Rattle.plain_lists.proofs.ListLaws.{map_item}

-- lists with the same item at each place
pub same_lists : {A : Type 0} (xs ys : List A) → length xs ≡ length ys →
    ((k : ℕ) (d : A) → k < length xs → get_or xs k d ≡ get_or ys k d) → xs ≡ ys
same_lists [] [] e h = refl
same_lists [] (y ∷ ys) e h = absurd (omega (arith, e))
same_lists (x ∷ xs) [] e h = absurd (omega (arith, e))
same_lists {A} (x ∷ xs) (y ∷ ys) e h =
    ap (λ (z : A). z ∷ xs) (h 0 x (omega arith))
    ∙ ap (λ (zs : List A). y ∷ zs) (same_lists xs ys (omega (arith, e)) (λ k d lt. h (suc k) d (omega (arith, lt))))

pub same_units : (g h : ThermalUnit) → HaveSamePowers g h → HaveSameTimes g h → g.lags ≡ h.lags →
    g.points ≡ h.points → g.window ≡ h.window → g ≡ h
same_units g h p t lags points window = λ i. record {
  must_run = t.0 i;
  min_power = p.0 i;
  max_power = p.1 i;
  ramp_up = p.2 i;
  ramp_down = p.3 i;
  start_limit = p.4 i;
  stop_limit = p.5 i;
  min_up = t.1 i;
  min_down = t.2 i;
  power0 = p.6 i;
  on0 = t.3 i;
  up0 = t.4 i;
  down0 = t.5 i;
  lags = lags i;
  points = points i;
  window = window i;
}

-- items of lists whose items are alike at each place
pub one_item : (xs ys : List (Reserved Block)) (k : ℕ) (x y : Reserved Block) → map items_in xs ≡ map items_in ys →
    slice_get xs k ≡ Some x → slice_get ys k ≡ Some y → items_in x ≡ items_in y
one_item xs ys k x y same at at' =
    let here = map_item items_in xs k x at in
    let there = map_item items_in ys k y at' in
    let both : Some (items_in x) ≡ Some (items_in y) =
    sym here ∙ ap (λ (l : List (List Block)). slice_get l k) same ∙ there in
    (cc)

-- lists of lists whose items are alike at each place
pub same_items : (xs ys : List (Reserved Block)) → length xs ≡ length ys →
    ((k : ℕ) (d : Reserved Block) → k < length xs → items_in (get_or xs k d) ≡ items_in (get_or ys k d)) →
    map items_in xs ≡ map items_in ys
same_items [] [] e h = refl
same_items [] (y ∷ ys) e h = absurd (omega (arith, e))
same_items (x ∷ xs) [] e h = absurd (omega (arith, e))
same_items (x ∷ xs) (y ∷ ys) e h =
    ap (λ (z : List Block). z ∷ map items_in xs) (h 0 x (omega arith))
    ∙ ap (λ (zs : List (List Block)). items_in y ∷ zs)
    (same_items xs ys (omega (arith, e)) (λ k d lt. h (suc k) d (omega (arith, lt))))
