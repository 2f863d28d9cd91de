-- The blocks of a period, and those of each period, read one after the other as a loop does.
use Rattle.uc_field.proofs.Common.{◌≡◌, ℕ, ◌+◌, ◌<◌, List, [], ◌∷◌, ◌++◌, length, map, get_or, drop, Ok, refl, sym}
use Rattle.uc_field.proofs.Common.{subst, ◌∙◌, length-map, map_push, Reserved, items_in, Block, period_blocks, Value}
use Rattle.uc_field.proofs.Common.{view, views, Branch, goes_on, ends, item_at, each, position, Read, Site}
use Rattle.uc_field.proofs.Common.{FieldFault, few, block, int_lt, false, true, Err, fault}
use Rattle.uc_text.specs.Given.{Fails}
use Rattle.uc_text.specs.declared.stop.Stop.{Stop}
use Rattle.plain_lists.specs.Sums.{total}
use Rattle.uc_model.specs.declared.limits.TheConstants.{MOST_BLOCKS, POWER_LIMIT}
use Rattle.uc_field.specs.declared.fault.CaseCode.TheVariants as codes

-- ---- the blocks of a period

pub period_read : (at : Site) (v : Value) (bs : List Block) → few block MOST_BLOCKS at v ≡ Ok bs →
    int_lt POWER_LIMIT (total (map (λ (b : Block). b.width) bs)) ≡ false → period_blocks at [] v ≡ Ok bs
unfolding period_blocks
period_read at v bs read fits = rw (read, fits) refl

pub period_refused : (at : Site) (v : Value) (bs : List Block) → few block MOST_BLOCKS at v ≡ Ok bs →
    int_lt POWER_LIMIT (total (map (λ (b : Block). b.width) bs)) ≡ true →
    period_blocks at [] v ≡ Err (fault at codes.TooLarge)
unfolding period_blocks
period_refused at v bs read wide = rw (read, wide) refl

-- ---- the periods of a bid

abbrev read_period : Site → List (List Block) → Value → Read (List Block)
read_period at before = period_blocks (item_at at (position before)) before

period_here : (at p : Site) (front : List (Reserved Block)) (n : ℕ) (v : Value) → p ≡ item_at at (n + 1) →
    n ≡ length front → period_blocks p [] v ≡ read_period at (map items_in front) v
unfolding period_blocks
period_here at p front n v p-is n-is = rw (p-is, n-is, length-map front items_in) refl

pub period_goes_on : (at p : Site) (ts : List Branch) (i : ℕ) (t : Branch) (front : List (Reserved Block)) (n : ℕ)
    (x : Reserved Block) (total : Read (List (List Block))) → i < length ts → t ≡ get_or ts i t
    → p ≡ item_at at (n + 1) → n ≡ length front → period_blocks p [] (view t) ≡ Ok x.items
    → each (read_period at) (map items_in front) (views (drop i ts)) ≡ total →
    each (read_period at) (map items_in (front ++ x ∷ [])) (views (drop (i + 1) ts)) ≡ total
period_goes_on at p ts i t front n x total lt is p-is n-is h so_far =
    rw (map_push items_in front x) (goes_on (read_period at) view ts i t (map items_in front) x.items total lt is
    (sym (period_here at p front n (view t) p-is n-is) ∙ h) so_far)

pub period_ends : (e : Stop FieldFault) (at p : Site) (ts : List Branch) (i : ℕ) (t : Branch)
    (front : List (Reserved Block)) (n : ℕ) (total : Read (List (List Block))) → i < length ts → t ≡ get_or ts i t
    → p ≡ item_at at (n + 1) → n ≡ length front → Fails e (period_blocks p [] (view t))
    → each (read_period at) (map items_in front) (views (drop i ts)) ≡ total → Fails e total
period_ends e at p ts i t front n total lt is p-is n-is h so_far =
    ends e (read_period at) view ts i t (map items_in front) total lt is
    (subst (λ (r : Read (List Block)). Fails e r) (period_here at p front n (view t) p-is n-is) h) so_far
