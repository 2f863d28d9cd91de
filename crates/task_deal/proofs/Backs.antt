-- Lists the other way round.
use Rattle.task_deal.proofs.Common.{append-nil, ◌≡◌, ℕ, List, [], ◌∷◌, ◌++◌, ap, ◌∙◌, sym, refl, append_assoc, arith}
use Rattle.task_deal.proofs.Common.{sum_of, backwards}
use Rattle.task_deal.proofs.Sums.{sum_of-append}

pub backwards_last : {X Y : Type 0} (f : X → Y) (xs : List X) (x : X) →
    backwards f (xs ++ x ∷ []) ≡ f x ∷ backwards f xs
backwards_last f [] x = refl
backwards_last f (y ∷ ys) x = ap (λ l. l ++ f y ∷ []) (backwards_last f ys x)

pub sum_of_back : {X Y : Type 0} (F : Y → ℕ) (f : X → Y) (xs : List X) →
    sum_of F (backwards f xs) ≡ sum_of (λ x. F (f x)) xs
sum_of_back F f [] = refl
sum_of_back F f (x ∷ xs) = omega (arith, sum_of_back F f xs, sum_of-append F (backwards f xs) (f x ∷ []))

-- one more goes over
pub over : {X Y : Type 0} (f : X → Y) (all rest : List X) (x : X) (out out' target : List Y) → all ≡ rest ++ x ∷ [] →
    out ++ backwards f all ≡ target → out' ≡ out ++ f x ∷ [] → out' ++ backwards f rest ≡ target
over f all rest x out out' target e is more = ap (λ l. l ++ backwards f rest) more ∙
    (append_assoc out (f x ∷ []) (backwards f rest) ∙
    (ap (λ l. out ++ l) (sym (ap (backwards f) e ∙ backwards_last f rest x)) ∙ is))

-- one more comes over
pub under : {X Y : Type 0} (f : X → Y) (done done' : List X) (x : X) (src rest target : List Y) →
    src ≡ rest ++ f x ∷ [] → done' ≡ done ++ x ∷ [] → src ++ backwards f done ≡ target →
    rest ++ backwards f done' ≡ target
under f done done' x src rest target e more is = ap (λ l. rest ++ l) (ap (backwards f) more ∙ backwards_last f done x) ∙
    (sym (append_assoc rest (f x ∷ []) (backwards f done)) ∙ (ap (λ l. l ++ backwards f done) (sym e) ∙ is))

-- all came over
pub over_all : {X Y : Type 0} (f : X → Y) (all : List X) (out target : List Y) → all ≡ [] →
    out ++ backwards f all ≡ target → out ≡ target
over_all f all out target none is = sym (append-nil out) ∙ (ap (λ l. out ++ backwards f l) (sym none) ∙ is)
