-- One turn of a loop that makes a list of another.
use Rattle.std.proofs.Common.{◌≡◌, List, [], ◌∷◌, ◌++◌, map, ap, sym, ◌∙◌, append_assoc}

pub turn : {A B : Type 0} (f : A → B) (done new all : List B) (old next : List A) (x : A) (y : B) → new ≡ done ++ y ∷ [] → y ≡ f x → old ≡ x ∷ next → done ++ map f old ≡ all → new ++ map f next ≡ all
turn f done new all old next x y pushed made taken so_far =
    ap (λ l. l ++ map f next) pushed ∙ append_assoc done (y ∷ []) (map f next) ∙ ap (λ z. done ++ z ∷ map f next) made ∙ ap (λ l. done ++ map f l) (sym taken) ∙ so_far
