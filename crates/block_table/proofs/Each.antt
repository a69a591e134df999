-- Members that are read one after another.
use Rattle.std.proofs.Common.{◌≡◌, ℕ, ◌+◌, ◌<◌, length, drop, get_or, List, [], ◌∷◌, ◌++◌, map, Result, Ok, Err, refl, sym, ◌∙◌, ap, append_assoc}
use Rattle.std.proofs.lemmas.List.{drop_more, map-append}
use Rattle.project_json.specs.Tree.{Tree}
use Rattle.json_shapes.specs.Shapes.{Reader, ◌>>=◌, each_member}
use Rattle.json_shapes.specs.Each.{after}

after_more : {A : Type 0} (front : List A) (a : A) (rest : Result (List A) (List ℕ)) → after (front ++ a ∷ []) rest ≡ after front (rest >>= (λ more. Ok (a ∷ more)))
after_more front a (Ok more) = ap Ok (append_assoc front (a ∷ []) more)
after_more front a (Err path) = refl

-- one more
pub after_member : {A : Type 0} (read : Reader (List ℕ × Tree) A) (at : List (List ℕ)) (front : List A) (m : List ℕ × Tree) (ms : List (List ℕ × Tree)) (a : A) (whole : Result (List A) (List ℕ))
    → read at m ≡ Ok a → after front (each_member read at (m ∷ ms)) ≡ whole → after (front ++ a ∷ []) (each_member read at ms) ≡ whole
after_member read at front m ms a whole here same =
    after_more front a (each_member read at ms)
    ∙ sym (ap (λ r. after front (r >>= (λ b. each_member read at ms >>= (λ more. Ok (b ∷ more))))) here) ∙ same

-- the member at the place that a loop stands at
pub after_member_at : {A B M : Type 0} (read : Reader (List ℕ × Tree) B) (at : List (List ℕ)) (field : M → List ℕ × Tree) (view : A → B) (front : List A) (a : A) (members : List M) (i : ℕ) (m : M) (whole : Result (List B) (List ℕ))
    → i < length members → m ≡ get_or members i m → read at (field m) ≡ Ok (view a)
    → after (map view front) (each_member read at (map field (drop i members))) ≡ whole
    → after (map view (front ++ a ∷ [])) (each_member read at (map field (drop (i + 1) members))) ≡ whole
after_member_at read at field view front a members i m whole within is here same =
    let rest = drop (i + 1) members in
    let steps : m ∷ rest ≡ drop i members = ap (λ x. x ∷ rest) is ∙ sym (drop_more members i m within) in
    ap (λ l. after l (each_member read at (map field rest))) (map-append view front (a ∷ []))
    ∙ after_member read at (map view front) (field m) (map field rest) (view a) whole here
    (ap (λ ms. after (map view front) (each_member read at (map field ms))) steps ∙ same)
