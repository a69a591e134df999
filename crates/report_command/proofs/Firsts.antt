-- Each name once, in the order in which they come first.
use Rattle.std.proofs.Common.{◌≡◌, ℕ, ◌<◌, ◌≤◌, Bool, true, false, cond, not, ◌&&◌, ◌||◌, List, [], ◌∷◌, ◌++◌, length, take, bytes_eq, refl, sym, ap, ◌∙◌, subst, arith, append-nil, append_assoc, length-append}
use Rattle.std.specs.List.{list_any, filter}
use Rattle.std.proofs.lemmas.List.{take_all}
use Rattle.std.proofs.lemmas.List.Folds.{list_any-append}
use Rattle.std.proofs.lemmas.Slice.Eq.{bytes_eq-Decides}
use Rattle.report_command.specs.Unknown.{firsts, most_told}

-- none of these is the name
abbrev pub is_new : List (List ℕ) → List ℕ → Bool
is_new seen name = not (list_any (λ other. bytes_eq other name) seen)

-- Two filters, one after the other

filter_cond : (p : List ℕ → Bool) (b : Bool) (y : List ℕ) (ys : List (List ℕ)) → filter p (cond b (y ∷ ys) ys) ≡ cond (b && p y) (y ∷ filter p ys) (filter p ys)
filter_cond p true y ys = refl
filter_cond p false y ys = refl

filter_filter : (p q r : List ℕ → Bool) → ((y : List ℕ) → (q y && p y) ≡ r y) → (ys : List (List ℕ)) → filter p (filter q ys) ≡ filter r ys
filter_filter p q r h [] = refl
filter_filter p q r h (y ∷ ys) =
    filter_cond p (q y) y (filter q ys)
    ∙ ap (λ b. cond b (y ∷ filter p (filter q ys)) (filter p (filter q ys))) (h y)
    ∙ ap (λ l. cond (r y) (y ∷ l) l) (filter_filter p q r h ys)

-- a name that was seen is no new one
seen_before : (seen : List (List ℕ)) (x y : List ℕ) (b : Bool) → bytes_eq x y ≡ b → list_any (λ other. bytes_eq other x) seen ≡ true → (not b && is_new seen y) ≡ is_new seen y
seen_before seen x y false e h = refl
seen_before seen x y true e h = sym (ap not (subst (λ z. list_any (λ other. bytes_eq other z) seen ≡ true) ((bytes_eq-Decides x y).0 e) h))

neither : (a b : Bool) → (not a && not b) ≡ not (b || (a || false))
neither true true = refl
neither true false = refl
neither false true = refl
neither false false = refl

-- a name that is new from now on
seen_now : (seen : List (List ℕ)) (x y : List ℕ) → (not (bytes_eq x y) && is_new seen y) ≡ is_new (seen ++ x ∷ []) y
seen_now seen x y = neither (bytes_eq x y) (list_any (λ other. bytes_eq other y) seen) ∙ ap not (sym (list_any-append (λ other. bytes_eq other y) seen (x ∷ [])))

-- One more name

pub one_more : (seen new rest all : List (List ℕ)) (x : List ℕ) (b : Bool) → list_any (λ other. bytes_eq other x) seen ≡ b → new ≡ cond b seen (seen ++ x ∷ []) → seen ++ filter (is_new seen) (firsts (x ∷ rest)) ≡ all
    → new ++ filter (is_new new) (firsts rest) ≡ all
one_more seen new rest all x true e is h =
    let left = filter (is_new seen) (filter (λ other. not (bytes_eq x other)) (firsts rest)) in
    subst (λ n. n ++ filter (is_new n) (firsts rest) ≡ all) (sym is)
    (ap (λ l. seen ++ l) (sym (filter_filter (is_new seen) (λ other. not (bytes_eq x other)) (is_new seen) (λ y. seen_before seen x y (bytes_eq x y) refl e) (firsts rest)))
    ∙ sym (ap (λ b. seen ++ cond (not b) (x ∷ left) left) e) ∙ h)
one_more seen new rest all x false e is h =
    let left = filter (is_new seen) (filter (λ other. not (bytes_eq x other)) (firsts rest)) in
    subst (λ n. n ++ filter (is_new n) (firsts rest) ≡ all) (sym is)
    (append_assoc seen (x ∷ []) (filter (is_new (seen ++ x ∷ [])) (firsts rest))
    ∙ ap (λ l. seen ++ x ∷ l) (sym (filter_filter (is_new seen) (λ other. not (bytes_eq x other)) (is_new (seen ++ x ∷ [])) (λ y. seen_now seen x y) (firsts rest)))
    ∙ sym (ap (λ b. seen ++ cond (not b) (x ∷ left) left) e) ∙ h)

pub few_more : (seen new : List (List ℕ)) (x : List ℕ) (b : Bool) → new ≡ cond b seen (seen ++ x ∷ []) → length seen < most_told → length new ≤ most_told
few_more seen new x true is h = let n = ap length is in omega arith
few_more seen new x false is h = let n = ap length is ∙ length-append seen (x ∷ []) in omega arith

-- The first turn, and the last

all_new : (names : List (List ℕ)) → filter (is_new []) names ≡ names
all_new [] = refl
all_new (x ∷ names) = ap (λ l. x ∷ l) (all_new names)

pub none_seen : (seen names : List (List ℕ)) → seen ≡ [] → seen ++ filter (is_new seen) names ≡ names
none_seen seen names e = subst (λ s. s ++ filter (is_new s) names ≡ names) (sym e) (all_new names)

take_front : (xs ys : List (List ℕ)) → take (length xs) (xs ++ ys) ≡ xs
take_front [] ys = refl
take_front (x ∷ xs) ys = ap (λ l. x ∷ l) (take_front xs ys)

pub as_many_as_told : (seen left all : List (List ℕ)) → seen ++ left ≡ all → length seen ≡ most_told → seen ≡ take most_told all
as_many_as_told seen left all e n = sym (take_front seen left) ∙ ap (λ k. take k (seen ++ left)) n ∙ ap (take most_told) e

pub all_seen : (seen rest all : List (List ℕ)) → rest ≡ [] → seen ++ filter (is_new seen) (firsts rest) ≡ all → length seen ≤ most_told → seen ≡ take most_told all
all_seen seen rest all none e n =
    let whole : seen ≡ all = sym (append-nil seen) ∙ sym (ap (λ r. seen ++ filter (is_new seen) (firsts r)) none) ∙ e in
    sym (take_all most_told seen n) ∙ ap (take most_told) whole
