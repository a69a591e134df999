-- The instances that are live, one more at a time.
use Rattle.std.proofs.Common.{◌≡◌, ℕ, ◌+◌, ◌<◌, ◌==◌, Bool, true, false, cond, List, [], ◌∷◌, ◌++◌, length, get_or, take, take-suc, add-one, Option, Some, None, refl, sym, ap, ◌∙◌}
use Rattle.std.specs.Prelude.{find, option_map}
use Rattle.std.specs.Option.{option_or}
use Rattle.std.proofs.lemmas.List.Folds.{find-append}
use Rattle.saved_checks.specs.Live.{target_in, Notes}
use Rattle.saved_checks.specs.declared.live_targets.LiveTargets.{LiveTargets}
use Rattle.saved_parts.specs.declared.instances.ToldInstance.{ToldInstance}

map-either : {A B : Type 0} (f : A → B) (a b : Option A) → option_map f (option_or a b) ≡ option_or (option_map f a) (option_map f b)
map-either f None b = refl
map-either f (Some x) b = refl

map-one : {A B : Type 0} (f : A → B) (t : Bool) (x : A) → option_map f (cond t (Some x) None) ≡ cond t (Some (f x)) None
map-one f true x = refl
map-one f false x = refl

pub take-more : {A : Type 0} (xs : List A) (k : ℕ) (x : A) → k < length xs → x ≡ get_or xs k x → take (k + 1) xs ≡ take k xs ++ x ∷ []
take-more xs k x h e = rw add-one (take-suc xs k x h ∙ ap (λ y. take k xs ++ y ∷ []) (sym e))

pub live-more : (old new : LiveTargets) (is : List ToldInstance) (k : ℕ) (i : ToldInstance) → k < length is → i ≡ get_or is k i
    → ((n : ℕ) → target_in old n ≡ option_map (λ i. i.of) (find (λ i. i.number == n) (take k is))) → Notes old new i.number i.of
    → (n : ℕ) → target_in new n ≡ option_map (λ i. i.of) (find (λ i. i.number == n) (take (k + 1) is))
live-more old new is k i h e before notes n =
    notes n ∙ ap (λ o. option_or o (cond (i.number == n) (Some i.of) None)) (before n)
    ∙ ap (option_or (option_map (λ i. i.of) (find (λ i. i.number == n) (take k is)))) (sym (map-one (λ (i : ToldInstance). i.of) (i.number == n) i))
    ∙ sym (map-either (λ i. i.of) (find (λ i. i.number == n) (take k is)) (cond (i.number == n) (Some i) None))
    ∙ ap (option_map (λ i. i.of)) (sym (find-append (λ i. i.number == n) (take k is) (i ∷ [])))
    ∙ ap (λ js. option_map (λ i. i.of) (find (λ i. i.number == n) js)) (sym (take-more is k i h e))
