-- Bytes that are accepted are the saved text of what they tell.
use Rattle.std.proofs.Common.{◌≡◌, ℕ, suc, ◌==◌, Bool, true, false, if◌then◌else◌, List, [], ◌∷◌, bytes_eq, Option, Some, None, option_map, Result, Ok, Err, refl}
use Rattle.std.proofs.lemmas.Bool.Decides.{Decides-eqb}
use Rattle.serde_json.specs.Data.{Data}
use Rattle.saved_spec.specs.Saved.{saved_text}
use Rattle.project_spec.specs.Basis.{Basis}
use Rattle.saved_spec.specs.Kept.{thread}
use Rattle.saved_spec.specs.Levels.{bad_thread}
use Rattle.saved_spec.specs.Rules.{broken}
use Rattle.saved_spec.specs.RunShapes.{Told, run}
use Rattle.saved_spec.specs.Refusals.{first_difference, by_spelling, by_threads, by_rules, by_shape, by_version, judged, other_version}
use Rattle.saved_spec.specs.declared.refusals.SaveRefusal.TheVariants.{OtherProject}

same_if : (c : Bool) (x y : ℕ) (a b : List ℕ) (o : Option ℕ) → (c ≡ true → x ≡ y) → (o ≡ None → a ≡ b)
    → (if c then option_map suc o else Some 0) ≡ None → x ∷ a ≡ y ∷ b
same_if true x y a b None e f h = let p = e refl in let q = f refl in cc
same_if true x y a b (Some n) e f h = absurd (cc h)
same_if false x y a b o e f h = absurd (cc h)

-- texts without a difference are the same
same : (a b : List ℕ) → first_difference a b ≡ None → a ≡ b
unfolding first_difference
same [] [] h = refl
same [] (y ∷ b) h = absurd (cc h)
same (x ∷ a) [] h = absurd (cc h)
same (x ∷ a) (y ∷ b) h = same_if (x == y) x y a b (first_difference a b) (Decides-eqb x y).0 (same a b) h

spelled : (bytes : List ℕ) (u t : Told) (o : Option ℕ) → (o ≡ None → bytes ≡ saved_text thread u.run) → by_spelling u o ≡ Ok t → bytes ≡ saved_text thread t.run
spelled bytes u t None f h = let e = f refl in cc
spelled bytes u t (Some at) f h = absurd (cc h)

of_threads : (bytes : List ℕ) (u t : Told) (o : Option ℕ) → by_threads bytes u o ≡ Ok t → bytes ≡ saved_text thread t.run
of_threads bytes u t None h = spelled bytes u t (first_difference bytes (saved_text thread u.run)) (same bytes (saved_text thread u.run)) h
of_threads bytes u t (Some serial) h = absurd (cc h)

of_rules : (b : Basis) (bytes : List ℕ) (u t : Told) (o : Option (List ℕ)) → by_rules b bytes u o ≡ Ok t → bytes ≡ saved_text thread t.run
of_rules b bytes u t None h = of_threads bytes u t (bad_thread b u) h
of_rules b bytes u t (Some member) h = absurd (cc h)

of_project : (b : Basis) (given bytes : List ℕ) (u t : Told) (c : Bool)
    → (if c then by_rules b bytes u (broken b u) else Err (OtherProject u.run.project given)) ≡ Ok t → bytes ≡ saved_text thread t.run
of_project b given bytes u t true h = of_rules b bytes u t (broken b u) h
of_project b given bytes u t false h = absurd (cc h)

of_shape : (b : Basis) (given bytes : List ℕ) (r : Result Told (List ℕ)) (t : Told) → by_shape b given bytes r ≡ Ok t → bytes ≡ saved_text thread t.run
of_shape b given bytes (Ok u) t h = of_project b given bytes u t (bytes_eq u.run.project given) h
of_shape b given bytes (Err path) t h = absurd (cc h)

of_version : (b : Basis) (given bytes : List ℕ) (d : Data) (o : Option ℕ) (t : Told) → by_version b given bytes d o ≡ Ok t → bytes ≡ saved_text thread t.run
of_version b given bytes d None t h = of_shape b given bytes (run [] d) t h
of_version b given bytes d (Some n) t h = absurd (cc h)

pub written_as_read : (b : Basis) (digest bytes : List ℕ) (d : Data) (t : Told) → judged b digest bytes d ≡ Ok t → bytes ≡ saved_text thread t.run
unfolding judged
written_as_read b digest bytes d t h = of_version b _ bytes d (other_version d) t h
