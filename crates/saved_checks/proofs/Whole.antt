-- The groups of rules, one after another, are all rules.
use Rattle.std.proofs.Common.{◌≡◌, ℕ, Bool, true, false, not, List, [], ◌∷◌, ◌++◌, map, Option, Some, None, refl, sym, ap, ◌∙◌}
use Rattle.std.specs.Prelude.{find, option_map, is_some}
use Rattle.std.specs.Option.{option_or, option_copied}
use Rattle.std.specs.Borrow.{Bor}
use Rattle.std.proofs.lemmas.Bool.{and_parts}
use Rattle.std.proofs.lemmas.List.Folds.{find-append}
use Rattle.saved_parts.specs.declared.run.ToldRun.{ToldRun}
use Rattle.saved_parts.specs.Telling.{instance_of, told_of}
use Rattle.project_spec.specs.Basis.{Basis}
use Rattle.saved_spec.specs.RunShapes.{Told}
use Rattle.saved_spec.specs.Rules as all
use Rattle.saved_spec.specs.Rules.{Rule, rule, rules, broken, differ}
use Rattle.saved_checks.specs.Groups.{broken_in, of_devices, of_instances, of_standing, of_texts, of_threads}
use Rattle.saved_checks.proofs.Joined.{map-map}

map-either : {A B : Type 0} (f : A → B) (a b : Option A) → option_map f (option_or a b) ≡ option_or (option_map f a) (option_map f b)
map-either f None b = refl
map-either f (Some x) b = refl

one-then : (xs ys : List Rule) → broken_in (xs ++ ys) ≡ option_or (broken_in xs) (broken_in ys)
one-then xs ys = ap (option_map (λ r. r.member)) (find-append (λ r. not r.holds) xs ys) ∙ map-either (λ r. r.member) (find (λ r. not r.holds) xs) (find (λ r. not r.holds) ys)

module _ (b : Basis) (t : Told) where
  in-groups : broken b t ≡ broken_in (of_devices b t ++ (of_instances b t ++ (of_standing b t ++ (of_texts b t ++ of_threads b t))))
  unfolding rules
  in-groups = refl

  pub by-groups : broken b t ≡ option_or (broken_in (of_devices b t)) (option_or (broken_in (of_instances b t)) (option_or (broken_in (of_standing b t)) (option_or (broken_in (of_texts b t)) (broken_in (of_threads b t)))))
  by-groups =
      in-groups ∙ one-then (of_devices b t) (of_instances b t ++ (of_standing b t ++ (of_texts b t ++ of_threads b t)))
      ∙ ap (option_or (broken_in (of_devices b t))) (one-then (of_instances b t) (of_standing b t ++ (of_texts b t ++ of_threads b t))
      ∙ ap (option_or (broken_in (of_instances b t))) (one-then (of_standing b t) (of_texts b t ++ of_threads b t)
      ∙ ap (option_or (broken_in (of_standing b t))) (one-then (of_texts b t) (of_threads b t))))

  -- what a group answers is what all rules do, where those before it are kept
  stops : (o rest : Option (List ℕ)) → is_some o ≡ true → o ≡ option_or o rest
  stops None rest h = absurd (cc h)
  stops (Some x) rest h = refl

  goes : (o rest : Option (List ℕ)) → is_some o ≡ false → rest ≡ option_or o rest
  goes None rest h = refl
  goes (Some x) rest h = absurd (cc h)

  in-texts : (o : Option (List ℕ)) → o ≡ broken_in (of_texts b t) → is_some o ≡ true → o ≡ option_or (broken_in (of_texts b t)) (broken_in (of_threads b t))
  in-texts o e s = e ∙ stops (broken_in (of_texts b t)) (broken_in (of_threads b t)) (ap is_some (sym e) ∙ s)

  pub at-devices : (o : Option (List ℕ)) → o ≡ broken_in (of_devices b t) → is_some o ≡ true → o ≡ broken b t
  at-devices o e s = e ∙ stops (broken_in (of_devices b t)) _ (ap is_some (sym e) ∙ s) ∙ sym by-groups

  module _ (d : Option (List ℕ)) (de : d ≡ broken_in (of_devices b t)) (no-d : is_some d ≡ false) where
    after-devices : (o : Option (List ℕ)) → o ≡ option_or (broken_in (of_instances b t)) (option_or (broken_in (of_standing b t)) (option_or (broken_in (of_texts b t)) (broken_in (of_threads b t)))) → o ≡ broken b t
    after-devices o h = h ∙ goes (broken_in (of_devices b t)) _ (ap is_some (sym de) ∙ no-d) ∙ sym by-groups

    pub at-instances : (o : Option (List ℕ)) → o ≡ broken_in (of_instances b t) → is_some o ≡ true → o ≡ broken b t
    at-instances o e s = after-devices o (e ∙ stops (broken_in (of_instances b t)) _ (ap is_some (sym e) ∙ s))

    module _ (i : Option (List ℕ)) (ie : i ≡ broken_in (of_instances b t)) (no-i : is_some i ≡ false) where
      after-instances : (o : Option (List ℕ)) → o ≡ option_or (broken_in (of_standing b t)) (option_or (broken_in (of_texts b t)) (broken_in (of_threads b t))) → o ≡ broken b t
      after-instances o h = after-devices o (h ∙ goes (broken_in (of_instances b t)) _ (ap is_some (sym ie) ∙ no-i))

      pub at-standing : (o : Option (List ℕ)) → o ≡ broken_in (of_standing b t) → is_some o ≡ true → o ≡ broken b t
      at-standing o e s = after-instances o (e ∙ stops (broken_in (of_standing b t)) _ (ap is_some (sym e) ∙ s))

      module _ (s : Option (List ℕ)) (se : s ≡ broken_in (of_standing b t)) (no-s : is_some s ≡ false) where
        after-standing : (o : Option (List ℕ)) → o ≡ option_or (broken_in (of_texts b t)) (broken_in (of_threads b t)) → o ≡ broken b t
        after-standing o h = after-instances o (h ∙ goes (broken_in (of_standing b t)) _ (ap is_some (sym se) ∙ no-s))

        pub at-texts : (o : Option (List ℕ)) → o ≡ broken_in (of_texts b t) → is_some o ≡ true → o ≡ broken b t
        at-texts o e k = after-standing o (in-texts o e k)

        pub at-threads : (x : Option (List ℕ)) → x ≡ broken_in (of_texts b t) → is_some x ≡ false → (o : Option (List ℕ)) → o ≡ broken_in (of_threads b t) → o ≡ broken b t
        at-threads x xe no-x o e = after-standing o (e ∙ goes (broken_in (of_texts b t)) (broken_in (of_threads b t)) (ap is_some (sym xe) ∙ no-x))

-- where the rules on instances are kept, no two have one number
third : (m : List ℕ) (x y z w : Bool) → None ≡ broken_in (rule m x ∷ rule m y ∷ rule m z ∷ rule m w ∷ []) → z ≡ true
third m true true true w h = refl
third m true true false w h = absurd (cc h)
third m true false z w h = absurd (cc h)
third m false y z w h = absurd (cc h)

none-from : (o : Option (List ℕ)) → is_some o ≡ false → None ≡ o
none-from None h = refl
none-from (Some x) h = absurd (cc h)

pub numbers-differ : (b : Basis) (r : ToldRun) (o : Option (List ℕ)) → o ≡ broken_in (of_instances b (told_of r)) → is_some o ≡ false → differ (map (λ i. i.number) r.instances) ≡ true
numbers-differ b r o e n =
    let t = told_of r in
    let kept : all.clones_are_sprites b t ≡ true = third _ (all.stage_is_first b t) (all.originals_are_there b t) (all.clones_are_sprites b t) (all.clones_are_few t) (none-from o n ∙ e) in
    ap differ (sym (map-map (λ i. i.number) instance_of r.instances)) ∙ (and_parts _ (differ (map (λ i. i.number) (map instance_of r.instances))) kept).1

-- a lent text is there where the text is
pub copied-some : (o : Option (Bor (List ℕ))) → is_some (option_copied o) ≡ is_some o
copied-some None = refl
copied-some (Some x) = refl
