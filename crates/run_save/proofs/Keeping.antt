-- What a run keeps whose saved text breaks no rule.
use Rattle.std.proofs.Common.{◌≡◌, ℕ, ◌<◌, ◌≤◌, ◌^◌, Bool, true, false, ◌&&◌, List, [], ◌∷◌, length, slice_get, Option, Some, None, is_some, option_map, refl, arith}
use Rattle.std.specs.Prelude.{nat_lt, nat_le, not, find, sum_by}
use Rattle.std.specs.List.{All, list_all}
use Rattle.std.specs.Option.{option_map_or}
use Rattle.std.proofs.lemmas.Bool.Decides.{nat_tests}
use Rattle.std.proofs.lemmas.List.Elements.{All-nil, All-cons}
use Rattle.std.proofs.lemmas.Option.{slice_get_within}
use Rattle.machine_spec.specs.Outcome.{most_levels}
use Rattle.machine_spec.specs.Stores.{live}
use Rattle.project_check.specs.declared.project.Project.{Project}
use Rattle.executions.specs.Ready.{ArePeopled, HasNoneFrom}
use Rattle.saved_parts.specs.Telling.{instance_of, store_of, told_of}
use Rattle.saved_parts.specs.declared.run.ToldRun.{ToldRun}
use Rattle.project_spec.specs.Basis.{Basis, records_of}
use Rattle.project_check.specs.Loaded.{basis_of}
use Rattle.saved_spec.specs.Kept.{SavedThread}
use Rattle.saved_spec.specs.RunShapes.{Told}
use Rattle.saved_spec.specs.Rules.{Rule, rule, rules, broken, is_next, is_sprite, is_named, is_of_hat, is_key_name, is_short, values_kept, keys_are_held, words_are_counted, frames_are_counted, next_are_counted, originals_are_there, clones_are_sprites, params_are_short, threads_are_of_hats, levels_are_few}
use Rattle.run_save.specs.Parts.{IsReady}
use Rattle.run_save.proofs.Peopled.{homes, fresh, originals, one_each, no_store, rule_holds}

none_found : (rs : List Rule) → option_map (λ r. r.member) (find (λ r. not r.holds) rs) ≡ None → find (λ r. not r.holds) rs ≡ None
none_found rs h = by_one (find (λ r. not r.holds) rs) h
  where
    by_one : (o : Option Rule) → option_map (λ r. r.member) o ≡ None → o ≡ None
    by_one None e = refl
    by_one (Some r) e = absurd (cc e)

module _ (b : Basis) (t : Told) (h : broken b t ≡ None) where
  holds : (k : ℕ) (m : List ℕ) (c : Bool) → slice_get (rules b t) k ≡ Some (rule m c) → c ≡ true
  holds = rule_holds (rules b t) (none_found (rules b t) h)

  pub keys : keys_are_held t ≡ true
  unfolding rules
  keys = holds 3 _ (keys_are_held t) refl

  pub drawn : words_are_counted t ≡ true
  unfolding rules
  drawn = holds 4 _ (words_are_counted t) refl

  pub frames : frames_are_counted t ≡ true
  unfolding rules
  frames = holds 5 _ (frames_are_counted t) refl

  pub nexts : next_are_counted b t ≡ true
  unfolding rules
  nexts = holds 6 _ (next_are_counted b t) refl

  pub there : originals_are_there b t ≡ true
  unfolding rules
  there = holds 10 _ (originals_are_there b t) refl

  pub clones : clones_are_sprites b t ≡ true
  unfolding rules
  clones = holds 11 _ (clones_are_sprites b t) refl

  pub short : params_are_short t ≡ true
  unfolding rules
  short = holds 23 _ (params_are_short t) refl

  pub hats : threads_are_of_hats b t ≡ true
  unfolding rules
  hats = holds 30 _ (threads_are_of_hats b t) refl

  pub few_levels : levels_are_few t ≡ true
  unfolding rules
  few_levels = holds 33 _ (levels_are_few t) refl

-- Who is there

within : {X : Type 0} (xs : List X) (k : ℕ) (test : X → Bool) → option_map_or test (slice_get xs k) false ≡ true → k < length xs
within {X = X} xs k test h = by_one (slice_get xs k) refl h
  where
    by_one : (o : Option X) → slice_get xs k ≡ o → option_map_or test o false ≡ true → k < length xs
    by_one None e g = absurd (cc g)
    by_one (Some x) e g = slice_get_within xs k x e

both : (a c : Bool) → (a && c) ≡ true → (a ≡ true) × (c ≡ true)
both true c h = (refl, h)
both false c h = absurd (cc h)

below : (m n : ℕ) → nat_lt m n ≡ true → m < n
below m n h = grind (arith, nat_tests)

at_most : (m n : ℕ) → nat_le m n ≡ true → m ≤ n
at_most m n h = grind (arith, nat_tests)

module _ (p : Project) (r : ToldRun) (h : broken (basis_of p) (told_of r) ≡ None) where
  counted : (is_next r.next.thread ≡ true) × (is_next r.next.instance ≡ true) × (is_next r.next.usage ≡ true) × (nat_le (length (records_of (basis_of p)).targets) r.next.instance ≡ true)
  counted =
      let a = both (is_next r.next.thread && is_next r.next.instance && is_next r.next.usage) _ (nexts (basis_of p) (told_of r) h) in
      let c = both (is_next r.next.thread && is_next r.next.instance) _ a.0 in
      let d = both (is_next r.next.thread) _ c.0 in
      (d.0, d.1, c.1, a.1)

  pub threads_below : r.next.thread < 2 ^ 62
  threads_below = below _ _ counted.0

  pub frames_below : r.frame < 2 ^ 62
  frames_below = below _ _ (frames (basis_of p) (told_of r) h)

  pub drawn_below : r.drawn < 2 ^ 62
  drawn_below = below _ _ (drawn (basis_of p) (told_of r) h)

  pub people : ArePeopled p r.next.instance (told_of r).run.targets
  people =
      let c = both _ _ (clones (basis_of p) (told_of r) h) in
      let count = length (records_of (basis_of p)).targets in
      let known : (k : ℕ) → is_sprite (basis_of p) k ≡ true → k < count = λ k g. within (records_of (basis_of p)).targets k _ g in
      record {
        few = below _ _ counted.1;
        originals = originals count (told_of r).run.targets (there (basis_of p) (told_of r) h);
        homes = homes (is_sprite (basis_of p)) count r.next.instance (told_of r).run.targets known c.0;
        fresh = fresh (is_sprite (basis_of p)) count r.next.instance (told_of r).run.targets (at_most _ _ counted.3) c.0;
        one_each = one_each (told_of r).run.targets c.1;
      }

  pub free : HasNoneFrom r.next.instance (told_of r).run.variables
  free = λ n from. no_store instance_of store_of (λ a. refl) n r.instances (people.fresh n from)

  pub keys_named : list_all is_key_name r.keys ≡ true
  keys_named = (both _ _ (keys (basis_of p) (told_of r) h)).0

  pub few_over_all : sum_by (λ x. length x.levels) (told_of r).run.threads ≤ most_levels
  few_over_all = at_most _ _ (few_levels (basis_of p) (told_of r) h)

-- each thread is of a live instance, and the values of its parameters are short

ready : (b : Basis) (t : Told) (xs : List SavedThread) → list_all (is_of_hat b t) xs ≡ true → list_all (λ x. list_all (λ l. list_all is_short (values_kept l.kept)) x.levels) xs ≡ true → All (λ x. IsReady x t.run.targets) xs
ready b t [] g s = All-nil (λ x. IsReady x t.run.targets)
ready b t (x ∷ xs) g s =
    let a = both (is_of_hat b t x) _ g in
    let c = both (list_all (λ l. list_all is_short (values_kept l.kept)) x.levels) _ s in
    let named = both (is_named t x.of x.serial) _ a.0 in
    All-cons (λ y. IsReady y t.run.targets) x xs (record { lives = (both (is_some (live x.of t.run.targets)) _ named.0).0; short = c.0 }) (ready b t xs a.1 c.1)

pub all_ready : (b : Basis) (t : Told) → broken b t ≡ None → All (λ x. IsReady x t.run.targets) t.run.threads
all_ready b t h = ready b t t.run.threads (both _ _ (hats b t h)).0 (short b t h)
