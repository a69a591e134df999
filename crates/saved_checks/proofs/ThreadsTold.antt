-- Questions, timers and threads, and what they name.
use Rattle.std.proofs.Common.{◌≡◌, ℕ, ◌+◌, Bool, true, false, cond, ◌&&◌, List, [], ◌∷◌, length, map, Option, Some, None, refl, sym, ap, ◌∙◌}
use Rattle.std.specs.Prelude.{find, option_map, unwrap_or, is_some, nat_le, nat_lt, ◌==◌}
use Rattle.std.specs.List.{list_all, sum_by}
use Rattle.std.specs.Option.{option_map_or}
use Rattle.std.proofs.lemmas.List.{length-map, length-reverse}
use Rattle.std.proofs.lemmas.List.Folds.{list_all-map, fold-map}
use Rattle.machine_spec.specs.declared.devices.BubbleTimer.{BubbleTimer}
use Rattle.machine_spec.specs.Outcome.{most_levels}
use Rattle.machine_spec.specs.Stores as stores
use Rattle.machine_spec.specs.Stores.{instance_at, no_instance}
use Rattle.project_spec.specs.Basis.{Basis, blocks_of, is_hat}
use Rattle.saved_spec.specs.Rules as rules
use Rattle.saved_spec.specs.Rules.{differ, is_in_target}
use Rattle.saved_parts.specs.declared.instances.ToldInstance.{ToldInstance}
use Rattle.saved_parts.specs.declared.run.ToldQuestion.{ToldQuestion}
use Rattle.saved_parts.specs.declared.run.ToldRun.{ToldRun}
use Rattle.saved_parts.specs.declared.threads.ToldKept.{ToldKept}
use Rattle.saved_parts.specs.declared.threads.ToldKept.TheVariants.{Nothing, Loop, Repeat, Wait, Glide, Started, Asked, Spoken, Call}
use Rattle.saved_parts.specs.declared.threads.ToldThread.{ToldThread}
use Rattle.saved_parts.specs.Telling.{instance_of, question_of, kept_of, level_of, thread_of, told_of}
use Rattle.saved_checks.specs.declared.live_targets.LiveTargets.{LiveTargets}
use Rattle.saved_checks.specs.Levels.{names_given}
use Rattle.saved_checks.specs.Live.{target_in}
use Rattle.saved_checks.proofs.Joined.{map-map}
use Rattle.saved_checks.proofs.TextsTold.{levels-told}

find-map : {A B : Type 0} (p : B → Bool) (g : A → B) (xs : List A) → find p (map g xs) ≡ option_map g (find (λ x. p (g x)) xs)
find-map p g [] = refl
find-map p g (x ∷ xs) = by (p (g x)) (find-map p g xs)
  where
    by : (b : Bool) → find p (map g xs) ≡ option_map g (find (λ x. p (g x)) xs) → cond b (Some (g x)) (find p (map g xs)) ≡ option_map g (cond b (Some x) (find (λ x. p (g x)) xs))
    by true h = refl
    by false h = h

-- the instances that are live have their targets
pub record AreLive (live : LiveTargets) (r : ToldRun) : Type 0 where
  pub each : (n : ℕ) → target_in live n ≡ option_map (λ i. i.of) (find (λ i. i.number == n) r.instances)

pub live-in : (live : LiveTargets) (r : ToldRun) (is : List ToldInstance) → is ≡ r.instances → ((n : ℕ) → target_in live n ≡ option_map (λ i. i.of) (find (λ i. i.number == n) is)) → AreLive live r
live-in live r is e h = record { each = λ n. h n ∙ ap (λ js. option_map (λ i. i.of) (find (λ i. i.number == n) js)) e }

module _ (live : LiveTargets) (r : ToldRun) (h : AreLive live r) where
  some-of : (o : Option ToldInstance) → is_some (option_map {T = ToldInstance} {U = ℕ} (λ i. i.of) o) ≡ is_some (option_map instance_of o)
  some-of None = refl
  some-of (Some i) = refl

  of-some : (o : Option ToldInstance) → unwrap_or (option_map {T = ToldInstance} {U = ℕ} (λ i. i.of) o) 0 ≡ (unwrap_or (option_map instance_of o) no_instance).of
  of-some None = refl
  of-some (Some i) = refl

  is-live : (n : ℕ) → is_some (target_in live n) ≡ is_some (stores.live n (map instance_of r.instances))
  is-live n = ap is_some (h.each n) ∙ some-of (find (λ i. i.number == n) r.instances) ∙ sym (ap is_some (find-map (λ i. i.number == n) instance_of r.instances))

  has-target : (n : ℕ) → unwrap_or (target_in live n) 0 ≡ (instance_at n (map instance_of r.instances)).of
  has-target n =
      ap (λ o. unwrap_or o 0) (h.each n) ∙ of-some (find (λ i. i.number == n) r.instances)
      ∙ sym (ap (λ o. (unwrap_or o no_instance).of) (find-map (λ i. i.number == n) instance_of r.instances))

  pub questions-told : (qs : List ToldQuestion) (x : Bool) → qs ≡ r.questions
      → x ≡ (list_all (λ q. is_some (target_in live q.of) && nat_lt q.thread r.next.thread) qs && differ (map (λ q. q.thread) qs)) → x ≡ rules.questions_are_of_threads (told_of r)
  questions-told qs x e g =
      let each : rules.questions_are_of_threads (told_of r) ≡ (list_all (λ q. rules.is_named (told_of r) q.of q.thread) r.questions && differ (map (λ q. q.thread) r.questions))
      = λ j. list_all-map (λ q. rules.is_named (told_of r) q.of q.thread) question_of r.questions j && differ (map-map (λ q. q.thread) question_of r.questions j) in
      g ∙ ap (λ ys. list_all (λ q. is_some (target_in live q.of) && nat_lt q.thread r.next.thread) ys && differ (map (λ q. q.thread) ys)) e
      ∙ (λ j. list_all (λ q. is-live q.of j && nat_lt q.thread r.next.thread) r.questions && differ (map (λ q. q.thread) r.questions)) ∙ sym each

  pub timers-told : (ts : List BubbleTimer) (x : Bool) → ts ≡ r.timers
      → x ≡ (list_all (λ y. is_some (target_in live y.of) && nat_lt y.thread r.next.thread) ts && differ (map (λ y. y.thread) ts)) → x ≡ rules.timers_are_of_threads (told_of r)
  timers-told ts x e g =
      g ∙ ap (λ ys. list_all (λ y. is_some (target_in live y.of) && nat_lt y.thread r.next.thread) ys && differ (map (λ y. y.thread) ys)) e
      ∙ (λ j. list_all (λ y. is-live y.of j && nat_lt y.thread r.next.thread) r.timers && differ (map (λ y. y.thread) r.timers))

  module _ (b : Basis) (ts : List ToldThread) (x : Bool) (e : ts ≡ r.threads) where
    pub hats-told : x ≡ (list_all (λ t. (is_some (target_in live t.of) && nat_lt t.serial r.next.thread) && is_hat (unwrap_or (target_in live t.of) 0) t.hat b) ts && differ (map (λ t. t.serial) ts))
        → x ≡ rules.threads_are_of_hats b (told_of r)
    hats-told g =
        let each : rules.threads_are_of_hats b (told_of r) ≡ (list_all (λ t. rules.is_of_hat b (told_of r) (thread_of t)) r.threads && differ (map (λ t. t.serial) r.threads))
        = λ j. list_all-map (rules.is_of_hat b (told_of r)) thread_of r.threads j && differ (map-map (λ t. t.serial) thread_of r.threads j) in
        g ∙ ap (λ ys. list_all (λ t. (is_some (target_in live t.of) && nat_lt t.serial r.next.thread) && is_hat (unwrap_or (target_in live t.of) 0) t.hat b) ys && differ (map (λ t. t.serial) ys)) e
        ∙ (λ j. list_all (λ t. (is-live t.of j && nat_lt t.serial r.next.thread) && is_hat (has-target t.of j) t.hat b) r.threads && differ (map (λ t. t.serial) r.threads)) ∙ sym each

    pub blocks-told : x ≡ list_all (λ t. list_all (λ l. option_map_or (λ k. nat_lt k (blocks_of (unwrap_or (target_in live t.of) 0) b)) l.block true) t.levels) ts
        → x ≡ rules.levels_are_of_blocks b (told_of r)
    blocks-told g =
        let each : rules.levels_are_of_blocks b (told_of r) ≡ list_all (λ t. list_all (λ l. option_map_or (λ k. nat_lt k (blocks_of (instance_at t.of (map instance_of r.instances)).of b)) l.block true) t.levels) r.threads
        = list_all-map (λ t. list_all (is_in_target (blocks_of (rules.target_of (told_of r) t) b)) t.levels) thread_of r.threads
        ∙ (λ j. list_all (λ t. levels-told (is_in_target (blocks_of (instance_at t.of (map instance_of r.instances)).of b)) t j) r.threads) in
        g ∙ ap (list_all (λ t. list_all (λ l. option_map_or (λ k. nat_lt k (blocks_of (unwrap_or (target_in live t.of) 0) b)) l.block true) t.levels)) e
        ∙ (λ j. list_all (λ t. list_all (λ l. option_map_or (λ k. nat_lt k (blocks_of (has-target t.of j) b)) l.block true) t.levels) r.threads) ∙ sym each

kept-given : (next : ℕ) (k : ToldKept) → list_all (λ n. nat_lt n next) (rules.serials_kept (kept_of k)) ≡ names_given next k
kept-given next Nothing = refl
kept-given next Loop = refl
kept-given next (Repeat turns) = refl
kept-given next (Wait state) = refl
kept-given next (Glide state) = refl
kept-given next (Started serials) = refl
kept-given next Asked = refl
kept-given next Spoken = refl
kept-given next (Call params) = refl

sum-map : {A B : Type 0} (f : B → ℕ) (g : A → B) (xs : List A) → sum_by f (map g xs) ≡ sum_by (λ x. f (g x)) xs
sum-map f g xs = fold-map (λ n x. n + f x) g 0 xs

module _ (r : ToldRun) (ts : List ToldThread) (x : Bool) (e : ts ≡ r.threads) where
  pub given-told : x ≡ list_all (λ t. list_all (λ l. names_given r.next.thread l.kept) t.levels) ts → x ≡ rules.started_were_there (told_of r)
  given-told g =
      let each : rules.started_were_there (told_of r) ≡ list_all (λ t. list_all (λ l. names_given r.next.thread l.kept) t.levels) r.threads
      = list_all-map (λ t. list_all (λ l. list_all (λ n. nat_lt n r.next.thread) (rules.serials_kept l.kept)) t.levels) thread_of r.threads
      ∙ (λ j. list_all (λ t. levels-told (λ l. list_all (λ n. nat_lt n r.next.thread) (rules.serials_kept l.kept)) t j) r.threads)
      ∙ (λ j. list_all (λ t. list_all (λ l. kept-given r.next.thread l.kept j) t.levels) r.threads) in
      g ∙ ap (list_all (λ t. list_all (λ l. names_given r.next.thread l.kept) t.levels)) e ∙ sym each

  pub few-told : x ≡ nat_le (sum_by (λ t. length t.levels) ts) most_levels → x ≡ rules.levels_are_few (told_of r)
  few-told g =
      let each : rules.levels_are_few (told_of r) ≡ nat_le (sum_by (λ t. length t.levels) r.threads) most_levels
      = ap (λ n. nat_le n most_levels) (sum-map (λ t. length t.levels) thread_of r.threads
      ∙ (λ j. sum_by (λ t. (length-reverse (map level_of t.levels) ∙ length-map t.levels level_of) j) r.threads)) in
      g ∙ ap (λ ys. nat_le (sum_by (λ t. length t.levels) ys) most_levels) e ∙ sym each
