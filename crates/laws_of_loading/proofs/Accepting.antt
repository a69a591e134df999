-- What is accepted as a saved run: it has its shape, breaks no rule, and each thread is well.
use Rattle.std.proofs.Common.{◌≡◌, ℕ, zero, suc, Bool, true, false, not, List, [], ◌∷◌, bytes_eq, find, slice_get, Option, Some, None, option_map, Result, Ok, Err, if◌then◌else◌, refl, subst}
use Rattle.std.proofs.lemmas.Slice.Eq.{bytes_eq-Decides}
use Rattle.hex.specs.Hex.{encode_lower}
use Rattle.serde_json.specs.Data.{Data}
use Rattle.saved_spec.specs.Saved.{saved_text}
use Rattle.laws_of_threads.specs.Lists.{Each}
use Rattle.project_spec.specs.Basis.{Basis}
use Rattle.saved_spec.specs.Kept.{thread}
use Rattle.saved_spec.specs.Levels.{bad_thread, thread_is_well}
use Rattle.saved_spec.specs.Rules as rules
use Rattle.saved_spec.specs.Rules.{Rule, rule, broken}
use Rattle.saved_spec.specs.RunShapes.{Told, run}
use Rattle.saved_spec.specs.Refusals.{IsAccepted, first_difference, by_spelling, by_threads, by_rules, by_shape, by_version, judged, other_version}
use Rattle.saved_spec.specs.declared.refusals.SaveRefusal.TheVariants.{OtherProject}
use Rattle.laws_of_loading.proofs.Shaped.{IsShaped, run_gives}

-- it is of the project with this digest, breaks no rule, and no thread is bad
pub record Keeps (b : Basis) (given : List ℕ) (t : Told) : Type 0 where
  pub project : t.run.project ≡ given
  pub rules : broken b t ≡ None
  pub threads : bad_thread b t ≡ None

kept_spelling : (b : Basis) (given : List ℕ) (u t : Told) (o : Option ℕ) → Keeps b given u → by_spelling u o ≡ Ok t → Keeps b given t
kept_spelling b given u t None k h = let e : u ≡ t = cc in subst (Keeps b given) e k
kept_spelling b given u t (Some at) k h = absurd (cc h)

kept_threads : (b : Basis) (given bytes : List ℕ) (u t : Told) (o : Option ℕ) → u.run.project ≡ given → broken b u ≡ None → bad_thread b u ≡ o → by_threads bytes u o ≡ Ok t → Keeps b given t
kept_threads b given bytes u t None p r e h = kept_spelling b given u t (first_difference bytes (saved_text thread u.run)) (record { project = p; rules = r; threads = e }) h
kept_threads b given bytes u t (Some serial) p r e h = absurd (cc h)

kept_rules : (b : Basis) (given bytes : List ℕ) (u t : Told) (o : Option (List ℕ)) → u.run.project ≡ given → broken b u ≡ o → by_rules b bytes u o ≡ Ok t → Keeps b given t
kept_rules b given bytes u t None p e h = kept_threads b given bytes u t (bad_thread b u) p e refl h
kept_rules b given bytes u t (Some member) p e h = absurd (cc h)

kept_project : (b : Basis) (given bytes : List ℕ) (u t : Told) (c : Bool) → bytes_eq u.run.project given ≡ c → (if c then by_rules b bytes u (broken b u) else Err (OtherProject u.run.project given)) ≡ Ok t → Keeps b given t
kept_project b given bytes u t true e h = kept_rules b given bytes u t (broken b u) ((bytes_eq-Decides u.run.project given).0 e) refl h
kept_project b given bytes u t false e h = absurd (cc h)

-- and it is what the text tells
same_spelling : (u t : Told) (o : Option ℕ) → by_spelling u o ≡ Ok t → u ≡ t
same_spelling u t None h = cc
same_spelling u t (Some at) h = absurd (cc h)

same_threads : (bytes : List ℕ) (u t : Told) (o : Option ℕ) → by_threads bytes u o ≡ Ok t → u ≡ t
same_threads bytes u t None h = same_spelling u t (first_difference bytes (saved_text thread u.run)) h
same_threads bytes u t (Some serial) h = absurd (cc h)

same_rules : (b : Basis) (bytes : List ℕ) (u t : Told) (o : Option (List ℕ)) → by_rules b bytes u o ≡ Ok t → u ≡ t
same_rules b bytes u t None h = same_threads bytes u t (bad_thread b u) h
same_rules b bytes u t (Some member) h = absurd (cc h)

same_project : (b : Basis) (given bytes : List ℕ) (u t : Told) (c : Bool) → (if c then by_rules b bytes u (broken b u) else Err (OtherProject u.run.project given)) ≡ Ok t → u ≡ t
same_project b given bytes u t true h = same_rules b bytes u t (broken b u) h
same_project b given bytes u t false h = absurd (cc h)

-- all of it
pub record Holds (b : Basis) (given : List ℕ) (t : Told) : Type 0 where
  pub shaped : IsShaped t
  pub keeps : Keeps b given t

of_shape : (b : Basis) (given bytes : List ℕ) (d : Data) (r : Result Told (List ℕ)) (t : Told) → run [] d ≡ r → by_shape b given bytes r ≡ Ok t → Holds b given t
of_shape b given bytes d (Ok u) t e h = record {
  shaped = subst IsShaped (same_project b given bytes u t (bytes_eq u.run.project given) h) (run_gives [] d u e);
  keeps = kept_project b given bytes u t (bytes_eq u.run.project given) refl h;
}
of_shape b given bytes d (Err path) t e h = absurd (cc h)

of_version : (b : Basis) (given bytes : List ℕ) (d : Data) (o : Option ℕ) (t : Told) → by_version b given bytes d o ≡ Ok t → Holds b given t
of_version b given bytes d None t h = of_shape b given bytes d (run [] d) t refl h
of_version b given bytes d (Some n) t h = absurd (cc h)

pub holds : (b : Basis) (digest bytes : List ℕ) (t : Told) → IsAccepted b digest bytes t → Holds b (encode_lower digest) t
unfolding judged
holds b digest bytes t a = of_version b (encode_lower digest) bytes a.0 (other_version a.0) t a.2

-- Each rule is true

none_mapped : {A B : Type 0} (f : A → B) (o : Option A) → option_map f o ≡ None → o ≡ None
none_mapped f None h = refl
none_mapped f (Some x) h = absurd (cc h)

-- all of a list pass a test of which none fails it
pub none_fails : {A : Type 0} (test : A → Bool) (xs : List A) → find (λ x. not (test x)) xs ≡ None → Each (λ x. test x ≡ true) xs
none_fails test [] h = tt
none_fails test (x ∷ xs) h = first (test x) refl (none_fails test xs) h
  where
    first : (c : Bool) → test x ≡ c → (find (λ x. not (test x)) xs ≡ None → Each (λ x. test x ≡ true) xs) → (if not c then Some x else find (λ x. not (test x)) xs) ≡ None → Each (λ x. test x ≡ true) (x ∷ xs)
    first true e rest h = (e, rest h)
    first false e rest h = absurd (cc h)

pub all_well : (b : Basis) (t : Told) → bad_thread b t ≡ None → Each (λ x. thread_is_well b t x ≡ true) t.run.threads
unfolding bad_thread
all_well b t h = none_fails (thread_is_well b t) t.run.threads (none_mapped (λ x. x.serial) (find (λ x. not (thread_is_well b t x)) t.run.threads) h)

-- the rules by their names
pub record Rules (b : Basis) (t : Told) : Type 0 where
  pub clock : rules.clock_is_in_range t ≡ true
  pub timer : rules.timer_was_reset t ≡ true
  pub mouse : rules.mouse_is_on_stage t ≡ true
  pub keys : rules.keys_are_held t ≡ true
  pub drawn : rules.words_are_counted t ≡ true
  pub frames : rules.frames_are_counted t ≡ true
  pub next : rules.next_are_counted b t ≡ true
  pub made : rules.made_monitors_show b t ≡ true
  pub monitors : rules.monitors_are_counted b t ≡ true
  pub stage : rules.stage_is_first b t ≡ true
  pub originals : rules.originals_are_there b t ≡ true
  pub clones : rules.clones_are_sprites b t ≡ true
  pub few : rules.clones_are_few t ≡ true
  pub costumes : rules.costumes_are_there b t ≡ true
  pub sizes : rules.sizes_are_in_range t ≡ true
  pub directions : rules.directions_are_in_range t ≡ true
  pub effects : rules.effects_are_in_range t ≡ true
  pub in_place : rules.stage_is_in_place b t ≡ true
  pub variables : rules.variables_are_there b t ≡ true
  pub lists : rules.lists_are_short t ≡ true
  pub little : rules.instances_say_little t ≡ true
  pub bubbles : rules.bubbles_were_updated t ≡ true
  pub timers_updated : rules.timers_were_updated t ≡ true
  pub edges : rules.edges_are_hats b t ≡ true
  pub questions : rules.questions_are_of_threads t ≡ true
  pub timers : rules.timers_are_of_threads t ≡ true
  pub due : rules.timers_come_due t ≡ true
  pub hats : rules.threads_are_of_hats b t ≡ true
  pub started : rules.started_were_there t ≡ true
  pub levels : rules.levels_are_few t ≡ true

abbrev HoldIn : List Rule → Type 0
HoldIn rs = Each (λ r. r.holds ≡ true) rs

at : (rs : List Rule) → HoldIn rs → (k : ℕ) (m : List ℕ) (c : Bool) → slice_get rs k ≡ Some (rule m c) → c ≡ true
at [] all k m c h = absurd (cc h)
at (r ∷ rs) all zero m c h = let e : r ≡ rule m c = cc in subst (λ r. r.holds ≡ true) e all.0
at (r ∷ rs) all (suc k) m c h = at rs all.1 k m c h

pub named : (b : Basis) (t : Told) → broken b t ≡ None → Rules b t
unfolding rules.rules
named b t h =
    let all : HoldIn (rules.rules b t) = none_fails (λ r. r.holds) (rules.rules b t) (none_mapped (λ r. r.member) (find (λ r. not r.holds) (rules.rules b t)) h) in
    let holds = at (rules.rules b t) all in
    record {
      clock = holds 0 _ (rules.clock_is_in_range t) refl;
      timer = holds 1 _ (rules.timer_was_reset t) refl;
      mouse = holds 2 _ (rules.mouse_is_on_stage t) refl;
      keys = holds 3 _ (rules.keys_are_held t) refl;
      drawn = holds 4 _ (rules.words_are_counted t) refl;
      frames = holds 5 _ (rules.frames_are_counted t) refl;
      next = holds 6 _ (rules.next_are_counted b t) refl;
      made = holds 7 _ (rules.made_monitors_show b t) refl;
      monitors = holds 8 _ (rules.monitors_are_counted b t) refl;
      stage = holds 9 _ (rules.stage_is_first b t) refl;
      originals = holds 10 _ (rules.originals_are_there b t) refl;
      clones = holds 11 _ (rules.clones_are_sprites b t) refl;
      few = holds 12 _ (rules.clones_are_few t) refl;
      costumes = holds 13 _ (rules.costumes_are_there b t) refl;
      sizes = holds 14 _ (rules.sizes_are_in_range t) refl;
      directions = holds 15 _ (rules.directions_are_in_range t) refl;
      effects = holds 16 _ (rules.effects_are_in_range t) refl;
      in_place = holds 17 _ (rules.stage_is_in_place b t) refl;
      variables = holds 18 _ (rules.variables_are_there b t) refl;
      lists = holds 19 _ (rules.lists_are_short t) refl;
      little = holds 21 _ (rules.instances_say_little t) refl;
      bubbles = holds 24 _ (rules.bubbles_were_updated t) refl;
      timers_updated = holds 25 _ (rules.timers_were_updated t) refl;
      edges = holds 26 _ (rules.edges_are_hats b t) refl;
      questions = holds 27 _ (rules.questions_are_of_threads t) refl;
      timers = holds 28 _ (rules.timers_are_of_threads t) refl;
      due = holds 29 _ (rules.timers_come_due t) refl;
      hats = holds 30 _ (rules.threads_are_of_hats b t) refl;
      started = holds 32 _ (rules.started_were_there t) refl;
      levels = holds 33 _ (rules.levels_are_few t) refl;
    }
