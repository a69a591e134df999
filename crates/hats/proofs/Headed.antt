-- Every hat that is started, or is tried at an edge, heads a script of its instance's target.
use Rattle.std.proofs.Common.{◌≡◌, ℕ, suc, ◌+◌, ◌<◌, ◌≤◌, ◌⊎◌, inl, inr, Bool, true, false, ◌&&◌, not, List, [], ◌∷◌, ◌++◌, length, map, reverse, Some, None, refl, ap, ◌∙◌, arith}
use Rattle.std.specs.Prelude.{All, Contains, slice_get, filter, flat_map, if◌then◌else◌}
use Rattle.std.specs.List.{enumerate_from, cons_option, filter_map}
use Rattle.std.proofs.lemmas.Bool.{cases_lt}
use Rattle.std.proofs.lemmas.List.{reverse-append}
use Rattle.std.proofs.lemmas.List.Concat.{flat_map-cons}
use Rattle.std.proofs.lemmas.List.Elements.{All-nil, All-cons, All-head, All-tail, All-same, All-append, All-filter, All-map, All-contains_itself}
use Rattle.opcode_table.specs.declared.shape.Role.TheVariants as role
use Rattle.machine_spec.specs.declared.instance.Instance.{Instance}
use Rattle.machine_spec.specs.Script.{Statement}
use Rattle.machine_spec.specs.declared.threads.Filter.{Filter}
use Rattle.machine_spec.specs.declared.threads.Filter.TheVariants.{Broadcast, Backdrop, Key, Flag, CloneStart, Clicked}
use Rattle.machine_spec.specs.Program.{Head}
use Rattle.machine_spec.specs.Starting.{meant, pairs_of, pairs, starts, fits_hat, is_stage_hat_of}
use Rattle.project_spec.specs.declared.blocks.Block.{Block}
use Rattle.project_spec.specs.Linked.{has_role, is_head}
use Rattle.project_spec.specs.Trees.{Sheet, target_of_link, head_of, hat_at, heads_of}
use Rattle.project_check.specs.declared.project.Project.{Project}
use Rattle.project_check.specs.Loaded.{tables_of, sheet_at, program_of}
use Rattle.project_check.proofs.Defining.{scripts_here}
use Rattle.machine_spec.specs.Places.{Places}
use Rattle.thread_frames.specs.Threads.{Thread}
use Rattle.hats.specs.Edges.{is_edge, free_edges}
use Rattle.hats.specs.Heads.{IsHeadOf}
use Rattle.hats.proofs.Begins.{script-begins}
use Rattle.hats.proofs.Rounds.{none_past}

all_reverse : {A : Type 0} (P : A → Type 0) (xs : List A) → All P xs → All P (reverse xs)
all_reverse P [] h = All-nil P
all_reverse P (x ∷ xs) h =
    All-same P (reverse (x ∷ xs)) (reverse xs ++ x ∷ []) (reverse-append (x ∷ []) xs)
    (All-append P (reverse xs) (x ∷ []) (all_reverse P xs (All-tail P x xs h)) (All-cons P x [] (All-head P x xs h) (All-nil P)))

all_flat_map : {A B : Type 0} (P : B → Type 0) (Q : A → Type 0) (f : A → List B) → ((x : A) → Q x → All P (f x)) → (xs : List A) → All Q xs → All P (flat_map f xs)
all_flat_map P Q f each [] h = All-nil P
all_flat_map P Q f each (x ∷ xs) h =
    All-same P (flat_map f (x ∷ xs)) (f x ++ flat_map f xs) (flat_map-cons f x xs)
    (All-append P (f x) (flat_map f xs) (each x (All-head Q x xs h)) (all_flat_map P Q f each xs (All-tail Q x xs h)))

the_first : (n : ℕ) → n ≡ n + 0
the_first n = omega arith

the_next : (n i : ℕ) → (n + 1) + i ≡ n + suc i
the_next n i = omega arith

none_before : (i : ℕ) → 0 + i ≡ i
none_before i = omega arith

module _ (p : Project) (is : List Instance) where
  module _ (i : Instance) (listed : Contains is i) (there : i.of < length (tables_of p)) where
    abbrev own : Sheet
    own = sheet_at i.of p

    abbrev IsHeaded : Head → Type 0
    IsHeaded h = IsHeadOf p is (record { of = i.number; head = h })

    headed : (n : ℕ) (b : Block) → slice_get own.blocks n ≡ Some b → is_head b ≡ true → IsHeaded (head_of own n b)
    headed n b held top = record {
      instance = i;
      listed = listed;
      number = refl;
      target = refl;
      there = there;
      block = b;
      held = held;
      top = top;
      head = refl;
      begins = script-begins own (target_of_link b.next);
    }

    one : (n : ℕ) (b : Block) (t r : Bool) (hs : List Head) → is_head b ≡ t → slice_get own.blocks n ≡ Some b → All IsHeaded hs
        → All IsHeaded (cons_option (if t then (if r then Some (head_of own n b) else None) else None) hs)
    one n b false r hs top held rest = rest
    one n b true false hs top held rest = rest
    one n b true true hs top held rest = All-cons IsHeaded (head_of own n b) hs (headed n b held top) rest

    all : (n : ℕ) (bs : List Block) → ((j : ℕ) → slice_get own.blocks (n + j) ≡ slice_get bs j) → All IsHeaded (filter_map (hat_at own) (enumerate_from n bs))
    all n [] held = All-nil IsHeaded
    all n (b ∷ bs) held =
        one n b (is_head b) (has_role role.Hat b.code) (filter_map (hat_at own) (enumerate_from (n + 1) bs)) refl
        (ap (slice_get own.blocks) (the_first n) ∙ held 0) (all (n + 1) bs (λ j. ap (slice_get own.blocks) (the_next n j) ∙ held (suc j)))

    heads_here : (test : Statement → Bool) → All (IsHeadOf p is) (pairs_of (program_of p) test i)
    heads_here test =
        All-same (IsHeadOf p is) (pairs_of (program_of p) test i) (map (λ h. record { of = i.number; head = h }) (filter (λ h. test h.hat) (heads_of own)))
        (ap (λ s. map (λ h. record { of = i.number; head = h }) (filter (λ h. test h.hat) s.heads)) (scripts_here p i.of there))
        (All-map (IsHeadOf p is) (λ h. record { of = i.number; head = h }) (filter (λ h. test h.hat) (heads_of own))
        (All-filter (λ h. test h.hat) IsHeaded (heads_of own) (all 0 own.blocks (λ j. ap (slice_get own.blocks) (none_before j)))))

  each : (test : Statement → Bool) (i : Instance) → Contains is i → All (IsHeadOf p is) (pairs_of (program_of p) test i)
  each test i listed = by (cases_lt i.of (length (tables_of p)))
    where
      by : (i.of < length (tables_of p)) ⊎ (length (tables_of p) ≤ i.of) → All (IsHeadOf p is) (pairs_of (program_of p) test i)
      by (inl there) = heads_here i listed there test
      by (inr past) = All-same (IsHeadOf p is) (pairs_of (program_of p) test i) [] (none_past p test i past) (All-nil (IsHeadOf p is))

  -- the hats that pass a test, of some of the instances
  pub pairs-headed : (test : Statement → Bool) (js : List Instance) → All (Contains is) js → All (IsHeadOf p is) (pairs (program_of p) test js)
  pairs-headed test js h = all_flat_map (IsHeadOf p is) (Contains is) (pairs_of (program_of p) test) (each test) (reverse js) (all_reverse (Contains is) js h)

  meant_listed : (f : Filter) → All (Contains is) (meant f is)
  meant_listed (Broadcast message) = All-contains_itself is
  meant_listed (Backdrop costume) = All-contains_itself is
  meant_listed (Key name) = All-contains_itself is
  meant_listed Flag = All-contains_itself is
  meant_listed (CloneStart clone) = All-filter _ (Contains is) is (All-contains_itself is)
  meant_listed (Clicked instance) = All-filter _ (Contains is) is (All-contains_itself is)

  -- the hats that a filter starts
  pub starts-headed : (f : Filter) → All (IsHeadOf p is) (starts (program_of p) f is)
  starts-headed f =
      let first : Statement → Bool = λ s. fits_hat f s && not (is_stage_hat_of s) in
      let second : Statement → Bool = λ s. fits_hat f s && is_stage_hat_of s in
      All-append (IsHeadOf p is) (pairs (program_of p) first (meant f is)) (pairs (program_of p) second (meant f is))
      (pairs-headed first (meant f is) (meant_listed f)) (pairs-headed second (meant f is) (meant_listed f))

  -- the edge hats that are evaluated
  pub edges-headed : (ts : Places Thread) → All (IsHeadOf p is) (free_edges (program_of p) is ts)
  edges-headed ts = All-filter _ (IsHeadOf p is) (pairs (program_of p) is_edge is) (pairs-headed is_edge is (All-contains_itself is))
