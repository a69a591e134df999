-- The heads of a target that pass a test, by their numbers.
use Rattle.std.proofs.Common.{◌≡◌, ℕ, suc, ◌+◌, ◌<◌, Bool, true, false, List, [], ◌∷◌, ◌++◌, length, map, Some, None, refl, sym, ap, ◌∙◌, arith}
use Rattle.std.specs.Prelude.{slice_get, filter, flat_map, if◌then◌else◌}
use Rattle.std.specs.List.{enumerate_from, cons_option, filter_map}
use Rattle.std.proofs.lemmas.List.Concat.{flat_map-cons}
use Rattle.opcode_table.specs.declared.hats.HatKind.{HatKind}
use Rattle.opcode_table.specs.declared.hats.HatKind.TheVariants.{FlagHat, SpriteHat, StageHat, MessageHat, BackdropHat, KeyHat, CloneHat, EdgeHat, NoHat}
use Rattle.opcode_table.specs.declared.opcode.Opcode.{Opcode}
use Rattle.opcode_table.specs.declared.shape.Role.TheVariants as role
use Rattle.opcode_table.specs.Kinds.{hat_kind}
use Rattle.opcode_table.proofs.Roles.{hat_only}
use Rattle.machine_spec.specs.declared.instance.Instance.{Instance}
use Rattle.machine_spec.specs.Script.{Statement, op_of}
use Rattle.machine_spec.specs.Program.{Head}
use Rattle.machine_spec.specs.Starting.{Pair, pairs_of}
use Rattle.project_spec.specs.declared.blocks.Block.{Block}
use Rattle.project_spec.specs.declared.blocks.Code.{Code}
use Rattle.project_spec.specs.declared.blocks.Code.TheVariants.{Known, Other}
use Rattle.project_spec.specs.Linked.{has_role, is_head}
use Rattle.project_spec.specs.Trees.{Sheet, op_by, statement, head_of, hat_at}
use Rattle.project_check.specs.declared.project.Project.{Project}
use Rattle.project_check.specs.Heads.{head_number, head_numbers}
use Rattle.project_check.specs.Loaded.{tables_of, blocks_at, sheet_at, program_of}
use Rattle.project_check.proofs.Defining.{scripts_here}
use Rattle.hats.specs.Rounds.{passing_by, passing_at}

-- a test that only hats pass
abbrev pub IsOfHats : (Statement → Bool) → Type 0
IsOfHats test = (s : Statement) → hat_kind (op_of s) ≡ NoHat → test s ≡ false

-- what is no hat by its role is none by its kind
is_none : (k : HatKind) (op : Opcode) → hat_kind op ≡ k → has_role role.Hat (Known op) ≡ false → hat_kind op ≡ NoHat
is_none NoHat op e f = e
is_none FlagHat op e f = absurd (let r = hat_only op (λ n. cc) in cc)
is_none SpriteHat op e f = absurd (let r = hat_only op (λ n. cc) in cc)
is_none StageHat op e f = absurd (let r = hat_only op (λ n. cc) in cc)
is_none MessageHat op e f = absurd (let r = hat_only op (λ n. cc) in cc)
is_none BackdropHat op e f = absurd (let r = hat_only op (λ n. cc) in cc)
is_none KeyHat op e f = absurd (let r = hat_only op (λ n. cc) in cc)
is_none CloneHat op e f = absurd (let r = hat_only op (λ n. cc) in cc)
is_none EdgeHat op e f = absurd (let r = hat_only op (λ n. cc) in cc)

no_hat : (c : Code) → has_role role.Hat c ≡ false → hat_kind (op_by c) ≡ NoHat
no_hat (Known op) e = is_none (hat_kind op) op refl e
no_hat (Other name) e = refl

the_first : (n : ℕ) → n ≡ n + 0
the_first n = omega arith

the_next : (n i : ℕ) → (n + 1) + i ≡ n + suc i
the_next n i = omega arith

none_before : (i : ℕ) → 0 + i ≡ i
none_before i = omega arith

module _ (p : Project) (test : Statement → Bool) (hats : IsOfHats test) (i : Instance) where
  abbrev own : Sheet
  own = sheet_at i.of p

  abbrev pair : Head → Pair
  pair h = record { of = i.number; head = h }

  abbrev passing : List Head → List Pair
  passing hs = map pair (filter (λ h. test h.hat) hs)

  abbrev found : List ℕ → List Pair
  found ks = flat_map (passing_at p test i) ks

  found-cons : (n : ℕ) (b : Block) (ks : List ℕ) → slice_get own.blocks n ≡ Some b → found (n ∷ ks) ≡ passing_by p test i n (Some b) ++ found ks
  found-cons n b ks held = flat_map-cons (passing_at p test i) n ks ∙ ap (λ o. passing_by p test i n o ++ found ks) held

  one_hat : (n : ℕ) (b : Block) (d : Bool) (hs : List Head) (ks : List ℕ) → test (statement own n b) ≡ d → passing hs ≡ found ks → passing (head_of own n b ∷ hs) ≡ passing_by p test i n (Some b) ++ found ks
  one_hat n b true hs ks e rest = rw e (ap (λ xs. pair (head_of own n b) ∷ xs) rest)
  one_hat n b false hs ks e rest = rw e rest

  one : (n : ℕ) (b : Block) (t r : Bool) (hs : List Head) (ks : List ℕ) → has_role role.Hat b.code ≡ r → slice_get own.blocks n ≡ Some b → passing hs ≡ found ks
      → passing (cons_option (if t then (if r then Some (head_of own n b) else None) else None) hs) ≡ found (cons_option (if t then Some n else None) ks)
  one n b false r hs ks e held rest = rest
  one n b true true hs ks e held rest = one_hat n b (test (statement own n b)) hs ks refl rest ∙ sym (found-cons n b ks held)
  one n b true false hs ks e held rest =
      let out : test (statement own n b) ≡ false = hats (statement own n b) (no_hat b.code e) in
      rest ∙ ap (λ d. (if d then pair (head_of own n b) ∷ [] else []) ++ found ks) (sym out) ∙ sym (found-cons n b ks held)

  all : (n : ℕ) (bs : List Block) → ((j : ℕ) → slice_get own.blocks (n + j) ≡ slice_get bs j)
      → passing (filter_map (hat_at own) (enumerate_from n bs)) ≡ found (filter_map head_number (enumerate_from n bs))
  all n [] held = refl
  all n (b ∷ bs) held =
      one n b (is_head b) (has_role role.Hat b.code) (filter_map (hat_at own) (enumerate_from (n + 1) bs)) (filter_map head_number (enumerate_from (n + 1) bs)) refl
      (ap (slice_get own.blocks) (the_first n) ∙ held 0) (all (n + 1) bs (λ j. ap (slice_get own.blocks) (the_next n j) ∙ held (suc j)))

  -- the hats of an instance whose target is there
  pub pairs_here : i.of < length (tables_of p) → pairs_of (program_of p) test i ≡ found (head_numbers (blocks_at i.of p))
  pairs_here h = ap (λ s. passing s.heads) (scripts_here p i.of h) ∙ all 0 own.blocks (λ j. ap (slice_get own.blocks) (none_before j))
