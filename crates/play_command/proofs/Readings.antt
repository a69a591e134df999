-- What the bytes of a file are read as: one thing, or one refusal.
use Rattle.std.proofs.Common.{◌≡◌, ℕ, ◌<◌, ◌≤◌, true, false, cond, ltb, List, length, map, Option, None, Some, Ok, Err, Vec, refl, sym, ap, ◌∙◌, subst, arith}
use Rattle.std.specs.Prelude.{◌≢◌, IfSome, IsSomeAnd, IsSome}
use Rattle.std.specs.declared.alloc.Global.{Global}
use Rattle.std.specs.FinMap.{get}
use Rattle.std.proofs.lemmas.Bool.Decides.{nat_tests}
use Rattle.sha2.specs.Sha256.{sha256}
use Rattle.sv_channels.specs.Files.{Files}
use Rattle.call_outcomes.specs.Seen.{ShelfNow}
use Rattle.call_outcomes.specs.Stages.{Fetches}
use Rattle.project_json.proofs.Results.{json_one_tree, text_no_fault, same_fault}
use Rattle.machine_spec.specs.Program.{Program}
use Rattle.project_spec.specs.Reading.{blocks_in}
use Rattle.project_spec.specs.Refusals.{IsProgram, IsRefusal}
use Rattle.project_spec.specs.declared.refusals.Refusal.{Refusal}
use Rattle.project_spec.specs.declared.refusals.Refusal.TheVariants as refusal
use Rattle.project_spec.proofs.OneRefusal.{JsonLaws, one_refusal, accepted_is_not_refused, one_file}
use Rattle.project_check.specs.Counts.{block_count}
use Rattle.project_check.specs.Loaded.{Loads as LoadsProject, program_of, tables_of, basis_of}
use Rattle.project_check.specs.declared.project.Project.{Project}
use Rattle.project_spec.specs.Basis.{Basis}
use Rattle.saved_spec.specs.Laws.{OneAnswer, OneRefusal}
use Rattle.saved_spec.specs.Refusals.{IsRefused, IsAccepted as IsSavedRun}
use Rattle.saved_spec.specs.RunShapes.{Told}
use Rattle.saved_spec.specs.declared.refusals.SaveRefusal.{SaveRefusal}
use Rattle.saved_spec.specs.declared.refusals.SaveRefusal.TheVariants as save_refusal
use Rattle.project_spec.specs.RuleNames.{project_rule}
use Rattle.saved_spec.specs.RuleNames.{saved_rule}
use Rattle.run_save.specs.declared.status.Which.{Which}
use Rattle.play_command.specs.Outcome.{Loading, refused, accepted, Bases, Loads, Checks, counts_of, Continuing, rejected, continued, Continues, too_large, Outcome, ends, fetched}
use Rattle.play_command.specs.declared.counts.Counts.{Counts}
use Rattle.play_command.proofs.Programs.{one_program, one_program_of}

-- a file that is held and within its limit
pub fetched_ok : (file : Which) (limit : ℕ) (o : Option (List ℕ)) (bytes : List ℕ) (next : List ℕ → Outcome) → o ≡ Some bytes → length bytes ≤ limit → fetched file limit o next ≡ next bytes
fetched_ok file limit o bytes next e h =
    let small : ltb limit (length bytes) ≡ false = grind (arith, nat_tests) in
    ap (λ x. fetched file limit x next) e ∙ ap (λ b. cond b (ends (too_large file limit)) (next bytes)) small

-- a file above its limit
pub fetched_large : (file : Which) (limit : ℕ) (o : Option (List ℕ)) (next : List ℕ → Outcome) → IsSomeAnd o (λ bytes. limit < length bytes) → fetched file limit o next ≡ ends (too_large file limit)
fetched_large file limit None next h = absurd h
fetched_large file limit (Some bytes) next h =
    let large : ltb limit (length bytes) ≡ true = grind (arith, nat_tests) in
    ap (λ b. cond b (ends (too_large file limit)) (next bytes)) large

-- bytes that were fetched
pub record IsFetchedFile (held : Option Files) (name : List ℕ) (limit : ℕ) (bytes : List ℕ) : Type 0 where
  pub small : length bytes ≤ limit
  pub is : IfSome held (λ files. get files name ≡ Some bytes)

-- by a fetch of a shelf that still held what it held, and by how its bytes were lent
pub fetched_file : (s m t : ShelfNow) (name : List ℕ) (limit : ℕ) (bytes : Vec ℕ Global) (lent : List ℕ) → m.held ≡ s.held → lent ≡ bytes.items → Fetches name limit m t (Ok bytes) → IsFetchedFile s.held name limit lent
fetched_file s m t name limit bytes lent same e h = record {
  small = subst (λ bs. length bs ≤ limit) (sym e) h.told.0;
  is = subst (λ bs. IfSome s.held (λ files. get files name ≡ Some bs)) (sym e) (subst (λ o. IfSome o (λ files. get files name ≡ Some bytes.items)) same h.told.1);
}

-- One reading
pub record IsReading {A : Type 0} (reads : Loading A → Type 0) : Type 0 where
  pub one : (r s : Refusal) → reads (refused r) → reads (refused s) → r ≡ s
  pub same : (a b : A) → reads (accepted a) → reads (accepted b) → b ≡ a
  pub apart : (a : A) (r : Refusal) → reads (accepted a) → reads (refused r) → ⊥

pub one_loading : {A : Type 0} (reads : Loading A → Type 0) → IsReading reads → (x y : Loading A) → reads x → reads y → x ≡ y
one_loading reads is (refused r) (refused s) p q = ap refused (is.one r s p q)
one_loading reads is (accepted a) (accepted b) p q = ap accepted (sym (is.same a b p q))
one_loading reads is (refused r) (accepted a) p q = absurd (is.apart a r q p)
one_loading reads is (accepted a) (refused r) p q = absurd (is.apart a r p q)

json_laws : JsonLaws
json_laws = record { tree = json_one_tree; fault = same_fault; apart = text_no_fault }

-- of a project that is checked

one_count : (bytes : List ℕ) (c d : Counts) → Checks bytes (accepted c) → Checks bytes (accepted d) → d ≡ c
one_count bytes c d a b = b.2 ∙ ap counts_of (one_file json_laws bytes b.0 a.0 b.1 a.1) ∙ sym a.2

check_apart : (bytes : List ℕ) (c : Counts) (r : Refusal) → Checks bytes (accepted c) → Checks bytes (refused r) → ⊥
check_apart bytes c r a b = accepted_is_not_refused json_laws bytes a.0 r a.1 b

pub check_reading : (bytes : List ℕ) → IsReading (Checks bytes)
check_reading bytes = record { one = one_refusal json_laws bytes; same = one_count bytes; apart = check_apart bytes }

-- of a project that is played

project_apart : (bytes : List ℕ) (p : Program) (r : Refusal) → Loads bytes (accepted p) → Loads bytes (refused r) → ⊥
project_apart bytes p r a b = accepted_is_not_refused json_laws bytes a.0 r a.1 b

pub project_reading : (bytes : List ℕ) → IsReading (Loads bytes)
project_reading bytes = record { one = one_refusal json_laws bytes; same = λ p q a b. one_program json_laws bytes q p b a; apart = project_apart bytes }

-- of a project that is gone on with

pub one_basis : (bytes : List ℕ) (b c : Basis) → Bases bytes (accepted b) → Bases bytes (accepted c) → c ≡ b
one_basis bytes b c p q =
    let file : q.0 ≡ p.0 = one_file json_laws bytes q.0 p.0 q.1 p.1 in
    let program : c.program ≡ b.program = one_program_of p.0 c.program b.program (subst (λ f. IsProgram f c.program) file q.2) p.2 in
    let blocks : c.blocks ≡ b.blocks = q.3 ∙ ap (λ f. map length (blocks_in f)) file ∙ sym p.3 in
    λ i. record { program = program i; blocks = blocks i }

basis_apart : (bytes : List ℕ) (b : Basis) (r : Refusal) → Bases bytes (accepted b) → Bases bytes (refused r) → ⊥
basis_apart bytes b r p q = accepted_is_not_refused json_laws bytes p.0 r p.1 q

pub basis_reading : (bytes : List ℕ) → IsReading (Bases bytes)
basis_reading bytes = record { one = one_refusal json_laws bytes; same = one_basis bytes; apart = basis_apart bytes }

-- What the loader says of a project

pub loaded_program : (bytes : List ℕ) (p : Project) → LoadsProject bytes (Ok p) → Loads bytes (accepted (program_of p))
loaded_program bytes p h = (h.file, h.accepted, h.program)

pub loaded_basis : (bytes : List ℕ) (p : Project) → LoadsProject bytes (Ok p) → Bases bytes (accepted (basis_of p))
loaded_basis bytes p h = (h.file, h.accepted, h.program, ap (map length) h.tables)

pub loaded_counts : (bytes : List ℕ) (p : Project) → LoadsProject bytes (Ok p) → Checks bytes (accepted (record { targets = length (tables_of p); blocks = block_count (tables_of p) }))
loaded_counts bytes p h = (h.file, h.accepted, ap (λ ts. record { targets = length ts; blocks = block_count ts }) h.tables)

-- and of its refusal
pub load_cause : (bytes : List ℕ) (r : Refusal) → LoadsProject bytes (Err r) → IsSome (project_rule r) → IsRefusal bytes r
load_cause bytes (refusal.Json f) h k = h
load_cause bytes (refusal.Shape path) h k = h
load_cause bytes (refusal.StageCount n) h k = h
load_cause bytes (refusal.TooMany path) h k = h
load_cause bytes (refusal.Mutation at why) h k = h
load_cause bytes (refusal.Dangling at to) h k = h
load_cause bytes (refusal.Cyclic at) h k = h
load_cause bytes (refusal.Opcode at name) h k = h
load_cause bytes (refusal.MissingInput at input) h k = h
load_cause bytes (refusal.Field at field) h k = h
load_cause bytes (refusal.TooDeep at) h k = h
load_cause bytes refusal.NoMemory h k = cc k

-- A saved run tells one run, or is refused in one way

told_apart : (one : OneAnswer) (b : Basis) (digest bytes : List ℕ) (t : Told) (r : SaveRefusal) → r ≢ save_refusal.NoMemory → IsSavedRun b digest bytes t → IsRefused b digest bytes r → ⊥
told_apart one b digest bytes t save_refusal.Json n h k = k h.0 h.1
told_apart one b digest bytes t save_refusal.NoMemory n h k = n refl
told_apart one b digest bytes t (save_refusal.Version v) n h k = cc (one b digest bytes (Ok t) (Err (save_refusal.Version v)) h k)
told_apart one b digest bytes t (save_refusal.Shape path) n h k = cc (one b digest bytes (Ok t) (Err (save_refusal.Shape path)) h k)
told_apart one b digest bytes t (save_refusal.OtherProject kept given) n h k = cc (one b digest bytes (Ok t) (Err (save_refusal.OtherProject kept given)) h k)
told_apart one b digest bytes t (save_refusal.BadReference path) n h k = cc (one b digest bytes (Ok t) (Err (save_refusal.BadReference path)) h k)
told_apart one b digest bytes t (save_refusal.BadThread serial) n h k = cc (one b digest bytes (Ok t) (Err (save_refusal.BadThread serial)) h k)
told_apart one b digest bytes t (save_refusal.Spelling at) n h k = cc (one b digest bytes (Ok t) (Err (save_refusal.Spelling at)) h k)

pub one_told : (one : OneAnswer) (b : Basis) (digest bytes : List ℕ) (t u : Told) → IsSavedRun b digest bytes t → IsSavedRun b digest bytes u → t ≡ u
one_told one b digest bytes t u p q =
    let e : Ok t ≡ Ok u = one b digest bytes (Ok t) (Ok u) p q in
    cc e

pub one_continuing : (one : OneAnswer) (law : OneRefusal) (b : Basis) (project bytes : List ℕ) (x y : Continuing) → Continues b project bytes x → Continues b project bytes y → x ≡ y
one_continuing one law b project bytes (rejected r) (rejected s) p q = ap rejected (law b (sha256 project) bytes r s p.0 q.0 p.1 q.1)
one_continuing one law b project bytes (continued t) (continued u) p q = ap continued (one_told one b (sha256 project) bytes t u p q)
one_continuing one law b project bytes (rejected r) (continued t) p q = absurd (told_apart one b (sha256 project) bytes t r p.0 q p.1)
one_continuing one law b project bytes (continued t) (rejected r) p q = absurd (told_apart one b (sha256 project) bytes t r q.0 p q.1)

pub is_no_memory : (r : SaveRefusal) → IsSome (saved_rule r) → r ≡ save_refusal.NoMemory → ⊥
is_no_memory r h e = cc (subst (λ x. IsSome (saved_rule x)) e h)
