-- How bytes are answered, step by step.
use Rattle.std.proofs.Common.{◌≡◌, ℕ, Bool, true, false, cond, List, [], Option, None, Some, Result, Ok, Err, bytes_eq, sym, ap, ◌∙◌, subst}
use Rattle.std.specs.Prelude.{IsErrAnd}
use Rattle.std.proofs.lemmas.Result.{err_from_is_err_and}
use Rattle.hex.specs.Hex.{encode_lower}
use Rattle.serde_json.specs.Data.{Data}
use Rattle.project_spec.specs.Basis.{Basis}
use Rattle.saved_spec.specs.Kept.{thread}
use Rattle.saved_spec.specs.Levels.{bad_thread}
use Rattle.saved_spec.specs.Refusals.{Reads, IsAccepted, IsRefused, by_rules, by_shape, by_spelling, by_threads, by_version, first_difference, judged, other_version}
use Rattle.saved_spec.specs.Rules.{broken}
use Rattle.saved_spec.specs.RunShapes.{Told, run}
use Rattle.saved_spec.specs.declared.refusals.SaveRefusal.{SaveRefusal}
use Rattle.saved_spec.specs.declared.refusals.SaveRefusal.TheVariants.{Json, Version, Shape, OtherProject, BadReference, BadThread, Spelling, NoMemory}
use Rattle.saved_spec.specs.Saved.{saved_text}
use Rattle.run_save.specs.Steps.{IsOf, IsTold, Keeps, Shapes}

-- the refusals in their order

pub refused_version : (b : Basis) (digest bytes : List ℕ) (d : Data) (n : ℕ) → Reads bytes d → other_version d ≡ Some n → IsRefused b digest bytes (Version n)
unfolding judged
refused_version b digest bytes d n r e = (d, r, ap (by_version b (encode_lower digest) bytes d) e)

judged_shape : (b : Basis) (digest bytes : List ℕ) (d : Data) → other_version d ≡ None → judged b digest bytes d ≡ by_shape b (encode_lower digest) bytes (run [] d)
unfolding judged
judged_shape b digest bytes d e = ap (by_version b (encode_lower digest) bytes d) e

pub refused_shape : (b : Basis) (digest bytes : List ℕ) (d : Data) (path : List ℕ) → Reads bytes d → other_version d ≡ None → run [] d ≡ Err path → IsRefused b digest bytes (Shape path)
refused_shape b digest bytes d path r e f = (d, r, judged_shape b digest bytes d e ∙ ap (by_shape b (encode_lower digest) bytes) f)

judged_project : (b : Basis) (digest bytes : List ℕ) (d : Data) (t : Told) (same : Bool) → other_version d ≡ None → run [] d ≡ Ok t → bytes_eq t.run.project (encode_lower digest) ≡ same
    → judged b digest bytes d ≡ cond same (by_rules b bytes t (broken b t)) (Err (OtherProject t.run.project (encode_lower digest)))
judged_project b digest bytes d t same e f g =
    judged_shape b digest bytes d e ∙ ap (by_shape b (encode_lower digest) bytes) f
    ∙ ap (λ c. cond c (by_rules b bytes t (broken b t)) (Err (OtherProject t.run.project (encode_lower digest)))) g

pub refused_project : (b : Basis) (digest bytes : List ℕ) (d : Data) (t : Told) (kept given : List ℕ) → Reads bytes d → other_version d ≡ None → run [] d ≡ Ok t → bytes_eq t.run.project (encode_lower digest) ≡ false
    → kept ≡ t.run.project → given ≡ encode_lower digest → IsRefused b digest bytes (OtherProject kept given)
refused_project b digest bytes d t kept given r e f g k h =
    (d, r, judged_project b digest bytes d t false e f g ∙ ap (λ x. Err (OtherProject x (encode_lower digest))) (sym k) ∙ ap (λ x. Err (OtherProject kept x)) (sym h))

pub refused_rule : (b : Basis) (digest bytes : List ℕ) (d : Data) (t : Told) (member : List ℕ) → Reads bytes d → other_version d ≡ None → run [] d ≡ Ok t → bytes_eq t.run.project (encode_lower digest) ≡ true
    → broken b t ≡ Some member → IsRefused b digest bytes (BadReference member)
refused_rule b digest bytes d t member r e f g h = (d, r, judged_project b digest bytes d t true e f g ∙ ap (by_rules b bytes t) h)

-- of a run that breaks no rule

judged_threads : (b : Basis) (digest bytes : List ℕ) (t : Told) (i : IsTold b digest bytes t) → judged b digest bytes i.value ≡ by_threads bytes t (bad_thread b t)
judged_threads b digest bytes t i = judged_project b digest bytes i.value t true i.version i.shape i.project ∙ ap (by_rules b bytes t) i.rules

pub refused_thread : (b : Basis) (digest bytes : List ℕ) (t : Told) (serial : ℕ) → IsTold b digest bytes t → bad_thread b t ≡ Some serial → IsRefused b digest bytes (BadThread serial)
refused_thread b digest bytes t serial i e = (i.value, i.reads, judged_threads b digest bytes t i ∙ ap (by_threads bytes t) e)

judged_spelling : (b : Basis) (digest bytes : List ℕ) (t : Told) (i : IsTold b digest bytes t) (o : Option ℕ) → bad_thread b t ≡ None → o ≡ first_difference bytes (saved_text thread t.run) → judged b digest bytes i.value ≡ by_spelling t o
judged_spelling b digest bytes t i o e f = judged_threads b digest bytes t i ∙ ap (by_threads bytes t) e ∙ ap (by_spelling t) (sym f)

pub refused_spelling : (b : Basis) (digest bytes : List ℕ) (t : Told) (at : ℕ) → IsTold b digest bytes t → bad_thread b t ≡ None → Some at ≡ first_difference bytes (saved_text thread t.run) → IsRefused b digest bytes (Spelling at)
refused_spelling b digest bytes t at i e f = (i.value, i.reads, judged_spelling b digest bytes t i (Some at) e f)

pub is_accepted : (b : Basis) (digest bytes : List ℕ) (t : Told) → IsTold b digest bytes t → bad_thread b t ≡ None → None ≡ first_difference bytes (saved_text thread t.run) → IsAccepted b digest bytes t
is_accepted b digest bytes t i e f = (i.value, i.reads, judged_spelling b digest bytes t i None e f)

-- an error that is passed on
pub passed : {T : Type 0} (r : Result T SaveRefusal) (e : SaveRefusal) (P : Result T SaveRefusal → Type 0) → IsErrAnd r (λ x. x ≡ e) → P (Err e) → P r
passed r e P x q = let p = err_from_is_err_and r x in subst P (sym p.1) (subst (λ y. P (Err y)) (sym p.2) q)

-- what the steps refuse

pub shape_refused : (b : Basis) (digest bytes : List ℕ) (d : Data) (e : SaveRefusal) → Reads bytes d → other_version d ≡ None → Shapes d (Err e) → IsRefused b digest bytes e
shape_refused b digest bytes d (Shape path) r v h = refused_shape b digest bytes d path r v h
shape_refused b digest bytes d NoMemory r v h = tt
shape_refused b digest bytes d Json r v h = absurd h
shape_refused b digest bytes d (Version n) r v h = absurd h
shape_refused b digest bytes d (OtherProject kept given) r v h = absurd h
shape_refused b digest bytes d (BadReference path) r v h = absurd h
shape_refused b digest bytes d (BadThread serial) r v h = absurd h
shape_refused b digest bytes d (Spelling at) r v h = absurd h

pub other_refused : (b : Basis) (digest bytes : List ℕ) (d : Data) (t : Told) (T : Type 0) (e : SaveRefusal) → Reads bytes d → other_version d ≡ None → run [] d ≡ Ok t → IsOf t.run.project (encode_lower digest) {A = T} (Err e)
    → IsRefused b digest bytes e
other_refused b digest bytes d t T (OtherProject kept given) r v s h = refused_project b digest bytes d t kept given r v s h.0 h.1 h.2
other_refused b digest bytes d t T NoMemory r v s h = tt
other_refused b digest bytes d t T Json r v s h = absurd h
other_refused b digest bytes d t T (Version n) r v s h = absurd h
other_refused b digest bytes d t T (Shape path) r v s h = absurd h
other_refused b digest bytes d t T (BadReference path) r v s h = absurd h
other_refused b digest bytes d t T (BadThread serial) r v s h = absurd h
other_refused b digest bytes d t T (Spelling at) r v s h = absurd h

pub rule_refused : (b : Basis) (digest bytes : List ℕ) (d : Data) (t : Told) (T : Type 0) (e : SaveRefusal) → Reads bytes d → other_version d ≡ None → run [] d ≡ Ok t → bytes_eq t.run.project (encode_lower digest) ≡ true
    → Keeps b t {A = T} (Err e) → IsRefused b digest bytes e
rule_refused b digest bytes d t T (BadReference member) r v s g h = refused_rule b digest bytes d t member r v s g h
rule_refused b digest bytes d t T NoMemory r v s g h = tt
rule_refused b digest bytes d t T Json r v s g h = absurd h
rule_refused b digest bytes d t T (Version n) r v s g h = absurd h
rule_refused b digest bytes d t T (Shape path) r v s g h = absurd h
rule_refused b digest bytes d t T (OtherProject kept given) r v s g h = absurd h
rule_refused b digest bytes d t T (BadThread serial) r v s g h = absurd h
rule_refused b digest bytes d t T (Spelling at) r v s g h = absurd h
