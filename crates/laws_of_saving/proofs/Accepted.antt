-- The text of a run that can be told, and that breaks no rule, is accepted.
use Rattle.std.proofs.Common.{◌≡◌, ℕ, suc, ◌==◌, Bool, true, false, cond, List, [], ◌∷◌, Option, Some, None, option_map, Result, Ok, Err, refl, sym, ap, ◌∙◌, subst}
use Rattle.std.specs.Prelude.{bytes_eq}
use Rattle.hex.specs.Hex.{encode_lower}
use Rattle.serde_json.specs.Data.{Data}
use Rattle.machine_spec.specs.Tasks.{Task}
use Rattle.machine_spec.specs.World.{World}
use Rattle.laws_of_json.proofs.ReadingBack.{read-compact_text}
use Rattle.laws_of_json.proofs.Utf8.{IsUtf8-compact_text}
use Rattle.saved_spec.specs.Saved.{Snapshot, snapshot, saved, saved_text}
use Rattle.saved_spec.specs.Tasks.{task}
use Rattle.project_spec.specs.Basis.{Basis}
use Rattle.saved_spec.specs.Kept.{thread}
use Rattle.saved_spec.specs.Legal.{told}
use Rattle.saved_spec.specs.Levels.{bad_thread}
use Rattle.saved_spec.specs.Refusals.{first_difference, by_spelling, by_threads, by_rules, by_shape, by_version, judged, other_version, Reads, IsAccepted}
use Rattle.saved_spec.specs.Rules.{broken}
use Rattle.saved_spec.specs.RunShapes.{Told, run}
use Rattle.saved_spec.specs.declared.refusals.SaveRefusal.{SaveRefusal}
use Rattle.saved_spec.specs.declared.refusals.SaveRefusal.TheVariants.{OtherProject}
use Rattle.saved_spec.proofs.Telling.{same_threads}
use Rattle.laws_of_reading.specs.Told.{CanBeTold}
use Rattle.laws_of_reading.proofs.Fitting.{Fits}
use Rattle.laws_of_reading.proofs.Runs.{run_read}
use Rattle.laws_of_reading.proofs.Writable.{run_fits}
use Rattle.laws_of_threads.proofs.Numbers.{equal_true}
use Rattle.laws_of_saving.proofs.Tests.{text_true}

-- what is told is written as the run is

pub written_so : (s : Snapshot Task) → saved thread (told s).run ≡ saved task s
unfolding saved
written_so s = rw (same_threads s.threads) refl

text_so : (s : Snapshot Task) → saved_text task s ≡ saved_text thread (told s).run
unfolding saved_text
text_so s = rw (written_so s) refl

fits : (s : Snapshot Task) → CanBeTold s → Fits 127 (saved task s)
fits s h = subst (Fits 127) (written_so s) (run_fits s h)

-- its text is read as its value

reads : (s : Snapshot Task) → CanBeTold s → Reads (saved_text task s) (saved task s)
unfolding saved_text
reads s h = let f = fits s h in (IsUtf8-compact_text (saved task s) f.plain f.utf8, read-compact_text (saved task s) f.plain f.deep)

known_version : (s : Snapshot Task) → other_version (saved task s) ≡ None
unfolding saved
known_version s = refl

-- no text differs from itself

same_by : (c : Bool) (o : Option ℕ) → c ≡ true → o ≡ None → cond c (option_map suc o) (Some 0) ≡ None
same_by true None e f = refl
same_by true (Some n) e f = absurd (cc f)
same_by false o e f = absurd (cc e)

no_difference : (t : List ℕ) → first_difference t t ≡ None
unfolding first_difference
no_difference [] = refl
no_difference (x ∷ t) = same_by (x == x) (first_difference t t) (equal_true x x refl) (no_difference t)

-- The judgement, test by test

project_by : (b : Basis) (given bytes : List ℕ) (t : Told) (c : Bool) (r : Result Told SaveRefusal) → c ≡ true → by_rules b bytes t (broken b t) ≡ r
    → cond c (by_rules b bytes t (broken b t)) (Err (OtherProject t.run.project given)) ≡ r
project_by b given bytes t true r e f = f
project_by b given bytes t false r e f = absurd (cc e)

judged_by : (b : Basis) (given bytes : List ℕ) (d : Data) (t : Told) → other_version d ≡ None → run [] d ≡ Ok t → t.run.project ≡ given → broken b t ≡ None → bad_thread b t ≡ None
    → bytes ≡ saved_text thread t.run → by_version b given bytes d (other_version d) ≡ Ok t
judged_by b given bytes d t version shape project rules threads spelling =
    ap (by_version b given bytes d) version
    ∙ ap (by_shape b given bytes) shape
    ∙ project_by b given bytes t (bytes_eq t.run.project given) (Ok t) (subst (λ x. bytes_eq x given ≡ true) (sym project) (text_true given))
    (ap (by_rules b bytes t) rules
    ∙ ap (by_threads bytes t) threads
    ∙ ap (by_spelling t) (subst (λ x. first_difference x (saved_text thread t.run) ≡ None) (sym spelling) (no_difference (saved_text thread t.run))))

judged_so : (b : Basis) (digest : List ℕ) (seed : ℕ) (w : World Task) → CanBeTold (snapshot digest seed w) → broken b (told (snapshot digest seed w)) ≡ None → bad_thread b (told (snapshot digest seed w)) ≡ None
    → judged b digest (saved_text task (snapshot digest seed w)) (saved task (snapshot digest seed w)) ≡ Ok (told (snapshot digest seed w))
unfolding judged
judged_so b digest seed w h rules threads =
    let s = snapshot digest seed w in
    judged_by b (encode_lower digest) (saved_text task s) (saved task s) (told s) (known_version s) (ap (run []) (sym (written_so s)) ∙ run_read s h) refl rules threads (text_so s)

pub accepted_so : (b : Basis) (digest : List ℕ) (seed : ℕ) (w : World Task) → CanBeTold (snapshot digest seed w) → broken b (told (snapshot digest seed w)) ≡ None → bad_thread b (told (snapshot digest seed w)) ≡ None
    → IsAccepted b digest (saved_text task (snapshot digest seed w)) (told (snapshot digest seed w))
accepted_so b digest seed w h rules threads =
    let s = snapshot digest seed w in
    (saved task s, reads s h, judged_so b digest seed w h rules threads)

-- bytes tell one run

pub one_told : (b : Basis) (digest bytes : List ℕ) (t u : Told) → IsAccepted b digest bytes t → IsAccepted b digest bytes u → t ≡ u
one_told b digest bytes t u g h =
    let a = g.1.1 in
    let c = h.1.1 in
    let e = g.2 in
    let f = h.2 in
    cc (a, c, e, f)
