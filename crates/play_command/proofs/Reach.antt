-- How far an outcome comes behind each stage.
use Rattle.std.proofs.Common.{ℕ, Bool, true, false, cond, ltb, List, length, Option, None, Some}
use Rattle.std.specs.FinMap.{get}
use Rattle.sv_channels.specs.Files.{Files}
use Rattle.machine_spec.specs.Output.{Output, Ending as RunEnding, Whole, BadLine, Limited}
use Rattle.machine_spec.specs.Program.{Program}
use Rattle.machine_spec.specs.Tasks.{Task}
use Rattle.machine_spec.specs.World.{World}
use Rattle.saved_spec.specs.Saved.{saved_limit}
use Rattle.project_spec.specs.Basis.{Basis}
use Rattle.saved_spec.specs.RunShapes.{Told}
use Rattle.run_save.specs.declared.status.Which.TheVariants as which
use Rattle.play_command.specs.Causes.{IsFetched, IsLoaded, IsReady}
use Rattle.play_command.specs.Command.{Form, ResumeForm}
use Rattle.machine_spec.specs.ScriptText.{script_limit}
use Rattle.play_command.specs.Outcome.{Loading, refused, accepted, Continuing, rejected, continued, missing, too_large, not_accepted, not_continued, Ending, unloaded, told, ran, unsaved, Outcome, ends, all_of, at_ending, fetched, loaded, told_to, words_of, output_of, output_from, text_of_run}

-- what follows a project that is played, and one that is gone on with

abbrev pub after_load : Form → Files → (project : List ℕ) → Program → Outcome
after_load form files project p = fetched which.Script script_limit (get files form.script) (λ script. all_of form.save (text_of_run project form.seed) (output_of p (words_of form.seed) script))

abbrev pub after_saved : ResumeForm → Files → (project : List ℕ) → Basis → Told → Outcome
after_saved form files project b t = fetched which.Script script_limit (get files form.script) (λ script. all_of form.save (text_of_run project t.run.seed) (output_from b t script))

abbrev pub after_basis : ResumeForm → Files → (project : List ℕ) → Continuing → Basis → Outcome
after_basis form files project continuing b = fetched which.Saved saved_limit (get files form.saved) (λ bytes. told_to continuing (after_saved form files project b))

-- a run that was played

put_ending : (b : Bool) (o p : Outcome) → IsReady o.ending → IsReady p.ending → IsReady (cond b o p).ending
put_ending true o p h k = h
put_ending false o p h k = k

run_ending : (text : World Task → List ℕ) (writes : List (List ℕ)) (ending : RunEnding) → IsReady (at_ending text writes ending).ending
run_ending text writes (Whole last) = put_ending (ltb saved_limit (length (text last))) _ _ tt tt
run_ending text writes (BadLine r) = tt
run_ending text writes (Limited s) = tt

pub all_ending : (save : Option (List ℕ)) (text : World Task → List ℕ) (run : Output) → IsReady (all_of save text run).ending
all_ending None text run = tt
all_ending (Some name) text run = run_ending text run.writes run.ending

-- behind the script

script_ending : (b : Bool) (o : Outcome) → IsReady o.ending → IsReady (cond b (ends (too_large which.Script script_limit)) o).ending
script_ending true o h = tt
script_ending false o h = h

ready_script : (o : Option (List ℕ)) (next : List ℕ → Outcome) → ((script : List ℕ) → IsReady (next script).ending) → IsReady (fetched which.Script script_limit o next).ending
ready_script None next h = tt
ready_script (Some script) next h = script_ending (ltb script_limit (length script)) (next script) (h script)

pub load_ready : (form : Form) (files : Files) (project : List ℕ) (p : Program) → IsReady (after_load form files project p).ending
load_ready form files project p =
    ready_script (get files form.script) (λ script. all_of form.save (text_of_run project form.seed) (output_of p (words_of form.seed) script))
    (λ script. all_ending form.save (text_of_run project form.seed) (output_of p (words_of form.seed) script))

pub saved_ready : (form : ResumeForm) (files : Files) (project : List ℕ) (b : Basis) (t : Told) → IsReady (after_saved form files project b t).ending
saved_ready form files project b t =
    ready_script (get files form.script) (λ script. all_of form.save (text_of_run project t.run.seed) (output_from b t script)) (λ script. all_ending form.save (text_of_run project t.run.seed) (output_from b t script))

-- what is ready is loaded, and what is loaded was fetched

pub is_loaded : (ending : Ending) → IsReady ending → IsLoaded ending
is_loaded (unloaded (missing which.Project)) h = absurd h
is_loaded (unloaded (missing which.Saved)) h = tt
is_loaded (unloaded (missing which.Script)) h = tt
is_loaded (unloaded (too_large which.Project limit)) h = absurd h
is_loaded (unloaded (too_large which.Saved limit)) h = tt
is_loaded (unloaded (too_large which.Script limit)) h = tt
is_loaded (unloaded (not_accepted r)) h = absurd h
is_loaded (unloaded (not_continued r)) h = tt
is_loaded told h = tt
is_loaded (ran ending) h = tt
is_loaded (unsaved n) h = tt

pub is_fetched : (ending : Ending) → IsLoaded ending → IsFetched ending
is_fetched (unloaded (missing which.Project)) h = absurd h
is_fetched (unloaded (missing which.Saved)) h = tt
is_fetched (unloaded (missing which.Script)) h = tt
is_fetched (unloaded (too_large which.Project limit)) h = absurd h
is_fetched (unloaded (too_large which.Saved limit)) h = tt
is_fetched (unloaded (too_large which.Script limit)) h = tt
is_fetched (unloaded (not_accepted r)) h = tt
is_fetched (unloaded (not_continued r)) h = tt
is_fetched told h = tt
is_fetched (ran ending) h = tt
is_fetched (unsaved n) h = tt

-- behind any loading of a project that was fetched
pub loading_fetched : {A : Type 0} (loading : Loading A) (next : A → Outcome) → ((a : A) → IsFetched (next a).ending) → IsFetched (loaded loading next).ending
loading_fetched (refused r) next h = tt
loading_fetched (accepted a) next h = h a

-- behind a project that is gone on with

pub continuing_loaded : (form : ResumeForm) (files : Files) (project : List ℕ) (continuing : Continuing) (b : Basis) → IsLoaded (told_to continuing (after_saved form files project b)).ending
continuing_loaded form files project (rejected r) b = tt
continuing_loaded form files project (continued t) b = is_loaded _ (saved_ready form files project b t)

large_loaded : (b : Bool) (o : Outcome) → IsLoaded o.ending → IsLoaded (cond b (ends (too_large which.Saved saved_limit)) o).ending
large_loaded true o h = tt
large_loaded false o h = h

saved_loaded : (o : Option (List ℕ)) (next : List ℕ → Outcome) → ((bytes : List ℕ) → IsLoaded (next bytes).ending) → IsLoaded (fetched which.Saved saved_limit o next).ending
saved_loaded None next h = tt
saved_loaded (Some bytes) next h = large_loaded (ltb saved_limit (length bytes)) (next bytes) (h bytes)

pub basis_loaded : (form : ResumeForm) (files : Files) (project : List ℕ) (continuing : Continuing) (b : Basis) → IsLoaded (after_basis form files project continuing b).ending
basis_loaded form files project continuing b = saved_loaded (get files form.saved) (λ bytes. told_to continuing (after_saved form files project b)) (λ bytes. continuing_loaded form files project continuing b)
