-- The text of a run that was made of what a saved text tells.
use Rattle.std.proofs.Common.{◌≡◌, ℕ, List, Err, true, sym, ap, ◌∙◌}
use Rattle.std.specs.List.{list_all}
use Rattle.std.proofs.lemmas.Slice.Eq.{bytes_eq-Decides}
use Rattle.hex.specs.Hex.{encode_lower}
use Rattle.rand_core.specs.Stream.{Stream}
use Rattle.serde_json.specs.Written.{compact_text}
use Rattle.project_check.specs.declared.project.Project.{Project}
use Rattle.saved_parts.specs.Telling.{told_of}
use Rattle.saved_parts.specs.declared.run.ToldRun.{ToldRun}
use Rattle.project_spec.specs.Basis.{Basis}
use Rattle.project_check.specs.Loaded.{basis_of}
use Rattle.saved_spec.specs.Kept.{thread}
use Rattle.saved_spec.specs.Laws.{TellsWhatIsSaved}
use Rattle.saved_spec.specs.Refusals.{IsRefused}
use Rattle.saved_spec.specs.Rules.{is_key_name}
use Rattle.saved_spec.specs.declared.refusals.SaveRefusal.{SaveRefusal}
use Rattle.saved_spec.specs.declared.refusals.SaveRefusal.TheVariants.{Json, Version, Shape, OtherProject, BadReference, BadThread, Spelling, NoMemory}
use Rattle.saved_spec.specs.Saved.{snapshot, saved, saved_text}
use Rattle.saved_spec.specs.Tasks.{task}
use Rattle.sequencer.specs.Runs.{world_of}
use Rattle.sequencer.specs.declared.run.Run.{Run}
use Rattle.run_save.specs.Loading.{IsRunTold, Makes}
use Rattle.run_save.specs.Steps.{IsTold}
use Rattle.saved_spec.specs.Worlds.{world_told}
use Rattle.run_save.specs.Worlds.{AllTold}
use Rattle.run_save.proofs.Judging.{refused_thread}
use Rattle.run_save.proofs.Keeping.{keys_named}
use Rattle.run_save.proofs.ToldRuns.{told_again}

world_text : (law : TellsWhatIsSaved) (b : Basis) (digest : List ℕ) (r : ToldRun) → encode_lower digest ≡ r.project → AllTold b (told_of r) (told_of r).run.threads → list_all is_key_name r.keys ≡ true
    → saved_text task (snapshot digest r.seed (world_told b (told_of r))) ≡ saved_text thread (told_of r).run
unfolding saved_text
world_text law b digest r project threads keys =
    ap compact_text (law (snapshot digest r.seed (world_told b (told_of r)))) ∙ ap (λ u. compact_text (saved thread u.run)) (told_again b digest r project threads keys)

pub run_text : {R : Type 0} (stream : R → Stream) (law : TellsWhatIsSaved) (p : Project) (digest bytes : List ℕ) (r : ToldRun) (run : Run R) → IsTold (basis_of p) digest bytes (told_of r) → IsRunTold stream p (told_of r) run → AllTold (basis_of p) (told_of r) (told_of r).run.threads
    → saved_text task (snapshot digest r.seed (world_of stream p run)) ≡ saved_text thread (told_of r).run
run_text stream law p digest bytes r run tells is threads =
    ap (λ w. saved_text task (snapshot digest r.seed w)) is.world
    ∙ world_text law (basis_of p) digest r (sym ((bytes_eq-Decides r.project (encode_lower digest)).0 tells.project)) threads (keys_named p r tells.rules)

-- the refusal of a run that was not made
pub not_made_refused : {R : Type 0} (stream : R → Stream) (p : Project) (digest bytes : List ℕ) (r : ToldRun) (e : SaveRefusal) → IsTold (basis_of p) digest bytes (told_of r) → Makes stream p (told_of r) (Err e) → IsRefused (basis_of p) digest bytes e
not_made_refused stream p digest bytes r (BadThread serial) t h = refused_thread (basis_of p) digest bytes (told_of r) serial t h
not_made_refused stream p digest bytes r NoMemory t h = tt
not_made_refused stream p digest bytes r Json t h = absurd h
not_made_refused stream p digest bytes r (Version n) t h = absurd h
not_made_refused stream p digest bytes r (Shape path) t h = absurd h
not_made_refused stream p digest bytes r (OtherProject kept given) t h = absurd h
not_made_refused stream p digest bytes r (BadReference path) t h = absurd h
not_made_refused stream p digest bytes r (Spelling at) t h = absurd h
