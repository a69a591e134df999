-- The text of a saved run is that of the machine's world.
use Rattle.std.proofs.Common.{◌≡◌, ℕ, List, false, sym, ap, ◌∙◌, subst}
use Rattle.std.specs.List.{All}
use Rattle.rand_core.specs.Stream.{Stream}
use Rattle.machine_spec.specs.Threads.{is_done}
use Rattle.machine_spec.specs.World.{World}
use Rattle.machine_spec.specs.Words.{seen_words}
use Rattle.project_spec.specs.Trees.{Sheet}
use Rattle.project_check.specs.declared.project.Project.{Project}
use Rattle.thread_frames.specs.Fit.{Fits}
use Rattle.thread_frames.specs.Threads.{Thread}
use Rattle.executions.specs.Seen.{sheets}
use Rattle.sequencer.specs.Runs.{world_of, IsRunOf}
use Rattle.sequencer.specs.declared.run.Run.{Run}
use Rattle.run_save.specs.Saving.{HasParts}
use Rattle.saved_text.specs.Laws.{IsKept, RangesOfWhatIsLeft, SavesWhatIsLeft}
use Rattle.saved_spec.specs.Ranges.{IsRun, IsTask}
use Rattle.saved_text.specs.Ranges.{IsThread}
use Rattle.saved_spec.specs.Saved.{Snapshot, snapshot, saved, saved_text}
use Rattle.saved_spec.specs.Tasks.{task}
use Rattle.saved_text.specs.Threads.{thread}
use Rattle.serde_json.specs.Written.{compact_text}

all_kept : (sheets : ℕ → Sheet) (ts : List Thread) → All (Fits sheets) ts → All (λ t. is_done t.status ≡ false) ts → All (IsKept sheets) ts
all_kept sheets ts fits alive = λ k d h. record { fits = fits k d h; alive = alive k d h }

-- the world of a run, with its threads by their levels
abbrev levels_world : {R : Type 0} → (R → Stream) → Run R → World Thread
levels_world stream r = record {
  frame = r.state.frame;
  words = seen_words stream r.state.words;
  next_thread = r.state.next_thread;
  next_instance = r.state.next_instance;
  redraw = r.state.redraw;
  targets = r.state.targets;
  variables = r.state.variables;
  devices = r.state.devices;
  threads = r.state.threads;
}

seen_parts : {R : Type 0} (stream : R → Stream) (s : Snapshot Thread) (r : Run R) (digest : List ℕ) (seed : ℕ) → HasParts s r digest seed
    → s ≡ snapshot digest seed (levels_world stream r)
seen_parts stream s r digest seed h = λ i. record {
  project = h.project i;
  seed = h.seed_is i;
  drawn = h.drawn i;
  frame = h.frame i;
  next_thread = h.next_thread i;
  next_instance = h.next_instance i;
  targets = h.targets i;
  variables = record { stores = h.stores i; file_monitors = h.file_monitors i; made = h.made i };
  devices = h.devices i;
  threads = h.threads i;
}

pub is_text_of_run : {R : Type 0} (stream : R → Stream) (p : Project) (s : Snapshot Thread) (r : Run R) (digest : List ℕ) (seed : ℕ) → SavesWhatIsLeft → IsRunOf p r → HasParts s r digest seed
    → saved_text thread s ≡ saved_text task (snapshot digest seed (world_of stream p r))
unfolding saved_text
is_text_of_run stream p s r digest seed law run h =
    let w = levels_world stream r in
    let kept = all_kept (sheets p) w.threads.list run.idle.resting.kept.threads.all.listed run.idle.alive in
    ap (λ x. compact_text (saved thread x)) (seen_parts stream s r digest seed h)
    ∙ ap compact_text (sym (law (sheets p) digest seed w kept))

-- what the types say of its parts is true of its world
pub ranges_of_run : {R : Type 0} (stream : R → Stream) (p : Project) (s : Snapshot Thread) (r : Run R) (digest : List ℕ) (seed : ℕ) → RangesOfWhatIsLeft → IsRunOf p r → HasParts s r digest seed
    → IsRun IsThread s → IsRun IsTask (snapshot digest seed (world_of stream p r))
ranges_of_run stream p s r digest seed law run h ranges =
    let w = levels_world stream r in
    let kept = all_kept (sheets p) w.threads.list run.idle.resting.kept.threads.all.listed run.idle.alive in
    law (sheets p) digest seed w kept (subst (IsRun IsThread) (seen_parts stream s r digest seed h) ranges)
