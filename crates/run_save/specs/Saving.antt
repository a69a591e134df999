-- Helpers of private functions: what the text of a run tells are the parts of the run.
use Rattle.std.specs.Prelude.{◌≡◌, ℕ, List}
use Rattle.hex.specs.Hex.{encode_lower}
use Rattle.script_words.specs.Counting.{drawn_of}
use Rattle.thread_frames.specs.Threads.{Thread}
use Rattle.saved_spec.specs.Saved.{Snapshot}
use Rattle.sequencer.specs.declared.run.Run.{Run}

-- what is saved are the parts of a run
pub record HasParts {R : Type 0} (s : Snapshot Thread) (r : Run R) (digest : List ℕ) (seed : ℕ) : Type 0 where
  pub project : s.project ≡ encode_lower digest
  pub seed_is : s.seed ≡ seed
  pub drawn : s.drawn ≡ drawn_of r.state.words
  pub frame : s.frame ≡ r.state.frame
  pub next_thread : s.next_thread ≡ r.state.next_thread
  pub next_instance : s.next_instance ≡ r.state.next_instance
  pub targets : s.targets ≡ r.state.targets
  pub stores : s.variables.stores ≡ r.state.variables.stores
  pub file_monitors : s.variables.file_monitors ≡ r.state.variables.file_monitors
  pub made : s.variables.made ≡ r.state.variables.made
  pub devices : s.devices ≡ r.state.devices
  pub threads : s.threads ≡ r.state.threads.list
