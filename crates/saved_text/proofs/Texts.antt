-- The text that is written for a run.
use Rattle.std.proofs.Common.{◌≡◌, ℕ, List, [], Some}
use Rattle.serde.specs.Event.{Log}
use Rattle.serde_json.specs.Events.{SendsValue}
use Rattle.serde_json.specs.Sent.{IsTextOf}
use Rattle.serde_json.proofs.FreeTexts.{text_of_value}
use Rattle.thread_frames.specs.Threads.{Thread}
use Rattle.saved_text.specs.Threads.{thread}
use Rattle.saved_spec.specs.Saved.{Snapshot, saved, saved_text}
use Rattle.saved_text.proofs.Whole.{saved_whole}

pub written_text : (s : Snapshot Thread) (text : List ℕ) → (log : Log) × SendsValue (saved thread s) (Some []) log × IsTextOf log text → text ≡ saved_text thread s
unfolding saved_text
written_text s text h = text_of_value (saved thread s) h.0 text h.1 h.2 (saved_whole s)
