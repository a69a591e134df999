-- What is saved of a run, by its parts.
use Rattle.std.specs.Prelude.{ℕ, List}
use Rattle.hex.specs.Hex.{encode_lower}
use Rattle.thread_frames.specs.Threads.{Thread}
use Rattle.saved_spec.specs.Saved.{Snapshot}
use Rattle.saved_text.specs.declared.run.SavedRun.{SavedRun}

abbrev pub seen : SavedRun → Snapshot Thread
seen r = record {
  project = encode_lower r.digest;
  seed = r.seed;
  drawn = r.drawn;
  frame = r.frame;
  next_thread = r.next_thread;
  next_instance = r.next_instance;
  targets = r.instances.now;
  variables = record { stores = r.stores.now; file_monitors = r.file_monitors.now; made = r.made.now };
  devices = r.devices.now;
  threads = r.threads.now.list;
}

-- a helper of private functions: with this text as the digits of the digest
abbrev pub seen_with : SavedRun → (digits : List ℕ) → Snapshot Thread
seen_with r digits = record (seen r) { project = digits }
