use Rattle.saved_text.proofs.RangesLeft.{tasks_ranges}
use Rattle.saved_text.proofs.laws.what_is_left_is_in_range.Goals as goal

pub returns : goal.returns
returns c sheets digest seed w kept h = record {
  seed = h.seed;
  drawn = h.drawn;
  frame = h.frame;
  next_thread = h.next_thread;
  next_instance = h.next_instance;
  targets = h.targets;
  made = h.made;
  devices = h.devices;
  threads = tasks_ranges sheets w.threads.list kept h.threads;
}
