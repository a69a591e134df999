use Rattle.std.proofs.Common.{refl, ap, ◌∙◌}
use Rattle.script_words.specs.Counting.{drawn_of}
use Rattle.run_save.proofs.saver.saved_run.Goals as goal

pub returns : goal.returns
returns g c = record {
  project = refl;
  seed_is = refl;
  drawn = c.drawn.ensures.value ∙ ap drawn_of c.words.ensures;
  frame = c.frame_number.ensures;
  next_thread = c.next_thread.ensures;
  next_instance = c.next_instance.ensures;
  targets = c.instances.ensures ∙ c.targets.ensures;
  stores = c.stores.ensures.stores ∙ ap (λ v. v.stores) c.variables-variables.ensures;
  file_monitors = c.as_slice.ensures ∙ c.file_monitors.ensures ∙ ap (λ v. v.file_monitors) c.variables-variables.ensures;
  made = c.as_slice-2.ensures ∙ c.made.ensures ∙ ap (λ v. v.made) c.variables-variables.ensures;
  devices = c.devices.ensures;
  threads = ap (λ ts. ts.list) c.threads.ensures;
}
