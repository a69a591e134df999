-- The first world of a run is legal.
use Rattle.std.proofs.Common.{ℕ, length, sym, subst, arith}
use Rattle.std.specs.Prelude.{◌≤◌}
use Rattle.machine_spec.specs.First.{first_world}
use Rattle.machine_spec.specs.Program.{Program}
use Rattle.machine_spec.specs.Words.{Words, words_after}
use Rattle.laws_of_threads.specs.Playable.{IsPlayable}
use Rattle.laws_of_threads.proofs.First as threads
use Rattle.laws_of_instances.proofs.First as instances
use Rattle.laws_of_variables.proofs.First as variables
use Rattle.laws_of_turns.proofs.First as turns
use Rattle.laws_of_devices.specs.Devices.{IsLegalDesk}
use Rattle.laws_of_worlds.specs.Runs.{IsGoodProgram, IsLegalRun, OpensLegal}

first_desk : (p : Program) (seed : ℕ) → IsPlayable p → IsLegalDesk p (first_world p (words_after seed 0))
first_desk p seed play = record {
  devices = record {
    clock = omega arith;
    timer = omega arith;
    mouse_x = omega arith;
    mouse_y = omega arith;
    keys = tt;
    differ = tt;
    timers = tt;
    usage = omega arith;
  };
  frames = omega arith;
  threads = omega arith;
  instances = (let few : length p.records.targets ≤ 1000 = play.few in omega (arith, few));
  targets = omega arith;
}

of_seed : (p : Program) (seed : ℕ) → IsGoodProgram p → IsLegalRun p seed (first_world p (words_after seed 0))
of_seed p seed good = record {
  threads = threads.first_legal p (words_after seed 0);
  instances = instances.first_legal p good.targets seed;
  variables = variables.first_variables p (words_after seed 0) good.targets;
  devices = first_desk p seed good.targets;
  numbers = turns.first_within p (words_after seed 0) good.numbers;
}

pub first_legal : (p : Program) (words : Words) → OpensLegal p (first_world p words)
first_legal p words seed good e = subst (λ x. IsLegalRun p seed (first_world p x)) (sym e) (of_seed p seed good)
