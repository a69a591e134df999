-- No rule is broken by what the text of a legal world tells.
use Rattle.std.proofs.Common.{◌≡◌, ℕ, true, List, None, option_map, ap}
use Rattle.machine_spec.specs.Tasks.{Task}
use Rattle.machine_spec.specs.World.{World}
use Rattle.laws_of_threads.specs.Lists.{Each}
use Rattle.saved_spec.specs.Ranges.{IsRun, IsTask}
use Rattle.saved_spec.specs.Saved.{snapshot}
use Rattle.project_spec.specs.Basis.{Basis}
use Rattle.saved_spec.specs.Legal.{told}
use Rattle.saved_spec.specs.Rules.{rules, broken}
use Rattle.laws_of_worlds.specs.Runs.{IsLegalRun}
use Rattle.laws_of_saving.specs.Good.{IsGood}
use Rattle.laws_of_saving.proofs.DeviceRules as devices
use Rattle.laws_of_saving.proofs.InstanceRules as instances
use Rattle.laws_of_saving.proofs.TextRules as texts
use Rattle.laws_of_saving.proofs.ThreadRules as threads
use Rattle.laws_of_saving.proofs.Tests.{all_passed}

module _ (b : Basis) (seed : ℕ) (digest : List ℕ) (w : World Task) (good : IsGood b) (h : IsLegalRun b.program seed w) (ranges : IsRun IsTask (snapshot digest seed w)) where
  each_holds : Each (λ r. r.holds ≡ true) (rules b (told (snapshot digest seed w)))
  unfolding rules
  each_holds = (
    devices.clock_in_range b seed digest w h ranges,
    (
      devices.timer_reset b seed digest w h ranges,
      (
        devices.mouse_on_stage b seed digest w h ranges,
        (
          devices.keys_held b seed digest w h ranges,
          (
            devices.words_counted b seed digest w h ranges,
            (
              devices.frames_counted b seed digest w h ranges,
              (
                devices.next_counted b seed digest w h ranges,
                (
                  devices.made_show b seed digest w h ranges,
                  (
                    devices.monitors_counted b seed digest w h ranges,
                    (
                      instances.stage_first b seed digest w h,
                      (
                        instances.originals_there b seed digest w h,
                        (
                          instances.clones_sprites b seed digest w h,
                          (
                            instances.clones_number b seed digest w h,
                            (
                              instances.costumes_there b seed digest w h,
                              (
                                instances.sizes_in_range b seed digest w h,
                                (
                                  instances.directions_in_range b seed digest w h,
                                  (
                                    instances.effects_in_range b seed digest w h,
                                    (
                                      instances.stage_in_place b seed digest w h,
                                      (
                                        instances.variables_there b seed digest w h,
                                        (
                                          instances.lists_short b seed digest w h,
                                          (
                                            devices.answer_short b seed digest w h ranges,
                                            (
                                              texts.instances_little b seed digest w h ranges,
                                              (
                                                devices.questions_short b seed digest w h ranges,
                                                (
                                                  threads.params_short b seed digest w good h ranges,
                                                  (
                                                    instances.bubbles_updated b seed digest w h,
                                                    (
                                                      devices.timers_updated b seed digest w h ranges,
                                                      (
                                                        instances.edges_hats b seed digest w h,
                                                        (
                                                          devices.questions_of_threads b seed digest w h ranges,
                                                          (
                                                            devices.timers_of_threads b seed digest w h ranges,
                                                            (
                                                              devices.timers_due b seed digest w h ranges,
                                                              (
                                                                threads.threads_of_hats b seed digest w good h ranges,
                                                                (
                                                                  threads.levels_of_blocks b seed digest w good h ranges,
                                                                  (
                                                                    threads.started_there b seed digest w good h ranges,
                                                                    (
                                                                      threads.levels_few b seed digest w good h ranges,
                                                                      tt,
                                                                    ),
                                                                  ),
                                                                ),
                                                              ),
                                                            ),
                                                          ),
                                                        ),
                                                      ),
                                                    ),
                                                  ),
                                                ),
                                              ),
                                            ),
                                          ),
                                        ),
                                      ),
                                    ),
                                  ),
                                ),
                              ),
                            ),
                          ),
                        ),
                      ),
                    ),
                  ),
                ),
              ),
            ),
          ),
        ),
      ),
    ),
  )

  pub rules_hold : broken b (told (snapshot digest seed w)) ≡ None
  rules_hold = ap (option_map (λ r. r.member)) (all_passed (rules b (told (snapshot digest seed w))) each_holds)
