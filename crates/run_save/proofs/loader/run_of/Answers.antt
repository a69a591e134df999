use Rattle.std.proofs.Common.{map, refl, sym, ap, ◌∙◌, subst, arith}
use Rattle.std.specs.List.{All}
use Rattle.script_words.specs.Words.{answers}
use Rattle.saved_levels.specs.Waits.{Tells}
use Rattle.saved_parts.specs.Telling.{question_of, thread_of, told_of}
use Rattle.project_check.specs.Loaded.{basis_of}
use Rattle.run_save.specs.Loading.{Makes}
use Rattle.run_save.specs.Parts.{IsReady}
use Rattle.run_save.proofs.Judging.{passed}
use Rattle.run_save.proofs.Keeping.{all_ready, drawn_below, few_over_all, frames_below}
use Rattle.run_save.proofs.Parts.{all_told, as_many_levels, none_bad, none_is_bad, not_made}
use Rattle.run_save.proofs.Running.{idle_is, run_told}
use Rattle.run_save.proofs.loader.run_of.Goals as goal

pub parts_of-requires : goal.parts_of-requires
parts_of-requires c =
    subst (λ is. All (λ x. IsReady x is) (map thread_of c.args.told.threads)) (sym c.in_ok-targets.ensures.targets) (all_ready (basis_of c.args.project.now) (told_of c.args.told) c.requires)

pub returns-in_err-parts : goal.returns-in_err-parts
returns-in_err-parts c =
    let t = told_of c.args.told in
    let w = c.in_ok-waiting.waiting in
    let waits = subst (λ ts. Tells w c.args.told.clock (map question_of c.args.told.questions) ts) c.as_slice-2.ensures (subst (λ qs. Tells w c.args.told.clock (map question_of qs) c.as_slice-2.result.now) c.as_slice.ensures c.in_ok-waiting.ensures) in
    let e = c.in_err-parts.field-0.0 in
    passed c.from_residual-in_err-parts.result e (Makes answers c.args.project.now t) c.from_residual-in_err-parts.ensures.1
    (not_made answers c.args.project.now t e (c.in_err-parts.ensures t (sym c.in_ok-targets.ensures.targets) waits))

pub rebuild-requires : goal.rebuild-requires
rebuild-requires c =
    let t = told_of c.args.told in
    let w = c.in_ok-waiting.waiting in
    let waits = subst (λ ts. Tells w c.args.told.clock (map question_of c.args.told.questions) ts) c.as_slice-2.ensures (subst (λ qs. Tells w c.args.told.clock (map question_of qs) c.as_slice-2.result.now) c.as_slice.ensures c.in_ok-waiting.ensures) in
    let parts = c.in_ok-parts.ensures t (sym c.in_ok-targets.ensures.targets) waits in
    let few = few_over_all c.args.project.now c.args.told c.requires in
    let same = as_many_levels c.args.project.now t t.run.threads c.in_ok-parts.parts.items parts in
    omega (arith, few, same)

pub pcg-requires : goal.pcg-requires
pcg-requires c = drawn_below c.args.project.now c.args.told c.requires

pub rebuild-requires-2-clause-idle : goal.rebuild-requires-2-clause-idle
rebuild-requires-2-clause-idle c =
    let t = told_of c.args.told in
    let w = c.in_ok-waiting.waiting in
    let waits = subst (λ ts. Tells w c.args.told.clock (map question_of c.args.told.questions) ts) c.as_slice-2.ensures (subst (λ qs. Tells w c.args.told.clock (map question_of qs) c.as_slice-2.result.now) c.as_slice.ensures c.in_ok-waiting.ensures) in
    let parts = c.in_ok-parts.ensures t (sym c.in_ok-targets.ensures.targets) waits in
    idle_is answers c.args.project.now c.args.told c.in_ok-parts.parts.items _ c.requires parts
    (record {
      frame = refl;
      words = λ i. record { stream = c.pcg.ensures.stream i; drawn = c.pcg.ensures.drawn i };
      next_thread = refl;
      next_instance = refl;
      redraw = refl;
      targets = c.in_ok-targets.ensures.targets;
      variables = c.in_ok-targets.ensures.variables;
      devices = c.in_ok-targets.ensures.devices;
      threads = c.in_ok-threads.ensures;
    })

pub rebuild-requires-2-clause-few : goal.rebuild-requires-2-clause-few
rebuild-requires-2-clause-few c = frames_below c.args.project.now c.args.told c.requires

pub returns : goal.returns
returns c =
    let p = c.args.project.now in
    let t = told_of c.args.told in
    let w = c.in_ok-waiting.waiting in
    let waits = subst (λ ts. Tells w c.args.told.clock (map question_of c.args.told.questions) ts) c.as_slice-2.ensures (subst (λ qs. Tells w c.args.told.clock (map question_of qs) c.as_slice-2.result.now) c.as_slice.ensures c.in_ok-waiting.ensures) in
    let qs = c.in_ok-parts.parts.items in
    let parts = c.in_ok-parts.ensures t (sym c.in_ok-targets.ensures.targets) waits in (
      run_told answers p c.args.told qs c.rebuild-2.result c.requires parts
          (record {
            frame = ap (λ s. s.frame) c.rebuild-2.ensures.state;
            words = ap (λ s. record { stream = answers s.words.source; drawn = s.words.drawn }) c.rebuild-2.ensures.state ∙ (λ i. record { stream = c.pcg.ensures.stream i; drawn = c.pcg.ensures.drawn i });
            next_thread = ap (λ s. s.next_thread) c.rebuild-2.ensures.state;
            next_instance = ap (λ s. s.next_instance) c.rebuild-2.ensures.state;
            redraw = ap (λ s. s.redraw) c.rebuild-2.ensures.state;
            targets = ap (λ s. s.targets) c.rebuild-2.ensures.state ∙ c.in_ok-targets.ensures.targets;
            variables = ap (λ s. s.variables) c.rebuild-2.ensures.state ∙ c.in_ok-targets.ensures.variables;
            devices = ap (λ s. s.devices) c.rebuild-2.ensures.state ∙ c.in_ok-targets.ensures.devices;
            threads = ap (λ s. s.threads) c.rebuild-2.ensures.state ∙ c.in_ok-threads.ensures;
          })
          c.rebuild-2.ensures.fits,
      none_is_bad p t (none_bad p t t.run.threads qs parts),
      all_told p t t.run.threads qs parts,
    )
