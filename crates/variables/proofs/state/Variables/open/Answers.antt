use Rattle.std.proofs.Common.{◌≡◌, List, [], ◌∷◌, Bool, map, refl, sym, subst, ap, ap₂, ◌∙◌}
use Rattle.machine_spec.specs.declared.variables.Store.{Store}
use Rattle.machine_spec.specs.declared.variables.Made.{Made}
use Rattle.machine_spec.specs.Program.{Monitor}
use Rattle.machine_spec.specs.Stores.{Variables}
use Rattle.target_records.specs.declared.monitors.MonitorRecord.{MonitorRecord}
use Rattle.target_records.specs.Records.{monitor_in}
use Rattle.variables.specs.First.{stores_of}
use Rattle.variables.specs.Parts.{AreStores}
use Rattle.variables.proofs.Apart.{IsDistinct-first}
use Rattle.variables.proofs.Short.{short-first}
use Rattle.variables.proofs.state.Variables.open.Goals as goal

visible-seen : (ms : List MonitorRecord) → map (λ m. m.visible) ms ≡ map (λ m. m.visible) (map monitor_in ms)
visible-seen [] = refl
visible-seen (m ∷ ms) = ap (λ (l : List Bool). m.visible ∷ l) (visible-seen ms)

pub rebuild-requires : goal.rebuild-requires
rebuild-requires c =
    let P : List Store → Type 0 = λ l. AreStores l in
    subst P (sym (c.from_vec.ensures ∙ c.in_ok-stores.ensures))
    (record { distinct = IsDistinct-first c.all_targets.result.now; short = short-first c.all_targets.result.now c.all_targets.ensures.short })

pub returns : goal.returns
returns c =
    c.rebuild.ensures
    ∙ ap (λ (ms : List Made). let v : Variables = record { stores = c.from_vec.result; file_monitors = c.in_ok-file_monitors.file_monitors; made = ms } in v) c.new.ensures
    ∙ ap₂ (λ (ss : List Store) (ts : List Bool). let v : Variables = record { stores = ss; file_monitors = ts; made = [] } in v)
    (c.from_vec.ensures ∙ c.in_ok-stores.ensures ∙ ap stores_of c.all_targets.ensures.all)
    (c.in_ok-file_monitors.ensures ∙ visible-seen c.monitors.result.now ∙ ap (λ (l : List Monitor). map (λ m. m.visible) l) c.monitors.ensures)
