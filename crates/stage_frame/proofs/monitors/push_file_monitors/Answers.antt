use Rattle.std.proofs.Common.{◌≡◌, ◌++◌, map, refl, sym, ap, ◌∙◌, arith}
use Rattle.std.specs.Prelude.{slice_get, unwrap_or}
use Rattle.machine_spec.specs.FrameText.{monitor_lines}
use Rattle.target_records.specs.Records.{monitor_in, records_in}
use Rattle.stage_frame.specs.declared.watches.Watch.TheVariants.{Nothing}
use Rattle.stage_frame.specs.Found.{found_lines, watch_of}
use Rattle.stage_frame.specs.Seen.{seen_stage}
use Rattle.stage_frame.proofs.FoundLines.{lines_found, watch_here}
use Rattle.stage_frame.proofs.Turns.{pairs_more}
use Rattle.stage_frame.proofs.monitors.push_file_monitors.Goals as goal

pub loop-place-preserved : goal.loop-place-preserved
loop-place-preserved c =
    let records = records_in c.args.records.now in
    let s = seen_stage c.args.view.now in
    let ms = c.as_slice-monitors.result.now in
    let place = c.loop-place.place in
    let m = c.index-monitors-place.result in
    let visible = c.is_visible-visible.result in
    let old = c.loop-place.out.items in
    let all : map monitor_in ms ≡ records.monitors = ap (map monitor_in) c.as_slice-monitors.ensures ∙ c.monitors.ensures in
    let here : c.watch_at-watch.result ≡ watch_of records (monitor_in m) =
    c.watch_at-watch.ensures
    ∙ ap (λ ws. unwrap_or (slice_get ws place) Nothing) (c.requires ∙ ap (map (watch_of records)) (sym all))
    ∙ watch_here (watch_of records) monitor_in ms place m Nothing (omega arith) c.index-monitors-place.is in
    pairs_more (monitor_lines records s) monitor_in ms c.as_slice-shown.result.now place m visible
    old c.push_if_visible.new.out.items (λ y. refl) (omega arith) c.index-monitors-place.is c.is_visible-visible.ensures
    (c.in_ok-push_if_visible.ensures
    ∙ ap (λ w. old ++ found_lines w records s (monitor_in m, visible)) here
    ∙ ap (λ u. old ++ u) (lines_found records s (monitor_in m) visible))
    ∙ c.loop-place.invariant
