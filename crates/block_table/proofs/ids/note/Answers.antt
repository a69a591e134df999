use Rattle.std.proofs.Common.{◌∙◌, sym, ap, Some, string_bytes}
use Rattle.std.specs.Str.{bytes_eq}
use Rattle.std.specs.HashMap.{get_by_text}
use Rattle.std.specs.Map.{update}
use Rattle.std.proofs.lemmas.Map.Text.{hash_map_updates_text}
use Rattle.block_table.proofs.Noting.{noted-absent}
use Rattle.block_table.proofs.ids.note.Goals as goal

pub returns-in_ok-insert-in-None : goal.returns-in_ok-insert-in-None
returns-in_ok-insert-in-None c = λ other.
    hash_map_updates_text (string_bytes c.in_ok-key-in-None.key) c.args.places.now c.insert.new.self (Some c.args.place) c.in_ok-insert-in-None.ensures.updates other
    ∙ ap (λ bs. update bytes_eq (get_by_text c.args.places.now) bs (Some c.args.place) other) c.in_ok-key-in-None.ensures.ok
    ∙ noted-absent (get_by_text c.args.places.now) c.args.id.now c.args.place (sym c.in-None.ensures.value) other
