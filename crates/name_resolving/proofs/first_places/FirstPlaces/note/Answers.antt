use Rattle.std.proofs.Common.{◌≡◌, None, string_bytes, arith}
use Rattle.std.proofs.lemmas.Grind.{common_steps}
use Rattle.std.proofs.lemmas.Map.Text.{btree_map_updates_text}
use Rattle.std.proofs.lemmas.Result.{IfOk-at_ok}
use Rattle.name_resolving.specs.FirstPlaces.{place_of}
use Rattle.name_resolving.proofs.Firsts.{notes_new}
use Rattle.name_resolving.proofs.first_places.FirstPlaces.note.Goals as goal

-- the text had no place, and the key is a copy of it
pub returns : goal.returns
returns c =
    let is_text = IfOk-at_ok (λ s. string_bytes s ≡ c.args.text.now) c.in_ok-key.was c.from_str.ensures.ok in
    let absent : place_of c.args.self.now c.args.text.now ≡ None = grind (arith, common_steps) in
    let sets = btree_map_updates_text (string_bytes c.in_ok-key.key) c.args.self.now.places c.insert.new.self _ c.in_ok-insert.ensures.updates in
    notes_new c.args.self.now (record { places = c.insert.new.self }) c.args.text.now c.args.place absent (rw is_text at sets)
