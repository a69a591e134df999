use Rattle.std.proofs.Common.{◌≡◌, ◌<◌, cond, length, map, string_bytes, Some, None, sym, ap, ◌∙◌, arith}
use Rattle.std.specs.Str.{bytes_eq}
use Rattle.std.specs.BTreeMap.{get_by_text}
use Rattle.std.proofs.lemmas.List.{length-map}
use Rattle.std.proofs.lemmas.Map.Text.{btree_map_updates_text}
use Rattle.project_json.specs.View.{tree, field}
use Rattle.project_json.specs.Places.{place_of}
use Rattle.project_json.proofs.Put.{place_of-bound, put-set, put-push, place_of-set, place_of-push, place_of-found, map-set_value, map-push_member}
use Rattle.project_json.proofs.member_list.MemberList.put.Goals as goal

pub index_mut-requires : goal.index_mut-requires
index_mut-requires c =
    let ms = c.args.self.members.items in
    let at = place_of-found c.args.self.places (map field ms) c.args.self.indexed c.args.name c.as_str.result.now (Some c.in-Some.place) c.as_str.ensures (sym c.get.ensures.value ∙ sym c.copied.ensures ∙ c.in-Some.is) in
    omega (arith, place_of-bound c.args.name (map field ms) c.in-Some.place at, length-map ms field, c.args.self.members.ok.0)

pub returns-in-Some : goal.returns-in-Some
returns-in-Some c =
    let ms = c.args.self.members.items in
    let i = c.in-Some.place in
    let m = c.index_mut.result.now in
    let at = place_of-found c.args.self.places (map field ms) c.args.self.indexed c.args.name c.as_str.result.now (Some i) c.as_str.ensures (sym c.get.ensures.value ∙ sym c.copied.ensures ∙ c.in-Some.is) in
    let within : i < length ms = omega (arith, place_of-bound c.args.name (map field ms) i at, length-map ms field) in
    map-set_value ms i m c.set_value.new.self (tree c.args.value) within c.index_mut.ensures.value c.set_value.ensures ∙ sym (put-set c.args.name (tree c.args.value) (map field ms) i (field m) at)

pub invariant_of-result : goal.invariant_of-result
invariant_of-result c =
    let ms = c.args.self.members.items in
    let i = c.in-Some.place in
    let m = c.index_mut.result.now in
    let at = place_of-found c.args.self.places (map field ms) c.args.self.indexed c.args.name c.as_str.result.now (Some i) c.as_str.ensures (sym c.get.ensures.value ∙ sym c.copied.ensures ∙ c.in-Some.is) in
    let within : i < length ms = omega (arith, place_of-bound c.args.name (map field ms) i at, length-map ms field) in
    let is = map-set_value ms i m c.set_value.new.self (tree c.args.value) within c.index_mut.ensures.value c.set_value.ensures in
    record { indexed = λ q. c.args.self.indexed q ∙ sym (place_of-set q (map field ms) i (field m) (tree c.args.value)) ∙ ap (place_of q) (sym is) }

pub returns-in_ok-push-in-None : goal.returns-in_ok-push-in-None
returns-in_ok-push-in-None c =
    let ms = c.args.self.members.items in
    let at = place_of-found c.args.self.places (map field ms) c.args.self.indexed c.args.name c.as_str.result.now None c.as_str.ensures (sym c.get.ensures.value ∙ sym c.copied.ensures ∙ c.in-None.is) in
    ap (map field) c.in_ok-push-in-None.ensures.items
    ∙ map-push_member ms c.new.result (c.args.name, tree c.args.value) c.new.ensures
    ∙ sym (put-push c.args.name (tree c.args.value) (map field ms) at)

pub invariant_of-result-in-None : goal.invariant_of-result-in-None
invariant_of-result-in-None c =
    let places = c.args.self.places in
    let ms = c.args.self.members.items in
    let t = tree c.args.value in
    let at = place_of-found places (map field ms) c.args.self.indexed c.args.name c.as_str.result.now None c.as_str.ensures (sym c.get.ensures.value ∙ sym c.copied.ensures ∙ c.in-None.is) in
    let key : string_bytes c.in_ok-key-in-None.key ≡ c.args.name = c.in_ok-key-in-None.ensures.ok ∙ c.as_str-in-None.ensures in
    let len : c.len.result ≡ length (map field ms) = omega (arith, c.len.ensures, length-map ms field, c.args.self.members.ok.0) in
    record {
      indexed = λ q.
          btree_map_updates_text (string_bytes c.in_ok-key-in-None.key) places c.insert.new.self (Some c.len.result) c.in_ok-insert-in-None.ensures.updates q
          ∙ ap (λ bs. cond (bytes_eq bs q) (Some c.len.result) (get_by_text places q)) key
          ∙ ap (λ k. cond (bytes_eq c.args.name q) (Some k) (get_by_text places q)) len
          ∙ ap (cond (bytes_eq c.args.name q) (Some (length (map field ms)))) (c.args.self.indexed q)
          ∙ sym (place_of-push q c.args.name t (map field ms) at)
          ∙ ap (place_of q) (sym (ap (map field) c.in_ok-push-in-None.ensures.items ∙ map-push_member ms c.new.result (c.args.name, t) c.new.ensures));
    }
