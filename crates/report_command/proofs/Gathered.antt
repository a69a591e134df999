-- The names of unknown blocks, gathered target by target, and how small a document is.
use Rattle.std.proofs.Common.{◌≡◌, ℕ, ◌+◌, ◌<◌, ◌≤◌, ◌^◌, Bool, List, [], ◌∷◌, ◌++◌, length, map, take, get_or, Option, None, Some, refl, sym, ap, ◌∙◌, subst, arith, append_assoc, append-nil}
use Rattle.std.specs.Prelude.{codes, unwrap_or, IfSome}
use Rattle.std.proofs.lemmas.List.{take_more, map_push, take_all}
use Rattle.project_json.specs.Tree.{Tree, null, truth, number, text, list, object, trees_of, field_list}
use Rattle.project_json.specs.Parts.{member_of, members_in, items_in}
use Rattle.project_json.specs.Size.{size_of, items_size}
use Rattle.project_json.specs.View.{tree}
use Rattle.project_json.specs.declared.json.Json.{Json}
use Rattle.json_shapes.specs.Shapes.{◌>>=◌, found, members, items}
use Rattle.target_records.proofs.Sizes.{document-size, item-size}
use Rattle.project_spec.specs.declared.blocks.Block.{Block}
use Rattle.project_check.proofs.Room.{few_members}
use Rattle.block_table.specs.Table.{IsSmall}
use Rattle.block_checks.specs.Kept.{AreChecked}
use Rattle.block_checks.proofs.Lists.{zip_push, zip_length}
use Rattle.report_command.specs.Places.{items_at, targets_in}
use Rattle.report_command.specs.Unknown.{unknown_names, all_unknown, AreUnknown, blocks_of, tables_in}
use Rattle.report_command.specs.UnknownStages.{IsSmallTarget, IsSmallDocument, AddsUnknown}

-- One more target

all_unknown_push : (tables : List (List Block)) (flags : List (List Bool)) (t : List Block) (f : List Bool) → length tables ≡ length flags → all_unknown (tables ++ t ∷ []) (flags ++ f ∷ []) ≡ all_unknown tables flags ++ unknown_names t f
all_unknown_push [] [] t f n = append-nil (unknown_names t f)
all_unknown_push [] (g ∷ flags) t f n = absurd (omega (arith, n))
all_unknown_push (s ∷ tables) [] t f n = absurd (omega (arith, n))
all_unknown_push (s ∷ tables) (g ∷ flags) t f n =
    ap (λ l. unknown_names s g ++ l) (all_unknown_push tables flags t f (omega (arith, n)))
    ∙ sym (append_assoc (unknown_names s g) (all_unknown tables flags) (unknown_names t f))

more_unknown : (tables : List (List Block)) (names new : List (List ℕ)) (blocks : List Block) → AreUnknown tables names → AddsUnknown names blocks new → AreUnknown (tables ++ blocks ∷ []) new
more_unknown tables names new blocks u a = record {
  flags = u.flags ++ a.flags ∷ [];
  checked = zip_push AreChecked tables u.flags blocks a.flags u.checked a.checked;
  is = a.is ∙ ap (λ l. l ++ unknown_names blocks a.flags) u.is ∙ sym (all_unknown_push tables u.flags blocks a.flags (zip_length AreChecked tables u.flags u.checked));
}

-- the targets of a document, as they are read
abbrev blocks_in : Json → List Block
blocks_in j = blocks_of (tree j)

pub one_target : (targets : List Json) (i : ℕ) (x : Json) (names new : List (List ℕ)) → i < length targets → x ≡ get_or targets i x → AreUnknown (map (λ j. blocks_of (tree j)) (take i targets)) names
    → AddsUnknown names (blocks_of (tree x)) new → AreUnknown (map (λ j. blocks_of (tree j)) (take (i + 1) targets)) new
one_target targets i x names new h is u a =
    subst (λ tables. AreUnknown tables new)
    (sym (ap (map blocks_in) (take_more targets i x h) ∙ map_push blocks_in (take i targets) (get_or targets i x) ∙ ap (λ y. map blocks_in (take i targets) ++ blocks_in y ∷ []) (sym is)))
    (more_unknown (map blocks_in (take i targets)) names new (blocks_of (tree x)) u a)

map_tree : (targets : List Json) → map (λ j. blocks_of (tree j)) targets ≡ map blocks_of (map tree targets)
map_tree [] = refl
map_tree (j ∷ targets) = ap (λ l. blocks_of (tree j) ∷ l) (map_tree targets)

pub no_target : AreUnknown [] []
no_target = record { flags = []; checked = tt; is = refl }

pub every_target : (document : Option Tree) (targets : List Json) (n : ℕ) (names : List (List ℕ)) → map tree targets ≡ targets_in document → length targets ≤ n → AreUnknown (map (λ j. blocks_of (tree j)) (take n targets)) names → AreUnknown (tables_in document) names
every_target document targets n names e h u =
    subst (λ tables. AreUnknown tables names) (ap (map blocks_in) (take_all n targets h) ∙ map_tree targets ∙ ap (map blocks_of) e) u

-- How small a document is

few_by : (t b : Tree) (n : ℕ) → member_of t (codes "blocks") ≡ Some b → size_of t < n → (o : Option (List (List ℕ × Tree))) → members_in b ≡ o → IfSome o (λ ms. length ms < n)
few_by t b n e h None m = tt
few_by null b n e h (Some ms) m = absurd (let x = e in cc)
few_by (truth x) b n e h (Some ms) m = absurd (let x = e in cc)
few_by (number x) b n e h (Some ms) m = absurd (let x = e in cc)
few_by (text x) b n e h (Some ms) m = absurd (let x = e in cc)
few_by (list x) b n e h (Some ms) m = absurd (let x = e in cc)
few_by (object fs) b n e h (Some ms) m =
    let le = few_members [] (object fs) (field_list fs) ms refl (ap (λ o. found (codes "blocks" ∷ []) o >>= members (codes "blocks" ∷ [])) e ∙ ap (found (codes "blocks" ∷ [])) m) in
    omega (arith, le, h)

small_by : (t : Tree) → size_of t < 2 ^ 32 → (o : Option Tree) → member_of t (codes "blocks") ≡ o → IfSome o IsSmall
small_by t h None e = tt
small_by t h (Some b) e = few_by t b (2 ^ 32) e h (members_in b) refl

small_target : (t : Tree) → size_of t < 2 ^ 32 → IsSmallTarget t
small_target t h = small_by t h (member_of t (codes "blocks")) refl

items_by : (t v : Tree) → member_of t (codes "targets") ≡ Some v → size_of t < 2 ^ 32 → (o : Option (List Tree)) → items_in v ≡ o → items_size (trees_of (unwrap_or o [])) < 2 ^ 32
items_by t v e h None m = omega arith
items_by null v e h (Some ts) m = absurd (let x = e in cc)
items_by (truth x) v e h (Some ts) m = absurd (let x = e in cc)
items_by (number x) v e h (Some ts) m = absurd (let x = e in cc)
items_by (text x) v e h (Some ts) m = absurd (let x = e in cc)
items_by (list x) v e h (Some ts) m = absurd (let x = e in cc)
items_by (object fs) v e h (Some ts) m =
    document-size (codes "targets") [] (object fs) (field_list fs) ts refl (ap (λ o. found (codes "targets" ∷ []) o >>= items (codes "targets" ∷ [])) e ∙ ap (found (codes "targets" ∷ [])) m) h

found_by : (t : Tree) → size_of t < 2 ^ 32 → (o : Option Tree) → member_of t (codes "targets") ≡ o → items_size (trees_of (items_at o)) < 2 ^ 32
found_by t h None e = omega arith
found_by t h (Some v) e = items_by t v e h (items_in v) refl

few_targets : (document : Option Tree) → IsSmallDocument document → items_size (trees_of (targets_in document)) < 2 ^ 32
few_targets None h = omega arith
few_targets (Some t) h = found_by t h (member_of t (codes "targets")) refl

pub each_small : (document : Option Tree) (targets : List Json) (i : ℕ) (x : Json) → map tree targets ≡ targets_in document → IsSmallDocument document → i < length targets → x ≡ get_or targets i x → IsSmallTarget (tree x)
each_small document targets i x e small h is =
    let all = few_targets document small in
    let same = ap (λ ts. items_size (trees_of ts)) e in
    let one = item-size tree targets i x h is in
    small_target (tree x) (omega arith)
