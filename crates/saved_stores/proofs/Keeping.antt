-- What the rules say of the parts of a run that breaks none of them.
use Rattle.std.proofs.Common.{◌≡◌, ◌<◌, ◌^◌, Bool, true, false, ◌&&◌, List, [], ◌∷◌, map, length, Some, None, refl, sym, ap, ◌∙◌, subst}
use Rattle.std.specs.Prelude.{nat_le, not, find, option_map, unsigned_abs, if◌then◌else◌}
use Rattle.std.specs.List.{All, list_all}
use Rattle.std.proofs.lemmas.List.Elements.{All-nil, All-cons}
use Rattle.scratch_values.specs.declared.value.Value.{Value}
use Rattle.machine_spec.specs.declared.variables.Store.{Store}
use Rattle.variables.specs.Kept.{IsShort, HasShortLists}
use Rattle.variables.specs.Distinct.{numbers}
use Rattle.variables.specs.Parts.{AreStores}
use Rattle.project_check.specs.declared.project.Project.{Project}
use Rattle.saved_parts.specs.declared.instances.ToldInstance.{ToldInstance}
use Rattle.saved_parts.specs.declared.run.ToldMade.{ToldMade}
use Rattle.saved_parts.specs.declared.run.ToldQuestion.{ToldQuestion}
use Rattle.saved_parts.specs.declared.run.ToldRun.{ToldRun}
use Rattle.saved_parts.specs.Telling.{instance_of, store_of, made_of, question_of, told_of}
use Rattle.project_spec.specs.Basis.{Basis, records_of}
use Rattle.project_check.specs.Loaded.{basis_of}
use Rattle.saved_spec.specs.RunShapes.{Told, stores_in_order}
use Rattle.saved_spec.specs.Rules.{Rule, rules, broken, differ, is_next, is_shown, is_value_text, has_short_texts, mouse_is_on_stage, next_are_counted, made_monitors_show, clones_are_sprites, costumes_are_there, lists_are_short, answer_is_short, instances_say_little, questions_are_short, edges_are_hats}
use Rattle.saved_stores.specs.Held.{AreDevices, AreHeld, is_of}
use Rattle.saved_stores.specs.Stores.{parts_of, KeepRules}
use Rattle.saved_stores.specs.declared.told_parts.ToldStores.{ToldStores}
use Rattle.saved_stores.proofs.Distinct.{all_order, distinct_order}
use Rattle.saved_stores.proofs.Fitting.{IsBounded, held_all}
use Rattle.saved_stores.proofs.Comparing.{both, below, at_most}

-- All rules hold

abbrev AllHold : List Rule → Type 0
AllHold [] = Unit {0}
AllHold (r ∷ rs) = (r.holds ≡ true) × AllHold rs

hold_if : (c : Bool) (r : Rule) (rs : List Rule) → r.holds ≡ c → option_map (λ r. r.member) (if not c then Some r else find (λ r. not r.holds) rs) ≡ None
    → (option_map (λ r. r.member) (find (λ r. not r.holds) rs) ≡ None → AllHold rs) → (r.holds ≡ true) × AllHold rs
hold_if true r rs e h more = (e, more h)
hold_if false r rs e h more = absurd (cc h)

hold : (rs : List Rule) → option_map (λ r. r.member) (find (λ r. not r.holds) rs) ≡ None → AllHold rs
hold [] h = tt
hold (r ∷ rs) h = hold_if r.holds r rs refl h (hold rs)

-- those of them that the stores need
record AreKept (b : Basis) (t : Told) : Type 0 where
  mouse : mouse_is_on_stage t ≡ true
  next : next_are_counted b t ≡ true
  made : made_monitors_show b t ≡ true
  clones : clones_are_sprites b t ≡ true
  costumes : costumes_are_there b t ≡ true
  short : lists_are_short t ≡ true
  answer : answer_is_short t ≡ true
  little : instances_say_little t ≡ true
  asked : questions_are_short t ≡ true
  hats : edges_are_hats b t ≡ true

kept_of : (b : Basis) (t : Told) → broken b t ≡ None → AreKept b t
unfolding rules
kept_of b t h =
    let a : AllHold (rules b t) = hold (rules b t) h in
    let from_next = a.1.1.1.1.1.1 in
    let from_clones = from_next.1.1.1.1.1 in
    let from_short = from_clones.1.1.1.1.1.1.1.1 in
    let from_hats = from_short.1.1.1.1.1.1.1 in
    record {
      mouse = a.1.1.0;
      next = from_next.0;
      made = from_next.1.0;
      clones = from_clones.0;
      costumes = from_clones.1.1.0;
      short = from_short.0;
      answer = from_short.1.0;
      little = from_short.1.1.0;
      asked = from_short.1.1.1.0;
      hats = from_hats.0;
    }

-- What they say

-- the numbers of stores are those of their instances
numbers_are : (is : List ToldInstance) → map (λ i. i.number) (map instance_of is) ≡ numbers (map store_of is)
numbers_are [] = refl
numbers_are (i ∷ is) = ap (λ ns. i.number ∷ ns) (numbers_are is)

all_made : (b : Basis) (ms : List ToldMade) → list_all (λ m. is_shown b m.what) (map made_of ms) ≡ list_all (is_of b) ms
all_made b [] = refl
all_made b (m ∷ ms) = ap (λ x. is_of b m && x) (all_made b ms)

all_asked : (qs : List ToldQuestion) → list_all (λ q. is_value_text q.text) (map question_of qs) ≡ list_all (λ q. is_value_text q.text) qs
all_asked [] = refl
all_asked (q ∷ qs) = ap (λ x. is_value_text q.text && x) (all_asked qs)

lists_short : (ls : List (List Value)) → list_all (λ items. nat_le (length items) 200000) ls ≡ true → All IsShort ls
lists_short [] h = All-nil IsShort
lists_short (l ∷ ls) h = let s = both (nat_le (length l) 200000) _ h in All-cons IsShort l ls (at_most _ _ s.0) (lists_short ls s.1)

stores_short : (ss : List Store) → list_all (λ s. list_all (λ items. nat_le (length items) 200000) s.lists) ss ≡ true → All HasShortLists ss
stores_short [] h = All-nil HasShortLists
stores_short (s ∷ ss) h = let a = both (list_all (λ items. nat_le (length items) 200000) s.lists) _ h in All-cons HasShortLists s ss (lists_short s.lists a.0) (stores_short ss a.1)

module _ (p : Project) (bounds : IsBounded p) (r : ToldRun) (k : AreKept (basis_of p) (told_of r)) where
  stores_are : AreStores (stores_in_order (map store_of r.instances))
  stores_are = record {
    distinct = distinct_order (map store_of r.instances) (ap differ (sym (numbers_are r.instances)) ∙ (both (list_all _ (told_of r).run.targets) (differ (map (λ i. i.number) (told_of r).run.targets)) k.clones).1);
    short = stores_short _ k.short;
  }

  usage_fits : r.next.usage < 2 ^ 62
  usage_fits =
      let a = both (is_next r.next.thread && is_next r.next.instance && is_next r.next.usage) (nat_le (length (records_of (basis_of p)).targets) r.next.instance) k.next in
      below _ _ (both (is_next r.next.thread && is_next r.next.instance) (is_next r.next.usage) a.0).1

  devices_are : AreDevices (parts_of r).devices
  devices_are = record {
    across = at_most _ _ (both (nat_le (unsigned_abs r.mouse.x) 240) _ k.mouse).0;
    up = at_most _ _ (both (nat_le (unsigned_abs r.mouse.x) 240) _ k.mouse).1;
    answered = k.answer;
    asked = sym (all_asked r.questions) ∙ k.asked;
    counted = usage_fits;
  }

  are_held : AreHeld (basis_of p) (parts_of r)
  are_held =
      let little = both (list_all _ (told_of r).run.targets) (list_all has_short_texts (stores_in_order (map store_of r.instances))) k.little in
      record {
        instances = held_all p bounds (told_of r) r.instances (both (list_all _ (told_of r).run.targets) _ k.clones).0 k.costumes little.0 k.hats (sym (all_order has_short_texts (map store_of r.instances)) ∙ little.1);
        stores = stores_are;
        made = sym (all_made (basis_of p) r.made) ∙ k.made;
        devices = devices_are;
      }

pub rules_hold : (p : Project) (s : ToldStores) → IsBounded p → KeepRules (basis_of p) s → AreHeld (basis_of p) s
rules_hold p s bounds h = subst (AreHeld (basis_of p)) (sym h.1) (are_held p bounds h.0 (kept_of (basis_of p) (told_of h.0) h.2))
