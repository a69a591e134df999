-- What targets have as they are read.
use Rattle.std.proofs.Common.{◌≡◌, ℕ, ◌<◌, ◌^◌, Bool, true, false, List, [], ◌∷◌, length, refl, arith}
use Rattle.std.specs.Prelude.{codes, pos, negsuc, Ok}
use Rattle.project_json.specs.Tree.{Tree, null, truth, number, text, list, object}
use Rattle.scratch_number.specs.declared.number.Num.{Num}
use Rattle.scratch_number.specs.Number.{IsWithin}
use Rattle.scratch_number.specs.Reading.{number_of}
use Rattle.scratch_values.specs.Casts.{zero_number}
use Rattle.scratch_values.proofs.Numbers.{IsWithin-number_of}
use Rattle.json_shapes.specs.Shapes as shape
use Rattle.json_shapes.specs.Shapes.{◌>>=◌}
use Rattle.machine_spec.specs.declared.records.VariableRecord.{VariableRecord}
use Rattle.machine_spec.specs.declared.records.ListRecord.{ListRecord}
use Rattle.machine_spec.specs.declared.records.TargetRecord.{TargetRecord}
use Rattle.machine_spec.specs.declared.instance.Style.TheVariants.{AllAround}
use Rattle.project_spec.specs.Values.{num, value}
use Rattle.project_spec.specs.Targets.{Look, hundred, ninety, look_by, look_of, style_of, variable_of, values_of, list_of, costume_of, not_empty, costumes_of, target_members, target_of}
use Rattle.laws_of_threads.specs.Lists.{Each}
use Rattle.laws_of_threads.specs.Playable.{IsSize, IsDirection, IsAsTheStage}
use Rattle.laws_of_turns.specs.Within.{IsValueWithin, IsTargetWithin}
use Rattle.laws_of_programs.proofs.Readers.{Gives, Anything, gives_any, goes_on, goes_any, gives_more, each_all, required_gives, defaulted_gives, required_item_gives, each_gives, each_member_gives}
use Rattle.laws_of_programs.proofs.Finite.{IsOne, one_of}
use Rattle.laws_of_programs.proofs.LooksHeld.{size_is_kept, direction_is_kept, costume_is_there, between_within}
use Rattle.laws_of_programs.proofs.TreesTold.{IsTold, items_told, members_told, digits_told}

-- Values

pub num_within : (at : List (List ℕ)) (t : Tree) → Gives IsWithin (num at t)
num_within at t = goes_any IsWithin (shape.digits at t) (λ ds. Ok (number_of ds)) (λ ds. IsWithin-number_of ds)

num_one : (b : ℕ) (at : List (List ℕ)) (t : Tree) → IsTold b t → Gives (λ n. IsWithin n × IsOne n) (num at t)
num_one b at t h = goes_on _ (λ n. IsWithin n × IsOne n) (shape.digits at t) (λ ds. Ok (number_of ds)) (digits_told b at t h) (λ ds g. (IsWithin-number_of ds, one_of ds g))

pub value_within : (at : List (List ℕ)) (t : Tree) → Gives IsValueWithin (value at t)
value_within at null = omega arith
value_within at (truth b) = tt
value_within at (number ds) = IsWithin-number_of ds
value_within at (text t) = tt
value_within at (list ts) = tt
value_within at (object ms) = tt

pub value_at_within : (i : ℕ) (at : List (List ℕ)) (ts : List Tree) → Gives IsValueWithin (shape.required_item value i at ts)
value_at_within i at ts = required_item_gives Anything IsValueWithin value (λ place t h. value_within place t) i at ts (each_all Anything ts (λ t. tt))

abbrev IsVariableWithin : VariableRecord → Type 0
IsVariableWithin v = IsValueWithin v.value

abbrev IsListWithin : ListRecord → Type 0
IsListWithin l = Each IsValueWithin l.items

variable_within : (at : List (List ℕ)) (m : List ℕ × Tree) → Gives IsVariableWithin (variable_of at m)
variable_within at (id, t) =
    goes_any IsVariableWithin (shape.items (id ∷ at) t) _ (λ ts.
    goes_any IsVariableWithin (shape.required_item shape.text 0 (id ∷ at) ts) _ (λ name.
    goes_on IsValueWithin IsVariableWithin (shape.required_item value 1 (id ∷ at) ts) _ (value_at_within 1 (id ∷ at) ts) (λ v h. h)))

values_within : (at : List (List ℕ)) (t : Tree) → Gives (Each IsValueWithin) (values_of at t)
values_within at t =
    goes_any (Each IsValueWithin) (shape.items at t) _ (λ ts.
    gives_more (λ vs. Each IsValueWithin vs × (length vs ≡ length ts)) (Each IsValueWithin) _ (each_gives Anything IsValueWithin value (λ place u h. value_within place u) at ts (each_all Anything ts (λ u. tt))) (λ vs h. h.0))

list_within : (at : List (List ℕ)) (m : List ℕ × Tree) → Gives IsListWithin (list_of at m)
list_within at (id, t) =
    goes_any IsListWithin (shape.items (id ∷ at) t) _ (λ ts.
    goes_any IsListWithin (shape.required_item shape.text 0 (id ∷ at) ts) _ (λ name.
    goes_on (Each IsValueWithin) IsListWithin (shape.required_item values_of 1 (id ∷ at) ts) _ (required_item_gives Anything (Each IsValueWithin) values_of (λ place u h. values_within place u) 1 (id ∷ at) ts (each_all Anything ts (λ u. tt))) (λ v h. h)))

-- Costumes

costumes_few : (b : ℕ) (at : List (List ℕ)) (t : Tree) → IsTold b t → Gives (λ cs. (0 < length cs) × (length cs < b)) (costumes_of at t)
costumes_few b at t h =
    goes_on (λ ts. (0 < length ts) × (length ts < b)) (λ cs. (0 < length cs) × (length cs < b)) (shape.items at t >>= not_empty at) _
    (goes_on _ (λ ts. (0 < length ts) × (length ts < b)) (shape.items at t) (not_empty at) (items_told b at t h) (some_items at))
    (λ ts g. gives_more (λ cs. Each Anything cs × (length cs ≡ length ts)) (λ cs. (0 < length cs) × (length cs < b)) _ (each_gives Anything Anything costume_of (λ place u k. gives_any (costume_of place u)) at ts (each_all Anything ts (λ u. tt))) (λ cs k. (omega arith, omega arith)))
  where
    some_items : (at : List (List ℕ)) (ts : List Tree) → Each (IsTold b) ts × (length ts < b) → Gives (λ ts. (0 < length ts) × (length ts < b)) (not_empty at ts)
    some_items at [] k = tt
    some_items at (u ∷ us) k = (omega arith, k.1)

-- Looks

record IsLook (look : Look) : Type 0 where
  x : IsWithin look.x
  y : IsWithin look.y
  size : IsOne look.size

look_told : (b : ℕ) (at : List (List ℕ)) (ms : List (List ℕ × Tree)) → Each (λ m. IsTold b m.1) ms → Gives IsLook (look_of at ms)
look_told b at ms h =
    goes_any IsLook (shape.defaulted shape.truth true (codes "visible") at ms) _ (λ visible.
    goes_on IsWithin IsLook (shape.defaulted num zero_number (codes "x") at ms) _ (number_at zero_number (codes "x") (omega arith)) (λ x is_x.
    goes_on IsWithin IsLook (shape.defaulted num zero_number (codes "y") at ms) _ (number_at zero_number (codes "y") (omega arith)) (λ y is_y.
    goes_on (λ n. IsWithin n × IsOne n) IsLook (shape.defaulted num hundred (codes "size") at ms) _ (defaulted_gives (IsTold b) (λ n. IsWithin n × IsOne n) num (num_one b) hundred (codes "size") at ms h (omega arith, tt)) (λ size is_size.
    goes_any IsLook (shape.defaulted num ninety (codes "direction") at ms) _ (λ direction.
    record { x = is_x; y = is_y; size = is_size.1 })))))
  where
    number_at : (default : Num) (name : List ℕ) → IsWithin default → Gives IsWithin (shape.defaulted num default name at ms)
    number_at default name d = defaulted_gives (IsTold b) IsWithin num (λ place t k. num_within place t) default name at ms h d

record IsSeen (is_stage : Bool) (look : Look) : Type 0 where
  x : IsWithin look.x
  y : IsWithin look.y
  size : IsSize look.size
  direction : IsDirection look.direction
  stage : is_stage ≡ true → IsAsTheStage look.x look.y look.size look.direction look.visible

seen : (is_stage : Bool) (look : Look) → IsLook look → IsSeen is_stage (look_by is_stage look)
seen true look h = record {
  x = omega arith;
  y = omega arith;
  size = (refl, refl);
  direction = (refl, refl);
  stage = λ e. record { x_is = (refl, refl); y_is = (refl, refl); size_is = (refl, refl); direction_is = (refl, refl); visible_is = refl };
}
seen false look h = record {
  x = h.x;
  y = h.y;
  size = size_is_kept look.size h.size;
  direction = direction_is_kept look.direction ninety (refl, refl);
  stage = λ e. absurd (cc e);
}

-- Targets

-- a target as it is read
pub record IsRead (r : TargetRecord) : Type 0 where
  pub costume : r.costume < length r.costumes
  pub few : length r.costumes < 2 ^ 32
  pub size : IsSize r.size
  pub direction : IsDirection r.direction
  pub stage : r.is_stage ≡ true → IsAsTheStage r.x r.y r.size r.direction r.visible
  pub within : IsTargetWithin r

module _ (at : List (List ℕ)) (ms : List (List ℕ × Tree)) (h : Each (λ m. IsTold (2 ^ 32) m.1) ms) where
  variables_read : Gives (Each IsVariableWithin) (shape.defaulted shape.members [] (codes "variables") at ms >>= shape.each_member variable_of (codes "variables" ∷ at))
  variables_read =
      goes_any (Each IsVariableWithin) (shape.defaulted shape.members [] (codes "variables") at ms) (shape.each_member variable_of (codes "variables" ∷ at)) (λ xs.
      gives_more (λ vs. Each IsVariableWithin vs × (length vs ≡ length xs)) (Each IsVariableWithin) _ (each_member_gives Anything IsVariableWithin variable_of (codes "variables" ∷ at) xs (λ place m k. variable_within place m) (each_all Anything xs (λ m. tt))) (λ vs k. k.0))

  lists_read : Gives (Each IsListWithin) (shape.defaulted shape.members [] (codes "lists") at ms >>= shape.each_member list_of (codes "lists" ∷ at))
  lists_read =
      goes_any (Each IsListWithin) (shape.defaulted shape.members [] (codes "lists") at ms) (shape.each_member list_of (codes "lists" ∷ at)) (λ xs.
      gives_more (λ vs. Each IsListWithin vs × (length vs ≡ length xs)) (Each IsListWithin) _ (each_member_gives Anything IsListWithin list_of (codes "lists" ∷ at) xs (λ place m k. list_within place m) (each_all Anything xs (λ m. tt))) (λ vs k. k.0))

  pub members_read : Gives IsRead (target_members at ms)
  members_read =
      goes_any IsRead (shape.required shape.truth (codes "isStage") at ms) _ (λ is_stage.
      goes_any IsRead (shape.required shape.text (codes "name") at ms) _ (λ name.
      goes_on (Each IsVariableWithin) IsRead _ _ variables_read (λ variables are_v.
      goes_on (Each IsListWithin) IsRead _ _ lists_read (λ lists are_l.
      goes_on (λ cs. (0 < length cs) × (length cs < 2 ^ 32)) IsRead (shape.required costumes_of (codes "costumes") at ms) _ (required_gives (IsTold (2 ^ 32)) (λ cs. (0 < length cs) × (length cs < 2 ^ 32)) costumes_of (costumes_few (2 ^ 32)) (codes "costumes") at ms h) (λ costumes are_c.
      goes_any IsRead (shape.defaulted num zero_number (codes "currentCostume") at ms) _ (λ costume.
      goes_any IsRead (shape.defaulted num zero_number (codes "layerOrder") at ms) _ (λ layer_order.
      goes_on IsWithin IsRead (shape.defaulted num hundred (codes "volume") at ms) _ (defaulted_gives (IsTold (2 ^ 32)) IsWithin num (λ place t k. num_within place t) hundred (codes "volume") at ms h (omega arith)) (λ volume is_v.
      goes_on IsLook IsRead (look_of at ms) _ (look_told (2 ^ 32) at ms h) (λ look is_l.
      goes_any IsRead (shape.defaulted style_of AllAround (codes "rotationStyle") at ms) _ (λ style.
      let s : IsSeen is_stage (look_by is_stage look) = seen is_stage look is_l in
      record {
        costume = costume_is_there (length costumes) costume are_c.0 are_c.1;
        few = are_c.1;
        size = s.size;
        direction = s.direction;
        stage = s.stage;
        within = record {
          x = s.x;
          y = s.y;
          direction = between_within (negsuc 178999999) (pos 180999999) (look_by is_stage look).direction (omega arith) (omega arith) s.direction;
          size = between_within (pos 0) (pos 10000000000) (look_by is_stage look).size (omega arith) (omega arith) s.size;
          volume = is_v;
          variables = are_v;
          lists = are_l;
        };
      }))))))))))

pub target_read : (at : List (List ℕ)) (t : Tree) → IsTold (2 ^ 32) t → Gives IsRead (target_of at t)
target_read at t h = goes_on _ IsRead (shape.members at t) (target_members at) (members_told (2 ^ 32) at t h) (members_read at)
