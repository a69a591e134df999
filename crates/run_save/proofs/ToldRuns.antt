-- What the text of the world tells that a saved run tells.
use Rattle.std.proofs.Common.{◌≡◌, ℕ, Bool, true, false, List, [], ◌∷◌, map, filter_map, Option, Some, None, bytes_eq, ◌&&◌, refl, ap, ◌∙◌}
use Rattle.std.specs.List.{list_all, cons_option}
use Rattle.std.specs.Option.{option_map_or}
use Rattle.std.proofs.lemmas.Slice.Eq.{bytes_eq-Decides}
use Rattle.hex.specs.Hex.{encode_lower}
use Rattle.machine_spec.specs.declared.devices.Key.{Key}
use Rattle.machine_spec.specs.Line.{key_name}
use Rattle.machine_spec.specs.ScriptText.{key_of_rest}
use Rattle.saved_parts.specs.Telling.{told_of}
use Rattle.saved_parts.specs.declared.run.ToldRun.{ToldRun}
use Rattle.project_spec.specs.Basis.{Basis}
use Rattle.saved_spec.specs.Kept.{SavedThread, thread_told}
use Rattle.saved_spec.specs.Legal.{told}
use Rattle.saved_spec.specs.Rules.{is_key_name}
use Rattle.saved_spec.specs.RunShapes.{Told}
use Rattle.saved_spec.specs.Saved.{snapshot}
use Rattle.saved_spec.specs.Worlds.{task_told, world_told}
use Rattle.run_save.specs.Worlds.{AllTold}

-- keys by their names

both : (a b : Bool) → (a && b) ≡ true → (a ≡ true) × (b ≡ true)
both true b h = (refl, h)
both false b h = absurd (cc h)

named_by : (t : List ℕ) (o : Option Key) → option_map_or (λ k. bytes_eq (key_name k) t) o false ≡ true → (ks : List Key) (ts : List (List ℕ)) → map key_name ks ≡ ts → map key_name (cons_option o ks) ≡ t ∷ ts
named_by t None h ks ts e = absurd (cc h)
named_by t (Some k) h ks ts e = ap (λ x. x ∷ map key_name ks) ((bytes_eq-Decides (key_name k) t).0 h) ∙ ap (λ xs. t ∷ xs) e

pub keys_named : (ts : List (List ℕ)) → list_all is_key_name ts ≡ true → map key_name (filter_map key_of_rest ts) ≡ ts
keys_named [] h = refl
keys_named (t ∷ ts) h = let a = both (is_key_name t) _ h in named_by t (key_of_rest t) a.0 (filter_map key_of_rest ts) ts (keys_named ts a.1)

-- threads by what they have still to do

pub threads_told : (b : Basis) (t : Told) (xs : List SavedThread) → AllTold b t xs → map thread_told (map (task_told b t) xs) ≡ xs
threads_told b t [] h = refl
threads_told b t (x ∷ xs) h = ap (λ y. y ∷ map thread_told (map (task_told b t) xs)) h.0 ∙ ap (λ ys. x ∷ ys) (threads_told b t xs h.1)

same_told : (t : Told) (project : List ℕ) (threads : List SavedThread) (keys : List (List ℕ)) → project ≡ t.run.project → threads ≡ t.run.threads → keys ≡ t.keys
    → record { run = record t.run { project = project; threads = threads }; keys = keys } ≡ t
same_told t project threads keys p ts ks = λ i. record { run = record t.run { project = p i; threads = ts i }; keys = ks i }

pub told_again : (b : Basis) (digest : List ℕ) (r : ToldRun) → encode_lower digest ≡ r.project → AllTold b (told_of r) (told_of r).run.threads → list_all is_key_name r.keys ≡ true
    → told (snapshot digest r.seed (world_told b (told_of r))) ≡ told_of r
told_again b digest r project threads keys = same_told (told_of r) _ _ _ project (threads_told b (told_of r) (told_of r).run.threads threads) (keys_named r.keys keys)
