-- The texts that a saved run has.
use Rattle.std.proofs.Common.{◌≡◌, Bool, ◌&&◌, List, map, refl, sym, ap, ◌∙◌}
use Rattle.std.specs.Prelude.{nat_le}
use Rattle.std.specs.Fmt.{char_count}
use Rattle.std.specs.List.{list_all}
use Rattle.std.proofs.lemmas.List.Folds.{list_all-map}
use Rattle.machine_spec.specs.BubbleText.{most_characters}
use Rattle.saved_spec.specs.Kept.{SavedLevel}
use Rattle.saved_spec.specs.RunShapes.{stores_in_order}
use Rattle.saved_spec.specs.Rules as rules
use Rattle.saved_spec.specs.Rules.{is_short, has_short_texts, values_kept}
use Rattle.saved_parts.specs.declared.instances.ToldInstance.{ToldInstance}
use Rattle.saved_parts.specs.declared.run.ToldRun.{ToldRun}
use Rattle.saved_parts.specs.declared.threads.ToldKept.{ToldKept}
use Rattle.saved_parts.specs.declared.threads.ToldKept.TheVariants.{Nothing, Loop, Repeat, Wait, Glide, Started, Asked, Spoken, Call}
use Rattle.saved_parts.specs.declared.threads.ToldThread.{ToldThread}
use Rattle.saved_parts.specs.Telling.{instance_of, store_of, value_of, param_of, kept_of, level_of, thread_of, told_of}
use Rattle.saved_checks.specs.Levels.{has_short_values}
use Rattle.saved_checks.proofs.Joined.{all-in-order, all-reverse}

-- a test of the levels of a thread, which its text tells from the bottom
pub levels-told : (test : SavedLevel → Bool) (t : ToldThread) → list_all test (thread_of t).levels ≡ list_all (λ l. test (level_of l)) t.levels
levels-told test t = all-reverse test (map level_of t.levels) ∙ list_all-map test level_of t.levels

store-short : (i : ToldInstance) → has_short_texts (store_of i) ≡ (list_all (λ v. is_short (value_of v)) i.values && list_all (list_all (λ v. is_short (value_of v))) i.lists)
store-short i =
    (λ j. list_all-map is_short value_of i.values j && list_all-map (list_all is_short) (map value_of) i.lists j)
    ∙ (λ j. list_all (λ v. is_short (value_of v)) i.values && list_all (λ items. list_all-map is_short value_of items j) i.lists)

pub little-told : (r : ToldRun) (is : List ToldInstance) (x : Bool) → is ≡ r.instances
    → x ≡ (list_all (λ i. nat_le (char_count i.bubble.text) most_characters) is && list_all (λ i. list_all (λ v. is_short (value_of v)) i.values && list_all (list_all (λ v. is_short (value_of v))) i.lists) is)
    → x ≡ rules.instances_say_little (told_of r)
little-told r is x e h =
    let stores : list_all has_short_texts (stores_in_order (map store_of r.instances)) ≡ list_all (λ i. list_all (λ v. is_short (value_of v)) i.values && list_all (list_all (λ v. is_short (value_of v))) i.lists) r.instances
    = all-in-order has_short_texts (map store_of r.instances) ∙ list_all-map has_short_texts store_of r.instances ∙ (λ j. list_all (λ i. store-short i j) r.instances) in
    let bubbles : list_all (λ i. nat_le (char_count i.bubble.text) most_characters) (map instance_of r.instances) ≡ list_all (λ i. nat_le (char_count i.bubble.text) most_characters) r.instances
    = list_all-map (λ i. nat_le (char_count i.bubble.text) most_characters) instance_of r.instances in
    let both : rules.instances_say_little (told_of r)
    ≡ (list_all (λ i. nat_le (char_count i.bubble.text) most_characters) r.instances && list_all (λ i. list_all (λ v. is_short (value_of v)) i.values && list_all (list_all (λ v. is_short (value_of v))) i.lists) r.instances)
    = λ j. bubbles j && stores j in
    h ∙ ap (λ js. list_all (λ i. nat_le (char_count i.bubble.text) most_characters) js && list_all (λ i. list_all (λ v. is_short (value_of v)) i.values && list_all (list_all (λ v. is_short (value_of v))) i.lists) js) e
    ∙ sym both

kept-short : (k : ToldKept) → list_all is_short (values_kept (kept_of k)) ≡ has_short_values k
kept-short Nothing = refl
kept-short Loop = refl
kept-short (Repeat turns) = refl
kept-short (Wait state) = refl
kept-short (Glide state) = refl
kept-short (Started serials) = refl
kept-short Asked = refl
kept-short Spoken = refl
kept-short (Call params) = list_all-map is_short (λ p. p.1) (map param_of params) ∙ list_all-map (λ p. is_short p.1) param_of params

pub params-told : (r : ToldRun) (ts : List ToldThread) (x : Bool) → ts ≡ r.threads → x ≡ list_all (λ t. list_all (λ l. has_short_values l.kept) t.levels) ts → x ≡ rules.params_are_short (told_of r)
params-told r ts x e h =
    let each : rules.params_are_short (told_of r) ≡ list_all (λ t. list_all (λ l. has_short_values l.kept) t.levels) r.threads
    = list_all-map (λ t. list_all (λ l. list_all is_short (values_kept l.kept)) t.levels) thread_of r.threads
    ∙ (λ j. list_all (λ t. levels-told (λ l. list_all is_short (values_kept l.kept)) t j) r.threads)
    ∙ (λ j. list_all (λ t. list_all (λ l. kept-short l.kept j) t.levels) r.threads) in
    h ∙ ap (list_all (λ t. list_all (λ l. has_short_values l.kept) t.levels)) e ∙ sym each
