-- Keys that are held.
use Rattle.std.proofs.Common.{◌≡◌, Bool, true, false, cond, List, [], ◌∷◌, ◌++◌, filter, Some, refl, sym, ap, ◌∙◌}
use Rattle.std.specs.Prelude.{bytes_eq, not, ◌||◌}
use Rattle.std.specs.List.{list_any}
use Rattle.std.proofs.lemmas.Slice.Eq.{bytes_eq-Decides}
use Rattle.machine_spec.specs.declared.devices.Key.{Key}
use Rattle.machine_spec.specs.declared.devices.Key.TheVariants.{Space, Enter, Left, Right, Up, Down, One}
use Rattle.machine_spec.specs.Line.{key_name, with_key, without_key}
use Rattle.machine_spec.specs.ScriptText.{key_of_rest}
use Rattle.machine_spec.specs.Sensing.{is_key}
use Rattle.laws_of_threads.specs.GoodLines.{IsNamedKey}
use Rattle.laws_of_threads.specs.Lists.{Each}
use Rattle.laws_of_threads.proofs.Numbers.{equal_true, each_append, each_filter, clash}
use Rattle.laws_of_devices.specs.Devices.{KeysDiffer}

abbrev pub Unlike : Key → Key → Type 0
Unlike k other = bytes_eq (key_name k) (key_name other) ≡ false

abbrev pub AreKeys : List Key → Type 0
AreKeys ks = Each IsNamedKey ks × KeysDiffer ks

key_same : (k : Key) → is_key k k ≡ true
key_same Space = refl
key_same Enter = refl
key_same Left = refl
key_same Right = refl
key_same Up = refl
key_same Down = refl
key_same (One c) = equal_true c c refl

unlike_by : (b : Bool) (k l : Key) → bytes_eq (key_name l) (key_name k) ≡ b → IsNamedKey k → IsNamedKey l → is_key k l ≡ false → b ≡ false
unlike_by true k l e m n h =
    let names : key_name l ≡ key_name k = (bytes_eq-Decides (key_name l) (key_name k)).0 e in
    let some : Some l ≡ Some k = sym n ∙ ap key_of_rest names ∙ m in
    let same : l ≡ k = cc in
    absurd (clash (is_key k l) (ap (is_key k) same ∙ key_same k) h)
unlike_by false k l e m n h = refl

unlike : (k l : Key) → IsNamedKey k → IsNamedKey l → is_key k l ≡ false → Unlike l k
unlike k l m n h = unlike_by (bytes_eq (key_name l) (key_name k)) k l refl m n h

or_first : (a b : Bool) → (a || b) ≡ false → a ≡ false
or_first true b h = h
or_first false b h = refl

or_second : (a b : Bool) → (a || b) ≡ false → b ≡ false
or_second true b h = absurd (cc h)
or_second false b h = h

all_unlike : (k : Key) (ks : List Key) → IsNamedKey k → Each IsNamedKey ks → list_any (is_key k) ks ≡ false → Each (λ l. Unlike l k) ks
all_unlike k [] m n h = tt
all_unlike k (l ∷ ks) m n h = (unlike k l m n.0 (or_first (is_key k l) (list_any (is_key k) ks) h), all_unlike k ks m n.1 (or_second (is_key k l) (list_any (is_key k) ks) h))

differ_last : (ks : List Key) (k : Key) → KeysDiffer ks → Each (λ l. Unlike l k) ks → KeysDiffer (ks ++ k ∷ [])
differ_last [] k d u = (tt, tt)
differ_last (l ∷ ks) k d u = (each_append (Unlike l) ks (k ∷ []) d.0 (u.0, tt), differ_last ks k d.1 u.1)

with_by : (b : Bool) (k : Key) (ks : List Key) → list_any (is_key k) ks ≡ b → IsNamedKey k → AreKeys ks → AreKeys (cond b ks (ks ++ k ∷ []))
with_by true k ks e n h = h
with_by false k ks e n h = (each_append IsNamedKey ks (k ∷ []) h.0 (n, tt), differ_last ks k h.1 (all_unlike k ks n h.0 e))

pub with_key_keys : (k : Key) (ks : List Key) → IsNamedKey k → AreKeys ks → AreKeys (with_key k ks)
with_key_keys k ks n h = with_by (list_any (is_key k) ks) k ks refl n h

differ_by : (b : Bool) (k : Key) (ks : List Key) → Each (Unlike k) ks → KeysDiffer ks → KeysDiffer (cond b (k ∷ ks) ks)
differ_by true k ks u d = (u, d)
differ_by false k ks u d = d

differ_filter : (test : Key → Bool) (ks : List Key) → KeysDiffer ks → KeysDiffer (filter test ks)
differ_filter test [] d = tt
differ_filter test (k ∷ ks) d = differ_by (test k) k (filter test ks) (each_filter (Unlike k) test ks d.0) (differ_filter test ks d.1)

pub without_key_keys : (k : Key) (ks : List Key) → AreKeys ks → AreKeys (without_key k ks)
without_key_keys k ks h = (each_filter IsNamedKey (λ l. not (is_key k l)) ks h.0, differ_filter (λ l. not (is_key k l)) ks h.1)
