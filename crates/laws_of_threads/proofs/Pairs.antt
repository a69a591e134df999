-- The hats that are started are of live instances, in their targets; their threads are legal.
use Rattle.std.proofs.Common.{◌≡◌, ℕ, ◌==◌, Bool, false, List, [], ◌∷◌, map, reverse, filter, inl, inr, refl, sym, ap, subst, arith}
use mathlib.Core.List.{reverse-cons}
use Rattle.std.specs.Prelude.{◌<◌, ◌≤◌, flat_map}
use Rattle.machine_spec.specs.declared.instance.Instance.{Instance}
use Rattle.machine_spec.specs.declared.threads.Filter.{Filter}
use Rattle.machine_spec.specs.declared.threads.Filter.TheVariants.{Broadcast, Backdrop, Key, Flag, CloneStart, Clicked}
use Rattle.machine_spec.specs.Script.{Script, End, Then, Statement}
use Rattle.machine_spec.specs.Program.{Program, Head, scripts_at}
use Rattle.machine_spec.specs.Pending.{dos}
use Rattle.machine_spec.specs.Legal.{EndOfOne, Legal, Markers, script_of, scripts_on, warp_on, waits_for_promise}
use Rattle.machine_spec.specs.Starting.{Pair, pairs_of, pairs, starts, meant}
use Rattle.machine_spec.specs.Tasks.{fresh}
use Rattle.laws_of_threads.specs.Lists.{Each}
use Rattle.laws_of_threads.specs.Instances.{Hosts}
use Rattle.laws_of_threads.specs.Positions.{FirstKeptWell}
use Rattle.laws_of_threads.specs.Threads.{Holds, IsThread}
use Rattle.laws_of_threads.proofs.Numbers.{each_map, each_append, each_filter, member_below}
use Rattle.laws_of_threads.proofs.Controls.{ends_itself}

-- a hat that heads a script of the target of a live instance
pub record PairFits (p : Program) (is : List Instance) (x : Pair) : Type 0 where
  pub target : ℕ
  pub hosted : Hosts x.of target is
  pub heads : Holds x.head (scripts_at target p).heads

pub each_reverse : {A : Type 0} (P : A → Type 0) (xs : List A) → Each P xs → Each P (reverse xs)
each_reverse P [] h = tt
each_reverse P (x ∷ xs) h = subst (Each P) (sym (reverse-cons x xs)) (each_append P (reverse xs) (x ∷ []) (each_reverse P xs h.1) (h.0, tt))

pub each_flat_map : {A B : Type 0} (P : A → Type 0) (Q : B → Type 0) (f : A → List B) (xs : List A) → ((x : A) → P x → Each Q (f x)) → Each P xs → Each Q (flat_map f xs)
each_flat_map P Q f [] g h = tt
each_flat_map P Q f (x ∷ xs) g h = each_append Q (f x) (flat_map f xs) (g x h.0) (each_flat_map P Q f xs g h.1)

pub each_over : {A B : Type 0} (Q : B → Type 0) (f : A → B) (xs : List A) → Each (λ x. Q (f x)) xs → Each Q (map f xs)
each_over Q f [] h = tt
each_over Q f (x ∷ xs) h = (h.0, each_over Q f xs h.1)

abbrev IsLive : List Instance → Instance → Type 0
IsLive is i = Hosts i.number i.of is

all_live : (is : List Instance) → Each (IsLive is) is
all_live [] = tt
all_live (i ∷ is) = (inl (refl, refl), each_map (IsLive is) (IsLive (i ∷ is)) is (λ j h. inr h) (all_live is))

all_held : (hs : List Head) → Each (λ h. Holds h hs) hs
all_held [] = tt
all_held (h ∷ hs) = (inl refl, each_map (λ x. Holds x hs) (λ x. Holds x (h ∷ hs)) hs (λ x g. inr g) (all_held hs))

module _ (p : Program) (is : List Instance) where
  of_instance : (test : Statement → Bool) (i : Instance) → IsLive is i → Each (PairFits p is) (pairs_of p test i)
  of_instance test i live =
      let hs = (scripts_at i.of p).heads in
      each_over (PairFits p is) (λ h. record { of = i.number; head = h }) (filter (λ h. test h.hat) hs)
      (each_map (λ h. Holds h hs) (λ h. PairFits p is (record { of = i.number; head = h })) (filter (λ h. test h.hat) hs)
      (λ h g. record { target = i.of; hosted = live; heads = g })
      (each_filter (λ h. Holds h hs) (λ h. test h.hat) hs (all_held hs)))

  some_pairs : (test : Statement → Bool) (js : List Instance) → Each (IsLive is) js → Each (PairFits p is) (pairs p test js)
  some_pairs test js h = each_flat_map (IsLive is) (PairFits p is) (pairs_of p test) (reverse js) (of_instance test) (each_reverse (IsLive is) js h)

  pub pairs_fit : (test : Statement → Bool) → Each (PairFits p is) (pairs p test is)
  pairs_fit test = some_pairs test is (all_live is)

  meant_live : (f : Filter) → Each (IsLive is) (meant f is)
  meant_live (CloneStart n) = each_filter (IsLive is) (λ i. i.number == n) is (all_live is)
  meant_live (Clicked n) = each_filter (IsLive is) (λ i. i.number == n) is (all_live is)
  meant_live (Broadcast m) = all_live is
  meant_live (Backdrop m) = all_live is
  meant_live (Key m) = all_live is
  meant_live Flag = all_live is

  pub starts_fit : (f : Filter) → Each (PairFits p is) (starts p f is)
  starts_fit f = each_append (PairFits p is) _ _ (some_pairs _ (meant f is) (meant_live f)) (some_pairs _ (meant f is) (meant_live f))

-- A new thread

script_of_all : (t : Script) → script_of (dos t) ≡ t
script_of_all End = refl
script_of_all (Then s rest) = ap (Then s) (script_of_all rest)

module _ (p : Program) (hat : Script) where
  scripts_on_all : (t : Script) → scripts_on p hat (dos t) ≡ hat ∷ []
  scripts_on_all End = refl
  scripts_on_all (Then s rest) = scripts_on_all rest

  warp_on_all : (t : Script) → warp_on p hat (dos t) ≡ false
  warp_on_all End = refl
  warp_on_all (Then s rest) = warp_on_all rest

  markers_all : (t : Script) → Markers p hat (dos t)
  markers_all End = tt
  markers_all (Then s rest) = markers_all rest

fresh_legal : (p : Program) (clock : ℕ) (hat : Script) → Legal p hat clock (dos hat) false
fresh_legal p clock End = refl
fresh_legal p clock (Then s rest) = let hat = Then s rest in (
  record {
    ends = subst (λ u. EndOfOne (Then s u) (scripts_on p hat (dos rest))) (sym (script_of_all rest)) (subst (EndOfOne (Then s rest)) (sym (scripts_on_all p hat rest)) (inl (ends_itself (Then s rest))));
    warp = sym (warp_on_all p hat rest);
  },
  markers_all p hat rest,
)

fresh_free : (hat : Script) → waits_for_promise (dos hat) ≡ false
fresh_free End = refl
fresh_free (Then s rest) = refl

fresh_kept : (next : ℕ) (hat : Script) → FirstKeptWell next (dos hat)
fresh_kept next End = tt
fresh_kept next (Then s rest) = tt

pub fresh_thread : (p : Program) (is : List Instance) (clock least : ℕ) (asking speaking : List ℕ) (x : Pair) → PairFits p is x
    → Each (λ n. n < least) asking → Each (λ n. n < least) speaking → (n : ℕ) → least ≤ n → IsThread p is clock least asking speaking (fresh n x.of x.head)
fresh_thread p is clock least asking speaking x f a s n le = record {
  target = f.target;
  hosted = f.hosted;
  head = x.head;
  heads = f.heads;
  hat = refl;
  legal = fresh_legal p clock x.head.script;
  status = fresh_free x.head.script;
  kept = fresh_kept least x.head.script;
  asked = λ m. absurd (let b = member_below asking least n a m in omega (arith, b, le));
  spoken = λ m. absurd (let b = member_below speaking least n s m in omega (arith, b, le));
}
