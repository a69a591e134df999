-- A thread stays legal where its instance stays live, the clock does not go back, and no more name it.
use Rattle.std.proofs.Common.{◌≡◌, ℕ, Bool, false, List, [], ◌∷◌, inl, inr, refl, arith}
use Rattle.std.specs.Prelude.{◌<◌, ◌≤◌}
use Rattle.opcode_table.specs.declared.kinds.Kind.{Kind}
use Rattle.opcode_table.specs.Kinds.{kind}
use Rattle.machine_spec.specs.declared.instance.Instance.{Instance}
use Rattle.machine_spec.specs.declared.threads.Context.{Context}
use Rattle.machine_spec.specs.declared.threads.Context.TheVariants.{Fresh, Repeat, Wait, Glide, Started, Asked, Spoken, Called}
use Rattle.machine_spec.specs.Script.{Script, op_of}
use Rattle.machine_spec.specs.Program.{Program}
use Rattle.machine_spec.specs.Pending.{Item, Do, Held, Returned, Branch, Again, Back}
use Rattle.machine_spec.specs.Legal.{Keeps, Legal, waits_for_promise}
use Rattle.machine_spec.specs.Tasks.{Task}
use Rattle.laws_of_threads.specs.Lists.{Member}
use Rattle.laws_of_threads.specs.Instances.{Hosts}
use Rattle.laws_of_threads.specs.Positions.{KeptWell, FirstKeptWell}
use Rattle.laws_of_threads.proofs.Numbers.{each_map}
use Rattle.laws_of_threads.specs.Threads.{IsThread, Stays, is_asked, is_spoken}

later : (clock next : ℕ) (k : Kind) (c : Context) → clock ≤ next → Keeps clock k c → Keeps next k c
later clock next k Fresh le h = h
later clock next k (Repeat n) le h = h
later clock next k (Wait d) le h = let s = h.1 in (h.0, omega (arith, s, le), h.2)
later clock next k (Glide d) le h = let s = h.1 in (h.0, omega (arith, s, le), h.2)
later clock next k (Started n) le h = h
later clock next k Asked le h = h
later clock next k Spoken le h = h
later clock next k Called le h = h

pub later_legal : (p : Program) (hat : Script) (clock next : ℕ) (items : List Item) (w : Bool) → clock ≤ next → Legal p hat clock items w → Legal p hat next items w
later_legal p hat clock next [] w le h = h
later_legal p hat clock next (Do s ∷ r) w le h = h
later_legal p hat clock next (Held s c ∷ r) w le h = (later clock next (kind (op_of s)) c le h.0, h.1, h.2)
later_legal p hat clock next (Returned s ps ∷ r) w le h = h
later_legal p hat clock next (Branch s v ∷ r) w le h = absurd h
later_legal p hat clock next (Again s c v ∷ r) w le h = absurd h
later_legal p hat clock next (Back s q v ∷ r) w le h = absurd h

more_kept : (next more : ℕ) (c : Context) → next ≤ more → KeptWell next c → KeptWell more c
more_kept next more Fresh le h = h
more_kept next more (Repeat n) le h = h
more_kept next more (Wait d) le h = h
more_kept next more (Glide d) le h = h
more_kept next more (Started ns) le h = each_map (λ n. n < next) (λ n. n < more) ns (λ n b. omega (arith, b, le)) h
more_kept next more Asked le h = h
more_kept next more Spoken le h = h
more_kept next more Called le h = h

pub more_first : (next more : ℕ) (items : List Item) → next ≤ more → FirstKeptWell next items → FirstKeptWell more items
more_first next more [] le h = h
more_first next more (Do s ∷ r) le h = h
more_first next more (Held s c ∷ r) le h = more_kept next more c le h
more_first next more (Returned s ps ∷ r) le h = h
more_first next more (Branch s v ∷ r) le h = h
more_first next more (Again s c v ∷ r) le h = h
more_first next more (Back s q v ∷ r) le h = h

module _ (p : Program) (is js : List Instance) (clock later : ℕ) (next more : ℕ) (asking speaking asking' speaking' : List ℕ) (t : Task) where
  pub thread_stays : ((k : ℕ) → Hosts t.of k is → Hosts t.of k js) → clock ≤ later → next ≤ more → (Member t.serial asking' → Member t.serial asking) → (Member t.serial speaking' → Member t.serial speaking)
      → IsThread p is clock next asking speaking t → IsThread p js later more asking' speaking' t
  thread_stays host le m a s h = record {
    target = h.target;
    hosted = host h.target h.hosted;
    head = h.head;
    heads = h.heads;
    hat = h.hat;
    legal = later_legal p h.head.script clock later t.items t.warp le h.legal;
    status = h.status;
    kept = more_first next more t.items m h.kept;
    asked = λ n. h.asked (a n);
    spoken = λ n. h.spoken (s n);
  }

  pub stays : ((k : ℕ) → Hosts t.of k is → Hosts t.of k js) → clock ≤ later → next ≤ more → (Member t.serial asking' → Member t.serial asking) → (Member t.serial speaking' → Member t.serial speaking)
      → Stays p is clock next asking speaking t → Stays p js later more asking' speaking' t
  stays host le m a s (inl h) = inl h
  stays host le m a s (inr h) = inr (thread_stays host le m a s h)

-- who waits for no promise has neither asked nor spoken
pub free_asked : (items : List Item) → waits_for_promise items ≡ false → is_asked items ≡ false
free_asked [] h = refl
free_asked (Do s ∷ r) h = refl
free_asked (Held s Asked ∷ r) h = absurd (cc h)
free_asked (Held s c ∷ r) h = refl
free_asked (Returned s ps ∷ r) h = refl
free_asked (Branch s v ∷ r) h = refl
free_asked (Again s c v ∷ r) h = refl
free_asked (Back s q v ∷ r) h = refl

pub free_spoken : (items : List Item) → waits_for_promise items ≡ false → is_spoken items ≡ false
free_spoken [] h = refl
free_spoken (Do s ∷ r) h = refl
free_spoken (Held s Spoken ∷ r) h = absurd (cc h)
free_spoken (Held s c ∷ r) h = refl
free_spoken (Returned s ps ∷ r) h = refl
free_spoken (Branch s v ∷ r) h = refl
free_spoken (Again s c v ∷ r) h = refl
free_spoken (Back s q v ∷ r) h = refl
