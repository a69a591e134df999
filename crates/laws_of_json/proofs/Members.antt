-- Members that stand in the order of their names go in one behind the other.
use Rattle.std.proofs.Common.{◌≡◌, ℕ, List, Less, Greater, refl, ap, ◌∙◌}
use Rattle.std.proofs.lemmas.Cmp.{nat_list_cmp_total}
use Rattle.std.specs.Cmp.Lexicographic.{slice_cmp}
use Rattle.std.specs.Ordering.{nat_cmp, ordering_reverse}
use Rattle.std.specs.Prelude.{⊤}
use Rattle.serde_json.specs.Data.{Data, Members, no_members, member, put}
use Rattle.laws_of_json.specs.Plain.{IsBefore}

-- these members, and then those
abbrev pub joined : Members → Members → Members
joined no_members ms = ms
joined (member k d front) ms = member k d (joined front ms)

-- all names of the first stand before the name
abbrev pub AllBefore : Members → List ℕ → Type 0
AllBefore no_members k = ⊤
AllBefore (member l d front) k = (slice_cmp nat_cmp l k ≡ Less) × AllBefore front k

pub put-last : (front : Members) (k : List ℕ) (d : Data) → AllBefore front k → put k d front ≡ joined front (member k d no_members)
put-last no_members k d h = refl
put-last (member l e front) k d h =
    let above : slice_cmp nat_cmp k l ≡ Greater = nat_list_cmp_total.antisymm k l ∙ ap ordering_reverse h.0 in
    rw above (ap (member l e) (put-last front k d h.1))

pub joined-one : (front : Members) (k : List ℕ) (d : Data) (ms : Members) → joined (joined front (member k d no_members)) ms ≡ joined front (member k d ms)
joined-one no_members k d ms = refl
joined-one (member l e front) k d ms = ap (member l e) (joined-one front k d ms)

pub joined-none : (front : Members) → joined front no_members ≡ front
joined-none no_members = refl
joined-none (member l e front) = ap (member l e) (joined-none front)

-- a later name stands behind all of them and the last
pub before_later : (front : Members) (k l : List ℕ) (d : Data) → AllBefore front k → slice_cmp nat_cmp k l ≡ Less → AllBefore (joined front (member k d no_members)) l
before_later no_members k l d h below = (below, tt)
before_later (member m e front) k l d h below = (nat_list_cmp_total.trans m k l h.0 below, before_later front k l d h.1 below)

-- all stand before the first of these
abbrev pub Precede : Members → Members → Type 0
Precede front no_members = ⊤
Precede front (member k d ms) = AllBefore front k

pub precede_rest : (front : Members) (k : List ℕ) (d : Data) (ms : Members) → AllBefore front k → IsBefore k ms → Precede (joined front (member k d no_members)) ms
precede_rest front k d no_members h before = tt
precede_rest front k d (member l e ms) h before = before_later front k l d h before
