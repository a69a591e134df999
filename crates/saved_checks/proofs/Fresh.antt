-- Numbers that are left are new and differ, step by step.
use Rattle.std.proofs.Common.{◌≡◌, ℕ, Bool, true, false, ◌&&◌, ◌||◌, not, List, [], ◌∷◌, refl, sym, ap, ◌∙◌, drop, length, get_or, drop-cons, add-one, ◌<◌, ◌+◌}
use Rattle.std.specs.Prelude.{cond, ◌==◌}
use Rattle.std.specs.Cmp.{nat_eq_equiv, unsigned_ties}
use Rattle.std.specs.List.{list_all, list_any}
use Rattle.std.specs.Ordering.{is_eq, nat_cmp}

-- a list of which no member is in a set, after the set gained what is hit
module _ {X : Type 0} (old new hit : X → Bool) (gains : (q : X) → new q ≡ cond (hit q) true (old q)) where
  one : (h o a l r : Bool) → r ≡ (not a && l) → (not (cond h true o) && r) ≡ (not (h || a) && (not o && l))
  one true o a l r e = refl
  one false true true l r e = refl
  one false true false l r e = refl
  one false false a l r e = e

  pub left-new : (xs : List X) → list_all (λ m. not (new m)) xs ≡ (not (list_any hit xs) && list_all (λ m. not (old m)) xs)
  left-new [] = refl
  left-new (x ∷ xs) =
      ap (λ t. not t && list_all (λ m. not (new m)) xs) (gains x)
      ∙ one (hit x) (old x) (list_any hit xs) (list_all (λ m. not (old m)) xs) (list_all (λ m. not (new m)) xs) (left-new xs)

  regroup : (a l d : Bool) → ((not a && l) && d) ≡ (l && (not a && d))
  regroup true true d = refl
  regroup true false d = refl
  regroup false true d = refl
  regroup false false d = refl

  -- the first item was new, and is none of the others
  pub one-less : (x : X) (xs : List X) (a d : Bool) → old x ≡ false → a ≡ list_any hit xs
      → ((not (old x) && list_all (λ m. not (old m)) xs) && (not a && d)) ≡ (list_all (λ m. not (new m)) xs && d)
  one-less x xs a d e f =
      ap (λ t. (not t && list_all (λ m. not (old m)) xs) && (not a && d)) e
      ∙ sym (regroup a (list_all (λ m. not (old m)) xs) d)
      ∙ ap (λ t. (not t && list_all (λ m. not (old m)) xs) && d) f
      ∙ ap (λ t. t && d) (sym (left-new xs))

-- nothing is in an empty set
pub none-in : {X : Type 0} (test : X → Bool) → ((q : X) → test q ≡ false) → (xs : List X) → list_all (λ m. not (test m)) xs ≡ true
none-in test h [] = refl
none-in test h (x ∷ xs) = ap (λ t. not t && list_all (λ m. not (test m)) xs) (h x) ∙ none-in test h xs

pub any-same : {X : Type 0} (f g : X → Bool) → ((q : X) → f q ≡ g q) → (xs : List X) → list_any f xs ≡ list_any g xs
any-same f g h [] = refl
any-same f g h (x ∷ xs) = rw (h x, any-same f g h xs) refl

-- a number that compares equal is the same
pub number-same : (x q : ℕ) → (q == x) ≡ is_eq (nat_cmp x q)
number-same x q = nat_eq_equiv.symm q x ∙ unsigned_ties x q

-- the items from a place on
pub cut-at : {X : Type 0} (xs : List X) (k : ℕ) (d : X) → k < length xs → drop k xs ≡ get_or xs k d ∷ drop (k + 1) xs
cut-at xs k d h = rw add-one (drop-cons xs k d h)
