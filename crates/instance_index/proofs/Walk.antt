-- A list of which the slots of one instance are changed, one after another from the last down.
use Rattle.std.proofs.Common.{◌≡◌, ℕ, zero, suc, ◌<◌, ◌≤◌, Bool, true, false, cond, List, [], ◌∷◌, ◌++◌, length, map, take, drop, Option, Some, None, refl, sym, ap, ap₂, ◌∙◌, arith, add-one, append_assoc, inl, inr}
use Rattle.std.specs.Prelude.{slice_get, slice_set, option_map, IfSome, ◌==◌}
use Rattle.std.proofs.Math.Seq.{drop-cons}
use Rattle.std.proofs.lemmas.List.{take_more, take_all, drop_all, append-nil, length-map, length-take-le, map-append, set_at, take-append-drop}
use Rattle.std.proofs.lemmas.Option.{slice_get_within, get_or_from_slice_get, slice_get_cases, slice_get-map}
use Rattle.instance_index.specs.Slots.{is_of, last_below}
use Rattle.instance_index.proofs.Below.{last_below-there, last_below-within}

slice_get-at : {A : Type 0} (xs : List A) (y : A) (ys : List A) → slice_get (xs ++ y ∷ ys) (length xs) ≡ Some y
slice_get-at [] y ys = refl
slice_get-at (x ∷ xs) y ys = slice_get-at xs y ys

-- the lowest of the slots that a walk has left behind, where it visits this one next
abbrev pub behind : Option ℕ → ℕ
behind None = 0
behind (Some next) = suc next

-- a walk comes down
pub behind-below : (k : ℕ) (here next : Option ℕ) → here ≡ Some k → IfSome next (λ earlier. earlier < k) → behind next < behind here
behind-below k here None is below = omega (arith, ap behind is)
behind-below k here (Some earlier) is below = omega (arith, ap behind is)

pub behind-last_below : (of : ℕ) (ofs : List ℕ) (k : ℕ) (here next : Option ℕ) → here ≡ Some k → next ≡ last_below of ofs k → behind next < behind here
behind-last_below of ofs k here None is last = omega (arith, ap behind is)
behind-last_below of ofs k here (Some earlier) is last = omega (arith, ap behind is, last_below-within of ofs k earlier (sym last))

module _ {A : Type 0} (f : ℕ → A → A) where
  -- each element is changed; f is told its slot, and the first one stands in slot j
  abbrev pub mapped_from : (j : ℕ) → List A → List A
  mapped_from j [] = []
  mapped_from j (x ∷ xs) = f j x ∷ mapped_from (suc j) xs

  -- the elements from slot k on are changed
  abbrev pub changed_from : (k : ℕ) → List A → List A
  changed_from k xs = take k xs ++ mapped_from k (drop k xs)

  -- another function that does so
  pub mapped_from-is : (g : ℕ → List A → List A) → ((j : ℕ) → g j [] ≡ []) → ((j : ℕ) (x : A) (xs : List A) → g j (x ∷ xs) ≡ f j x ∷ g (suc j) xs)
      → (j : ℕ) (xs : List A) → mapped_from j xs ≡ g j xs
  mapped_from-is g none one j [] = sym (none j)
  mapped_from-is g none one j (x ∷ xs) = ap (λ (ys : List A). f j x ∷ ys) (mapped_from-is g none one (suc j) xs) ∙ sym (one j x xs)

  -- no slot is changed past the end
  pub changed_from-past : (k : ℕ) (xs : List A) → length xs ≤ k → changed_from k xs ≡ xs
  changed_from-past k xs past = ap₂ (λ (a b : List A). a ++ mapped_from k b) (take_all k xs past) (drop_all k xs past) ∙ append-nil xs

  module _ (k : ℕ) (x : A) (xs : List A) (at : slice_get xs k ≡ Some x) where
    after : List A
    after = mapped_from (suc k) (drop (suc k) xs)

    within : k < length xs
    within = slice_get_within xs k x at

    -- with slot k, and without
    with_slot : changed_from k xs ≡ take k xs ++ f k x ∷ after
    unfolding after
    with_slot =
        let here : drop k xs ≡ x ∷ drop (suc k) xs = drop-cons xs k x within ∙ ap (λ (y : A). y ∷ drop (suc k) xs) (get_or_from_slice_get xs k x x at) in
        ap (λ (ys : List A). take k xs ++ mapped_from k ys) here

    without_slot : changed_from (suc k) xs ≡ take k xs ++ x ∷ after
    unfolding after
    without_slot =
        let front : take (suc k) xs ≡ take k xs ++ x ∷ [] =
        ap (λ (n : ℕ). take n xs) (sym (add-one k)) ∙ take_more xs k x within ∙ ap (λ (y : A). take k xs ++ y ∷ []) (get_or_from_slice_get xs k x x at) in
        ap (λ (ys : List A). ys ++ after) front ∙ append_assoc (take k xs) (x ∷ []) after

    front_length : length (take k xs) ≡ k
    front_length = length-take-le k xs (omega (arith, within))

    -- slot k is still as it was
    pub slice_get-changed_from : slice_get (changed_from (suc k) xs) k ≡ Some x
    slice_get-changed_from =
        ap (λ (ys : List A). slice_get ys k) without_slot
        ∙ ap (slice_get (take k xs ++ x ∷ after)) (sym front_length)
        ∙ slice_get-at (take k xs) x after

    -- slot k is changed too
    pub set-changed_from : slice_set (changed_from (suc k) xs) k (f k x) ≡ changed_from k xs
    set-changed_from =
        ap (λ (ys : List A). slice_set ys k (f k x)) without_slot
        ∙ set_at (take k xs) x after (f k x) k front_length
        ∙ sym with_slot

    -- f leaves slot k as it is
    pub changed_from-same : f k x ≡ x → changed_from (suc k) xs ≡ changed_from k xs
    changed_from-same same = without_slot ∙ ap (λ (y : A). take k xs ++ y ∷ after) (sym same) ∙ sym with_slot

module _ {A : Type 0} (own : A → ℕ) (f : ℕ → A → A) where
  -- f changes the instance of no element
  map-mapped_from : ((k : ℕ) (x : A) → own (f k x) ≡ own x) → (j : ℕ) (xs : List A) → map own (mapped_from f j xs) ≡ map own xs
  map-mapped_from keeps j [] = refl
  map-mapped_from keeps j (x ∷ xs) = ap₂ (λ (o : ℕ) (os : List ℕ). o ∷ os) (keeps j x) (map-mapped_from keeps (suc j) xs)

  pub map-changed_from : ((k : ℕ) (x : A) → own (f k x) ≡ own x) → (k : ℕ) (xs : List A) → map own (changed_from f k xs) ≡ map own xs
  map-changed_from keeps k xs =
      map-append own (take k xs) (mapped_from f k (drop k xs))
      ∙ ap (λ (os : List ℕ). map own (take k xs) ++ os) (map-mapped_from keeps k (drop k xs))
      ∙ sym (map-append own (take k xs) (drop k xs))
      ∙ ap (map own) (take-append-drop k xs)

  module _ (of : ℕ) where
    -- A walk down the slots of an instance: those above the one that it visits next are changed, all others are as they were, and
    -- the next one is of the instance. Where there is no next one, all are changed.
    pub record VisitedAbove (next : Option ℕ) (old now : List A) : Type 0 where
      pub list : now ≡ changed_from f (behind next) old
      pub there : (k : ℕ) → next ≡ Some k → slice_get (map own old) k ≡ Some of

    module _ (stays : (k : ℕ) (x : A) → (own x == of) ≡ false → f k x ≡ x) where
      -- between two slots of the instance f leaves all as they are
      leap : (xs : List A) (n : ℕ) → n ≤ length xs → changed_from f n xs ≡ changed_from f (behind (last_below of (map own xs) n)) xs
      leap xs zero le = refl
      leap xs (suc n) le =
          elim (slice_get_cases xs n).1 [
            | inl (x, lt, at, g) ↦
                let seen : slice_get (map own xs) n ≡ Some (own x) = slice_get-map own xs n ∙ ap (option_map own) at in
                by x at (own x == of) refl (leap xs n (omega arith))
                ∙ ap (λ (o : Option ℕ). changed_from f (behind (cond (is_of of o) (Some n) (last_below of (map own xs) n))) xs) (sym seen)
            | inr (past, none) ↦ absurd (omega arith)
          ]
        where
          by : (x : A) → slice_get xs n ≡ Some x → (b : Bool) → own x == of ≡ b → changed_from f n xs ≡ changed_from f (behind (last_below of (map own xs) n)) xs
              → changed_from f (suc n) xs ≡ changed_from f (behind (cond b (Some n) (last_below of (map own xs) n))) xs
          by x at true test rest = refl
          by x at false test rest = changed_from-same f n x xs at (stays n x test) ∙ rest

      -- the walk begins at the last slot of the instance
      pub VisitedAbove-begin : (next : Option ℕ) (xs : List A) → next ≡ last_below of (map own xs) (length xs) → VisitedAbove next xs xs
      VisitedAbove-begin next xs last = record {
        list =
            sym (changed_from-past f (length xs) xs (omega arith)) ∙ leap xs (length xs) (omega arith)
            ∙ ap (λ (o : Option ℕ). changed_from f (behind o) xs) (sym last);
        there = λ k found. last_below-there of (map own xs) (length xs) k (sym last ∙ found);
      }

      -- the slot that is visited has its element still
      at_slot : (k : ℕ) (old now : List A) → slice_get (map own old) k ≡ Some of → now ≡ changed_from f (suc k) old
          → (x : A) × (slice_get old k ≡ Some x) × (slice_get now k ≡ Some x)
      at_slot k old now there list =
          elim (slice_get_cases old k).1 [
            | inl (x, lt, at, g) ↦ (x, at, ap (λ (ys : List A). slice_get ys k) list ∙ slice_get-changed_from f k x old at)
            | inr (past, none) ↦ absurd (omega (arith, slice_get_within (map own old) k of there, length-map old own))
          ]

      -- it is changed, and the walk goes on to the slot before it of the same instance
      pub VisitedAbove-next : (k : ℕ) (here next : Option ℕ) (old now new : List A) → VisitedAbove here old now → here ≡ Some k
          → ((x : A) → slice_get now k ≡ Some x → new ≡ slice_set now k (f k x)) → next ≡ last_below of (map own old) k → VisitedAbove next old new
      VisitedAbove-next k here next old now new visited is changed last =
          let list : now ≡ changed_from f (suc k) old = visited.list ∙ ap (λ (o : Option ℕ). changed_from f (behind o) old) is in
          let (x, at_old, at) = at_slot k old now (visited.there k is) list in
          record {
            list =
                changed x at ∙ ap (λ (ys : List A). slice_set ys k (f k x)) list ∙ set-changed_from f k x old at_old
                ∙ leap old k (omega (arith, slice_get_within old k x at_old)) ∙ ap (λ (o : Option ℕ). changed_from f (behind o) old) (sym last);
            there = λ j found. last_below-there of (map own old) k j (sym last ∙ found);
          }

    -- the walk ends
    pub VisitedAbove-end : (next : Option ℕ) (old now : List A) → VisitedAbove next old now → next ≡ None → now ≡ mapped_from f 0 old
    VisitedAbove-end next old now visited none = visited.list ∙ ap (λ (o : Option ℕ). changed_from f (behind o) old) none

    -- where f changes the instance of no element, the walk may be told of the list as it stands
    module _ (keeps : (k : ℕ) (x : A) → own (f k x) ≡ own x) where
      pub map-visited : (next : Option ℕ) (old now : List A) → VisitedAbove next old now → map own now ≡ map own old
      map-visited next old now visited = ap (map own) visited.list ∙ map-changed_from keeps (behind next) old

      pub slice_get-visited : (k : ℕ) (here : Option ℕ) (old now : List A) → VisitedAbove here old now → here ≡ Some k → slice_get (map own now) k ≡ Some of
      slice_get-visited k here old now visited is = ap (λ (os : List ℕ). slice_get os k) (map-visited here old now visited) ∙ visited.there k is

      pub VisitedAbove-then : ((k : ℕ) (x : A) → (own x == of) ≡ false → f k x ≡ x) → (k : ℕ) (here next : Option ℕ) (old now new : List A) → VisitedAbove here old now
          → here ≡ Some k → ((x : A) → slice_get now k ≡ Some x → new ≡ slice_set now k (f k x)) → next ≡ last_below of (map own now) k → VisitedAbove next old new
      VisitedAbove-then stays k here next old now new visited is changed last =
          VisitedAbove-next stays k here next old now new visited is changed
          (last ∙ ap (λ (os : List ℕ). last_below of os k) (map-visited here old now visited))
