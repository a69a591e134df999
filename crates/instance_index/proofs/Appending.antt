-- An index to whose list a slot is appended.
use Rattle.std.proofs.Common.{◌≡◌, ℕ, ◌+◌, ◌<◌, cond, List, [], ◌∷◌, ◌++◌, length, Option, Some, None, refl, sym, ap, ◌∙◌, arith, ap₂, inl, inr}
use Rattle.std.specs.Prelude.{slice_get, nat_eq, unwrap_or}
use Rattle.std.specs.HashMap.{get, Updates}
use Rattle.std.proofs.lemmas.Bool.{cases_lt}
use Rattle.std.proofs.lemmas.Bool.Decides.{nat_tests}
use Rattle.std.proofs.lemmas.List.{length_push}
use Rattle.std.proofs.lemmas.Option.{slice_get_within}
use Rattle.instance_index.specs.declared.index.InstanceIndex.{InstanceIndex}
use Rattle.instance_index.specs.Slots.{last_below}
use Rattle.instance_index.specs.Index.{linked, AreChained}
use Rattle.instance_index.proofs.Below.{slice_get-front, slice_get-end, last_below-front, last_below-append, last_below-within}

-- what is noted at a slot tells the earlier one
linked-noted : (slot : ℕ) (earlier : Option ℕ) → ((k : ℕ) → earlier ≡ Some k → k < slot) → linked slot (Some (unwrap_or earlier slot)) ≡ earlier
linked-noted slot None below = grind (arith, nat_tests)
linked-noted slot (Some k) below = let lt : k < slot = below k refl in grind (arith, nat_tests)

module _ (old new : InstanceIndex) (of : ℕ) (ofs : List ℕ) (chained : AreChained old ofs) where
  last_of : Updates nat_eq old.last new.last of (Some (length ofs)) → (o : ℕ) → get nat_eq new.last o ≡ last_below o (ofs ++ of ∷ []) (length (ofs ++ of ∷ []))
  last_of updates o =
      updates.0 o ∙ ap (cond (nat_eq of o) (Some (length ofs))) (chained.last o) ∙ sym (last_below-append o of ofs)
      ∙ ap (last_below o (ofs ++ of ∷ [])) (sym (length_push ofs of))

  -- the slot that was appended, and those before it
  earlier_of : (items : List ℕ) → items ≡ old.earlier.items ++ unwrap_or (get nat_eq old.last of) (length ofs) ∷ []
      → (slot o : ℕ) → slice_get (ofs ++ of ∷ []) slot ≡ Some o → linked slot (slice_get items slot) ≡ last_below o (ofs ++ of ∷ []) slot
  earlier_of items noted slot o at =
      let end = unwrap_or (get nat_eq old.last of) (length ofs) in
      let within : slot < length ofs + 1 = omega (arith, slice_get_within (ofs ++ of ∷ []) slot o at, length_push ofs of) in
      elim (cases_lt slot (length ofs)) [
        | inl front ↦
            let front_items : slot < length old.earlier.items = omega (arith, chained.length) in
            ap (λ (xs : List ℕ). linked slot (slice_get xs slot)) noted
            ∙ ap (linked slot) (slice_get-front old.earlier.items end slot front_items)
            ∙ chained.earlier slot o (sym (slice_get-front ofs of slot front) ∙ at)
            ∙ sym (last_below-front o of ofs slot (omega arith))
        | inr behind ↦
            let last : slot ≡ length ofs = omega arith in
            let last_item : slot ≡ length old.earlier.items = last ∙ sym chained.length in
            let same : of ≡ o = cc (slice_get-end ofs of) in
            ap (λ (xs : List ℕ). linked slot (slice_get xs slot)) noted
            ∙ ap (λ (k : ℕ). linked slot (slice_get (old.earlier.items ++ end ∷ []) k)) last_item
            ∙ ap (linked slot) (slice_get-end old.earlier.items end)
            ∙ ap (λ (k : ℕ). linked k (Some end)) last
            ∙ ap (λ (o : Option ℕ). linked (length ofs) (Some (unwrap_or o (length ofs)))) (chained.last of)
            ∙ linked-noted (length ofs) (last_below of ofs (length ofs)) (last_below-within of ofs (length ofs))
            ∙ sym (last_below-front of of ofs (length ofs) (omega arith))
            ∙ ap₂ (λ (x k : ℕ). last_below x (ofs ++ of ∷ []) k) same (sym last)
      ]

  pub AreChained-append : Updates nat_eq old.last new.last of (Some (length ofs)) → new.earlier.items ≡ old.earlier.items ++ unwrap_or (get nat_eq old.last of) (length ofs) ∷ []
      → AreChained new (ofs ++ of ∷ [])
  AreChained-append updates noted = record {
    last = last_of updates;
    length = omega (arith, ap (length {A = ℕ}) noted, length_push old.earlier.items (unwrap_or (get nat_eq old.last of) (length ofs)), length_push ofs of, chained.length);
    earlier = earlier_of new.earlier.items noted;
  }
