-- What is found in an index of many targets.
use Rattle.std.proofs.Common.{◌≡◌, ℕ, zero, suc, ◌+◌, ◌<◌, ◌≤◌, List, [], ◌∷◌, ◌++◌, length, Some, ◌⊎◌, refl, sym, ap, ◌∙◌, subst, inl, inr, arith}
use Rattle.std.specs.Prelude.{slice_get}
use Rattle.std.proofs.lemmas.Bool.{cases_lt}
use Rattle.std.proofs.lemmas.List.{length_push}
use Rattle.std.proofs.lemmas.Option.{slice_get_past}
use Rattle.opcode_table.specs.declared.opcode.Opcode.{Opcode}
use Rattle.project_spec.specs.declared.blocks.Block.{Block}
use Rattle.hat_index.specs.declared.target_hats.TargetHats.{TargetHats}
use Rattle.hat_index.specs.Hats.{hats_in, entry, IsTarget}
use Rattle.hat_index.specs.Index.{found_among, found_of, hats_by, hats_of, IsIndex}

-- so many targets have their hats
pub record AreTargets (tables : List (List Block)) (heads : List (List ℕ)) (targets : List TargetHats) (count : ℕ) : Type 0 where
  pub many : length targets ≡ count
  pub each : (t : ℕ) → t < count → (op : Opcode) (text : List ℕ) → found_among targets t op text ≡ entry op text (hats_of tables heads t)

pub no_targets : (tables : List (List Block)) (heads : List (List ℕ)) → AreTargets tables heads [] 0
no_targets tables heads = record { many = refl; each = λ t h. absurd (omega (arith, h)) }

get_before : {A : Type 0} (xs : List A) (x : A) (t : ℕ) → t < length xs → slice_get (xs ++ x ∷ []) t ≡ slice_get xs t
get_before [] x t h = absurd (omega (arith, h))
get_before (y ∷ xs) x zero h = refl
get_before (y ∷ xs) x (suc t) h = get_before xs x t (omega (arith, h))

get_last : {A : Type 0} (xs : List A) (x : A) → slice_get (xs ++ x ∷ []) (length xs) ≡ Some x
get_last [] x = refl
get_last (y ∷ xs) x = get_last xs x

module _ (tables : List (List Block)) (heads : List (List ℕ)) (targets : List TargetHats) (count : ℕ) (are : AreTargets tables heads targets count) where
  -- one more target
  pub one_more_target : (hats : TargetHats) (blocks : List Block) (numbers : List ℕ) → slice_get tables count ≡ Some blocks → slice_get heads count ≡ Some numbers → IsTarget hats (hats_in blocks numbers)
      → AreTargets tables heads (targets ++ hats ∷ []) (count + 1)
  one_more_target hats blocks numbers eb eh is = record {
    many = length_push targets hats ∙ ap (λ n. n + 1) are.many;
    each = λ t h op text. by t op text (cases_lt t count) h;
  }
    where
      last : (op : Opcode) (text : List ℕ) → found_among (targets ++ hats ∷ []) count op text ≡ entry op text (hats_of tables heads count)
      last op text =
          ap (λ o. found_of o op text) (subst (λ n. slice_get (targets ++ hats ∷ []) n ≡ Some hats) are.many (get_last targets hats))
          ∙ is.each op text ∙ ap (entry op text) (sym (ap (λ o. hats_by o (slice_get heads count)) eb ∙ ap (hats_by (Some blocks)) eh))

      by : (t : ℕ) (op : Opcode) (text : List ℕ) → (t < count) ⊎ (count ≤ t) → t < count + 1 → found_among (targets ++ hats ∷ []) t op text ≡ entry op text (hats_of tables heads t)
      by t op text (inl before) h =
          let within : t < length targets = omega (arith, before, are.many) in
          ap (λ o. found_of o op text) (get_before targets hats t within) ∙ are.each t before op text
      by t op text (inr beyond) h =
          let here : count ≡ t = omega (arith, beyond, h) in
          subst (λ n. found_among (targets ++ hats ∷ []) n op text ≡ entry op text (hats_of tables heads n)) here (last op text)

  -- all targets
  pub all_targets : length tables ≤ count → IsIndex (found_among targets) tables heads
  all_targets few t op text = by (cases_lt t count)
    where
      by : (t < count) ⊎ (count ≤ t) → found_among targets t op text ≡ entry op text (hats_of tables heads t)
      by (inl before) = are.each t before op text
      by (inr beyond) =
          ap (λ o. found_of o op text) (slice_get_past targets t (omega (arith, beyond, are.many)))
          ∙ ap (λ o. entry op text (hats_by o (slice_get heads t))) (sym (slice_get_past tables t (omega (arith, beyond, few))))
