-- Inputs that are plugged.
use Rattle.std.proofs.Common.{◌≡◌, ℕ, zero, suc, ◌<◌, arith, List, [], ◌∷◌, length, get_or, subst, sym}
use Rattle.std.specs.List.{All}
use Rattle.std.proofs.lemmas.List.Elements.{All-head, All-tail}
use Rattle.project_spec.specs.declared.blocks.Operand.{Operand}
use Rattle.evaluate.specs.declared.view.View.{View}
use Rattle.evaluate.specs.Plugged.{IsPluggedIn, ArePluggedIn}

pub plugged-all : (v : View) (k : ℕ) (xs : List (List ℕ × Operand)) → All (λ x. IsPluggedIn v k x.1) xs → ArePluggedIn v k xs
plugged-all v k [] all = tt
plugged-all v k (x ∷ xs) all = (All-head (λ y. IsPluggedIn v k y.1) x xs all, plugged-all v k xs (All-tail (λ y. IsPluggedIn v k y.1) x xs all))

-- one of them
pub plugged-at : (v : View) (k : ℕ) (xs : List (List ℕ × Operand)) (i : ℕ) (x : List ℕ × Operand) → ArePluggedIn v k xs → i < length xs → x ≡ get_or xs i x → IsPluggedIn v k x.1
plugged-at v k [] i x all lt e = absurd (omega (arith, lt))
plugged-at v k (y ∷ xs) zero x all lt e = subst (λ z. IsPluggedIn v k z.1) (sym e) all.0
plugged-at v k (y ∷ xs) (suc i) x all lt e = plugged-at v k xs i x all.1 (omega (arith, lt)) e
