-- Known bytes that grow piece by piece.
use Rattle.std.proofs.Common.{◌≡◌, ℕ, List, [], ◌++◌, Option, None, Some, sym, ap, ◌∙◌, subst, append_assoc, append-nil}
use Rattle.sv_channels.specs.Sink.{Gained}

pub Gained-nil : (known : Option (List ℕ)) → Gained known known []
Gained-nil None = tt
Gained-nil (Some bytes) = ap (λ b. Some b) (sym (append-nil bytes))

-- two pieces, one after the other
pub Gained-trans : (old mid new : Option (List ℕ)) (first second : List ℕ) → Gained old mid first → Gained mid new second → Gained old new (first ++ second)
Gained-trans None mid new first second g h = tt
Gained-trans (Some bytes) mid new first second g h =
    let then : new ≡ Some ((bytes ++ first) ++ second) = subst (λ m. Gained m new second) g h in
    then ∙ ap (λ b. Some b) (append_assoc bytes first second)
