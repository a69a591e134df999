-- Settling keeps what is left to do.
use Rattle.std.proofs.Common.{◌≡◌, List, [], ◌∷◌, Bool, refl}
use Rattle.machine_spec.specs.Pending.{Item, Do, Held, Returned, Branch, Again, Back, settle}
use Rattle.machine_spec.specs.Laws.{left}

pub left-settle : (items : List Item) (w : Bool) → left (settle items w).items ≡ left items
left-settle [] w = refl
left-settle (Do s ∷ r) w = refl
left-settle (Held s c ∷ r) w = refl
left-settle (Returned s params ∷ r) w = refl
left-settle (Branch s v ∷ r) w = left-settle r v
left-settle (Again s c v ∷ r) w = refl
left-settle (Back s params v ∷ r) w = left-settle r v
