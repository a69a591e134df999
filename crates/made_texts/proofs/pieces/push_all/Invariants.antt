use Rattle.std.proofs.Common.{◌≡◌, ◌++◌, drop}
use Rattle.std.specs.Prelude.{flat_map}
use Rattle.made_texts.proofs.pieces.push_all.Given as goal

-- the pieces so far, and then those that are left
abbrev pub invariant-loop-piece : goal.invariant-loop-piece
invariant-loop-piece l =
    l.out.items ++ flat_map (λ piece. piece.now) (drop l.piece-index l.pieces) ≡ l.fn.out.items ++ flat_map (λ piece. piece.now) l.pieces
