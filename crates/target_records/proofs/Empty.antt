-- The text of an object with no members.
use Rattle.std.proofs.Common.{[], codes, refl}
use Rattle.project_json.specs.Tree.{object, no_fields}
use Rattle.project_json.specs.Text.{IsText, max_depth}
use Rattle.project_json.specs.Grammar.{spaced, no_members_here}

pub empty_text : IsText max_depth (codes "{}") (object no_fields)
unfolding lib.Utf8.encode
empty_text = ((codes "{}", (refl, refl)), spaced (codes "{}") [] ([], tt, refl) (no_members_here ([], tt, refl)) ([], tt, refl))
