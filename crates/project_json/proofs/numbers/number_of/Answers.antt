use Rattle.std.proofs.Common.{sym, subst, ◌∙◌}
use Rattle.std.specs.Str.{IsUtf8}
use Rattle.project_json.proofs.Utf8.{to_utf8, number_utf8}
use Rattle.project_json.proofs.numbers.number_of.Goals as goal

pub from_utf8-digits-requires : goal.from_utf8-digits-requires
from_utf8-digits-requires c =
    to_utf8 _ (subst IsUtf8 (sym (c.in_ok-from_slice.ensures.items ∙ c.split_at.ensures.front)) (number_utf8 c.args.bytes.now c.in_ok-len.len _ c.in_ok-len.ensures.gives))
