use Rattle.std.proofs.Common.{map, codes}
use Rattle.std.specs.Cmp.Lexicographic.{bytes_decides}
use Rattle.std.specs.Char.{to_ascii_lowercase}
use Rattle.std.proofs.lemmas.Bool.Decides.{same_from_decides}
use Rattle.scratch_values.proofs.casts.is_false_word.Goals as goal

pub returns : goal.returns
returns c = same_from_decides _ _ c.eq_ignore_ascii_case.ensures.test (bytes_decides (map to_ascii_lowercase c.args.text.now) (codes "false"))
