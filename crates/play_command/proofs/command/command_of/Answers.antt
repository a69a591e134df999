use Rattle.std.proofs.Common.{rules}
use Rattle.play_command.proofs.Forms.{few_words, four_words, many_words}
use Rattle.play_command.proofs.command.command_of.Goals as goal
use Rattle.play_command.proofs.command.command_of.Goals.{in_default-via-then-words-lt2, in_default-via-else-words-lt2+else-words-lt3+else-words-lt4+then-words-lt5, in_default-via-else-words-lt2+else-words-lt3+else-words-lt4+else-words-lt5+else-words-lt6}

pub returns-in_default : goal.returns-in_default
returns-in_default c =
    elim c.in_default.branch [
      | in_default-via-then-words-lt2 w ↦ search (rules, few_words)
      | in_default-via-else-words-lt2+else-words-lt3+else-words-lt4+then-words-lt5 w ↦ search (rules, four_words)
      | in_default-via-else-words-lt2+else-words-lt3+else-words-lt4+else-words-lt5+else-words-lt6 w ↦ search (rules, many_words)
    ]
