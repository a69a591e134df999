use Rattle.std.proofs.Common.{◌≡◌, ap, ◌∙◌}
use Rattle.rand_core.specs.Steps.{first_words}
use Rattle.rand_core.specs.Stream.{next_u32}
use Rattle.rand_pcg.specs.Lcg.{advance}
use Rattle.rand_pcg.specs.Pcg.{multiplier_64}
use Rattle.script_words.specs.Counting.{source_of}
use Rattle.script_words.specs.Words.{answers, seeded}
use Rattle.script_words.proofs.WordsLemmas.{answers-advance, first-without}
use Rattle.script_words.proofs.seeds.pcg.Goals as goal

pub returns-clause-stream : goal.returns-clause-stream
returns-clause-stream c =
    let from_seed : source_of c.new.result ≡ advance 64 multiplier_64 c.args.drawn (seeded c.args.seed) = cc in
    ap answers from_seed ∙ answers-advance c.args.drawn (seeded c.args.seed)

pub returns-clause-words : goal.returns-clause-words
returns-clause-words c = λ n. ap (λ s. first_words next_u32 n s) (returns-clause-stream c) ∙ first-without c.args.drawn n (answers (seeded c.args.seed))
