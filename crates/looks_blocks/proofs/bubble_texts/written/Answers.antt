-- Two digits stand behind the point.
use Rattle.std.proofs.Common.{◌≡◌, ◌++◌, ◌/◌, ◌%◌, ◌∙◌, codes, string_bytes}
use Rattle.std.specs.Fmt.{decimal}
use Rattle.std.proofs.lemmas.Result.{IfOk-weaker}
use Rattle.machine_spec.specs.Texts.{hundredths}
use Rattle.looks_blocks.proofs.Signs.{written_parts}
use Rattle.looks_blocks.proofs.bubble_texts.written.Goals as goal

pub returns : goal.returns
returns c =
    let n = c.args.n in
    let sign = c.args.sign.now in
    IfOk-weaker c.format.result (λ s. string_bytes s ≡ sign ++ (decimal (n / 100) ++ (codes "." ++ (decimal (n % 100 / 10) ++ decimal (n % 10))))) (λ s. string_bytes s ≡ sign ++ hundredths n) (λ s wrote. wrote ∙ written_parts sign n) c.format.ensures.ok
