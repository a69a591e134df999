use Rattle.std.proofs.Common.{refl, ◌++◌, ap, ◌∙◌}
use Rattle.std.specs.Option.{option_map}
use Rattle.project_json.specs.View.{tree}
use Rattle.report_command.specs.Unknown.{unknown_text}
use Rattle.report_command.specs.Text.{refusal_text}
use Rattle.report_command.specs.Verdict.{refused}
use Rattle.report_command.proofs.judgement.judge_refused.Goals as goal

pub returns : goal.returns
returns c = record {
  verdict = refused c.args.refusal (option_map tree c.in_ok-document.document) c.in_ok-names.names;
  is = (c.requires.refused, c.in_ok-document.ensures.document, c.in_ok-names.ensures);
  text = c.in_ok-text.ensures ∙ ap (λ names. refusal_text (option_map tree c.in_ok-document.document) c.args.refusal ++ unknown_text names) c.as_slice.ensures;
  refusal = refl;
  rule = c.requires.rule;
}
