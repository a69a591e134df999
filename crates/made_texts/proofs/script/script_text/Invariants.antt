use Rattle.std.proofs.Common.{◌≡◌}
use Rattle.made_texts.specs.MadeScript.{made_script}
use Rattle.made_texts.proofs.script.script_text.Given as goal

-- the lines of the frames so far
abbrev pub invariant-loop-earlier : goal.invariant-loop-earlier
invariant-loop-earlier l = l.out.items ≡ made_script l.earlier
