use Rattle.std.proofs.Common.{◌≡◌, drop, map}
use Rattle.saved_checks.specs.Groups.{broken_in, rule_of}
use Rattle.saved_checks.proofs.rule_order.first_broken.Given as goal

-- the rules so far are kept
abbrev pub invariant-loop-member : goal.invariant-loop-member
invariant-loop-member l = broken_in (map rule_of l.rules) ≡ broken_in (map rule_of (drop l.member-index l.rules))
