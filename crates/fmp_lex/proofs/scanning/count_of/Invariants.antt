use Rattle.std.proofs.Common.{◌≡◌, ◌≤◌, ◌-◌, ◌==◌, take, length, count_by}
use Rattle.fmp_lex.proofs.scanning.count_of.Given as goal

abbrev pub invariant-blocks-2 : goal.invariant-blocks-2
invariant-blocks-2 l = record {
  inside : l.at ≤ length l.text;
  counted : l.count ≡ count_by (λ b. b == l.byte) (take l.at l.text);
  few : l.count ≤ l.at;
}

abbrev pub decreases-blocks-2 : goal.decreases-blocks-2
decreases-blocks-2 l = length l.text - l.at
