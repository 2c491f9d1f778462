use Rattle.std.proofs.Common.{rules, ◌≡◌, ◌≤◌, ◌==◌, count_by}
use Rattle.std.specs.Prelude.{slice_range}
use Rattle.fmp_lex.proofs.Counting.{count_by-range}
use Rattle.fmp_lex.proofs.scanning.count_of.Goals as goal

pub blocks-2-preserved : goal.blocks-2-preserved
blocks-2-preserved c =
    let ahead : c.blocks-2.at ≤ c.min-end.result = search rules in
    let both = count_by-range (λ b. b == c.args.byte) c.args.text.now c.blocks-2.at c.min-end.result ahead in
    let block : c.from-count.result ≡ count_by (λ b. b == c.args.byte) (slice_range c.args.text.now c.blocks-2.at
    c.min-end.result) =
    search rules in
    record {
      inside = search rules;
      counted = rw both (rw block (rw c.blocks-2.invariant.counted (search rules)));
      few = search rules;
    }
