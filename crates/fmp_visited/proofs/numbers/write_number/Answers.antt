use Rattle.std.proofs.Common.{◌++◌, ℕ, List, sym, ap, ◌∙◌, take, arith}
use Rattle.std.proofs.lemmas.List.{take_more_set}
use Rattle.fmp_visited.proofs.NumberLemmas.{bytes_small}
use Rattle.fmp_visited.proofs.numbers.write_number.Goals as goal

pub returns-then-number-lt128-clause-bytes : goal.returns-then-number-lt128-clause-bytes
returns-then-number-lt128-clause-bytes c =
    take_more_set c.args.row.now c.args.at c.args.number (omega (arith, c.requires))
    ∙ ap (λ (bytes : List ℕ). take c.args.at c.args.row.now ++ bytes)
    (sym (bytes_small c.args.number c.if-number-lt128.true))
