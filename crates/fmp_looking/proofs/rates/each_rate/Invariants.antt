use Rattle.std.proofs.Common.{◌≡◌, ◌++◌, drop, option_map}
use Rattle.fmp_looking.specs.Rates.{each_rate}
use Rattle.fmp_looking.proofs.rates.each_rate.Given as goal

abbrev pub invariant-loop-word : goal.invariant-loop-word
invariant-loop-word l =
    option_map (λ rs. l.rates.items ++ rs) (each_rate (drop l.word-index l.words)) ≡ each_rate l.words
