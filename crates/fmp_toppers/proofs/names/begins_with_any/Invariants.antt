use Rattle.std.proofs.Common.{◌≡◌, drop, nat_eq}
use Rattle.std.specs.List.{list_any, starts_with}
use Rattle.fmp_toppers.proofs.names.begins_with_any.Given as goal

abbrev pub invariant-loop-word : goal.invariant-loop-word
invariant-loop-word l =
    list_any (λ word. starts_with nat_eq l.name word.now) (drop l.word-index l.words)
    ≡ list_any (λ word. starts_with nat_eq l.name word.now) l.words
