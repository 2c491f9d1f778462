use Rattle.std.proofs.Common.{◌≡◌, ◌++◌, drop}
use Rattle.std.specs.List.{flat_map}
use Rattle.fmp_frames.specs.Answers.{code_at}
use Rattle.fmp_frames.proofs.answers.codes_among.Given as goal

abbrev pub invariant-loop-code : goal.invariant-loop-code
invariant-loop-code l =
    l.codes.items ++ flat_map (λ c. code_at l.answers l.site c) (drop l.code-index l.all)
    ≡ flat_map (λ c. code_at l.answers l.site c) l.all
