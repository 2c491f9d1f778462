use Rattle.std.proofs.Common.{◌≡◌, ◌++◌, drop}
use Rattle.std.specs.List.{flat_map}
use Rattle.fmp_frames.specs.RefusalLines.{name_text}
use Rattle.fmp_frames.proofs.refusal_lines.append_codes.Given as goal

abbrev pub invariant-loop-code : goal.invariant-loop-code
invariant-loop-code l =
    l.out.items ++ flat_map (λ c. name_text c) (drop l.code-index l.codes)
    ≡ l.initial.out.items ++ flat_map (λ c. name_text c) l.codes
