use Rattle.std.proofs.Common.{◌≡◌, ◌++◌, drop, map}
use Rattle.fmp_searching.specs.Claimed.{text_of}
use Rattle.fmp_searching.proofs.exploring.steps_texts.Given as goal

abbrev pub invariant-loop-finding : goal.invariant-loop-finding
invariant-loop-finding l =
    map (λ text. text.items) l.texts.items ++ map text_of (drop l.finding-index l.findings) ≡ map text_of l.findings
