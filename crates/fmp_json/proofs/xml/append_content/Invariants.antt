use Rattle.std.proofs.Common.{◌≡◌, ◌++◌, drop}
use Rattle.fmp_json.specs.Xml.{content, fit, fit_after}
use Rattle.fmp_json.proofs.xml.append_content.Given as goal

abbrev pub invariant-loop-byte : goal.invariant-loop-byte
invariant-loop-byte l =
    l.out.items ++ content (fit_after l.before l.last (drop l.byte-index l.byte-items))
    ≡ l.initial.out.items ++ content (fit l.byte-items)
