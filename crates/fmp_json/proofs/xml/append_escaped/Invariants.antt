use Rattle.std.proofs.Common.{◌≡◌, ◌++◌, drop}
use Rattle.fmp_json.specs.Xml.{escaped, fit, fit_after}
use Rattle.fmp_json.proofs.xml.append_escaped.Given as goal

abbrev pub invariant-loop-byte : goal.invariant-loop-byte
invariant-loop-byte l =
    l.out.items ++ escaped (fit_after l.before l.last (drop l.byte-index l.byte-items))
    ≡ l.initial.out.items ++ escaped (fit l.byte-items)
