use Rattle.std.proofs.Common.{◌≡◌, ◌++◌, drop, map, string_bytes}
use Rattle.std.specs.Str.Lossy.{utf8_lossy}
use Rattle.fmp_searching.proofs.end_records.strings_of.Given as goal

abbrev pub invariant-loop-text : goal.invariant-loop-text
invariant-loop-text l =
    map string_bytes l.strings.items
    ++ map (λ text. utf8_lossy text) (map (λ text. text.items) (drop l.text-index l.texts))
    ≡ map (λ text. utf8_lossy text) (map (λ text. text.items) l.texts)
