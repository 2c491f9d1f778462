use Rattle.std.proofs.Common.{◌≡◌, ◌++◌, drop, map, string_bytes}
use Rattle.fmp_arguments.specs.Joined.{added_text, used_text}
use Rattle.fmp_arguments.proofs.joining.used_text.Given as goal

abbrev pub invariant-loop-word : goal.invariant-loop-word
invariant-loop-word l =
    string_bytes l.text ++ added_text (map string_bytes (drop l.word-index l.added))
    ≡ used_text l.file (map string_bytes l.added)
