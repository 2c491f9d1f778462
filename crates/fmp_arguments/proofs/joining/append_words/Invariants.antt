use Rattle.std.proofs.Common.{◌≡◌, ◌++◌, drop, map, string_bytes}
use Rattle.fmp_arguments.specs.Settings.{texts_of}
use Rattle.fmp_arguments.proofs.joining.append_words.Given as goal

abbrev pub invariant-loop-word : goal.invariant-loop-word
invariant-loop-word l =
    texts_of l.words ++ map string_bytes (drop l.word-index l.more)
    ≡ texts_of l.initial.words ++ map string_bytes l.more
