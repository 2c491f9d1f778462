use Rattle.std.proofs.Common.{◌≡◌, ◌++◌, drop}
use Rattle.fmp_frames.specs.Declarations.{of_each, word_scope}
use Rattle.fmp_frames.proofs.declarations.declare_shared_words.Given as goal

abbrev pub invariant-loop-place : goal.invariant-loop-place
invariant-loop-place l =
    l.out.items ++ of_each word_scope l.place (drop l.place l.sys.shared_words.items)
    ≡ l.initial.out.items ++ of_each word_scope 0 l.sys.shared_words.items
