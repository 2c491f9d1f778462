use Rattle.std.proofs.Common.{◌≡◌, drop}
use Rattle.std.specs.List.{list_all}
use Rattle.fmp_searching.specs.Questions.{is_section}
use Rattle.fmp_searching.proofs.asking.are_all_sections.Given as goal

abbrev pub invariant-loop-word : goal.invariant-loop-word
invariant-loop-word l =
    list_all (λ word. is_section word.now) (drop l.word-index l.words)
    ≡ list_all (λ word. is_section word.now) l.words
