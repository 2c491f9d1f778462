use Rattle.std.proofs.Common.{◌≡◌, take}
use Rattle.std.specs.List.{list_any}
use Rattle.fmp_question.specs.Sites.{is_bad}
use Rattle.fmp_explore.proofs.notes.Notes.note_each.Given as goal

abbrev pub invariant-loop-place : goal.invariant-loop-place
invariant-loop-place l =
    l.found
    ≡ list_any (is_bad l.subject.image.now.system l.subject.question.now l.kernel.world) (take l.place l.lines)
