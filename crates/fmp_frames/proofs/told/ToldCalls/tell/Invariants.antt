use Rattle.std.proofs.Common.{◌≡◌, drop}
use Rattle.fmp_frames.specs.Told.{told_after_all, told_of}
use Rattle.fmp_frames.proofs.told.ToldCalls.tell.Given as goal

-- what is told so far, and by the lines that are left
abbrev pub invariant-loop-line : goal.invariant-loop-line
invariant-loop-line l =
    told_after_all (told_of l.self) (drop l.line-index l.lines) ≡ told_after_all (told_of l.initial.self) l.lines
