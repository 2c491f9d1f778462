use Rattle.std.proofs.Common.{◌≡◌, ◌++◌, drop, take}
use Rattle.fmp_slices.specs.Traces.{task_title, texts_from}
use Rattle.fmp_slices.proofs.tracing.SliceSource.append_task_titles.Given as goal

abbrev pub invariant-loop-place : goal.invariant-loop-place
invariant-loop-place l =
    l.out.items ++ texts_from task_title l.place (drop l.place (take 255 l.self.sys.now.tasks.items))
    ≡ l.initial.out.items ++ texts_from task_title 0 (take 255 l.self.sys.now.tasks.items)
