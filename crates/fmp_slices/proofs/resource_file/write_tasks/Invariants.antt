use Rattle.std.proofs.Common.{◌≡◌, ◌+◌, ◌++◌, drop}
use Rattle.fmp_slices.specs.Resources.{tasks_members}
use Rattle.fmp_slices.proofs.resource_file.write_tasks.Given as goal

abbrev pub invariant-loop-task : goal.invariant-loop-task
invariant-loop-task l =
    record {
      before : l.writer.before ≡ l.initial.writer.before;
      number : l.number ≡ l.task-index + 1;
      tokens :
          l.writer.tokens ++ tasks_members l.fn.bodies l.number (drop l.task-index l.fn.sys.tasks.items)
          ≡ l.initial.writer.tokens ++ tasks_members l.fn.bodies 1 l.fn.sys.tasks.items;
    }
