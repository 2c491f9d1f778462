-- A task and the processor of its lane.
use Rattle.std.specs.Prelude.{ℕ, ◌+◌, ◌==◌, List, [], ◌++◌, Option, None, Some, Bool, false, codes, decimal}
use Rattle.std.specs.Prelude.{if◌then◌else◌}
use Rattle.fmp_base.specs.declared.systems.TaskConfig.{TaskConfig}

-- a task is at home on its first processor
abbrev pub is_home : Option TaskConfig → (processor : ℕ) → Bool
is_home None processor = false
is_home (Some t) processor = t.processor == processor

-- beside its lane stands its priority, or from which processor a guest comes
abbrev pub origin_text : TaskConfig → (processor : ℕ) → List ℕ
origin_text t processor =
    if t.processor == processor then codes "pri " ++ decimal t.priority else codes "from p" ++ decimal (t.processor + 1)

abbrev pub side_text : Option TaskConfig → (processor : ℕ) → List ℕ
side_text None processor = []
side_text (Some t) processor = origin_text t processor
