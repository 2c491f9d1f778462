-- How the bars of tasks look.
use Rattle.std.specs.Prelude.{ℕ, ◌+◌, ◌*◌, ◌%◌, ◌/◌}
use Rattle.fmp_base.specs.declared.systems.TaskConfig.{TaskConfig}
use Rattle.fmp_timeline.specs.declared.looks.BarLook.{BarLook}

-- the look of a task that has this many above it: eight colours, and a hatch more for each eight
abbrev pub look_of : ℕ → BarLook
look_of above = record { colour = above % 8; hatch = above / 8 % 4 }

-- lanes stand by processor, by priority and by number
abbrev pub height_of : TaskConfig → ℕ → ℕ
height_of t place = (t.processor * 256 + t.priority) * 256 + place
