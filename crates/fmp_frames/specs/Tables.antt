-- The table of what the tasks of a run did.
use Rattle.std.specs.Prelude.{ℕ, ◌+◌, ◌-◌, ◌*◌, ◌/◌, ◌%◌, max, List, [], ◌∷◌, ◌++◌, length, map, replicate}
use Rattle.std.specs.Prelude.{get_or, slice_get, Option, Some, None, codes, decimal}
use Rattle.fmp_base.specs.declared.systems.TaskConfig.{TaskConfig}
use Rattle.fmp_base.specs.Names.{name_text}
use Rattle.fmp_base.specs.Systems.{SystemTables}
use Rattle.fmp_frames.specs.declared.counting.TaskTally.{TaskTally}
use Rattle.fmp_frames.specs.Counting.{Counts}

abbrev pub blanks : ℕ → List ℕ
blanks n = replicate n 32

-- a name at the left end of a column of this width
abbrev pub name_cell : (width : ℕ) → (name : List ℕ) → List ℕ
name_cell width name = name ++ blanks (width - length name)

-- a text at the right end of the column of a head: it has two blanks more than its head, and 8 bytes at least
abbrev pub cell : (head text : List ℕ) → List ℕ
cell head text = blanks (max (length head + 2) 8 - length text) ++ text

abbrev pub head_cell : (head : List ℕ) → List ℕ
head_cell head = cell head head

-- the length of the longest of some names, and at least this
abbrev pub widest : ℕ → (names : List (List ℕ)) → ℕ
widest n [] = n
widest n (x ∷ xs) = widest (max (length x) n) xs

abbrev pub name_width : SystemTables → ℕ
name_width sys = widest 4 (map (λ c. name_text c.name) sys.tasks)

-- the heads of the counts
unfoldable pub count_heads : List ℕ
count_heads =
    head_cell (codes "starts")
    ++ (head_cell (codes "calls")
    ++ (head_cell (codes "waits")
    ++ (head_cell (codes "time-outs")
    ++ (head_cell (codes "preemptions")
    ++ (head_cell (codes "kept") ++ (head_cell (codes "spins") ++ head_cell (codes "events")))))))

abbrev pub heads : (width : ℕ) → List ℕ
heads width = name_cell width (codes "task") ++ (count_heads ++ (head_cell (codes "share") ++ 10 ∷ []))

-- the counts of a task that spun after this many events, under their heads
unfoldable pub count_cells : TaskTally → (spins : ℕ) → List ℕ
count_cells t spins =
    cell (codes "starts") (decimal t.starts)
    ++ (cell (codes "calls") (decimal t.calls)
    ++ (cell (codes "waits") (decimal t.waits)
    ++ (cell (codes "time-outs") (decimal t.time_outs)
    ++ (cell (codes "preemptions") (decimal t.preemptions)
    ++ (cell (codes "kept") (decimal t.kept)
    ++ (cell (codes "spins") (decimal spins) ++ cell (codes "events") (decimal t.events)))))))

-- how many of all events these are, in tenths of a percent
abbrev pub thousandths : (events all : ℕ) → ℕ
thousandths events all = events * 1000 / max all 1

abbrev pub share : (events all : ℕ) → List ℕ
share events all =
    decimal (thousandths events all / 10) ++ (codes "." ++ (decimal (thousandths events all % 10) ++ codes "%"))

-- the row of a task that spun after this many of all events, if anything is counted of it
abbrev pub row : (width : ℕ) → (name : List ℕ) → Option TaskTally → (spins all : ℕ) → List ℕ
row width name None spins all = []
row width name (Some t) spins all =
    name_cell width name ++ (count_cells t spins ++ (cell (codes "share") (share t.events all) ++ 10 ∷ []))

abbrev pub task_row : Counts → (width t : ℕ) → (name : List ℕ) → List ℕ
task_row c width t name = row width name (slice_get c.tallies t) (get_or c.spins t 0) c.events

-- the rows of tasks, of which the first has this number
abbrev pub task_rows : Counts → (width t : ℕ) → List TaskConfig → List ℕ
task_rows c width t [] = []
task_rows c width t (x ∷ xs) = task_row c width t (name_text x.name) ++ task_rows c width (t + 1) xs

abbrev pub task_table : SystemTables → Counts → List ℕ
task_table sys c = heads (name_width sys) ++ task_rows c (name_width sys) 0 sys.tasks
