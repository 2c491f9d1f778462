-- The lines of a trace with where their calls stand.
use Rattle.std.specs.Prelude.{ℕ, ◌-◌, List, [], ◌∷◌, ◌++◌, Option, Some, None, codes, decimal, length, take}
use Rattle.fmp_base.specs.declared.events.Line.{Line}
use Rattle.fmp_base.specs.declared.events.Line.TheVariants as line
use Rattle.fmp_base.specs.Systems.{SystemTables}
use Rattle.fmp_named.specs.Lines.{named_lines}
use Rattle.fmp_named.specs.Records.{line_records}
use Rattle.fmp_frames.specs.declared.call_positions.CallPosition.{CallPosition}
use Rattle.fmp_frames.specs.declared.positioned_lines.LineForm.{LineForm}
use Rattle.fmp_frames.specs.declared.positioned_lines.LineForm.TheVariants as form

-- lines of event k
abbrev pub told : LineForm → SystemTables → ℕ → List Line → List ℕ
told form.Text sys k ls = named_lines sys k ls
told form.Record sys k ls = line_records sys k ls

-- how many bytes end a line
abbrev pub end_length : LineForm → ℕ
end_length form.Text = 1
end_length form.Record = 2

-- what stands before the number of a line, before that of a column, and after that
abbrev pub before_line : LineForm → List ℕ
before_line form.Text = codes " at "
before_line form.Record = codes ",\"line\":"

abbrev pub before_column : LineForm → List ℕ
before_column form.Text = codes ":"
before_column form.Record = codes ",\"column\":"

abbrev pub after_column : LineForm → List ℕ
after_column form.Text = codes "\n"
after_column form.Record = codes "}\n"

-- where a call stands, and the end of its line
abbrev pub position_text : LineForm → CallPosition → List ℕ
position_text f p =
    before_line f ++ (decimal p.line ++ (before_column f ++ (decimal p.column ++ after_column f)))

-- a line, with where its call stands in place of its end if that is known
abbrev pub with_position : LineForm → Option CallPosition → (text : List ℕ) → List ℕ
with_position f None text = text
with_position f (Some p) text = take (length text - end_length f) text ++ position_text f p

-- where the call of a line stands, if the line tells a call
abbrev pub position_in : Line → Option CallPosition → Option CallPosition
position_in (line.Call p who c reply) position = position
position_in _ position = None

-- the first line of event k, with where its call stands
abbrev pub first_text : LineForm → SystemTables → ℕ → Option CallPosition → Line → List ℕ
first_text f sys k position l = with_position f (position_in l position) (told f sys k (l ∷ []))

-- the lines of event k, with where its call stands
abbrev pub positioned : LineForm → SystemTables → ℕ → Option CallPosition → List Line → List ℕ
positioned f sys k position [] = []
positioned f sys k position (l ∷ ls) = first_text f sys k position l ++ told f sys k ls
