-- What is said of an event.
use Rattle.std.specs.Prelude.{ℕ, zero, suc, ◌-◌, List, [], ◌&&◌, if◌then◌else◌, length, nat_le}
use Rattle.std.specs.Prelude.{slice_get, slice_range}
use Rattle.std.specs.Option.{option_map_or}
use Rattle.fmp_timeline.specs.declared.run.Run.{Run}

-- where the lines of the event before this one end
abbrev pub end_before : Run → (event : ℕ) → ℕ
end_before run zero = 0
end_before run (suc before) = option_map_or (λ n. n.end) (slice_get run.notes.items before) 0

-- a part of a text; nothing where the text has no such part
abbrev pub part_of : (text : List ℕ) → (from to : ℕ) → List ℕ
part_of text from to = if nat_le from to && nat_le to (length text) then slice_range text from to else []

-- the lines of an event, without the last line feed
abbrev pub lines_of : Run → (event : ℕ) → List ℕ
lines_of run event =
    option_map_or (λ n. part_of run.text.items (end_before run event) (n.end - 1)) (slice_get run.notes.items event) []
