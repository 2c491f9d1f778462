-- How much room a text needs for lines.
use Rattle.std.specs.Prelude.{ℕ, ◌+◌, ◌*◌}

-- room for n lines: each has at most 127 bytes, and after the last one 96 more are copied and cut off
abbrev pub lines_room : (lines : ℕ) → ℕ
lines_room lines = 127 * lines + 96

-- room for the lines of n states: each has at most 1024 bytes
abbrev pub states_room : (states : ℕ) → ℕ
states_room states = 1024 * states + 96
