-- Arrays of links, and counts of the steps over them.
use Rattle.std.specs.Prelude.{ℕ, ◌+◌, ◌≤◌, List, slice_index_or}

-- the link at a place
abbrev pub link_at : List ℕ → ℕ → ℕ
link_at links place = slice_index_or links place 0

-- a count of steps grew, by at most n
abbrev pub AddsAtMost : ℕ → ℕ → ℕ → Type 0
AddsAtMost n old new = (old ≤ new) × (new ≤ old + n)
