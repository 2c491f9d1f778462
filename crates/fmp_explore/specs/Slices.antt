-- Slices of a search: states of it that were examined in a search of their own.
use Rattle.std.specs.declared.alloc.AllocError.{AllocError}
use Rattle.std.specs.Prelude.{ℕ, ◌≡◌, ◌-◌, ◌<◌, ◌≤◌, All, IfOk, List, Result, Some, true, length, slice_get}
use Rattle.fmp_explore.specs.declared.searches.Search.{Search}
use Rattle.fmp_explore.specs.declared.slices.Slice.{Slice}
use Rattle.fmp_explore.specs.Searching.{Grows, IsSearch, IsSearching, rows_of}
use Rattle.fmp_explore.specs.States.{IsExamined}
use Rattle.fmp_witness.specs.Asked.{Asked}

-- a search that keeps rows as the whole one does
pub record IsSliceOf (asked : Asked) (whole s : Search) : Type 0 where
  pub search : IsSearch asked s
  pub outs : s.rows.outs ≡ whole.rows.outs
  pub fields : s.rows.fields.items ≡ whole.rows.fields.items
  pub first : s.rows.first.items ≡ whole.rows.first.items

-- the states of the whole search from a place on, up to another one, are examined in a search
abbrev pub AreExamined : Asked → (whole : Search) → (first end : ℕ) → Search → Type 0
AreExamined asked whole first end s =
    s.sure ≡ true → (k : ℕ) (row : List ℕ) → first ≤ k → k < end → slice_get whole.seen.rows k ≡ Some row →
    IsExamined asked (rows_of s) row

-- the states of the whole search from a place on, up to another one, are the first ones of a search
abbrev pub AreFirst : (whole : Search) → (first end : ℕ) → Search → Type 0
AreFirst whole first end s =
    s.sure ≡ true → (k : ℕ) (row : List ℕ) → first ≤ k → k < end → slice_get whole.seen.rows k ≡ Some row →
    slice_get s.seen.rows (k - first) ≡ Some row

-- their rows were taken
pub record HasTaken (whole : Search) (first end : ℕ) (old new : Search) : Type 0 where
  pub grows : Grows old new
  pub each : AreFirst whole first end new

-- states of the whole search that are handed to a search of their own
pub record IsTaken (asked : Asked) (whole : Search) (slice : Slice) : Type 0 where
  pub same : IsSliceOf asked whole slice.search
  pub within : slice.span.end ≤ length whole.seen.rows
  pub each : AreFirst whole slice.span.first slice.span.end slice.search

-- the first states of a search were examined, this many
pub record HasExaminedFirst (asked : Asked) (count : ℕ) (old new : Search) : Type 0 where
  pub search : IsSearch asked new
  pub grows : Grows old new
  pub each :
      new.sure ≡ true → (k : ℕ) (row : List ℕ) → k < count → slice_get old.seen.rows k ≡ Some row →
      IsExamined asked (rows_of new) row

-- a slice of the whole search: its states are examined
pub record IsSlice (asked : Asked) (whole : Search) (slice : Slice) : Type 0 where
  pub same : IsSliceOf asked whole slice.search
  pub within : slice.span.end ≤ length whole.seen.rows
  pub each : AreExamined asked whole slice.span.first slice.span.end slice.search

-- so it is of each of these for which there was memory
abbrev pub AreSlices : Asked → (whole : Search) → List (Result Slice AllocError) → Type 0
AreSlices asked whole slices = All (λ s. IfOk s (IsSlice asked whole)) slices

-- states of the whole search are handed over in each of these for which there was memory
abbrev pub AreTakenOver : Asked → (whole : Search) → List (Result Slice AllocError) → Type 0
AreTakenOver asked whole slices = All (λ s. IfOk s (IsTaken asked whole)) slices

-- in each of these for which there was memory, states can be examined
abbrev pub AreReady : Asked → List (Result Slice AllocError) → Type 0
AreReady asked slices = All (λ s. IfOk s (λ slice. IsSearch asked slice.search)) slices

-- a row is one of these
pub record IsAmong (rows : List (List ℕ)) (row : List ℕ) : Type 0 where
  pub place : ℕ
  pub there : slice_get rows place ≡ Some row

-- a row is kept
pub record HasKeptRow (old new : Search) (row : List ℕ) : Type 0 where
  pub grows : Grows old new
  pub kept : new.sure ≡ true → IsAmong new.seen.rows row

-- the first rows of a slice are kept, this many
abbrev pub AreEntered : (slice : Search) → (count : ℕ) → Search → Type 0
AreEntered slice count s =
    s.sure ≡ true → (k : ℕ) (row : List ℕ) → k < count → slice_get slice.seen.rows k ≡ Some row →
    IsAmong s.seen.rows row

-- a slice was entered: all of its rows are kept
pub record HasEntered (slice old new : Search) : Type 0 where
  pub grows : Grows old new
  pub sure : new.sure ≡ true → slice.sure ≡ true
  pub each : AreEntered slice (length slice.seen.rows) new

-- a search has gone on since a round of slices of it began: it has examined its states up to a place, which was there
-- then
pub record IsInRound (asked : Asked) (whole : Search) (next : ℕ) (s : Search) : Type 0 where
  pub grows : Grows whole s
  pub within : next ≤ length whole.seen.rows
  pub searching : IsSearching asked next s
