-- The ready queues among lent lists: sixteen for each processor, from head 0 on.
use Rattle.std.specs.Prelude.{◌≡◌, ℕ, zero, suc, ◌+◌, ◌-◌, ◌*◌, ◌<◌, ◌≤◌, ◌^◌, List, [], ◌∷◌, Option, Some, None}
use Rattle.std.specs.Prelude.{length, slice_set, slice_index_or}
use Rattle.std.specs.Int.{bit_at}
use Rattle.fmp_ring.specs.RingLists.{RingLists, list_at}

-- the head of the list of a priority, from 1, on processor p
abbrev pub head : ℕ → ℕ → ℕ
head p priority = p * 16 + (priority - 1)

abbrev pub queue_at : RingLists → ℕ → ℕ → List ℕ
queue_at r p priority = list_at r.lists (head p priority)

-- one queue becomes another; the other lists stay
abbrev pub with_queue : RingLists → ℕ → ℕ → List ℕ → RingLists
with_queue r p priority ts = record r { lists = slice_set r.lists (head p priority) ts }

abbrev pub first_or : List ℕ → Option ℕ → Option ℕ
first_or [] rest = rest
first_or (t ∷ ts) rest = Some t

-- the first task of the first queue that is not empty, of n queues from one on
abbrev pub first_from : (ℕ → List ℕ) → ℕ → ℕ → Option ℕ
first_from queue from zero = None
first_from queue from (suc n) = first_or (queue from) (first_from queue (from + 1) n)

-- the first task of the most urgent queue of p that is not empty
unfoldable pub most_urgent : RingLists → ℕ → Option ℕ
most_urgent r p = first_from (queue_at r p) 1 16

-- 1 for a list that is not empty
abbrev pub bit_for : List ℕ → ℕ
bit_for [] = 0
bit_for (t ∷ ts) = 1

-- the lists have those of each processor, of tasks with numbers of one byte, and a bit of a processor's bitmap is set
-- exactly if its queue is not empty
pub record AreExact (bitmaps : List ℕ) (r : RingLists) : Type 0 where
  pub few : r.nodes ≤ 2 ^ 8
  pub heads : length bitmaps * 16 ≤ length r.lists
  pub bits : (p k : ℕ) → p < length bitmaps → k < 16
      → bit_at (slice_index_or bitmaps p 0) k ≡ bit_for (list_at r.lists (p * 16 + k))
