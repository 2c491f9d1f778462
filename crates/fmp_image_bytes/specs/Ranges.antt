-- The ranges of the numbers in the rows of an image.
use Rattle.std.specs.Prelude.{ℕ, Bool, ◌&&◌, ◌||◌, ◌==◌, nat_le}
use Rattle.fmp_image_bytes.specs.Fields.{in_range}

-- attributes of which only the second bit may be set: TA_ACT, TA_STA
abbrev pub is_start_bit : ℕ → Bool
is_start_bit attributes = (attributes == 0) || (attributes == 2)

abbrev pub task_numbers : (attributes priority stack only : ℕ) → Bool
task_numbers attributes priority stack only =
    is_start_bit attributes && in_range 1 16 priority && in_range 1 65536 stack && nat_le only 1

abbrev pub cyclic_numbers : (attributes period phase : ℕ) → Bool
cyclic_numbers attributes period phase =
    is_start_bit attributes && in_range 1 1073741824 period && nat_le phase 1073741824

abbrev pub semaphore_rules : (attributes initial most : ℕ) → Bool
semaphore_rules attributes initial most = nat_le attributes 1 && nat_le 1 most && nat_le initial most

abbrev pub mailbox_rules : (attributes most : ℕ) → Bool
mailbox_rules attributes most = nat_le attributes 3 && in_range 1 16 most
