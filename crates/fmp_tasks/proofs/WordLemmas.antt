-- The words of data queues, and their room.
use Rattle.std.proofs.Common.{◌≡◌, ℕ, zero, suc, ◌<◌, ◌≤◌, ℤ, List, [], ◌∷◌, length, true, nat_lt, drop, refl, arith}
use Rattle.std.specs.Prelude.{slice_get}
use Rattle.std.specs.List.{AllByRecursion}
use Rattle.std.proofs.lemmas.Bool.Decides.{nat_tests}
use Rattle.fmp_base.specs.declared.systems.DataQueueConfig.{DataQueueConfig}
use Rattle.fmp_base.specs.declared.systems.QueueOrder.TheVariants.{Fifo}
use Rattle.fmp_base.specs.Ranges.{DataQueueInRange, IsInRange}
use Rattle.fmp_base.specs.Systems.{SystemTables, data_queue_config, found, no_name}
use Rattle.fmp_base.specs.DataQueueCalls.{without_oldest}

-- to drop the first word is to leave the words behind the oldest
pub drop-oldest : (ws : List ℤ) → drop 1 ws ≡ without_oldest ws
drop-oldest [] = refl
drop-oldest (w ∷ ws) = refl

-- the words behind the oldest are fewer
pub behind-few : (ws : List ℤ) → length ws ≤ 255 → length (without_oldest ws) < 255
behind-few [] l = omega arith
behind-few (w ∷ ws) l = omega arith

-- a data queue holds at most 255 words
few-found : (default : DataQueueConfig) (rows : List DataQueueConfig) (d : ℕ) → default.capacity ≤ 255
    → AllByRecursion DataQueueInRange rows
    → (found default (slice_get rows d)).capacity ≤ 255
few-found default [] d l each = l
few-found default (y ∷ ys) zero l each = each.0.capacity
few-found default (y ∷ ys) (suc d) l each = few-found default ys d l each.1

pub capacity-few : (sys : SystemTables) (d : ℕ) → IsInRange sys → (data_queue_config sys d).capacity ≤ 255
capacity-few sys d k = few-found (record { name = no_name; order = Fifo; capacity = 0 }) sys.data_queues d
    (omega arith) k.data_queues.each

pub below-capacity : (a b : ℕ) → nat_lt a b ≡ true → a < b
below-capacity a b h = grind (arith, nat_tests)
