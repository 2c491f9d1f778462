-- The order to which a trail leads.
use Rattle.std.specs.Prelude.{ℕ, List, []}
use Rattle.fmp_base.specs.States.{to_end, without}
use Rattle.fmp_tasks.specs.declared.trail.OrderTrail.{OrderTrail}
use Rattle.fmp_tasks.specs.declared.trail.OrderTrail.TheVariants.{Start, Last', Left', Same'}

-- the second argument of a change is where the order before was, and of an order that is another one the first two are
abbrev pub order_of : OrderTrail → List ℕ
order_of Start = []
order_of (Last' t place before) = to_end (order_of before) t
order_of (Left' t place before) = without (order_of before) t
order_of (Same' place inner before) = order_of before
