-- Kernels on which nothing is done yet.
use Rattle.std.proofs.Common.{ℕ, ◌≡◌, ◌+◌, ◌≤◌, ◌^◌, arith}

-- there is room for as many events as a run has at most
pub room : (done n : ℕ) → done ≡ 0 → n ≤ 2 ^ 31 → done + n ≤ 2 ^ 31
room done n fresh few = omega (arith, fresh, few)

-- and as many as a drive has at most
pub drive_room : (done n : ℕ) → done ≡ 0 → n ≤ 2 ^ 20 → done + n ≤ 2 ^ 20
drive_room done n fresh few = omega (arith, fresh, few)

-- and as many as steps have at most
pub room_of_steps : (done n : ℕ) → done ≡ 0 → n ≤ 2 ^ 20 → done + n ≤ 2 ^ 31
room_of_steps done n fresh few = omega (arith, fresh, few)
