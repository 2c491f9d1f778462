-- The bodies of a code are short enough for the places of their calls.
use Rattle.std.proofs.Common.{◌≡◌, ℕ, zero, suc, ◌<◌, ◌≤◌, List, [], ◌∷◌, length, map, get_or, subst, sym, arith}
use Rattle.fmp_instructions.specs.declared.instructions.BodyCode.{BodyCode}
use Rattle.fmp_instructions.specs.Instructions.{body_tables, instructions_at}

pub sized_item : (bodies : List BodyCode) (i : ℕ) (b d : BodyCode) → i < length bodies → b ≡ get_or bodies i d
    → ((k : ℕ) → length (instructions_at (map body_tables bodies) k) ≤ 65535) → length b.instructions.items ≤ 65535
sized_item [] i b d lt is h = absurd (omega arith)
sized_item (x ∷ xs) zero b d lt is h =
    subst (λ (y : BodyCode). length y.instructions.items ≤ 65535) (sym is) (h zero)
sized_item (x ∷ xs) (suc i) b d lt is h = sized_item xs i b d (omega arith) is (λ k. h (suc k))
