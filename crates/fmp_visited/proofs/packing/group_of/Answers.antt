use Rattle.std.proofs.Common.{◌≡◌, ◌-◌, ◌+◌, ℕ, List, length, min, sym, ap, ◌∙◌, take, drop, arith, length-drop}
use Rattle.std.proofs.lemmas.List.{take_min, drop_min}
use Rattle.fmp_visited.specs.Rows.{group_at}
use Rattle.fmp_visited.proofs.packing.group_of.Goals as goal

clipped : (s : ℕ) (v : List ℕ) (start count : ℕ) → start ≡ min s (length v) → count ≡ min 8 (length v - start)
    → take (start + count - start) (drop start v) ≡ group_at s v
unfolding group_at
clipped s v start count a b =
    let left : drop start v ≡ drop s v = ap (λ (n : ℕ). drop n v) a ∙ drop_min s v in
    let size : start + count - start ≡ count = omega arith in
    let few : count ≡ min 8 (length (drop start v)) = b ∙ ap (λ (n : ℕ). min 8 n) (sym (length-drop start v)) in
    ap (λ (n : ℕ). take n (drop start v)) (size ∙ few) ∙ (take_min 8 (drop start v)
    ∙ ap (λ (r : List ℕ). take 8 r) left)

pub returns-clause-group : goal.returns-clause-group
returns-clause-group c =
    clipped c.args.start c.args.values.now c.min-start.result c.min-count.result c.min-start.ensures c.min-count.ensures
