use Rattle.std.proofs.Common.{◌≡◌, ◌∙◌, ◌+◌, ◌-◌, ◌++◌, ◌∷◌, [], ◌/◌, ◌%◌, ◌^◌, ℕ, List, suc, ap, append-nil}
use Rattle.std.proofs.Common.{append_assoc}
use Rattle.std.proofs.Common.{arith, sym}
use Rattle.fmp_frames.specs.Dumps.{bits}
use Rattle.fmp_frames.proofs.text.append_bits.Goals as goal

pub loop-place-preserved : goal.loop-place-preserved
unfolding bits
loop-place-preserved c =
    let x = c.args.number in
    let n = c.args.width in
    let i = c.loop-place.place in
    let before = c.loop-place.out.items in
    let lt = c.loop-place-test.true in
    let left = n - (i + 1) in
    let cut : n - i ≡ suc left = omega (arith, lt) in
    let same : n - 1 - i ≡ left = omega (arith, lt) in
    ap (λ (xs : List ℕ). xs ++ bits left x) c.in_ok-push.ensures.items
    ∙ append_assoc before (c.bit_digit.result ∷ []) (bits left x)
    ∙ ap (λ (b : ℕ). before ++ (b ∷ bits left x)) (c.bit_digit.ensures ∙ ap (λ (k : ℕ). 48 + x / 2 ^ k % 2) same)
    ∙ ap (λ (m : ℕ). before ++ bits m x) (sym cut)
    ∙ c.loop-place.invariant

pub returns : goal.returns
unfolding bits
returns c =
    let none : c.args.width - c.loop-place.place ≡ 0 = omega (arith, c.loop-place-test.false) in
    sym (append-nil c.loop-place.out.items)
    ∙ ap (λ (m : ℕ). c.loop-place.out.items ++ bits m c.args.number) (sym none)
    ∙ c.loop-place.invariant
