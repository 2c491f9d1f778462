use Rattle.std.proofs.Common.{◌≡◌, ◌∙◌, ◌+◌, ◌-◌, ◌++◌, ◌∷◌, [], ◌/◌, ℕ, List, suc, ap, append_assoc, arith, refl, sym}
use Rattle.fmp_frames.proofs.DumpLemmas.{last_digit, more_digits, on_ok_then}
use Rattle.fmp_frames.specs.Dumps.{digit, digits}
use Rattle.fmp_frames.proofs.text.append_identifier.Goals as goal

pub loop-digit-init : goal.loop-digit-init
loop-digit-init c = refl

pub loop-digit-preserved : goal.loop-digit-preserved
loop-digit-preserved c =
    let before = c.loop-digit.out.items in
    let n = c.loop-digit.rest in
    let d = c.loop-digit._digit in
    let lt = c.loop-digit-test.true in
    let left = 3 - (d + 1) in
    let cut : 3 - d ≡ suc left = omega (arith, lt) in
    ap (λ (xs : List ℕ). xs ++ digits left (n / 94)) (c.in_ok-append_digit.ensures)
    ∙ append_assoc before (digit n ∷ []) (digits left (n / 94))
    ∙ ap (λ (xs : List ℕ). before ++ xs) (sym (more_digits left n c.if-rest-lt94.false))
    ∙ ap (λ (m : ℕ). before ++ digits m n) (sym cut)
    ∙ c.loop-digit.invariant

pub returns-then-rest-lt94 : goal.returns-then-rest-lt94
returns-then-rest-lt94 c =
    let before = c.loop-digit.out.items in
    let n = c.loop-digit.rest in
    c.in_ok-append_digit.ensures
    ∙ ap (λ (xs : List ℕ). before ++ xs) (sym (last_digit (3 - c.loop-digit._digit) n c.if-rest-lt94.true))
    ∙ c.loop-digit.invariant

pub returns : goal.returns
unfolding digits
returns c =
    let before = c.loop-digit.out.items in
    let none : 3 - c.loop-digit._digit ≡ 0 = omega (arith, c.loop-digit-test.false) in
    on_ok_then c.append_digit-2.result
    (λ h. h
    ∙ ap (λ (m : ℕ). before ++ digits m c.loop-digit.rest) (sym none)
    ∙ c.loop-digit.invariant)
    c.append_digit-2.ensures
