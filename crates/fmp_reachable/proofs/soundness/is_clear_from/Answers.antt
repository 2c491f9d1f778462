use Rattle.std.proofs.Common.{rules, pos, ◌≡◌, ◌<◌, ℕ, ℤ, List, ap, length, take, ◌∙◌, arith}
use Rattle.std.specs.Prelude.{get_or}
use Rattle.std.proofs.lemmas.Bool.{eqb-true}
use Rattle.std.proofs.lemmas.List.{take_all}
use Rattle.std.proofs.lemmas.List.Sums.{sum_by-take-le}
use Rattle.fmp_reachable.proofs.Zeros.{clear-from, mark, marks, marks-other, marks-zero}
use Rattle.fmp_reachable.proofs.soundness.is_clear_from.Goals.{then-locals-k-eq0, else-locals-k-eq0}
use Rattle.fmp_reachable.proofs.soundness.is_clear_from.Goals.{then-locals-k-ne0, else-locals-k-ne0}
use Rattle.fmp_reachable.proofs.soundness.is_clear_from.Goals as goal

pub loop-k-init : goal.loop-k-init
loop-k-init c = omega arith

pub loop-k-preserved : goal.loop-k-preserved
loop-k-preserved c =
    let l = c.loop-k in
    let xs : List ℤ = c.args.locals.now in
    let lt : l.k < length xs = omega (arith, c.told-locals, c.loop-k-test.true) in
    elim c.if-locals-k-eq0.branch [
      | then-locals-k-eq0 w ↦
          let is : get_or xs l.k (pos 0) ≡ pos 0 = search (rules, w.if-locals-k-eq0.true) in
          omega (arith, l.invariant, w.zeros-is, marks-zero xs l.k (pos 0) lt is)
      | else-locals-k-eq0 w ↦
          let is : get_or xs l.k (pos 0) ≡ pos 0 → ⊥ = search (rules, w.if-locals-k-eq0.false) in
          omega (arith, l.invariant, w.zeros-is, marks-other xs l.k (pos 0) lt is)
    ]

pub loop-k-2-init : goal.loop-k-2-init
loop-k-2-init c =
    let l = c.loop-k in
    let xs : List ℤ = c.args.locals.now in
    let all : take l.k xs ≡ xs = take_all l.k xs (omega (arith, c.told-locals, c.loop-k-test.false)) in
    omega (arith, l.invariant, l.auto.k-end, c.loop-k-test.false, ap (λ (ys : List ℤ). marks ys) all)

pub overflow_add-zeros-then-locals-k-ne0 : goal.overflow_add-zeros-then-locals-k-ne0
overflow_add-zeros-then-locals-k-ne0 c =
    let l = c.loop-k-2 in
    omega (arith, l.invariant, sum_by-take-le mark c.args.locals.now l.k)

pub loop-k-2-preserved : goal.loop-k-2-preserved
loop-k-2-preserved c =
    let l = c.loop-k-2 in
    let xs : List ℤ = c.args.locals.now in
    let lt : l.k < length xs =
    omega (arith, c.told-locals, c.loop-k-2-test.true, c.min-k-end.ensures, c.from.ensures) in
    elim c.if-locals-k-ne0.branch [
      | then-locals-k-ne0 w ↦
          let is : get_or xs l.k (pos 0) ≡ pos 0 → ⊥ = search (rules, w.if-locals-k-ne0.true) in
          omega (arith, l.invariant, w.zeros-is, marks-other xs l.k (pos 0) lt is)
      | else-locals-k-ne0 w ↦
          let is : get_or xs l.k (pos 0) ≡ pos 0 = search (rules, w.if-locals-k-ne0.false) in
          omega (arith, l.invariant, w.zeros-is, marks-zero xs l.k (pos 0) lt is)
    ]

pub returns-clause-clear : goal.returns-clause-clear
returns-clause-clear c = λ yes k low lt.
    let l = c.loop-k-2 in
    let xs : List ℤ = c.args.locals.now in
    let all : l.zeros ≡ 64 = eqb-true l.zeros 64 yes in
    let place : l.k ≡ c.args.first =
    omega (arith, low, lt, l.auto.k-end, c.loop-k-2-test.false, c.min-k-end.ensures, c.from.ensures) in
    let same : marks xs ≡ marks (take l.k xs) = omega (arith, l.invariant, all) in
    clear-from xs c.args.first k (same ∙ ap (λ (n : ℕ). marks (take n xs)) place) low (omega (arith, lt, c.told-locals))
