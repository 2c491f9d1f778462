use Rattle.std.proofs.Common.{◌≡◌, ◌∙◌, ◌+◌, ◌-◌, ◌++◌, ℕ, List, suc, ap, append_assoc, arith, sym}
use Rattle.fmp_frames.specs.declared.declarations.Declaration.{Declaration}
use Rattle.fmp_frames.specs.Declarations.{processor_scope, processors_from}
use Rattle.fmp_frames.proofs.declarations.declare_processors.Goals as goal

pub loop-place-preserved : goal.loop-place-preserved
loop-place-preserved c =
    let locks = c.args.has_locks in
    let n = c.args.count in
    let i = c.loop-place.place in
    let before = c.loop-place.out.items in
    let lt = c.loop-place-test.true in
    let cut : n - i ≡ suc (n - (i + 1)) = omega (arith, lt) in
    let rest = processors_from locks (i + 1) (n - (i + 1)) in
    ap (λ (xs : List Declaration). xs ++ rest) c.in_ok-declare_processor.ensures
    ∙ append_assoc before (processor_scope locks i) rest
    ∙ ap (λ (m : ℕ). before ++ processors_from locks i m) (sym cut)
    ∙ c.loop-place.invariant
