use Rattle.std.proofs.Common.{◌≡◌, ◌++◌, ℕ, List, ap, append-nil, arith, subst, sym, ◌∙◌}
use Rattle.fmp_base.specs.declared.events.Event.{Event}
use Rattle.fmp_base.specs.Systems.{tables_of}
use Rattle.fmp_schedules.specs.Tries.{requests}
use Rattle.fmp_schedules.proofs.TryLemmas.{no-requests, requests-added}
use Rattle.fmp_schedules.proofs.tries.push_requests.Goals as goal
use Rattle.fmp_schedules.proofs.tries.push_requests.Goals.{then-has_handler+in_ok-push, else-has_handler}

pub loop-i-init : goal.loop-i-init
loop-i-init c =
    let before = c.args.tries.now.items in
    sym (ap (λ (es : List Event). before ++ es) (no-requests (tables_of c.args.sys.now)) ∙ append-nil before)

pub loop-i-preserved : goal.loop-i-preserved
loop-i-preserved c =
    requests-added (tables_of c.args.sys.now) c.loop-i.i c.has_handler.result c.args.tries.now.items
    c.loop-i.tries.items c.if-has_handler.tries.items c.has_handler.ensures c.loop-i.invariant
    (elim c.if-has_handler.branch [
      | then-has_handler+in_ok-push w ↦ rw w.if-has_handler.true (cc (w.tries-is, w.in_ok-push.ensures.items))
      | else-has_handler w ↦ rw w.if-has_handler.false (cc (w.tries-is, append-nil c.loop-i.tries.items))
    ])

pub returns : goal.returns
returns c =
    let all : c.loop-i.i ≡ 32 = omega arith in
    subst (λ (n : ℕ). c.loop-i.tries.items ≡ c.args.tries.now.items ++ requests (tables_of c.args.sys.now) n) all
    c.loop-i.invariant
