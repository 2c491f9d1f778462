use Rattle.std.proofs.Common.{◌≡◌, ◌∙◌, Global, List, String, ℕ, ap, arith, length, map, string_bytes}
use Rattle.fmp_searching.proofs.Doing.{idle_writes, only_then, printing_tells, said_idle, says_may, says_one, tells_may}
use Rattle.fmp_searching.proofs.Doing.{tells_writes}
use Rattle.fmp_searching.specs.Files.{steps_names}
use Rattle.fmp_searching.proofs.giving.give.Goals as goal

pub returns-in_default-clause-keeps : goal.returns-in_default-clause-keeps
returns-in_default-clause-keeps g c =
    tells_may c.args.exploring.now c.args.out.now _ _ (printing_tells _ _ _ _ _ c.print.ensures)

pub returns-then-is_empty-clause-keeps : goal.returns-then-is_empty-clause-keeps
returns-then-is_empty-clause-keeps g c =
    tells_may c.args.exploring.now c.args.out.now _ _ (printing_tells _ _ _ _ _ c.print.ensures)

pub returns-in-Ok-clause-keeps : goal.returns-in-Ok-clause-keeps
returns-in-Ok-clause-keeps g c =
    only_then _ _ _ (tells_may c.args.exploring.now c.args.out.now _ _ (printing_tells _ _ _ _ _ c.print.ensures))
    (c.give_steps.ensures.keeps c.args.out.now _
    (ap (λ (names : List (String Global)). map string_bytes names) c.deref-in-Ok.ensures.value ∙ c.in-Ok.ensures))

pub returns-in-Err-clause-keeps : goal.returns-in-Err-clause-keeps
returns-in-Err-clause-keeps g c =
    let done = g.O.Outside.done in
    only_then _ _ _ (tells_may c.args.exploring.now c.args.out.now _ _ (printing_tells _ _ _ _ _ c.print.ensures))
    (says_may c.args.exploring.now c.args.out.now (done c.print.new.outside) (done c.end.new.outside)
    (says_one (done c.print.new.outside) (done c.end.new.outside) c.end.ensures.said))

pub returns-in_default-clause-writes : goal.returns-in_default-clause-writes
returns-in_default-clause-writes g c =
    tells_writes c.args.exploring.now c.args.out.now c.args.explored.now _ _ (printing_tells _ _ _ _ _ c.print.ensures)

pub returns-then-is_empty-clause-writes : goal.returns-then-is_empty-clause-writes
returns-then-is_empty-clause-writes g c =
    tells_writes c.args.exploring.now c.args.out.now c.args.explored.now _ _ (printing_tells _ _ _ _ _ c.print.ensures)

pub returns-in-Ok-clause-writes : goal.returns-in-Ok-clause-writes
returns-in-Ok-clause-writes g c =
    let steps = c.args.explored.now.steps in
    let count : c.len.result ≡ length steps.items = omega (arith, c.len.ensures, steps.ok.0) in
    let tells = printing_tells _ _ _ _ _ c.print.ensures in
    only_then _ _ _ (tells_writes c.args.exploring.now c.args.out.now c.args.explored.now _ _ tells)
    (c.give_steps.ensures.writes c.args.out.now
    (ap (λ (names : List (String Global)). map string_bytes names) c.deref-in-Ok.ensures.value
    ∙ c.in-Ok.ensures
    ∙ ap (λ (n : ℕ). steps_names c.args.out.now n) count))

pub returns-in-Err-clause-writes : goal.returns-in-Err-clause-writes
returns-in-Err-clause-writes g c =
    let done = g.O.Outside.done in
    let tells = printing_tells _ _ _ _ _ c.print.ensures in
    only_then _ _ _ (tells_writes c.args.exploring.now c.args.out.now c.args.explored.now _ _ tells)
    (idle_writes c.args.exploring.now c.args.out.now c.args.explored.now (done c.print.new.outside)
    (done c.end.new.outside)
    (said_idle (done c.print.new.outside) (done c.end.new.outside) c.end.ensures.said))
