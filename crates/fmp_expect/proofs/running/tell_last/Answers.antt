use Rattle.std.proofs.Common.{◌≡◌, ◌∙◌, ℕ, List, ap, subst}
use Rattle.fmp_base.specs.declared.events.Line.{Line}
use Rattle.fmp_base.specs.States.{KernelState}
use Rattle.fmp_expect.specs.Meaning.{Told, with_lines, with_state}
use Rattle.fmp_expect.specs.Runs.{last_told}
use Rattle.fmp_expect.specs.Watches.{AreTold}
use Rattle.fmp_expect.proofs.running.tell_last.Goals as goal

pub returns : goal.returns
returns g c = λ xs told are.
    let k = c.args.kernel.now in
    let lines : List Told = with_lines c.done.result c.lines.result.now told in
    let same : with_state c.done-2.result c.tables.result.now.state lines ≡ last_told k told =
    ap (λ (n : ℕ). with_state n c.tables.result.now.state lines) c.done-2.ensures
    ∙ ap (λ (s : KernelState). with_state k.done s lines) c.tables.ensures.state
    ∙ ap (λ (n : ℕ). with_state k.done k.world.state (with_lines n c.lines.result.now told)) c.done.ensures
    ∙ ap (λ (ls : List Line). with_state k.done k.world.state (with_lines k.done ls told)) c.lines.ensures in
    subst (λ (ts : List Told). AreTold xs ts c.tell_state.new.self) same
    (c.tell_state.ensures xs lines (c.tell.ensures xs told are))
