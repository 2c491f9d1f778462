use Rattle.std.proofs.Common.{List, ℕ, subst}
use Rattle.fmp_base.specs.Systems.{tables_of}
use Rattle.fmp_codegen.specs.Texts.{IsStreamed}
use Rattle.fmp_codegen.proofs.texts.stream_bodies.Goals as goal
use Rattle.fmp_codegen.proofs.texts.stream_bodies.Goals.{then-whole, else-whole}

pub add_streamed-requires-clause-made : goal.add_streamed-requires-clause-made
add_streamed-requires-clause-made c = c.no_bodies-made.ensures (tables_of c.args.objects.now.system.now)

pub returns : goal.returns
returns c = elim c.if-whole.branch [
  | then-whole w ↦
      let tables = tables_of c.args.objects.now.system.now in
      let made = c.add_streamed.new.made in
      rw w.result-is (subst (λ (text : List ℕ). IsStreamed tables text made) c.new-window.ensures.text
      (c.in_ok-whole.ensures w.if-whole.true))
  | else-whole w ↦ rw w.result-is tt
]
