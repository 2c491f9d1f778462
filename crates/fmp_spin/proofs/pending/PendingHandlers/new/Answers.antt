use Rattle.std.proofs.Common.{◌≡◌, ◌*◌, length, ap, ◌∙◌, sym, arith, false}
use Rattle.std.proofs.lemmas.List.{length-map, length-replicate}
use Rattle.fmp_base.specs.Systems.{tables_of}
use Rattle.fmp_spin.specs.Pending.{handler_processors, processor_at_slot}
use Rattle.fmp_spin.proofs.NewLemmas.{AreBitmaps-none, AreQuiet-none, length-interrupts, processor-below}
use Rattle.fmp_spin.proofs.pending.PendingHandlers.new.Goals as goal

pub invariant_of-result : goal.invariant_of-result
invariant_of-result c =
    let sys = tables_of c.args.sys.now in
    let is : c.in_ok-interrupt_processors.interrupt_processors.items
    ≡ (handler_processors sys).interrupts = rw c.as_slice.ensures.value at c.in_ok-interrupt_processors.ensures in
    let cs : c.in_ok-cyclic_processors.cyclic_processors.items
    ≡ (handler_processors sys).cyclics = rw c.as_slice-2.ensures.value at c.in_ok-cyclic_processors.ensures in
    let few : length c.in_ok-cyclics.cyclics.items ≡ length sys.cyclics =
    ap length c.in_ok-cyclics.ensures ∙ length-replicate _ _ ∙ c.len.ensures ∙ sym c.as_slice-2.ensures.len ∙ ap
    length c.as_slice-2.ensures.value in
    record {
      interrupt_processors = ap length is ∙ length-interrupts sys;
      interrupts = ap length c.in_ok-interrupts.ensures ∙ length-replicate 32 false;
      cyclics = few ∙ sym (ap length cs ∙ length-map _ _);
      few = omega (arith, few, c.requires.cyclics.count);
      there = λ n q e. processor-below sys c.requires n q (rw (is, cs) at e);
      words = ap length c.in_ok-words.ensures ∙ length-replicate _ _;
      bitmaps =
          AreBitmaps-none c.args.sys.now.processors c.in_ok-words.words.items
          (processor_at_slot (record {
            count = c.args.sys.now.processors;
            interrupts =
                c.in_ok-interrupt_processors.interrupt_processors.items;
            cyclics = c.in_ok-cyclic_processors.cyclic_processors.items;
          }))
          c.in_ok-interrupts.interrupts.items c.in_ok-cyclics.cyclics.items
          (c.args.sys.now.processors * 5) 32 c.len.result c.in_ok-words.ensures c.in_ok-interrupts.ensures
          c.in_ok-cyclics.ensures;
      busy = ap length c.in_ok-busy.ensures ∙ length-replicate _ _;
      quiet = AreQuiet-none c.in_ok-words.words.items c.in_ok-busy.busy.items
          (c.args.sys.now.processors * 5) c.in_ok-words.ensures;
    }
