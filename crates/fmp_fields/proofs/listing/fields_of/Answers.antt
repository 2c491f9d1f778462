use Rattle.std.proofs.Common.{◌≡◌, true, false, sym, ◌∙◌}
use Rattle.std.specs.List.{Contains}
use Rattle.fmp_base.specs.Systems.{tables_of}
use Rattle.fmp_fields.specs.declared.field.What.TheVariants as what
use Rattle.fmp_fields.proofs.AllFields.{all-fields}
use Rattle.fmp_fields.proofs.Lists.{pushed}
use Rattle.fmp_fields.proofs.listing.fields_of.Goals as goal
use Rattle.fmp_fields.proofs.listing.fields_of.Goals.{then-limited+in_ok-push, else-limited}
use Rattle.fmp_instructions.specs.Instructions.{code_tables}

pub returns : goal.returns
returns c =
    all-fields (tables_of c.args.sys.now) (code_tables c.args.code.now) c.add_actors.new.fields.items
    c.add_objects.new.fields.items c.add_cyclics.new.fields.items c.add_interrupts.new.fields.items
    c.in_ok-add_objects.ensures.kept c.in_ok-add_cyclics.ensures.kept c.in_ok-add_interrupts.ensures.kept
    c.in_ok-add_actors.ensures.tasks c.in_ok-add_actors.ensures.processors c.in_ok-add_objects.ensures.added
    c.in_ok-add_cyclics.ensures.added c.in_ok-add_interrupts.ensures.added c.args.limited
    (λ on. c.in_ok-add_actors.ensures.kept what.Interrupts (counted on)) where
      counted : c.args.limited ≡ true → Contains c.if-limited.fields.items what.Interrupts
      counted on =
          elim c.if-limited.branch [
            | then-limited+in_ok-push w ↦
                rw w.fields-is (pushed c.new-fields.result.items _ what.Interrupts w.in_ok-push.ensures.items)
            | else-limited w ↦
                let clash : true ≡ false = sym on ∙ w.if-limited.false in absurd (cc clash)
          ]
