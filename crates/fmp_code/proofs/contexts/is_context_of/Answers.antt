use Rattle.std.proofs.Common.{rules, ◌≡◌, ℕ, List, Some, length, refl, subst, ap, ◌∙◌}
use Rattle.std.specs.Prelude.{slice_get}
use Rattle.std.proofs.lemmas.Option.{slice_get_read}
use Rattle.fmp_instructions.specs.Instructions.{body_tables}
use Rattle.fmp_code.proofs.Placed.{clear_placed}
use Rattle.fmp_code.proofs.contexts.is_context_of.Goals as goal

pub returns-then-depth-context : goal.returns-then-depth-context
returns-then-depth-context c =
    let h = c.in-Some.ensures.lookup in
    let context = c.args.context.now in
    let depth = c.in-Some.depth.now in
    let read = slice_get_read c.deref.result.now (length c.deref.result.now) context.pc depth refl h.3.0 h.1 in
    let here : slice_get c.args.body.now.depths.items context.pc ≡ Some depth =
    subst (λ (xs : List ℕ). slice_get xs context.pc ≡ Some depth) c.deref.ensures.value read in
    let same : depth ≡ context.count = search rules in
    λ e. clear_placed (body_tables c.args.body.now) context c.requires c.is_clear_from.ensures.long
    (here ∙ ap (λ (n : ℕ). Some n) same) (c.is_clear_from.ensures.clear e)
