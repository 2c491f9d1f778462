use Rattle.std.proofs.Common.{◌≡◌, ◌+◌, ◌++◌, ◌∷◌, [], ℕ, List, length, slice_get, Some, refl, sym, ◌∙◌, ap, subst}
use Rattle.std.proofs.lemmas.List.{length-append}
use Rattle.std.proofs.lemmas.Option.{slice_get_read}
use Rattle.fmp_instructions.specs.declared.instructions.Instruction.{Instruction}
use Rattle.fmp_instructions.specs.Instructions.{code_tables, instructions_at}
use Rattle.fmp_live.specs.declared.live_rows.LiveRows.{LiveRows}
use Rattle.fmp_live.specs.LiveLocals.{IsLiveTable, live_table}
use Rattle.fmp_live.proofs.Tables.{HaveTables, have-all, instructions-there, one-more}
use Rattle.fmp_live.proofs.tracing.tables.Goals as goal

pub loop-body-preserved : goal.loop-body-preserved
loop-body-preserved c =
    let code = c.args.code.now in
    let before = c.loop-body.bodies.items in
    let rows = c.in_ok-rows.rows in
    let items = c.deref-body-items.result.now in
    let here : slice_get items c.loop-body.body-index ≡ Some c.body-item.result =
    slice_get_read items (length items) c.loop-body.body-index c.body-item.result refl c.loop-body-test.true
    c.body-item.is in
    let there : slice_get code.bodies.items c.loop-body.body-index ≡ Some c.body-item.result = cc in
    let own : c.deref.result.now ≡ c.body-item.result.instructions.items = cc in
    let same : c.deref.result.now ≡ instructions_at (code_tables code) (length before) =
    own ∙ sym (instructions-there code.bodies.items c.loop-body.body-index c.body-item.result there)
    ∙ sym (ap (λ (k : ℕ). instructions_at (code_tables code) k) c.loop-body.invariant.0) in
    let live : IsLiveTable c.args.outs (instructions_at (code_tables code) (length before)) (live_table rows) =
    subst (λ (xs : List Instruction). IsLiveTable c.args.outs xs (live_table rows)) same c.in_ok-rows.ensures in
    let pushed : c.push.new.self.items ≡ before ++ rows ∷ [] = c.in_ok-push.ensures.items in
    let long : length (before ++ rows ∷ []) ≡ length before + 1 = length-append before (rows ∷ []) in (
      ap (λ (rs : List LiveRows). length rs) pushed ∙ long ∙ ap (λ (n : ℕ). n + 1) c.loop-body.invariant.0,
      subst (λ (rs : List LiveRows). HaveTables c.args.outs (code_tables code) rs) (sym pushed)
          (one-more c.args.outs (code_tables code) before rows live c.loop-body.invariant.1),
    )

pub returns : goal.returns
returns c = have-all c.args.outs (code_tables c.args.code.now) c.loop-body.bodies.items c.loop-body.invariant.1
