use Rattle.std.proofs.Common.{rules, ◌≡◌, ◌+◌, true, false, cond, Some, drop, map, sym, ap, ◌∙◌, Bool}
use Rattle.std.specs.List.{position_from}
use Rattle.std.specs.Str.{bytes_eq}
use Rattle.fmp_base.specs.declared.names.Name.{Name}
use Rattle.fmp_base.specs.Names.{name_text}
use Rattle.fmp_scopes.proofs.Loops.{position-step}
use Rattle.fmp_scopes.proofs.names.place_in.Goals as goal

pub returns-then-eq-clause-place : goal.returns-then-eq-clause-place
returns-then-eq-clause-place g c =
    let text = name_text c.args.name.now in
    let i = c.loop-place.place in
    let r = c.index-rows-place.result in
    let same : bytes_eq text (name_text (g.T.HasName.name_of r)) ≡ true = search rules in
    let step = position-step (λ (n : Name). bytes_eq text (name_text n)) g.T.HasName.name_of c.args.rows.now i r
    c.loop-place-test.true c.index-rows-place.is in
    let rest = position_from (λ (n : Name). bytes_eq text (name_text n)) (i + 1)
    (drop (i + 1) (map g.T.HasName.name_of c.args.rows.now)) in
    sym (sym c.loop-place.invariant ∙ step ∙ ap (λ (b : Bool). cond b (Some i) rest) same)

pub loop-place-preserved : goal.loop-place-preserved
loop-place-preserved g c =
    let text = name_text c.args.name.now in
    let i = c.loop-place.place in
    let r = c.index-rows-place.result in
    let other : bytes_eq text (name_text (g.T.HasName.name_of r)) ≡ false = search rules in
    let step = position-step (λ (n : Name). bytes_eq text (name_text n)) g.T.HasName.name_of c.args.rows.now i r
    c.loop-place-test.true c.index-rows-place.is in
    let rest = position_from (λ (n : Name). bytes_eq text (name_text n)) (i + 1)
    (drop (i + 1) (map g.T.HasName.name_of c.args.rows.now)) in
    sym (step ∙ ap (λ (b : Bool). cond b (Some i) rest) other) ∙ c.loop-place.invariant
