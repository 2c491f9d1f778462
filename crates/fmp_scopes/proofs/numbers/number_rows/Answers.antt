use Rattle.std.proofs.Common.{◌≡◌, ◌+◌, ◌-◌, ◌<◌, ℕ, length, map, drop, subst, ap, sym, ◌∙◌, arith}
use Rattle.std.specs.List.{position_from}
use Rattle.std.specs.HashMap.{get}
use Rattle.fmp_tasklang.specs.Scopes.{number_or}
use Rattle.fmp_lex.specs.ObjectNames.{same_bytes}
use Rattle.fmp_scopes.specs.Numbers.{object_named}
use Rattle.fmp_scopes.proofs.Loops.{position-start}
use Rattle.fmp_scopes.proofs.RowNumbers.{bears, same-entry, number-row}
use Rattle.fmp_scopes.proofs.numbers.number_rows.Goals as goal

pub loop-place-preserved : goal.loop-place-preserved
loop-place-preserved g c =
    let i = c.loop-place.place - 1 in
    let rows = c.args.rows.now in
    let f = g.T.HasName.name_of in
    let next : i + 1 ≡ c.loop-place.place = omega (arith, c.loop-place-test.true) in
    let within : i < length rows = omega (arith, c.loop-place.invariant.within, c.loop-place-test.true) in
    record {
      within = omega (arith, within);
      numbered = λ name.
          number-row f rows i c.index-rows-place.result name (object_named c.args.numbers.now name)
          (get same_bytes c.loop-place.numbers (record { name = name }))
          (get same_bytes c.insert.new.self (record { name = name }))
          within c.index-rows-place.is
          (c.in_ok-insert.ensures.updates.0 (record { name = name })
          ∙ same-entry (c.name-name.result.now) (f c.index-rows-place.result) name _
          (i + 1) _ c.name-name.ensures c.numbered.ensures)
          (subst (λ (k : ℕ). object_named c.loop-place.numbers name
          ≡ number_or (position_from (bears name) k (drop k (map f rows))) (object_named c.args.numbers.now name))
          (sym next) (c.loop-place.invariant.numbered name));
    }

pub returns : goal.returns
returns g c = λ name.
    let zero : c.loop-place.place ≡ 0 = omega (arith, c.loop-place-test.false) in
    let rows = map g.T.HasName.name_of c.args.rows.now in
    subst (λ (k : ℕ). object_named c.loop-place.numbers name ≡ number_or (position_from (bears name) k (drop k rows))
    (object_named c.args.numbers.now name))
    zero (c.loop-place.invariant.numbered name)
    ∙ ap (λ p. number_or p (object_named c.args.numbers.now name)) (position-start (bears name) rows)
