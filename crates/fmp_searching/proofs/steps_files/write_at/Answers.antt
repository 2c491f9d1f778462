use Rattle.std.proofs.Common.{List, map, string_bytes, subst, sym, ℕ}
use Rattle.fmp_files.specs.Endings.{IsOneOf}
use Rattle.fmp_searching.proofs.Doing.{front_at, one_at, writes_front, writes_one}
use Rattle.fmp_searching.specs.Deeds.{IsFront, IsFrontOfOne}
use Rattle.fmp_searching.proofs.steps_files.write_at.Goals as goal

pub returns-clause-fronts : goal.returns-clause-fronts
returns-clause-fronts g c =
    let names = map string_bytes c.args.names.now in
    let texts = map (λ text. text.items) c.args.texts.now in
    let name = c.index-names-place in
    let text = c.index-texts-place in
    let one = front_at c.args.names.now c.args.texts.now c.args.place name.result text.result c.requires.names
    c.requires.texts name.is text.is in
    writes_front names texts _ _ c.write_file.result _ _
    (subst (λ (n : List ℕ). (bytes : List ℕ) → IsFront c.deref.result.now bytes → IsFrontOfOne names texts n bytes)
    (sym c.as_str.ensures.value)
    (subst
    (λ (t : List ℕ). (bytes : List ℕ) → IsFront t bytes → IsFrontOfOne names texts (string_bytes name.result) bytes)
    (sym c.deref.ensures.value) one))
    c.write_file.ensures.ok c.write_file.ensures.begun

pub returns-clause-only : goal.returns-clause-only
returns-clause-only g c =
    let names = map string_bytes c.args.names.now in
    let place = c.index-names-place in
    let one = one_at c.args.names.now c.args.place place.result c.requires.names place.is in
    writes_one names _ _ c.write_file.result _ _
    (subst (λ (name : List ℕ). IsOneOf names name) (sym c.as_str.ensures.value) one) c.write_file.ensures.ok
    c.write_file.ensures.begun
