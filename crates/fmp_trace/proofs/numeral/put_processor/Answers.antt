use Rattle.std.proofs.Common.{◌≡◌, ◌+◌, ◌++◌, ◌∷◌, [], ◌∙◌, ap, sym, arith, rules, length, take, drop, length-take-le}
use Rattle.std.proofs.Common.{take-take, take_at, drop_at}
use Rattle.std.proofs.lemmas.List.{drop-take}
use Rattle.std.proofs.lemmas.Fmt.{decimal_digit}
use Rattle.fmp_base.specs.Texts.{processor_text}
use Rattle.fmp_trace.proofs.numeral.put_processor.Goals as goal

pub returns-clause-digits : goal.returns-clause-digits
returns-clause-digits c =
    let count = c.args.count in
    let new = c.append_array.new.line in
    let front = take count c.args.bytes.now in
    let long : length front ≡ count = length-take-le count c.args.bytes.now (search rules) in
    let whole : take (count + 4) new ≡ front ++ (32 ∷ 112 ∷ (49 + c.args.processor) ∷ 32 ∷ []) =
    ap (λ k. take k new) (sym c.append_array.ensures.place) ∙ c.append_array.ensures.text in
    sym (take-take count (count + 4) new (omega arith)) ∙ ap (take count) whole ∙ take_at front _ count long

pub returns-clause-text : goal.returns-clause-text
returns-clause-text c =
    let count = c.args.count in
    let new = c.append_array.new.line in
    let front = take count c.args.bytes.now in
    let piece = 32 ∷ 112 ∷ (49 + c.args.processor) ∷ 32 ∷ [] in
    let long : length front ≡ count = length-take-le count c.args.bytes.now (search rules) in
    let whole : take (count + 4) new ≡ front ++ piece =
    ap (λ k. take k new) (sym c.append_array.ensures.place) ∙ c.append_array.ensures.text in
    let is : piece ≡ processor_text c.args.processor = grind (arith, decimal_digit) in
    sym (drop-take count 4 new) ∙ ap (drop count) whole ∙ drop_at front piece count long ∙ is
