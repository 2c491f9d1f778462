use Rattle.std.proofs.Common.{◌≡◌, ℕ, List, ◌++◌, ◌∙◌, ap, take, take-take}
use Rattle.fmp_base.specs.Names.{name_text}
use Rattle.fmp_trace.proofs.texts.append_name.Goals as goal

pub returns-in-Some-clause-text : goal.returns-in-Some-clause-text
returns-in-Some-clause-text c =
    let bytes = c.args.name.now.bytes in
    let count = c.from-length.result in
    let front : c.in-Some.front.now ≡ take 16 bytes = c.in-Some.ensures.cases.same in
    let used : take count c.in-Some.front.now ≡ name_text c.args.name.now =
    ap (take count) front ∙ take-take count 16 bytes c.if-length-le16.true
    ∙ ap (λ (k : ℕ). take k bytes) c.from-length.ensures in
    c.append_front.ensures.text ∙ ap (λ (xs : List ℕ). take c.args.end c.args.line.now ++ xs) used
