use Rattle.std.proofs.Common.{◌≡◌, ℕ, List, ◌+◌, ◌++◌, ◌∙◌, ap, sym, length, min, take, drop, rules}
use Rattle.std.proofs.lemmas.List.{take_min}
use Rattle.fmp_base.specs.Names.{name_text}
use Rattle.fmp_trace.proofs.LineBytes.{take-put_halves}
use Rattle.fmp_trace.proofs.texts.append_long_name.Goals as goal

pub returns-clause-text : goal.returns-clause-text
returns-clause-text c =
    let end = c.args.end in
    let bytes = c.args.name.now.bytes in
    let front : c.in-Some-Some.front.now ≡ take 16 bytes = c.in-Some-Some.ensures.cases.same in
    let back : c.in-Some-Some.back.now ≡ drop 15 bytes = search rules in
    let put : take (end + 31) c.append_array.new.line ≡ (take end c.args.line.now ++ take 15 c.in-Some-Some.front.now)
    ++ c.in-Some-Some.back.now =
    search rules in
    let n = c.args.name.now.length in
    let long : length bytes ≡ 31 = search rules in
    let least : c.min.result ≡ min n (length bytes) =
    c.min.ensures ∙ ap (λ (k : ℕ). min k 31) c.from.ensures ∙ ap (λ (k : ℕ). min n k) (sym long) in
    let used : take c.min.result bytes ≡ name_text c.args.name.now = ap (λ (k : ℕ). take k bytes) least
    ∙ take_min n bytes in
    take-put_halves end c.min.result c.args.line.now c.append_array.new.line _ _ bytes (search rules)
    (search rules) front back put
    ∙ ap (λ (xs : List ℕ). take end c.args.line.now ++ xs) used
