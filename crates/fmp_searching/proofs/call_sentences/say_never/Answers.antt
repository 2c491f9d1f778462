use Rattle.std.proofs.Common.{◌≡◌, ◌∙◌, ◌++◌, List, ℕ, OnOk, append_assoc, ap, codes, decimal, subst}
use Rattle.fmp_base.specs.Codes.{code_name}
use Rattle.fmp_base.specs.Systems.{SystemTables}
use Rattle.fmp_searching.specs.Said.{by_text, never_text}
use Rattle.fmp_searching.specs.Sources.{source_tables}
use Rattle.fmp_searching.proofs.call_sentences.say_never.Goals as goal

pub returns : goal.returns
unfolding never_text
returns c =
    let out = c.args.out.now.items in
    let s = source_tables c.args.sources.now in
    let n = c.args.never.now in
    let head : List ℕ = codes ": " in
    let file : List ℕ = s.file in
    let colon : List ℕ = codes ":" in
    let line : List ℕ = decimal n.line in
    let never_word : List ℕ = codes ": never " in
    let code : List ℕ = code_name n.code in
    let by : List ℕ = by_text s.claim.image.system n.by in
    let at_word : List ℕ = codes " at " in
    let tail : List ℕ = decimal n.at in
    let r1 : List ℕ = at_word ++ tail in
    let r2 : List ℕ = by ++ r1 in
    let r3 : List ℕ = code ++ r2 in
    let r4 : List ℕ = never_word ++ r3 in
    let r5 : List ℕ = line ++ r4 in
    let r6 : List ℕ = colon ++ r5 in
    let r7 : List ℕ = file ++ r6 in
    let same : c.say-6.new.out.items ++ decimal c.from.result ≡ out ++ (head ++ r7) =
    ap (λ (n : ℕ). c.say-6.new.out.items ++ decimal n) c.from.ensures
    ∙ ap (λ (xs : List ℕ). xs ++ tail) c.in_ok-say-6.ensures
    ∙ append_assoc c.say_by.new.out.items at_word tail
    ∙ ap (λ (xs : List ℕ). xs ++ r1) c.in_ok-say_by.ensures
    ∙ ap (λ (t : SystemTables). (c.say-5.new.out.items ++ by_text t n.by) ++ r1) c.system.ensures.tables
    ∙ append_assoc c.say-5.new.out.items by r1
    ∙ ap (λ (xs : List ℕ). xs ++ r2) c.in_ok-say-5.ensures
    ∙ ap (λ (w : List ℕ). (c.say-4.new.out.items ++ w) ++ r2) c.name.ensures
    ∙ append_assoc c.say-4.new.out.items code r2
    ∙ ap (λ (xs : List ℕ). xs ++ r3) c.in_ok-say-4.ensures
    ∙ append_assoc c.append_number.new.out.items never_word r3
    ∙ ap (λ (xs : List ℕ). xs ++ r4) c.in_ok-append_number.ensures
    ∙ append_assoc c.say-3.new.out.items line r4
    ∙ ap (λ (xs : List ℕ). xs ++ r5) c.in_ok-say-3.ensures
    ∙ append_assoc c.say-2.new.out.items colon r5
    ∙ ap (λ (xs : List ℕ). xs ++ r6) c.in_ok-say-2.ensures
    ∙ append_assoc c.say.new.out.items file r6
    ∙ ap (λ (xs : List ℕ). xs ++ r7) c.in_ok-say.ensures
    ∙ append_assoc out head r7 in
    subst (λ (xs : List ℕ). OnOk c.append_number-2.result (c.append_number-2.new.out.items ≡ xs)) same
    c.append_number-2.ensures
