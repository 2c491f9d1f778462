use Rattle.std.proofs.Common.{◌≡◌, ◌∙◌, ◌++◌, ℕ, List, ap, append_assoc, codes}
use Rattle.fmp_frames.specs.declared.head.TheConstants.{COMMENT}
use Rattle.fmp_frames.specs.Dumps.{declarations_text}
use Rattle.fmp_frames.proofs.DumpLemmas.{on_ok_then}
use Rattle.fmp_frames.proofs.head.append_head.Goals as goal

-- a piece after a text, before what is left
onto : (before after piece left : List ℕ) → after ≡ before ++ piece → after ++ left ≡ before ++ (piece ++ left)
onto before after piece left e = ap (λ (xs : List ℕ). xs ++ left) e ∙ append_assoc before piece left

pub returns : goal.returns
returns c =
    let before = c.args.out.now.items in
    let opening = codes "$timescale 1 ns $end\n" in
    let declared = declarations_text 0 c.args.declarations.now in
    let closing = codes "$enddefinitions $end\n" in
    on_ok_then c.append-3.result
    (λ h. h
    ∙ onto c.append-2.new.out.items c.append_declarations.new.out.items declared closing
    c.in_ok-append_declarations.ensures
    ∙ onto c.append.new.out.items c.append-2.new.out.items opening (declared ++ closing) c.in_ok-append-2.ensures
    ∙ onto before c.append.new.out.items COMMENT.now (opening ++ (declared ++ closing))
    (c.in_ok-append.ensures ∙ ap (λ (xs : List ℕ). before ++ xs) c.as_bytes.ensures.value))
    c.append-3.ensures
