-- The sentences of a text, line by line.
use Rattle.std.proofs.Common.{◌≡◌, ◌∙◌, ℕ, ◌+◌, List, ◌++◌, ap, sym, inl, inr}
use Rattle.fmp_base.specs.Systems.{SystemTables}
use Rattle.fmp_expect.specs.Grammar.{in_front, line_meaning}
use Rattle.fmp_expect.specs.CallSentences.{IsCut, call_sentence_of, call_sentences_from, listed, other_sentences_from}
use Rattle.fmp_expect.specs.CallSentences.{without_call_sentence}
use Rattle.fmp_expect.specs.Words.{lines_of}

pub call_sentences_next : (sys : SystemTables) (n : ℕ) (text line rest : List ℕ) → IsCut text line rest
    → call_sentences_from sys n (lines_of text)
    ≡ listed (call_sentence_of sys n line) ++ call_sentences_from sys (n + 1) (lines_of rest)
call_sentences_next sys n text line rest (inl e) = ap (call_sentences_from sys n) e
call_sentences_next sys n text line rest (inr (none, e)) =
    ap (call_sentences_from sys n) e
    ∙ ap (λ rest. listed (call_sentence_of sys n line) ++ call_sentences_from sys (n + 1) (lines_of rest)) (sym none)

pub other_sentences_next : (sys : SystemTables) (n : ℕ) (text line rest : List ℕ) → IsCut text line rest
    → other_sentences_from sys n (lines_of text)
    ≡ in_front n (line_meaning sys (without_call_sentence sys line))
    (other_sentences_from sys (n + 1) (lines_of rest))
other_sentences_next sys n text line rest (inl e) = ap (other_sentences_from sys n) e
other_sentences_next sys n text line rest (inr (none, e)) =
    ap (other_sentences_from sys n) e
    ∙ ap (λ rest. in_front n (line_meaning sys (without_call_sentence sys line))
    (other_sentences_from sys (n + 1) (lines_of rest)))
    (sym none)
