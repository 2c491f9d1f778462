use Rattle.std.proofs.Common.{◌∙◌, ◌+◌, List, Result, ap, subst, sym}
use Rattle.fmp_base.specs.Systems.{tables_of}
use Rattle.fmp_expect.specs.declared.expectation.Expected.{Expected}
use Rattle.fmp_expect.specs.declared.fault.ExpectFault.{ExpectFault}
use Rattle.fmp_expect.specs.Grammar.{IsFaultOf, after_all, in_front, line_meaning}
use Rattle.fmp_expect.specs.CallSentences.{other_sentences_from}
use Rattle.fmp_expect.specs.Words.{lines_of}
use Rattle.fmp_expect.proofs.CallSentenceLemmas.{other_sentences_next}
use Rattle.fmp_expect.proofs.call_sentences.read_other_sentences.Goals as goal

pub returns-in-Err-clause-fault : goal.returns-in-Err-clause-fault
returns-in-Err-clause-fault c =
    let sys = tables_of c.args.sys.now in
    let n = c.loop-rest.number in
    let all = c.loop-rest.all.items in
    let cut = c.first_line in
    let more = other_sentences_from sys (n + 1) (lines_of cut.result.1.now) in
    subst (λ (r : Result (List Expected) ExpectFault). IsFaultOf c.in-Err.fault r)
    (ap (λ line. after_all all (in_front n (line_meaning sys line) more)) c.without_call_sentence.ensures
    ∙ sym
    (ap (after_all all)
    (other_sentences_next sys n c.loop-rest.rest.now cut.result.0.now cut.result.1.now cut.ensures.cut))
    ∙ c.loop-rest.invariant.said)
    (c.in-Err.ensures.fault more)
