use Rattle.std.proofs.Common.{◌++◌, ap, ◌∙◌, codes, length}
use Rattle.std.proofs.lemmas.Result.{on_ok_weaker}
use Rattle.fmp_export.proofs.Appended.{two}
use Rattle.fmp_toppers.specs.Declarations.{definitions, generation}
use Rattle.fmp_toppers.specs.Lines.{numbered}
use Rattle.fmp_toppers.proofs.declarations.append_definitions.Goals as goal

pub returns : goal.returns
unfolding definitions
returns c =
    let sys = c.args.system.now in
    let w1 = codes "#define FMP_GENERATION " in
    let w2 = codes "\n#define FMP_PROCESSORS " in
    let w3 = codes "\n#define FMP_WORDS " in
    let w4 = codes "\n#define FMP_MESSAGES " in
    let t1 = numbered w1 (generation c.args.target) in
    let t2 = numbered w2 sys.processors in
    let t3 = numbered w3 (length sys.shared_words.items) in
    let t4 = numbered w4 (length sys.messages.items) in
    let t5 = codes "\n#include \"fmp_toppers.h\"\n\n" in
    let generation-is = c.generation.ensures in
    let words-are = c.count_of.ensures ∙ ap length c.deref.ensures.value in
    let messages-are = c.count_of-2.ensures ∙ ap length c.deref-2.ensures.value in
    let e1 = c.in_ok-append_numbered.ensures ∙ ap (λ n. c.args.out.now.items ++ numbered w1 n) generation-is in
    let e2 = c.in_ok-append_numbered-2.ensures
    ∙ ap (λ n. c.append_numbered.new.out.items ++ numbered w2 n) c.from.ensures in
    let e3 = c.in_ok-append_numbered-3.ensures
    ∙ ap (λ n. c.append_numbered-2.new.out.items ++ numbered w3 n) words-are in
    let e4 = c.in_ok-append_numbered-4.ensures
    ∙ ap (λ n. c.append_numbered-3.new.out.items ++ numbered w4 n) messages-are in
    on_ok_weaker c.append.result
    (λ e. two c.args.out.now.items t1 (t2 ++ (t3 ++ (t4 ++ t5))) _ _ e1
    (two c.append_numbered.new.out.items t2 (t3 ++ (t4 ++ t5)) _ _ e2
    (two c.append_numbered-2.new.out.items t3 (t4 ++ t5) _ _ e3
    (two c.append_numbered-3.new.out.items t4 t5 _ _ e4 e)))) c.append.ensures
