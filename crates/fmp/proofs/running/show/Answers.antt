use Rattle.std.proofs.Common.{◌≡◌, ◌∙◌, ℕ, List, [], ap, map, refl, subst}
use Rattle.fmp_files.specs.declared.failure.Failure.TheVariants.{Memory}
use Rattle.fmp.specs.Performed.{IsWhyNot}
use Rattle.fmp.specs.Printing.{PrintsFront}
use Rattle.fmp.proofs.Shows.{ends_all, ends_cut, ends_failed, ends_refused}
use Rattle.fmp.proofs.running.show.Goals as goal

pub returns-in-Err : goal.returns-in-Err
returns-in-Err g c =
    ends_failed _ _ _ c.args.cmd.now c.requires.fileless (Memory c.in-Err.error) _ _ tt c.end.ensures.line
    c.end.ensures.status

pub returns-in-Ok-print_performed : goal.returns-in-Ok-print_performed
returns-in-Ok-print_performed g c =
    let texts = map (λ t. t.items) c.args.texts.now in
    let same : map (λ s. s.now) c.deref.result.now ≡ texts = ap (map (λ s. s.now)) c.deref.ensures.value
    ∙ c.in-Ok.ensures in
    let before = g.O.Outside.done c.args.outside.now in
    let after = g.O.Outside.done c.print_performed.new.outside in
    let printed =
    subst (λ (inputs : List (List ℕ)). PrintsFront c.args.cmd.now inputs before after []) same
    c.in-Ok-print_performed.ensures.ok in
    ends_all _ _ _ c.args.cmd.now c.requires.fileless texts c.requires.read _ _ printed refl

pub returns-in-Err-Refused : goal.returns-in-Err-Refused
returns-in-Err-Refused g c =
    let texts = map (λ t. t.items) c.args.texts.now in
    let same : map (λ s. s.now) c.deref.result.now ≡ texts = ap (map (λ s. s.now)) c.deref.ensures.value
    ∙ c.in-Ok.ensures in
    let why = rw c.in-Err-Refused.field-0-is at c.in-Err-Refused.ensures.err in
    let refused =
    subst (λ (inputs : List (List ℕ)). IsWhyNot c.args.cmd.now inputs c.in-Err-Refused.exit) same why.0 in
    ends_refused _ _ _ c.args.cmd.now c.requires.fileless texts c.requires.read c.in-Err-Refused.exit
    (g.O.Outside.done c.print_performed.new.outside) _ _ refused why.1 c.end-in-Err-Refused.ensures.line
    c.end-in-Err-Refused.ensures.status

pub returns : goal.returns
returns g c =
    let texts = map (λ t. t.items) c.args.texts.now in
    let same : map (λ s. s.now) c.deref.result.now ≡ texts = ap (map (λ s. s.now)) c.deref.ensures.value
    ∙ c.in-Ok.ensures in
    let before = g.O.Outside.done c.args.outside.now in
    let between = g.O.Outside.done c.print_performed.new.outside in
    let why = rw c.in-Err-Stopped.field-0-is at c.in-Err-Stopped.ensures.err in
    let printed = subst (λ (inputs : List (List ℕ)). PrintsFront c.args.cmd.now inputs before between why.1.0) same
    why.1.1 in
    ends_cut _ _ _ c.args.cmd.now c.requires.fileless texts c.requires.read between _ why.1.0 _ why.0 printed
    (c.failed.result, c.failed.ensures, c.end-in-Err-Stopped.ensures.line)
    c.end-in-Err-Stopped.ensures.status
