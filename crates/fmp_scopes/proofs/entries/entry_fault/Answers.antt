use Rattle.std.proofs.Common.{rules, ◌≡◌, true, false, Some, None, sym, ap, ◌∙◌, Bool, not}
use Rattle.std.specs.Prelude.{if◌then◌else◌}
use Rattle.fmp_lex.specs.declared.fault.FaultKind.TheVariants as fault
use Rattle.fmp_tasklang.specs.Texts.{body_at}
use Rattle.fmp_scopes.specs.Depths.{body_depth}
use Rattle.fmp_scopes.specs.Entries.{is_kind, holds, entry_fault}
use Rattle.fmp_scopes.proofs.Headed.{place-headed, heading-read}
use Rattle.fmp_scopes.proofs.entries.entry_fault.Goals as goal

pub returns-in-None : goal.returns-in-None
returns-in-None c = λ bodies are.
    let u = c.args.entry.now in
    sym (ap (entry_fault bodies u) (place-headed c.args.headings.now bodies u.name None are c.in-None.ensures.place))

pub returns-then-not-is_kind : goal.returns-then-not-is_kind
returns-then-not-is_kind c = λ bodies are.
    let u = c.args.entry.now in
    let place = c.in-Some.place in
    let b = body_at bodies place in
    let at = heading-read c.args.headings.now bodies place are c.in-Some.ensures.below in
    let other : is_kind b.kind u.kind ≡ false = ap (λ x. is_kind x.kind u.kind) (sym at) ∙ (search rules) in
    sym (ap (entry_fault bodies u) (place-headed c.args.headings.now bodies u.name
    (Some place) are c.in-Some.ensures.place)
    ∙ ap (λ (t : Bool). if not t then Some fault.WrongEntryKind else (if not
    (holds u.stack (body_depth b)) then Some fault.StackTooSmall else None)) other)

pub returns-then-not-holds : goal.returns-then-not-holds
returns-then-not-holds c = λ bodies are.
    let u = c.args.entry.now in
    let place = c.in-Some.place in
    let b = body_at bodies place in
    let needed = body_depth b in
    let at = heading-read c.args.headings.now bodies place are c.in-Some.ensures.below in
    let kind : is_kind b.kind u.kind ≡ true = ap (λ x. is_kind x.kind u.kind) (sym at) ∙ (search rules) in
    let deep = ap (λ x. x.depth) at in
    let stack : holds u.stack needed ≡ false = sym (c.holds.ensures needed deep) ∙ c.if-not-holds.true in
    sym (ap (entry_fault bodies u) (place-headed c.args.headings.now bodies u.name
    (Some place) are c.in-Some.ensures.place)
    ∙ ap (λ (t : Bool). if not t then Some fault.WrongEntryKind else (if not
    (holds u.stack needed) then Some fault.StackTooSmall else None)) kind
    ∙ ap (λ (t : Bool). if not t then Some fault.StackTooSmall else None) stack)

pub returns-else-not-holds : goal.returns-else-not-holds
returns-else-not-holds c = λ bodies are.
    let u = c.args.entry.now in
    let place = c.in-Some.place in
    let b = body_at bodies place in
    let needed = body_depth b in
    let at = heading-read c.args.headings.now bodies place are c.in-Some.ensures.below in
    let kind : is_kind b.kind u.kind ≡ true = ap (λ x. is_kind x.kind u.kind) (sym at) ∙ (search rules) in
    let deep = ap (λ x. x.depth) at in
    let stack : holds u.stack needed ≡ true = sym (c.holds.ensures needed deep) ∙ c.if-not-holds.false in
    sym (ap (entry_fault bodies u) (place-headed c.args.headings.now bodies u.name
    (Some place) are c.in-Some.ensures.place)
    ∙ ap (λ (t : Bool). if not t then Some fault.WrongEntryKind else (if not
    (holds u.stack needed) then Some fault.StackTooSmall else None)) kind
    ∙ ap (λ (t : Bool). if not t then Some fault.StackTooSmall else None) stack)
