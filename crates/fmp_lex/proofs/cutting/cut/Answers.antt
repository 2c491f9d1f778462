use Rattle.std.proofs.Common.{◌<◌, length, map}
use Rattle.fmp_lex.specs.Cutting.{Fault, IsPiece}
use Rattle.fmp_lex.specs.Packing.{whole_in}
use Rattle.fmp_lex.specs.declared.packed.TokenShape.TheVariants.{Bad}
use Rattle.fmp_lex.proofs.Packing.{one_packed, all_packed, is_packed, packed_whole}
use Rattle.fmp_lex.proofs.Unique.{cuts_unique}
use Rattle.fmp_lex.proofs.Windows.{cuts_all, cuts_fault}
use Rattle.fmp_lex.proofs.cutting.cut.Goals as goal

pub returns-in-None-clause-cut : goal.returns-in-None-clause-cut
returns-in-None-clause-cut c =
    let part = c.in_ok-packed.field-0 in
    cuts_all c.args.text.now part.next 0 (map (whole_in c.args.text.now) part.packed.items)
    (rw c.in-None.is at c.in_ok-packed.ensures.end) c.in_ok-packed.ensures.cut

pub returns-in-None-clause-only : goal.returns-in-None-clause-only
returns-in-None-clause-only c = λ ts d. cuts_unique c.args.text.now 0 ts _ d (returns-in-None-clause-cut c)

pub returns-in_ok-push-in-Some-clause-cut : goal.returns-in_ok-push-in-Some-clause-cut
returns-in_ok-push-in-Some-clause-cut c =
    let text = c.args.text.now in
    let part = c.in_ok-packed.field-0 in
    let fault = c.in-Some.fault in
    let end : (part.next < length text) × IsPiece text part.next (Fault fault) =
    rw c.in-Some.is at c.in_ok-packed.ensures.end in
    let is = packed_whole text c.new-in-Some.result (Bad fault) part.next part.next c.new-in-Some.ensures.shape
    c.new-in-Some.ensures.start c.new-in-Some.ensures.end in
    rw (one_packed text part.packed.items _ c.new-in-Some.result _ c.in_ok-push-in-Some.ensures.items is)
    (cuts_fault text part.next 0 fault (map (whole_in text) part.packed.items) c.in_ok-packed.ensures.cut end.0 end.1)

pub returns-in_ok-push-in-Some-clause-only : goal.returns-in_ok-push-in-Some-clause-only
returns-in_ok-push-in-Some-clause-only c = λ ts d.
    cuts_unique c.args.text.now 0 ts _ d (returns-in_ok-push-in-Some-clause-cut c)

pub returns-in_ok-push-in-Some-clause-packed : goal.returns-in_ok-push-in-Some-clause-packed
returns-in_ok-push-in-Some-clause-packed c =
    let text = c.args.text.now in
    let part = c.in_ok-packed.field-0 in
    let fault = c.in-Some.fault in
    let end : (part.next < length text) × IsPiece text part.next (Fault fault) =
    rw c.in-Some.is at c.in_ok-packed.ensures.end in
    all_packed text part.packed.items _ c.new-in-Some.result c.in_ok-push-in-Some.ensures.items
    c.in_ok-packed.ensures.packed
    (is_packed text c.new-in-Some.result (Bad fault) part.next (Fault fault) c.new-in-Some.ensures.shape
    c.new-in-Some.ensures.start c.new-in-Some.ensures.end tt end.0 end.1)
