use Rattle.std.proofs.Common.{◌+◌, ◌∙◌, [], ◌∷◌, ap, arith, drop, map, sym}
use Rattle.std.proofs.lemmas.List.{append-nil, map-append}
use Rattle.fmp_server.specs.Framing.{fed_after, part_of}
use Rattle.fmp_server.proofs.Feeding.{stretch_fed}
use Rattle.fmp_server.proofs.framing.Framing.take.Goals as goal

pub stretches-preserved-in_ok-push-in-Some : goal.stretches-preserved-in_ok-push-in-Some
stretches-preserved-in_ok-push-in-Some c =
    let before = map (λ m. m.items) c.stretches.messages.items in
    let ends = rw c.in-Some.is at c.in_ok-message.ensures in
    record {
      within = omega (arith, c.stretch_of.ensures.within, c.stretches.invariant.within);
      reads = rw c.in_ok-push-in-Some.ensures.items (rw (map-append (λ m. m.items) c.stretches.messages.items
          (c.in-Some.message ∷ [])) (stretch_fed (part_of c.stretches.self) (part_of c.take_stretch.new.self) before
          (c.in-Some.message.items ∷ []) c.args.bytes.now c.stretches.at (c.stretches.at + c.stretch_of.result)
          (omega arith) ends ∙ c.stretches.invariant.reads));
    }

pub stretches-preserved : goal.stretches-preserved
stretches-preserved c =
    let before = map (λ m. m.items) c.stretches.messages.items in
    let end = c.stretches.at + c.stretch_of.result in
    let goes_on = rw c.in-None.is at c.in_ok-message.ensures in
    record {
      within = omega (arith, c.stretch_of.ensures.within, c.stretches.invariant.within);
      reads = ap (λ ms. fed_after (part_of c.take_stretch.new.self) ms (drop end c.args.bytes.now))
          (sym (append-nil before))
          ∙ stretch_fed (part_of c.stretches.self) (part_of c.take_stretch.new.self) before [] c.args.bytes.now
          c.stretches.at end (omega arith) goes_on
          ∙ c.stretches.invariant.reads;
    }
