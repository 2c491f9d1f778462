use Rattle.std.proofs.Common.{◌≡◌, ◌<◌, [], ◌∷◌, ◌++◌, length, map, refl, arith}
use Rattle.std.proofs.lemmas.List.Elements.{All-nil}
use Rattle.fmp_lex.specs.declared.token.Token.{Token}
use Rattle.fmp_lex.specs.Cutting.{Whole, line_at}
use Rattle.fmp_lex.specs.Packing.{IsPacked, kind_in, whole_in}
use Rattle.fmp_lex.specs.Windows.{here, skipped, token}
use Rattle.fmp_lex.proofs.Packing.{one_packed, all_packed, is_packed, packed_whole, one_longer}
use Rattle.fmp_lex.proofs.Windows.{cuts_skip, cuts_then}
use Rattle.fmp_lex.proofs.cutting.cut_part.Goals as goal

pub pieces-init : goal.pieces-init
pieces-init c = record {
  within = omega arith;
  few = rw c.clear.ensures.items (omega arith);
  cut = rw c.clear.ensures.items (here c.args.start refl);
  packed = rw c.clear.ensures.items (All-nil (IsPacked c.args.text.now));
}

pub pieces-preserved-in-Skip : goal.pieces-preserved-in-Skip
pieces-preserved-in-Skip c =
    let text = c.args.text.now in
    let i = c.pieces.i in
    let end = c.in-Skip.end in
    let up = c.in-Skip.ensures.ends.0 in
    record {
      within = c.in-Skip.ensures.ends.1;
      few = omega (arith, c.pieces.invariant.few, up);
      cut = cuts_skip text i end c.args.start (map (whole_in text) c.pieces.packed.items) c.pieces.invariant.cut
          (skipped i end [] (omega (arith, c.pieces-test.true)) c.in-Skip.ensures.piece (here end refl));
      packed = c.pieces.invariant.packed;
    }

pub pieces-preserved : goal.pieces-preserved
pieces-preserved c =
    let text = c.args.text.now in
    let i = c.pieces.i in
    let end = c.in-Whole.end in
    let up = c.in-Whole.ensures.ends.0 in
    let lt : i < length text = omega (arith, c.pieces-test.true) in
    let kind = kind_in text c.in-Whole.shape in
    let found : Token = record { kind = kind; line = line_at text i; start = i; end = end } in
    let before = c.pieces.packed.items in
    let after = c.push.new.self.items in
    let is : whole_in text c.new.result ≡ found =
    packed_whole text c.new.result c.in-Whole.shape i end c.new.ensures.shape c.new.ensures.start
    c.new.ensures.end in
    let pushed : map (whole_in text) after ≡ map (whole_in text) before ++ found ∷ [] =
    one_packed text before after c.new.result found c.in_ok-push-in-Whole.ensures.items is in
    let packed = is_packed text c.new.result c.in-Whole.shape i (Whole kind end) c.new.ensures.shape
    c.new.ensures.start c.new.ensures.end c.in-Whole.ensures.named lt c.in-Whole.ensures.piece in
    record {
      within = c.in-Whole.ensures.ends.1;
      few = omega (
        arith,
        c.pieces.invariant.few,
        up,
        one_longer before after c.new.result c.in_ok-push-in-Whole.ensures.items,
      );
      cut = rw pushed (cuts_then text i end c.args.start (map (whole_in text) before) (found ∷ [])
          c.pieces.invariant.cut (token i end kind [] lt c.in-Whole.ensures.piece (here end refl)));
      packed = all_packed text before after c.new.result c.in_ok-push-in-Whole.ensures.items
          c.pieces.invariant.packed packed;
    }
