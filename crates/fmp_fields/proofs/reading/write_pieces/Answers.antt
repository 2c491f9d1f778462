use Rattle.std.proofs.Common.{◌≡◌, ◌<◌, ◌∙◌, List, ap, length, map, refl, sym, take, arith}
use Rattle.std.proofs.lemmas.List.{take_all}
use Rattle.fmp_fields.specs.declared.piece.Piece.{Piece}
use Rattle.fmp_fields.specs.FieldNumbers.{number_of}
use Rattle.fmp_fields.specs.Pieces.{fields_of_pieces}
use Rattle.fmp_fields.proofs.Pieces.{numbers-more, pieces-place, pieces-room, some-told}
use Rattle.fmp_live.specs.LiveLocals.{live_tables}
use Rattle.fmp_live.specs.Zeroed.{zeroed}
use Rattle.fmp_fields.proofs.reading.write_pieces.Goals as goal

pub loop-next-init : goal.loop-next-init
loop-next-init g c = record { long = refl; place = refl; told = refl }

pub write_piece-requires : goal.write_piece-requires
write_piece-requires g c =
    let l = c.loop-next in
    let lt : l.next < length c.args.pieces.now = omega arith in
    pieces-room c.args.pieces.now l.next _ l.at (length l.values) lt l.invariant.place
    (l.invariant.long ∙ c.requires)

pub loop-next-preserved : goal.loop-next-preserved
loop-next-preserved g c =
    let l = c.loop-next in
    let kernel = c.args.kernel.now in
    let world = zeroed kernel.system (live_tables c.args.live.now) kernel.world in
    let pieces = c.args.pieces.now in
    let lt : l.next < length pieces = omega arith in
    record {
      long = c.write_piece.ensures.length ∙ l.invariant.long;
      place =
          some-told _ _ _ c.in-Some.is c.write_piece.ensures.end
          ∙ pieces-place pieces l.next _ l.at _ lt l.invariant.place refl;
      told =
          numbers-more (number_of kernel.system world c.args.came) pieces l.next _ (take l.at l.values) _ lt
          l.invariant.told (some-told _ _ _ c.in-Some.is c.write_piece.ensures.values);
    }

pub returns-clause-values : goal.returns-clause-values
returns-clause-values g c = λ yes.
    let l = c.loop-next in
    let kernel = c.args.kernel.now in
    let world = zeroed kernel.system (live_tables c.args.live.now) kernel.world in
    let pieces = c.args.pieces.now in
    let all : take l.next pieces ≡ pieces = take_all l.next pieces (omega arith) in
    let size : length (fields_of_pieces (take l.next pieces)) ≡ length (fields_of_pieces pieces) =
    ap (λ (ps : List Piece). length (fields_of_pieces ps)) all in
    let whole : take l.at l.values ≡ l.values =
    take_all l.at l.values (omega (arith, l.invariant.place, l.invariant.long, size, c.requires)) in
    sym whole
    ∙ (l.invariant.told
    ∙ ap (λ (ps : List Piece). map (number_of kernel.system world c.args.came) (fields_of_pieces ps)) all)
