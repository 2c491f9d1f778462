use Rattle.std.proofs.Common.{◌≡◌, ◌<◌, ◌++◌, ◌∷◌, [], length, map, drop, get_or, sym, ◌∙◌, append_assoc, arith}
use Rattle.std.proofs.lemmas.List.{append-nil, length-map}
use Rattle.std.proofs.Math.ListN.{drop_of_length-le}
use Rattle.fmp_instructions.specs.Instructions.{body_tables}
use Rattle.fmp_image_bytes.specs.declared.heads.BodyHead.{BodyHead}
use Rattle.fmp_image_bytes.specs.declared.heads.BodyKind.TheVariants as kind
use Rattle.fmp_image_bytes.specs.Bodies.{IsBody, body_spelled}
use Rattle.fmp_image_bytes.specs.Pairs.{pairs_spelled}
use Rattle.fmp_image_bytes.proofs.PairLists.{same_length, holds_at, put_one}
use Rattle.fmp_image_bytes.proofs.bodies.put_bodies.Goals as goal

abbrev some_head : BodyHead
some_head = record { kind = kind.Task; depth = 0 }

pub bounds-heads-place : goal.bounds-heads-place
bounds-heads-place c =
    let same = same_length (IsBody c.requires.bodies.0) c.args.heads.now
    (map body_tables c.args.bodies.now) c.requires.bodies.1 in
    omega (arith, length-map c.args.bodies.now body_tables)

pub put_body-requires-clause-size : goal.put_body-requires-clause-size
put_body-requires-clause-size c =
    let b = c.index-bodies-place.result in
    let place = c.loop-place.place in
    let body : IsBody c.requires.bodies.0 (get_or c.args.heads.now place some_head) (body_tables b) =
    rw c.index-bodies-place.is (holds_at body_tables (IsBody c.requires.bodies.0) c.args.heads.now c.args.bodies.now
    c.requires.bodies.1
    place some_head b c.loop-place-test.true) in
    omega (arith, body.verified.table.size)

pub put_body-requires-clause-depths : goal.put_body-requires-clause-depths
put_body-requires-clause-depths c =
    let b = c.index-bodies-place.result in
    let place = c.loop-place.place in
    let body : IsBody c.requires.bodies.0 (get_or c.args.heads.now place some_head) (body_tables b) =
    rw c.index-bodies-place.is (holds_at body_tables (IsBody c.requires.bodies.0) c.args.heads.now c.args.bodies.now
    c.requires.bodies.1
    place some_head b c.loop-place-test.true) in
    body.verified.table.long

pub loop-place-preserved : goal.loop-place-preserved
loop-place-preserved c =
    let heads = c.args.heads.now in
    let bodies = c.args.bodies.now in
    let b = c.index-bodies-place.result in
    let place = c.loop-place.place in
    let same = same_length (IsBody c.requires.bodies.0) heads (map body_tables bodies) c.requires.bodies.1 in
    let in_heads : place < length heads = omega (arith, length-map bodies body_tables) in
    let spelled : c.put_body.new.out.items
    ≡ c.loop-place.out.items ++ body_spelled (get_or heads place some_head) (body_tables (get_or bodies place b)) =
    rw (← c.index-bodies-place.is) c.in_ok-put_body.ensures in
    rw spelled (put_one body_tables body_spelled heads bodies place some_head b c.loop-place.out.items
    ((c.args.out.now.items ++ length bodies ∷ []) ++ pairs_spelled body_spelled heads (map body_tables bodies))
    in_heads c.loop-place-test.true c.loop-place.invariant)

pub returns : goal.returns
returns c =
    let same = same_length (IsBody c.requires.bodies.0) c.args.heads.now
    (map body_tables c.args.bodies.now) c.requires.bodies.1 in
    let heads_end : drop c.loop-place.place c.args.heads.now ≡ [] = drop_of_length-le c.args.heads.now
    (omega (arith, length-map c.args.bodies.now body_tables)) in
    let count : length (map body_tables c.args.bodies.now) ≡ length c.args.bodies.now = length-map c.args.bodies.now
    body_tables in
    let so_far = c.loop-place.invariant in
    let whole : c.loop-place.out.items ++ []
    ≡ (c.args.out.now.items ++ length c.args.bodies.now ∷ []) ++ pairs_spelled body_spelled c.args.heads.now
    (map body_tables c.args.bodies.now) =
    rw heads_end at so_far in
    rw count (sym (append-nil c.loop-place.out.items) ∙ whole ∙ append_assoc c.args.out.now.items
    (length c.args.bodies.now ∷ [])
    (pairs_spelled body_spelled c.args.heads.now (map body_tables c.args.bodies.now)))
