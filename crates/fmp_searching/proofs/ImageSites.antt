-- The code of an image is short enough for the positions of its calls, also as those who look at runs count them.
use Rattle.std.proofs.Common.{ℕ, zero, suc, ◌≤◌, List, [], ◌∷◌, length, arith}
use Rattle.fmp_image_bytes.specs.Images.{ImageTables, IsImage}
use Rattle.fmp_image_bytes.specs.declared.heads.BodyHead.{BodyHead}
use Rattle.fmp_image_bytes.specs.Bodies.{IsBody}
use Rattle.fmp_image_bytes.specs.Pairs.{AllPairs}
use Rattle.fmp_instructions.specs.Instructions.{BodyTables, instructions_at}
use Rattle.fmp_frames.specs.Sites as frames
use Rattle.fmp_searching.specs.Sites.{HasSites}

sized : (version : ℕ) (heads : List BodyHead) (code : List BodyTables) → AllPairs (IsBody version) heads code
    → (body : ℕ) → length (instructions_at code body) ≤ 65535
sized version heads [] h body = omega arith
sized version [] (c ∷ cs) h body = absurd h
sized version (x ∷ heads) (c ∷ cs) h zero = h.0.verified.table.size
sized version (x ∷ heads) (c ∷ cs) h (suc body) = sized version heads cs h.1 body

pub image_sites : (i : ImageTables) → IsImage i → HasSites i.code
image_sites i h = record { bodies = h.count; instructions = sized i.version i.heads i.code h.bodies }

pub frame_sites : (i : ImageTables) → IsImage i → frames.HasSites i.code
frame_sites i h =
    let sites = image_sites i h in
    let low = sites.bodies in
    record { bodies = omega (arith, low); instructions = sites.instructions }
