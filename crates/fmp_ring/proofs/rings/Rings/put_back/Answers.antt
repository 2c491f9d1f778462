use Rattle.std.proofs.Common.{◌≡◌, length, arith}
use Rattle.fmp_ring.proofs.LinkLemmas.{length-lists_of}
use Rattle.fmp_ring.proofs.rings.Rings.put_back.Goals as goal

pub put_back-requires : goal.put_back-requires
put_back-requires c =
    let nodes : c.self.inside.nodes ≡ c.from.inside.nodes = rw (← c.self.view_is, ← c.from.view_is) at
    c.requires.nodes in
    let heads : c.self.inside.heads ≡ c.from.inside.heads = rw (
      ← c.self.view_is,
      ← c.from.view_is,
      length-lists_of,
      length-lists_of,
    ) at c.requires.heads in
    omega (arith, c.self.invariant.next_count, c.from.invariant.next_count)

pub put_back-requires-2 : goal.put_back-requires-2
put_back-requires-2 c =
    let nodes : c.self.inside.nodes ≡ c.from.inside.nodes = rw (← c.self.view_is, ← c.from.view_is) at
    c.requires.nodes in
    let heads : c.self.inside.heads ≡ c.from.inside.heads = rw (
      ← c.self.view_is,
      ← c.from.view_is,
      length-lists_of,
      length-lists_of,
    ) at c.requires.heads in
    omega (arith, c.self.invariant.previous_count, c.from.invariant.previous_count)

pub invariant_of-self : goal.invariant_of-self
invariant_of-self c = rw (c.put_back.ensures, c.put_back-2.ensures) c.from.invariant

pub returns : goal.returns
returns c = rw (c.put_back.ensures) c.from.view_is
