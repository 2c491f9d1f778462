use Rattle.std.proofs.Common.{ℕ, ◌≤◌, List, length, map, subst, sym}
use Rattle.fmp_instructions.specs.declared.instructions.BodyCode.{BodyCode}
use Rattle.fmp_instructions.specs.Instructions.{body_tables, instructions_at}
use Rattle.fmp_frames.proofs.SiteLemmas.{sized_item}
use Rattle.fmp_frames.proofs.sites.call_sites.Goals as goal

pub add_sites-requires : goal.add_sites-requires
add_sites-requires c =
    rw c.deref.ensures.value
    (sized_item c.deref-text-items.result.now c.loop-body.body c.text-item.result _ c.loop-body-test.true c.text-item.is
    (subst (λ (bs : List BodyCode). (k : ℕ) → length (instructions_at (map body_tables bs) k) ≤ 65535)
    (sym c.deref-text-items.ensures.value) c.requires.instructions))
