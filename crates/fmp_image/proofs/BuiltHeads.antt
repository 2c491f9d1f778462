-- What an image says of bodies, from their headings.
use Rattle.std.proofs.Common.{◌≡◌, ℕ, ◌≤◌, min, List, [], ◌∷◌, map, refl, ap, ap₂, ◌∙◌, subst, arith}
use Rattle.std.specs.List.{AllByRecursion}
use Rattle.fmp_tasklang.specs.Trees.{BodyTree}
use Rattle.fmp_scopes.specs.declared.headings.Heading.{Heading}
use Rattle.fmp_scopes.specs.Depths.{body_depth}
use Rattle.fmp_scopes.specs.Headings.{heading_of, AreHeadings}
use Rattle.fmp_image_bytes.specs.declared.heads.BodyHead.{BodyHead}
use Rattle.fmp_image.specs.Building.{built_kind, head_of, built_heads}

low_exact : (d : ℕ) → min d 1073741824 ≤ 64 → min d 1073741824 ≡ d
low_exact d h = omega (arith, h)

heads_of :
    (bodies : List BodyTree) → AllByRecursion (λ (h : Heading). h.depth ≤ 64) (map heading_of bodies) →
    map head_of (map heading_of bodies) ≡ built_heads bodies
heads_of [] low = refl
heads_of (b ∷ bs) low =
    ap₂ (λ (d : ℕ) (hs : List BodyHead). record { kind = built_kind b.kind; depth = d } ∷ hs)
    (low_exact (body_depth b) low.0) (heads_of bs low.1)

pub heads_made :
    (headings : List Heading) (bodies : List BodyTree) → AllByRecursion (λ (h : Heading). h.depth ≤ 64) headings →
    AreHeadings headings bodies → map head_of headings ≡ built_heads bodies
heads_made headings bodies low are =
    ap (map head_of) are ∙ heads_of bodies (subst (AllByRecursion (λ (h : Heading). h.depth ≤ 64)) are low)
