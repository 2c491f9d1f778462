-- Headings stand for bodies where only kinds, names and depths are asked for.
use Rattle.std.proofs.Common.{◌≡◌, ℕ, zero, suc, ◌<◌, List, [], ◌∷◌, Option, length, get_or, map, refl, sym, ap, ◌∙◌}
use Rattle.std.proofs.Common.{arith}
use Rattle.std.proofs.lemmas.List.{get_or_default}
use Rattle.fmp_base.specs.declared.names.Name.{Name}
use Rattle.fmp_base.specs.Names.{name_text}
use Rattle.fmp_tasklang.specs.declared.trees.Body.{Body}
use Rattle.fmp_tasklang.specs.declared.trees.BodyKind.TheVariants.{Task}
use Rattle.fmp_tasklang.specs.Scopes.{place_of}
use Rattle.fmp_tasklang.specs.Texts.{body_at}
use Rattle.fmp_tasklang.specs.Trees.{BodyTree}
use Rattle.fmp_tasklang.specs.Views.{body_view}
use Rattle.fmp_scopes.specs.declared.headings.Heading.{Heading}
use Rattle.fmp_scopes.specs.Entries.{body_place}
use Rattle.fmp_scopes.specs.Headings.{heading_of, AreHeadings}

pub names-headed :
    (bodies : List BodyTree) → map (λ (h : Heading). h.name) (map heading_of bodies)
    ≡ map (λ (b : BodyTree). b.name.name) bodies
names-headed [] = refl
names-headed (b ∷ bs) = ap (λ ns. b.name.name ∷ ns) (names-headed bs)

-- the names of bodies, where these are their headings
pub names-of :
    (headings : List Heading) (bodies : List BodyTree) → AreHeadings headings bodies →
    map (λ (h : Heading). h.name) headings ≡ map (λ (b : BodyTree). b.name.name) bodies
names-of headings bodies are = ap (map (λ (h : Heading). h.name)) are ∙ names-headed bodies

-- the place of the body of a name
pub place-headed :
    (headings : List Heading) (bodies : List BodyTree) (name : Name) (o : Option ℕ) → AreHeadings headings bodies →
    o ≡ place_of (name_text name) (map (λ (h : Heading). h.name) headings) → body_place bodies name ≡ o
place-headed headings bodies name o are h =
    ap (place_of (name_text name)) (sym (names-of headings bodies are)) ∙ sym h

get-headed :
    (bodies : List BodyTree) (k : ℕ) (d : Heading) → k < length bodies → get_or (map heading_of bodies) k d
    ≡ heading_of (body_at bodies k)
get-headed [] k d h = absurd (omega (arith, h))
get-headed (b ∷ bs) zero d h = refl
get-headed (b ∷ bs) (suc k) d h = get-headed bs k d (omega (arith, h))

pub length-headed : (bodies : List BodyTree) → length (map heading_of bodies) ≡ length bodies
length-headed [] = refl
length-headed (b ∷ bs) = ap suc (length-headed bs)

-- the heading of the body at a place
heading-at :
    (headings : List Heading) (bodies : List BodyTree) (k : ℕ) (h : Heading) → AreHeadings headings bodies
    → k < length headings →
    h ≡ get_or headings k h → h ≡ heading_of (body_at bodies k)
heading-at headings bodies k h are within is =
    let long : length headings ≡ length bodies = ap length are ∙ length-headed bodies in
    is ∙ ap (λ hs. get_or hs k h) are ∙ get-headed bodies k h (omega (arith, within, long))

-- the headings of all bodies of a text, as a loop collects them
pub all-headed :
    (bodies : List Body) → map (λ (b : Body). heading_of (body_view b)) bodies ≡ map heading_of (map body_view bodies)
all-headed [] = refl
all-headed (b ∷ bs) = ap (λ hs. heading_of (body_view b) ∷ hs) (all-headed bs)

abbrev pub no_heading : Heading
no_heading = record { kind = Task; name = record { length = 0; bytes = [] }; depth = 0 }

-- a heading as the code reads it
pub heading-read :
    (headings : List Heading) (bodies : List BodyTree) (k : ℕ) → AreHeadings headings bodies → k < length headings →
    get_or headings k no_heading ≡ heading_of (body_at bodies k)
heading-read headings bodies k are within =
    heading-at headings bodies k (get_or headings k no_heading) are within
    (get_or_default headings k no_heading (get_or headings k no_heading) within)
