-- Paths along links.
use Rattle.std.proofs.Common.{◌≡◌, ◌<◌, ◌+◌, ◌⊎◌, inl, inr, ℕ, zero, suc, List, [], ◌∷◌, ◌++◌, Option, Some, None, refl}
use Rattle.std.proofs.Common.{sym, ap, subst, ◌∙◌, length, take, slice_get, arith, ◌-◌, ◌≤◌, append-nil, append_assoc}
use Rattle.std.specs.Prelude.{IsSomeAnd, reverse}
use Rattle.std.specs.Option.{option_map_or}
use Rattle.std.proofs.lemmas.List.{length_push, reverse-append, take-append-le, take_at}
use Rattle.std.proofs.lemmas.Option.{slice_get_cases, slice_get_within}
use Rattle.fmp_base.specs.declared.events.Event.{Event}
use Rattle.fmp_visited.specs.declared.link.StateLink.{StateLink}
use Rattle.fmp_visited.specs.Links.{AreLinked, IsLink, last_events, path_of}

-- ---- places in lists

pub slice_get-append : {X : Type 0} (xs ys : List X) (i : ℕ) (x : X) → slice_get xs i ≡ Some x
    → slice_get (xs ++ ys) i ≡ Some x
slice_get-append [] ys i x e = absurd cc
slice_get-append (a ∷ xs) ys zero x e = e
slice_get-append (a ∷ xs) ys (suc i) x e = slice_get-append xs ys i x e

pub slice_get-end : {X : Type 0} (xs : List X) (x : X) → slice_get (xs ++ x ∷ []) (length xs) ≡ Some x
slice_get-end [] x = refl
slice_get-end (a ∷ xs) x = slice_get-end xs x

slice_get-take : {X : Type 0} (n : ℕ) (xs : List X) (i : ℕ) (x : X) → slice_get (take n xs) i ≡ Some x
    → slice_get xs i ≡ Some x
slice_get-take zero xs i x e = absurd cc
slice_get-take (suc n) [] i x e = e
slice_get-take (suc n) (a ∷ xs) zero x e = e
slice_get-take (suc n) (a ∷ xs) (suc i) x e = slice_get-take n xs i x e

-- an element of a list with one more is one that it had, or that one
slice_get-push : {X : Type 0} (xs : List X) (y : X) (i : ℕ) (x : X) → slice_get (xs ++ y ∷ []) i ≡ Some x
    → (slice_get xs i ≡ Some x) ⊎ ((i ≡ length xs) × (y ≡ x))
slice_get-push [] y zero x e = inr (refl, cc)
slice_get-push [] y (suc i) x e = absurd cc
slice_get-push (a ∷ xs) y zero x e = inl e
slice_get-push (a ∷ xs) y (suc i) x e =
    elim (slice_get-push xs y i x e) [
      | inl h ↦ inl h
      | inr h ↦ inr (ap (λ (n : ℕ). suc n) h.0, h.1)
    ]

-- ---- links

-- no link
pub links-none : AreLinked []
links-none = record { each = λ i link e. absurd cc }

-- one more link
pub links-added : (links : List StateLink) (link : StateLink) → AreLinked links → IsLink links link
    → AreLinked (links ++ link ∷ [])
links-added links link h new = record { each = at } where
  at : (i : ℕ) (l : StateLink) → slice_get (links ++ link ∷ []) i ≡ Some l → IsLink (take i (links ++ link ∷ [])) l
  at i l e =
      elim (slice_get-push links link i l e) [
        | inl old ↦
            let within : i < length links = slice_get_within links i l old in
            subst (λ (before : List StateLink). IsLink before l) (sym (take-append-le i links (link ∷ [])
            (omega arith))) (h.each i l old)
        | inr same ↦
            subst (λ (before : List StateLink). IsLink before l) (sym (take_at links (link ∷ []) i (sym same.0)))
            (subst (λ (x : StateLink). IsLink links x) same.1 new)
      ]

-- the parent of a link that is not the first
parent_of : (before : List StateLink) (link : StateLink) (depth : ℕ) → IsLink before link → link.depth ≡ suc depth
    → (parent : StateLink) × (slice_get before link.parent ≡ Some parent) × (parent.depth ≡ depth)
parent_of [] link depth h e = absurd (omega arith)
parent_of (b ∷ before) link depth h e = found (slice_get (b ∷ before) link.parent) refl h where
  found : (o : Option StateLink) → slice_get (b ∷ before) link.parent ≡ o
      → IsSomeAnd o (λ parent. link.depth ≡ parent.depth + 1)
      → (parent : StateLink) × (slice_get (b ∷ before) link.parent ≡ Some parent) × (parent.depth ≡ depth)
  found (Some parent) s k = (parent, s, omega arith)
  found None s k = absurd k

-- ---- paths

last_events-more : (depth : ℕ) (links : List StateLink) (i : ℕ) (link : StateLink) → slice_get links i ≡ Some link
    → last_events (suc depth) links i ≡ last_events depth links link.parent ++ link.event ∷ []
last_events-more depth links i link e =
    ap (λ (o : Option StateLink). option_map_or (λ (l : StateLink). last_events depth links l.parent ++ l.event ∷ [])
    o []) e

pub path-at : (links : List StateLink) (i : ℕ) (link : StateLink) → slice_get links i ≡ Some link → path_of links i
    ≡ last_events link.depth links i
unfolding path_of
path-at links i link e = ap (λ (o : Option StateLink). option_map_or (λ (l : StateLink). last_events l.depth links i)
    o []) e

-- a state that is not the first has a parent among the links
parent_at : (links : List StateLink) (i : ℕ) (link : StateLink) (depth : ℕ) → AreLinked links → slice_get links i
    ≡ Some link
    → link.depth ≡ suc depth → (parent : StateLink) × (slice_get links link.parent ≡ Some parent)
    × (parent.depth ≡ depth)
parent_at links i link depth h e k =
    let p = parent_of (take i links) link depth (h.each i link e) k in
    (p.0, slice_get-take i links link.parent p.0 p.1, p.2)

last_events-append : (depth : ℕ) (links more : List StateLink) (i : ℕ) (link : StateLink) → AreLinked links
    → slice_get links i ≡ Some link
    → link.depth ≡ depth → last_events depth (links ++ more) i ≡ last_events depth links i
last_events-append zero links more i link h e k = refl
last_events-append (suc depth) links more i link h e k =
    let p = parent_at links i link depth h e k in
    last_events-more depth (links ++ more) i link (slice_get-append links more i link e)
    ∙ (ap (λ (es : List Event). es ++ link.event ∷ []) (last_events-append depth links more link.parent p.0 h p.1 p.2)
    ∙ sym (last_events-more depth links i link e))

-- no events lead to a state that is not there
pub path-none : (links : List StateLink) (i : ℕ) → slice_get links i ≡ None → path_of links i ≡ []
unfolding path_of
path-none links i e = ap (λ (o : Option StateLink). option_map_or (λ (l : StateLink). last_events l.depth links i) o
    []) e

last_events-none : (depth : ℕ) (links : List StateLink) (i : ℕ) → slice_get links i ≡ None → last_events depth links i
    ≡ []
last_events-none zero links i e = refl
last_events-none (suc depth) links i e =
    ap (λ (o : Option StateLink). option_map_or (λ (l : StateLink). last_events depth links l.parent ++ l.event ∷ [])
    o []) e

pub path-first : (link : StateLink) → link.depth ≡ 0 → path_of (link ∷ []) 0 ≡ []
path-first link e = path-at (link ∷ []) 0 link refl ∙ ap (λ (d : ℕ). last_events d (link ∷ []) 0) e

pub path-stays : (links more : List StateLink) (i : ℕ) → AreLinked links → i < length links
    → path_of (links ++ more) i ≡ path_of links i
path-stays links more i h lt =
    elim (slice_get_cases links i).1 [
      | inl found ↦
          path-at (links ++ more) i found.0 (slice_get-append links more i found.0 found.2)
          ∙ (last_events-append found.0.depth links more i found.0 h found.2 refl
          ∙ sym (path-at links i found.0 found.2))
      | inr past ↦ absurd (omega arith)
    ]

pub path-added : (links : List StateLink) (link parent : StateLink) → AreLinked links → slice_get links link.parent
    ≡ Some parent
    → link.depth ≡ parent.depth + 1
    → path_of (links ++ link ∷ []) (length links) ≡ path_of links link.parent ++ link.event ∷ []
path-added links link parent h found deeper =
    let all : List StateLink = links ++ link ∷ [] in
    let end : ℕ = length links in
    let there : slice_get all end ≡ Some link = slice_get-end links link in
    let depth : link.depth ≡ suc parent.depth = omega arith in
    path-at all end link there
    ∙ (ap (λ (d : ℕ). last_events d all end) depth
    ∙ (last_events-more parent.depth all end link there
    ∙ ap (λ (es : List Event). es ++ link.event ∷ [])
    (last_events-append parent.depth links (link ∷ []) link.parent parent h found refl
    ∙ sym (path-at links link.parent parent found))))

length-last_events : (depth : ℕ) (links : List StateLink) (i : ℕ) (link : StateLink) → AreLinked links
    → slice_get links i ≡ Some link
    → link.depth ≡ depth → length (last_events depth links i) ≡ depth
length-last_events zero links i link h e k = refl
length-last_events (suc depth) links i link h e k =
    let p = parent_at links i link depth h e k in
    let shorter : length (last_events depth links link.parent)
    ≡ depth = length-last_events depth links link.parent p.0 h p.1 p.2 in
    let one_more : length (last_events depth links link.parent ++ link.event ∷ [])
    ≡ length (last_events depth links link.parent) + 1 =
    length_push (last_events depth links link.parent) link.event in
    ap (λ (es : List Event). length es) (last_events-more depth links i link e) ∙ omega arith

pub path-depth : (links : List StateLink) (i : ℕ) (link : StateLink) → AreLinked links → slice_get links i ≡ Some link
    → length (path_of links i) ≡ link.depth
path-depth links i link h e =
    ap (λ (es : List Event). length es) (path-at links i link e) ∙ length-last_events link.depth links i link h e refl

-- ---- a walk back along the parents

pub walk-begun : (links : List StateLink) (i depth : ℕ) (events : List Event) → path_of links i
    ≡ last_events depth links i → events ≡ []
    → last_events (depth - 0) links i ++ reverse events ≡ path_of links i
walk-begun links i depth events e none =
    let all : depth - 0 ≡ depth = omega arith in
    ap (λ (n : ℕ). last_events n links i ++ reverse events) all
    ∙ (ap (λ (es : List Event). last_events depth links i ++ reverse es) none
    ∙ (append-nil (last_events depth links i) ∙ sym e))

pub walk-more : (links : List StateLink) (k depth at : ℕ) (link : StateLink) (events new path : List Event) → k < depth
    → slice_get links at ≡ Some link → new ≡ events ++ link.event ∷ []
    → last_events (depth - k) links at ++ reverse events ≡ path
    → last_events (depth - (k + 1)) links link.parent ++ reverse new ≡ path
walk-more links k depth at link events new path lt found e walked =
    let left : depth - k ≡ suc (depth - (k + 1)) = omega arith in
    let before : List Event = last_events (depth - (k + 1)) links link.parent in
    let turned : reverse new ≡ link.event ∷ reverse events =
    ap (λ (es : List Event). reverse es) e ∙ reverse-append events (link.event ∷ []) in
    ap (λ (es : List Event). before ++ es) turned
    ∙ (sym (append_assoc before (link.event ∷ []) (reverse events))
    ∙ (ap (λ (es : List Event). es ++ reverse events)
    (sym (ap (λ (n : ℕ). last_events n links at) left ∙ last_events-more (depth - (k + 1)) links at link found))
    ∙ walked))

pub walk-lost : (links : List StateLink) (k depth at : ℕ) (events path : List Event) → slice_get links at ≡ None
    → last_events (depth - k) links at ++ reverse events ≡ path → reverse events ≡ path
walk-lost links k depth at events path e walked =
    sym (ap (λ (es : List Event). es ++ reverse events) (last_events-none (depth - k) links at e)) ∙ walked

pub walk-end : (links : List StateLink) (k depth at : ℕ) (events path : List Event) → depth ≤ k
    → last_events (depth - k) links at ++ reverse events ≡ path → reverse events ≡ path
walk-end links k depth at events path le walked =
    let none : depth - k ≡ 0 = omega arith in
    sym (ap (λ (n : ℕ). last_events n links at ++ reverse events) none) ∙ walked
