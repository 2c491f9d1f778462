-- What stands at positions of a text, one after the other, and the edits there.
use Rattle.std.proofs.Common.{ℕ, ◌≡◌, ◌<◌, ◌+◌, ◌-◌, List, [], ◌∷◌, ◌++◌, length, get_or, take, refl, ap, ◌∙◌}
use Rattle.std.specs.Prelude.{flat_map}
use Rattle.std.proofs.lemmas.List.{flat_map_more, map-append, take_more}
use Rattle.json.specs.Token.{Token}
use Rattle.fmp_lex.specs.declared.position.TokenPosition.{TokenPosition}
use Rattle.fmp_server.specs.declared.positions.TextRange.{TextRange}
use Rattle.fmp_server.specs.declared.roles.NamePosition.{NamePosition}
use Rattle.fmp_server.specs.Messages.{edit}
use Rattle.fmp_server.specs.Positions.{AreRanges, IsRange}
use Rattle.fmp_server.specs.Roles.{positions_of}

-- one position more
pub ranges_more : (text : List ℕ) (ps : List TokenPosition) (rs : List TextRange) (p : TokenPosition) (r : TextRange)
    → AreRanges text ps rs → IsRange text (p.line - 1) p.start p.end r
    → AreRanges text (ps ++ p ∷ []) (rs ++ r ∷ [])
ranges_more text [] rs p r a b = (r, [], ap (λ (l : List TextRange). l ++ r ∷ []) a, b, refl)
ranges_more text (q ∷ qs) rs p r a b =
    (a.0, a.1 ++ r ∷ [], ap (λ (l : List TextRange). l ++ r ∷ []) a.2, a.3, ranges_more text qs a.1 p r a.4 b)

positions_more : (xs : List NamePosition) (i : ℕ) (d : NamePosition) → i < length xs
    → positions_of (take (i + 1) xs) ≡ positions_of (take i xs) ++ (get_or xs i d).position ∷ []
positions_more xs i d h =
    ap (λ (l : List NamePosition). positions_of l) (take_more xs i d h)
    ∙ map-append (λ (p : NamePosition). p.position) (take i xs) (get_or xs i d ∷ [])

-- the next position of a list
pub next_range : (text : List ℕ) (xs : List NamePosition) (i : ℕ) (d : NamePosition) (rs : List TextRange)
    (r : TextRange)
    → i < length xs → AreRanges text (positions_of (take i xs)) rs
    → IsRange text ((get_or xs i d).position.line - 1) (get_or xs i d).position.start (get_or xs i d).position.end r
    → AreRanges text (positions_of (take (i + 1) xs)) (rs ++ r ∷ [])
next_range text xs i d rs r h a b =
    let more = ranges_more text (positions_of (take i xs)) rs (get_or xs i d).position r a b in
    rw (positions_more xs i d h) more

-- its edit
pub next_edit : (before old new : List Token) (name : List ℕ) (rs : List TextRange) (r : TextRange)
    → old ≡ before ++ flat_map (λ (r : TextRange). edit r name) rs → new ≡ old ++ edit r name
    → new ≡ before ++ flat_map (λ (r : TextRange). edit r name) (rs ++ r ∷ [])
next_edit before old new name rs r a b =
    b ∙ ap (λ (t : List Token). t ++ edit r name) a ∙ flat_map_more (λ (r : TextRange). edit r name) before rs r
