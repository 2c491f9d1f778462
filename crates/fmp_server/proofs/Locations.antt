-- The positions of a name that are asked for, one after the other.
use Rattle.std.proofs.Common.{ℕ, ◌≡◌, ◌<◌, ◌+◌, ◌-◌, ◌++◌, Bool, true, false, List, [], ◌∷◌, length, get_or, take}
use Rattle.std.proofs.Common.{ap, ◌∙◌, refl}
use Rattle.std.specs.Bool.{MatchBool}
use Rattle.std.specs.Prelude.{cond, filter, flat_map}
use Rattle.std.proofs.lemmas.List.{append-nil, flat_map_more, map-append, take_more}
use Rattle.std.proofs.lemmas.List.Elements.{filter-append}
use Rattle.json.specs.Token.{Token}
use Rattle.fmp_lex.specs.declared.position.TokenPosition.{TokenPosition}
use Rattle.fmp_server.specs.declared.navigation.WantedPositions.{WantedPositions}
use Rattle.fmp_server.specs.declared.positions.TextRange.{TextRange}
use Rattle.fmp_server.specs.declared.roles.NamePosition.{NamePosition}
use Rattle.fmp_server.specs.Messages.{location}
use Rattle.fmp_server.specs.Navigation.{wanted_of, wants}
use Rattle.fmp_server.specs.Positions.{AreRanges, IsRange}
use Rattle.fmp_server.specs.Roles.{positions_of}
use Rattle.fmp_server.proofs.Ranges.{ranges_more}

abbrev is_wanted : WantedPositions → NamePosition → Bool
is_wanted w p = wants w p.declares

parted : (w : WantedPositions) (xs : List NamePosition) (i : ℕ) (d : NamePosition) → i < length xs
    → wanted_of w (take (i + 1) xs) ≡ wanted_of w (take i xs) ++ wanted_of w (get_or xs i d ∷ [])
parted w xs i d h =
    ap (λ (l : List NamePosition). wanted_of w l) (take_more xs i d h)
    ∙ ap (λ (l : List NamePosition). positions_of l) (filter-append (is_wanted w) (take i xs) (get_or xs i d ∷ []))
    ∙ map-append (λ (p : NamePosition). p.position) (filter (is_wanted w) (take i xs))
    (filter (is_wanted w) (get_or xs i d ∷ []))

one_if : (w : WantedPositions) (p : NamePosition) (b : Bool) → wants w p.declares ≡ b
    → wanted_of w (p ∷ []) ≡ positions_of (cond b (p ∷ []) [])
one_if w p b e = ap (λ (b : Bool). positions_of (cond b (p ∷ []) [])) e

-- the locations of some positions stand after these tokens
abbrev pub Stand : (text uri : List ℕ) → List TokenPosition → (start tokens : List Token) → Type 0
Stand text uri ps start tokens =
    (ranges : List TextRange) × AreRanges text ps ranges × (tokens ≡ start ++ flat_map (λ r. location uri r) ranges)

next_by : (text uri : List ℕ) (w : WantedPositions) (xs : List NamePosition) (i : ℕ) (d : NamePosition)
    (start old new : List Token) (b : Bool)
    → wants w (get_or xs i d).declares ≡ b → i < length xs → Stand text uri (wanted_of w (take i xs)) start old
    → MatchBool b
    ((r : TextRange) × IsRange text ((get_or xs i d).position.line - 1) (get_or xs i d).position.start
    (get_or xs i d).position.end r × (new ≡ old ++ location uri r))
    (new ≡ old)
    → Stand text uri (wanted_of w (take (i + 1) xs)) start new
next_by text uri w xs i d start old new true e h (rs, a, eq) (r, ra, n) =
    let p : NamePosition = get_or xs i d in
    let before : List TokenPosition = wanted_of w (take i xs) in
    let positions : wanted_of w (take (i + 1) xs) ≡ before ++ p.position ∷ [] =
    parted w xs i d h ∙ ap (λ (q : List TokenPosition). before ++ q) (one_if w p true e) in (
      rs ++ r ∷ [],
      rw positions (ranges_more text before rs p.position r a ra),
      n ∙ ap (λ (t : List Token). t ++ location uri r) eq
          ∙ flat_map_more (λ (r : TextRange). location uri r) start rs r,
    )
next_by text uri w xs i d start old new false e h (rs, a, eq) n =
    let p : NamePosition = get_or xs i d in
    let before : List TokenPosition = wanted_of w (take i xs) in
    let positions : wanted_of w (take (i + 1) xs) ≡ before =
    parted w xs i d h ∙ ap (λ (q : List TokenPosition). before ++ q) (one_if w p false e) ∙ append-nil before in
    (rs, rw positions a, n ∙ eq)

-- one position more, if it is asked for
pub next_location : (text uri : List ℕ) (w : WantedPositions) (xs : List NamePosition) (i : ℕ) (d : NamePosition)
    (start old new : List Token)
    → i < length xs → Stand text uri (wanted_of w (take i xs)) start old
    → MatchBool (wants w (get_or xs i d).declares)
    ((r : TextRange) × IsRange text ((get_or xs i d).position.line - 1) (get_or xs i d).position.start
    (get_or xs i d).position.end r × (new ≡ old ++ location uri r))
    (new ≡ old)
    → Stand text uri (wanted_of w (take (i + 1) xs)) start new
next_location text uri w xs i d start old new h a m =
    next_by text uri w xs i d start old new (wants w (get_or xs i d).declares) refl h a m
