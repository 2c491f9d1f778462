-- The rows of the states that are kept.
use Rattle.std.proofs.Common.{◌≡◌, ◌≤◌, ◌+◌, ℕ, suc, List, [], ◌∷◌, ◌++◌, Option, Some, None, refl, sym, ap, ◌∙◌}
use Rattle.std.proofs.Common.{length, map, take, drop, slice_get, length-drop, arith}
use Rattle.std.specs.Option.{option_map}
use Rattle.std.proofs.lemmas.List.{drop-append-le, drop_at, map_push, take-append-le, take_all}
use Rattle.std.proofs.lemmas.Option.{slice_get-map, slice_get_past}
use Rattle.fmp_visited.specs.declared.link.StateLink.{StateLink}
use Rattle.fmp_visited.specs.declared.kept.State.{State}
use Rattle.fmp_visited.specs.Kept.{AreWithin, KeptStates, kept_states, link_of, row_in, start_of}

pub row-found : (bytes : List ℕ) (states : List State) (i : ℕ) (state : State) (kept : KeptStates)
    → kept_states bytes states ≡ kept
    → slice_get states i ≡ Some state → Some (row_in bytes state) ≡ slice_get kept.rows i
row-found bytes states i state kept view e =
    sym (ap (λ (k : KeptStates). slice_get k.rows i) (sym view)
    ∙ (slice_get-map (row_in bytes) states i ∙ ap (λ (o : Option State). option_map (row_in bytes) o) e))

pub row-none : (bytes : List ℕ) (states : List State) (i : ℕ) (kept : KeptStates) → kept_states bytes states ≡ kept
    → length states ≤ i → None ≡ slice_get kept.rows i
row-none bytes states i kept view past =
    sym (ap (λ (k : KeptStates). slice_get k.rows i) (sym view)
    ∙ (slice_get-map (row_in bytes) states i ∙ ap (λ (o : Option State). option_map (row_in bytes) o)
    (slice_get_past states i past)))

-- the row of a state stays where more bytes come
row_in-append : (bytes row : List ℕ) (state : State) → start_of state + state.length ≤ length bytes
    → row_in (bytes ++ row) state ≡ row_in bytes state
unfolding row_in
row_in-append bytes row state le =
    ap (λ (r : List ℕ). take state.length r) (drop-append-le (start_of state) bytes row (omega arith))
    ∙ take-append-le state.length (drop (start_of state) bytes) row (omega (arith, length-drop (start_of state) bytes))

-- the row that was put behind the bytes
row_in-end : (bytes row : List ℕ) (state : State) → start_of state ≡ length bytes → state.length ≡ length row
    → row_in (bytes ++ row) state ≡ row
unfolding row_in
row_in-end bytes row state a b =
    ap (λ (r : List ℕ). take state.length r) (drop_at bytes row (start_of state) (sym a))
    ∙ take_all state.length row (omega arith)

within-first : (bytes : List ℕ) (s : State) (states : List State) → AreWithin bytes (s ∷ states) → start_of s
    + s.length ≤ length bytes
within-first bytes s states h = h 0 s (omega arith)

within-rest : (bytes : List ℕ) (s : State) (states : List State) → AreWithin bytes (s ∷ states) → AreWithin bytes states
within-rest bytes s states h k d lt = h (suc k) d (omega arith)

rows-append : (bytes row : List ℕ) (states : List State) → AreWithin bytes states
    → map (row_in (bytes ++ row)) states ≡ map (row_in bytes) states
rows-append bytes row [] h = refl
rows-append bytes row (s ∷ states) h =
    ap (λ (r : List ℕ). r ∷ map (row_in (bytes ++ row)) states) (row_in-append bytes row s
    (within-first bytes s states h))
    ∙ ap (λ (rs : List (List ℕ)). row_in bytes s ∷ rs) (rows-append bytes row states (within-rest bytes s states h))

abbrev kept_of : List (List ℕ) → List StateLink → KeptStates
kept_of rows links = record { rows = rows; links = links }

-- one more state is kept
pub kept-more : (bytes row new : List ℕ) (states more : List State) (state : State) (link : StateLink)
    (kept : KeptStates) → kept_states bytes states ≡ kept → AreWithin bytes states → start_of state ≡ length bytes
    → state.length ≡ length row → link_of state ≡ link → new ≡ bytes ++ row → more ≡ states ++ state ∷ []
    → kept_states new more ≡ kept_of (kept.rows ++ row ∷ []) (kept.links ++ link ∷ [])
kept-more bytes row new states more state link kept view h a b is e f =
    let rows : map (row_in (bytes ++ row)) (states ++ state ∷ []) ≡ map (row_in bytes) states ++ row ∷ [] =
    map_push (row_in (bytes ++ row)) states state
    ∙ (ap (λ (r : List ℕ). map (row_in (bytes ++ row)) states ++ r ∷ []) (row_in-end bytes row state a b)
    ∙ ap (λ (rs : List (List ℕ)). rs ++ row ∷ []) (rows-append bytes row states h)) in
    let links : map link_of (states ++ state ∷ []) ≡ map link_of states ++ link ∷ [] =
    map_push link_of states state ∙ ap (λ (l : StateLink). map link_of states ++ l ∷ []) is in
    ap (λ (n : List ℕ). kept_states n more) e
    ∙ (ap (λ (m : List State). kept_states (bytes ++ row) m) f
    ∙ (ap (λ (rs : List (List ℕ)). kept_of rs (map link_of (states ++ state ∷ []))) rows
    ∙ (ap (λ (ls : List StateLink). kept_of (map (row_in bytes) states ++ row ∷ []) ls) links
    ∙ ap (λ (k : KeptStates). kept_of (k.rows ++ row ∷ []) (k.links ++ link ∷ [])) view)))
