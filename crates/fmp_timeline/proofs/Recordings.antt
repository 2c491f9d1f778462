-- Tracks after an event, one track after another.
use Rattle.std.proofs.Common.{◌≡◌, ℕ, zero, suc, ◌+◌, ◌<◌, ◌≤◌, Bool, List, [], ◌∷◌, length, map, take, get_or, refl}
use Rattle.std.proofs.Common.{add-one, ap, arith, subst, sym}
use Rattle.std.proofs.Math.ListN.{set}
use Rattle.std.proofs.Math.Seq.{take-length}
use Rattle.fmp_timeline.specs.declared.tracks.StateChange.{StateChange}
use Rattle.fmp_timeline.specs.declared.tracks.Track.{Track}
use Rattle.fmp_timeline.specs.Recordings.{all_shown, changed_at, changes_in}
use Rattle.fmp_timeline.specs.Tracks.{shown}

-- a track at a place is changed
pub changed_by_set : {S : Type 0} (f : List (StateChange S) → List (StateChange S)) (tracks : List (Track S)) (i : ℕ)
    (before after : Track S)
    → i < length tracks
    → before ≡ get_or tracks i before
    → after.changes.items ≡ f before.changes.items
    → changes_in (set tracks i after) ≡ changed_at f (changes_in tracks) i
changed_by_set f [] i before after within is by = absurd (omega arith)
changed_by_set f (t ∷ ts) zero before after within is by =
    ap (λ cs. cs ∷ changes_in ts) (subst (λ x. after.changes.items ≡ f x.changes.items) is by)
changed_by_set f (t ∷ ts) (suc i) before after within is by =
    ap (λ cs. t.changes.items ∷ cs) (changed_by_set f ts i before after (omega arith) is by)

-- there is no track at a place
pub changed_beyond : {S : Type 0} (f : List (StateChange S) → List (StateChange S)) (tracks : List (Track S)) (i : ℕ)
    → length tracks ≤ i
    → changed_at f (changes_in tracks) i ≡ changes_in tracks
changed_beyond f [] i beyond = refl
changed_beyond f (t ∷ ts) zero beyond = absurd (omega arith)
changed_beyond f (t ∷ ts) (suc i) beyond = ap (λ cs. t.changes.items ∷ cs) (changed_beyond f ts i (omega arith))

-- the states so far, and one more
shown_more : {S : Type 0} (same : S → S → Bool) (event : ℕ) (states : List S) (all : List (List (StateChange S)))
    (n : ℕ) (state : S)
    → n < length states
    → state ≡ get_or states n state
    → all_shown same event (take (suc n) states) all
    ≡ changed_at (shown same event state) (all_shown same event (take n states) all) n
shown_more same event [] all n state some is = absurd (omega arith)
shown_more same event (s ∷ ss) [] zero state some is = refl
shown_more same event (s ∷ ss) (cs ∷ all) zero state some is = ap (λ x. shown same event x cs ∷ all) (sym is)
shown_more same event (s ∷ ss) [] (suc n) state some is = refl
shown_more same event (s ∷ ss) (cs ∷ all) (suc n) state some is =
    ap (λ rest. shown same event s cs ∷ rest) (shown_more same event ss all n state (omega arith) is)

-- the same by the next place
pub shown_next : {S : Type 0} (same : S → S → Bool) (event : ℕ) (states : List S) (all : List (List (StateChange S)))
    (n : ℕ) (state : S)
    → n < length states
    → state ≡ get_or states n state
    → all_shown same event (take (n + 1) states) all
    ≡ changed_at (shown same event state) (all_shown same event (take n states) all) n
shown_next same event states all n state some is = rw add-one (shown_more same event states all n state some is)

-- the states up to their number are all
pub shown_all : {S : Type 0} (same : S → S → Bool) (event : ℕ) (states : List S) (all : List (List (StateChange S)))
    → all_shown same event (take (length states) states) all ≡ all_shown same event states all
shown_all same event states all = rw (take-length states) refl
