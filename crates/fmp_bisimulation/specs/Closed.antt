-- Sets of worlds that no event leaves, and what is watched along all runs.
use Rattle.std.specs.Prelude.{ℕ, ◌≡◌, List, [], ◌∷◌, Bool, true, false, Some, slice_get}
use Rattle.fmp_base.specs.declared.events.Event.{Event}
use Rattle.fmp_base.specs.declared.events.Line.{Line}
use Rattle.fmp_base.specs.declared.events.Line.TheVariants as line
use Rattle.fmp_base.specs.Meanings.{World}
use Rattle.fmp_base.specs.Steps.{Reaction, Nothing, Did, Kept}

-- a line without the number of the clock
abbrev pub timeless : Line → Line
timeless (line.Tick clock) = line.Tick 0
timeless l = l

abbrev pub all_timeless : List Line → List Line
all_timeless [] = []
all_timeless (l ∷ ls) = timeless l ∷ all_timeless ls

-- what is watched: it goes on by the lines of each event that is done, and is bad or not
pub record Watch (S : Type 0) : Type 0 where
  pub next : S → List Line → S
  pub is_bad : S → Bool

-- what it has come to after these events
abbrev pub watched : {S : Type 0} → Watch S → S → List (List Line) → S
watched W a [] = a
watched W a (ls ∷ rest) = watched W (W.next a ls) rest

-- it does not look at the number of the clock
abbrev pub IsBlind : {S : Type 0} → Watch S → Type 0
IsBlind {S} W = (a : S) (ls ms : List Line) → all_timeless ls ≡ all_timeless ms → W.next a ls ≡ W.next a ms

-- The relations R below say which worlds are alike.

-- two worlds do the same: nothing; or what leaves alike worlds, by lines that differ in the clock at most; or the same
-- processor's actor keeps its place, in alike worlds
abbrev pub BothAlike : {C : Type 0} → (World C → World C → Type 0) → Reaction C → Reaction C → Type 0
BothAlike R Nothing Nothing = Unit {0}
BothAlike R (Did a) (Did b) = (all_timeless a.lines ≡ all_timeless b.lines) × R a.world b.world
BothAlike R (Kept p v) (Kept q w) = (p ≡ q) × R v w
BothAlike R _ _ = ⊥

-- each event does the same in alike worlds
abbrev pub KeepsAlike : {C : Type 0} → (World C → World C → Type 0) → (World C → Event → Reaction C) → Type 0
KeepsAlike {C} R go = (v w : World C) (e : Event) → R v w → BothAlike R (go v e) (go w e)

abbrev pub IsChained : {C : Type 0} → (World C → World C → Type 0) → Type 0
IsChained {C} R = (u v w : World C) → R u v → R v w → R u w

-- K says which worlds a set has, each with what is watched there: one of them is like w, with the same watch
pub record IsCovered {C S : Type 0} (R : World C → World C → Type 0) (K : World C → S → Type 0) (w : World C) (a : S)
    : Type 0 where
  pub world : World C
  pub alike : R w world
  pub kept : K world a

-- what this leads to from a watch a is covered
abbrev pub LeadsIn : {C S : Type 0} → (World C → World C → Type 0) → Watch S → (World C → S → Type 0) → S → Reaction C
    → Type 0
LeadsIn R W K a Nothing = Unit {0}
LeadsIn R W K a (Did d) = IsCovered R K d.world (W.next a d.lines)
LeadsIn R W K a (Kept p w) = IsCovered R K w a

-- The rules, `may`, say which events may come to a world, given what is watched there.

-- any event may come
abbrev pub anything : {C S : Type 0} → World C → S → Event → Bool
anything w a e = true

-- alike worlds allow the same
abbrev pub IsRule : {C S : Type 0} → (World C → World C → Type 0) → (World C → S → Event → Bool) → Type 0
IsRule {C} {S} R may = (v w : World C) (a : S) (e : Event) → R v w → may v a e ≡ may w a e

-- no event that may come leaves the set
abbrev pub IsClosed : {C S : Type 0} → (World C → World C → Type 0) → Watch S → (World C → S → Event → Bool)
    → (World C → Event → Reaction C) → (World C → S → Type 0) → Type 0
IsClosed {C} {S} R W may go K =
    (w : World C) (a : S) (e : Event) → K w a → may w a e ≡ true → LeadsIn R W K a (go w e)

abbrev pub allowed_after : {C S : Type 0} → Watch S → World C → S → Reaction C → (World C → S → Type 0) → Type 0
allowed_after W w a Nothing rest = rest w a
allowed_after W w a (Did d) rest = rest d.world (W.next a d.lines)
allowed_after W w a (Kept p v) rest = rest v a

-- each event of a list may come where it comes
abbrev pub AreAllowed : {C S : Type 0} → Watch S → (World C → S → Event → Bool) → (World C → Event → Reaction C)
    → World C → S → List Event → Type 0
AreAllowed W may go w a [] = Unit {0}
AreAllowed W may go w a (e ∷ es) =
    (may w a e ≡ true) × allowed_after W w a (go w e) (λ v b. AreAllowed W may go v b es)

abbrev pub NoneIsBad : {C S : Type 0} → Watch S → (World C → S → Type 0) → Type 0
NoneIsBad {C} {S} W K = (w : World C) (a : S) → K w a → W.is_bad a ≡ false

-- a world, and what the watch has come to there
pub record Seen (C S : Type 0) : Type 0 where
  pub world : World C
  pub watch : S

-- a list has this world with this watch
pub record IsListed {C S : Type 0} (seen : List (Seen C S)) (w : World C) (a : S) : Type 0 where
  pub place : ℕ
  pub there : slice_get seen place ≡ Some (record { world = w; watch = a })
