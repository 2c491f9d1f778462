-- The coverage of the text of its bodies by runs of an image: as a table, and as a tracefile of lcov.
use Rattle.std.specs.Prelude.{ℕ, ◌≡◌, ◌+◌, ◌-◌, ◌<◌, List, [], ◌∷◌, ◌++◌, Option, Result, Ok, Err, ⊤, IfOk, length}
use Rattle.std.specs.Prelude.{map, slice_index_or}
use Rattle.fmp_base.specs.declared.events.Event.{Event}
use Rattle.fmp_base.specs.Systems.{tables_of}
use Rattle.fmp_expect.specs.declared.expectation.Expected.{Expected}
use Rattle.fmp_expect.specs.CallSentences.{other_sentences_of}
use Rattle.fmp_looking.specs.declared.marks.Mark.{Mark}
use Rattle.fmp_looking.specs.declared.observing.CallSeen.{CallSeen}
use Rattle.fmp_looking.specs.Branches.{branch_steps}
use Rattle.fmp_looking.specs.Marks.{AreMarksOf}
use Rattle.fmp_looking.specs.Observed.{calls_seen}
use Rattle.fmp_looking.specs.Tables.{branch_counts, table_text}
use Rattle.fmp_looking.specs.Tested.{plan_in}
use Rattle.fmp_frames.specs.declared.call_positions.CallPosition.{CallPosition}
use Rattle.fmp_frames.specs.CallPositions.{AreCallsOf}
use Rattle.fmp_frames.specs.Made.{positions_made}
use Rattle.fmp_image_bytes.specs.Images.{ImageTables}
use Rattle.fmp_instructions.specs.Machine.{code_meaning}
use Rattle.fmp_replay.specs.Replays.{kernel_after}
use Rattle.fmp_looking.specs.declared.covering.RunsSeen.{RunsSeen}
use Rattle.fmp_looking.specs.declared.covering.Sightings.{Sightings}
use Rattle.fmp_trials.specs.declared.seeds.Seeds.{Seeds}
use Rattle.fmp_trials.specs.Choices.{choices_of}
use Rattle.fmp_trials.specs.Drawn.{IsRandomRun}
use Rattle.fmp_trials.specs.Parts.{edge}
use Rattle.fmp_looking.specs.declared.trying.Trials.{Trials}
use Rattle.fmp_looking.specs.declared.wanted.ImageTest.{ImageTest}
use Rattle.fmp_looking.specs.declared.wanted.TestTexts.{TestTexts}
use Rattle.fmp_looking.specs.Coverage.{AreLinesOf, count_of, tracefile}
use Rattle.fmp_looking.specs.Ways.{TimesGone, both_gone, none_gone, times_in, with_steps}

-- what is seen of runs so far: where their calls stand, what those were answered, and how often branches went each way
pub record Seen : Type 0 where
  pub positions : List (List CallPosition)
  pub made : List (Option CallPosition)
  pub calls : List CallSeen
  pub gone : TimesGone

abbrev pub seen_at : List (List CallPosition) → Sightings → Seen
seen_at positions s =
    record { positions = positions; made = s.made.items; calls = s.calls.items; gone = times_in s.ways }

abbrev pub seen_of : RunsSeen → Seen
seen_of s = seen_at s.positions s.sightings

-- nothing yet, where calls of bodies stand at these positions
abbrev pub none_seen : List (List CallPosition) → Seen
none_seen positions = record { positions = positions; made = []; calls = []; gone = none_gone }

-- nothing is seen yet of this text
abbrev pub IsNoneSeen : (src : List ℕ) → Seen → Type 0
IsNoneSeen src s = (bodies : List (List CallPosition)) × AreCallsOf src bodies × (s ≡ none_seen bodies)

-- one run more
abbrev pub with_run : ImageTables → (n : ℕ) → Seen → List Event → Seen
with_run i n s es =
    let start = kernel_after i n [] in
    record s {
      made = s.made ++ positions_made code_meaning i.code s.positions start es;
      calls = calls_seen code_meaning i.code s.positions start es s.calls;
      gone = with_steps s.gone (branch_steps code_meaning i.code start es);
    }

-- what is seen of these runs, and of those before them
abbrev pub with_runs : ImageTables → (n : ℕ) → Seen → List (List Event) → Seen
with_runs i n s [] = s
with_runs i n s (es ∷ runs) = with_runs i n (with_run i n s es) runs

-- what is seen of some runs, and of others after them
abbrev pub both : Seen → Seen → Seen
both s t = record t { made = s.made ++ t.made; calls = s.calls ++ t.calls; gone = both_gone s.gone t.gone }

-- these runs are made so, each by its seed: the first by the seed after this one, each other by the next
abbrev pub AreMadeAfter : (IsMade : (seed : ℕ) → List Event → Type 0) → (before : ℕ) → List (List Event) → Type 0
AreMadeAfter IsMade before [] = ⊤
AreMadeAfter IsMade before (es ∷ runs) = IsMade (before + 1) es × AreMadeAfter IsMade (before + 1) runs

-- this was seen of runs of an image, whose calls stand at these positions: those of the seeds after this one, this many
pub record AreRunsSeen (IsMade : (seed : ℕ) → List Event → Type 0) (positions : List (List CallPosition))
    (i : ImageTables) (n before count : ℕ) (s : Seen) : Type 0 where
  pub runs : List (List Event)
  pub made : AreMadeAfter IsMade before runs
  pub many : length runs ≡ count
  pub seen : s ≡ with_runs i n (none_seen positions) runs

-- what is seen of a part of runs was added
abbrev pub IsWithPart : {E : Type 0} → (before : Sightings) → Result Sightings E → (after : Sightings) → Type 0
IsWithPart before (Ok part) after =
    (positions : List (List CallPosition))
    → seen_at positions after ≡ both (seen_at positions before) (seen_at positions part)
IsWithPart before (Err e) after = ⊥

-- what is seen of each part of seeds, where they are cut into this many
abbrev pub ArePartsSeen : {E : Type 0} → (IsMade : (seed : ℕ) → List Event → Type 0) → List (List CallPosition)
    → ImageTables → (n : ℕ) → Seeds → (parts : ℕ) → List (Result Sightings E) → Type 0
ArePartsSeen {E} IsMade positions i n seeds parts seen =
    (length seen ≡ parts)
    × ((k : ℕ) (d : Result Sightings E) → k < parts
    → IfOk (slice_index_or seen k d)
    (λ s. AreRunsSeen IsMade positions i n (edge seeds parts k) (edge seeds parts (k + 1) - edge seeds parts k)
    (seen_at positions s)))

-- this was seen of these runs of an image, in this text of its bodies
pub record IsSeen (src : List ℕ) (i : ImageTables) (n : ℕ) (runs : List (List Event)) (s : Seen) : Type 0 where
  pub first : Seen
  pub none : IsNoneSeen src first
  pub seen : s ≡ with_runs i n first runs

-- the random run of a seed in trials
abbrev pub IsRunOf : Trials → (seed : ℕ) → List Event → Type 0
IsRunOf t seed es =
    IsRandomRun code_meaning (kernel_after t.opened.image.now t.opened.bound []) t.expected.now
    (choices_of t.plan seed) es

-- this was seen of the runs of an image of the seeds from 1 to this one
pub record AreTrialsSeen (IsMade : (seed : ℕ) → List Event → Type 0) (src : List ℕ) (i : ImageTables) (n last : ℕ)
    (s : Seen) : Type 0 where
  pub runs : List (List Event)
  pub made : AreMadeAfter IsMade 0 runs
  pub many : length runs ≡ last
  pub seen : IsSeen src i n runs s

-- the random run of a seed in a test: it goes up to the first event that breaks one of these expectations
abbrev pub IsTestRun : ImageTest → List Expected → (seed : ℕ) → List Event → Type 0
IsTestRun t expected seed es =
    IsRandomRun code_meaning (kernel_after t.image.now t.testing.bound []) expected (choices_of (plan_in t) seed) es

-- this was seen of the random runs of a test of the seeds from 1 to this one, which go by the expectations of a text
-- that are not about calls
pub record IsTestSeen (t : ImageTest) (texts : TestTexts) (last : ℕ) (s : Seen) : Type 0 where
  pub expected : List Expected
  pub read : other_sentences_of (tables_of t.configured.now) texts.expectations.now ≡ Ok expected
  pub seen : AreTrialsSeen (IsTestRun t expected) texts.src.now t.image.now t.testing.bound last s

-- the table of what is seen, of a text in a file
pub record IsTable (file src : List ℕ) (s : Seen) (out : List ℕ) : Type 0 where
  pub marks : List Mark
  pub are : AreMarksOf src marks
  pub text : out ≡ table_text file s.calls s.gone marks

-- the tracefile of what is seen, of a text in a file
pub record IsTracefile (file src : List ℕ) (s : Seen) (out : List ℕ) : Type 0 where
  pub lines : List ℕ
  pub lines_are : AreLinesOf src lines
  pub marks : List Mark
  pub marks_are : AreMarksOf src marks
  pub text : out ≡ tracefile file (map (count_of s.made) lines) (branch_counts s.gone marks)

-- the table of what these runs of an image come to, in this text of its bodies
abbrev pub IsCoverage : (file src : List ℕ) → ImageTables → (n : ℕ) → (runs : List (List Event)) → (out : List ℕ)
    → Type 0
IsCoverage file src i n runs out = (s : Seen) × IsSeen src i n runs s × IsTable file src s out

-- the tracefile of lcov of them
abbrev pub IsLcov : (file src : List ℕ) → ImageTables → (n : ℕ) → (runs : List (List Event)) → (out : List ℕ) → Type 0
IsLcov file src i n runs out = (s : Seen) × IsSeen src i n runs s × IsTracefile file src s out
