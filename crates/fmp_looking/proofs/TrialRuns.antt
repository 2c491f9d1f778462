-- What is seen of runs, one run after the other, and how they are made.
use Rattle.std.proofs.Common.{◌≡◌, ◌∙◌, ℕ, suc, ◌+◌, List, [], ◌∷◌, ◌++◌, ap, arith, length, refl, sym}
use Rattle.std.proofs.Common.{subst}
use Rattle.fmp_base.specs.declared.events.Event.{Event}
use Rattle.fmp_image_bytes.specs.Images.{ImageTables}
use Rattle.fmp_frames.specs.declared.call_positions.CallPosition.{CallPosition}
use Rattle.fmp_frames.specs.CallPositions.{AreCallsOf}
use Rattle.fmp_expect.specs.declared.expectation.Expected.{Expected}
use Rattle.fmp_instructions.specs.declared.instructions.MachineContext.{MachineContext}
use Rattle.fmp_instructions.specs.Instructions.{BodyTables}
use Rattle.fmp_instructions.specs.Machine.{code_meaning}
use Rattle.fmp_replay.specs.Replays.{kernel_after}
use Rattle.fmp_trials.specs.declared.choices.RunPlan.{RunPlan}
use Rattle.fmp_trials.specs.Choices.{choices_of}
use Rattle.fmp_trials.specs.Drawn.{IsRandomRun}
use Rattle.fmp_trials.specs.Trials.{Subject}
use Rattle.fmp_looking.specs.declared.trying.Trials.{Trials}
use Rattle.fmp_looking.specs.declared.wanted.ImageTest.{ImageTest}
use Rattle.fmp_looking.specs.CallSentences.{JudgeTables}
use Rattle.fmp_looking.specs.Covered.{AreMadeAfter, AreRunsSeen, AreTrialsSeen, IsRunOf, IsTestRun, Seen, none_seen}
use Rattle.fmp_looking.specs.Covered.{with_run, with_runs}
use Rattle.fmp_looking.specs.Tested.{plan_in, subject_in}

runs_and : (i : ImageTables) (n : ℕ) (s : Seen) (runs : List (List Event)) (es : List Event)
    → with_runs i n s (runs ++ es ∷ []) ≡ with_run i n (with_runs i n s runs) es
runs_and i n s [] es = refl
runs_and i n s (run ∷ runs) es = runs_and i n (with_run i n s run) runs es

next : (i : ℕ) → suc (i + 1) ≡ suc i + 1
next i = omega arith

pub one_longer : (runs : List (List Event)) (es : List Event) → length (runs ++ es ∷ []) ≡ length runs + 1
one_longer [] es = refl
one_longer (run ∷ runs) es = ap (λ (k : ℕ). suc k) (one_longer runs es) ∙ next (length runs)

first_seed : (before : ℕ) → before + 0 + 1 ≡ before + 1
first_seed before = omega arith

next_seed : (before n : ℕ) → before + suc n + 1 ≡ before + 1 + n + 1
next_seed before n = omega arith

made_and : (P : (seed : ℕ) → List Event → Type 0) (before : ℕ) (runs : List (List Event)) (es : List Event)
    → AreMadeAfter P before runs → P (before + length runs + 1) es → AreMadeAfter P before (runs ++ es ∷ [])
made_and P before [] es all one = (subst (λ (seed : ℕ). P seed es) (first_seed before) one, tt)
made_and P before (run ∷ runs) es all one =
    let later = subst (λ (seed : ℕ). P seed es) (next_seed before (length runs)) one in
    (all.0, made_and P (before + 1) runs es all.1 later)

-- a run more, of the next seed
pub all_and : (P : (seed : ℕ) → List Event → Type 0) (before count : ℕ) (runs : List (List Event)) (es : List Event)
    → AreMadeAfter P before runs → length runs ≡ count → P (before + count + 1) es
    → AreMadeAfter P before (runs ++ es ∷ [])
all_and P before count runs es all many one =
    made_and P before runs es all (subst (λ (k : ℕ). P (before + k + 1) es) (sym many) one)

module _ (P : (seed : ℕ) → List Event → Type 0) where
  -- before any run
  pub none_made : (positions : List (List CallPosition)) (i : ImageTables) (n before : ℕ) (s : Seen)
      → s ≡ none_seen positions → AreRunsSeen P positions i n before 0 s
  none_made positions i n before s none = record { runs = []; made = tt; many = refl; seen = none }

  -- after one run more
  pub one_made : (positions : List (List CallPosition)) (i : ImageTables) (n before count : ℕ) (s t : Seen)
      (es : List Event) → AreRunsSeen P positions i n before count s → P (before + count + 1) es
      → t ≡ with_run i n s es → AreRunsSeen P positions i n before (count + 1) t
  one_made positions i n before count s t es h made more =
      record {
        runs = h.runs ++ es ∷ [];
        made = all_and P before count h.runs es h.made h.many made;
        many = one_longer h.runs es ∙ ap (λ (k : ℕ). k + 1) h.many;
        seen =
            more ∙ ap (λ (x : Seen). with_run i n x es) h.seen ∙ sym (runs_and i n (none_seen positions) h.runs es);
      }

  -- as many as there are to be
  pub as_many : (positions : List (List CallPosition)) (i : ImageTables) (n before count all : ℕ) (s : Seen)
      → count ≡ all → AreRunsSeen P positions i n before count s → AreRunsSeen P positions i n before all s
  as_many positions i n before count all s is h =
      record { runs = h.runs; made = h.made; many = h.many ∙ is; seen = h.seen }

  -- of an image with bodies of this text
  pub trials_seen : (src : List ℕ) (positions : List (List CallPosition)) (i : ImageTables) (n last : ℕ) (s : Seen)
      → AreCallsOf src positions → AreRunsSeen P positions i n 0 last s → AreTrialsSeen P src i n last s
  trials_seen src positions i n last s are h =
      record {
        runs = h.runs;
        made = h.made;
        many = h.many;
        seen = record { first = none_seen positions; none = (positions, are, refl); seen = h.seen };
      }

-- a run from a subject of these trials
pub run_of_trials : (t : Trials) (b : Subject (List BodyTables) MachineContext JudgeTables) (seed : ℕ)
    (es : List Event) → b ≡ subject_in t
    → IsRandomRun code_meaning b.start b.expected (choices_of t.plan seed) es → IsRunOf t seed es
run_of_trials t b seed es is h =
    subst
    (λ (x : Subject (List BodyTables) MachineContext JudgeTables).
    IsRandomRun code_meaning x.start x.expected (choices_of t.plan seed) es) is h

-- the runs of a test, by other names of what is expected and of their plan
pub seen_of_test : (t : ImageTest) (src : List ℕ) (last : ℕ) (s : Seen) (xs ys : List Expected) (plan : RunPlan)
    → xs ≡ ys → plan ≡ plan_in t
    → AreTrialsSeen
    (λ seed es. IsRandomRun code_meaning (kernel_after t.image.now t.testing.bound []) xs (choices_of plan seed) es)
    src t.image.now t.testing.bound last s
    → AreTrialsSeen (IsTestRun t ys) src t.image.now t.testing.bound last s
seen_of_test t src last s xs ys plan is same h =
    subst
    (λ (zs : List Expected).
    AreTrialsSeen
    (λ seed es.
    IsRandomRun code_meaning (kernel_after t.image.now t.testing.bound []) zs (choices_of (plan_in t) seed) es) src
    t.image.now t.testing.bound last s) is
    (subst
    (λ (p : RunPlan).
    AreTrialsSeen
    (λ seed es. IsRandomRun code_meaning (kernel_after t.image.now t.testing.bound []) xs (choices_of p seed) es) src
    t.image.now t.testing.bound last s) same h)
