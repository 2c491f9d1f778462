-- Lists of instructions, of calls and of tasks, from a place on.
use Rattle.std.proofs.Common.{◌≡◌, ℕ, suc, zero, min, ◌+◌, ◌<◌, ◌≤◌, List, [], ◌∷◌, ◌++◌, length, drop, get_or}
use Rattle.std.proofs.Common.{slice_get, Bool, false, cond, Option, Some, None, option_map, unwrap_or, nat_eq, refl, ap}
use Rattle.std.proofs.Common.{subst, ◌∙◌, add-one, arith, count_by, take}
use Rattle.fmp_base.specs.declared.systems.TaskConfig.{TaskConfig}
use Rattle.fmp_instructions.specs.declared.instructions.Instruction.{Instruction}
use Rattle.fmp_instructions.specs.Instructions.{BodyTables, found_instructions}
use Rattle.fmp_frames.specs.CallPositions.{TextBody, is_call, position_by, position_of}
use Rattle.fmp_frames.specs.declared.call_positions.CallPosition.{CallPosition}
use Rattle.fmp_searching.specs.Claims.{rest_text, rests_text}
use Rattle.fmp_searching.specs.Sites.{calls_below, calls_of, code_of, positions_of, site, sites_at, sites_by}

next : (i : ℕ) → suc (i + 1) ≡ suc i + 1
next i = omega arith

pub sites_at_at : (body line : ℕ) (positions : List ℕ) (calls : List CallPosition) (i : ℕ) (c : CallPosition)
    → i < length positions → i < length calls
    → sites_at body line (drop i positions) (drop i calls)
    ≡ cond (nat_eq (get_or calls i c).line line) (site body (get_or positions i 0) ∷ []) []
    ++ sites_at body line (drop (i + 1) positions) (drop (i + 1) calls)
sites_at_at body line [] calls i c h k = absurd (omega arith)
sites_at_at body line (p ∷ ps) [] i c h k = absurd (omega arith)
sites_at_at body line (p ∷ ps) (l ∷ ls) zero c h k = refl
sites_at_at body line (p ∷ ps) (l ∷ ls) (suc i) c h k =
    sites_at_at body line ps ls i c (omega arith) (omega arith)
    ∙ ap
    (λ n. cond (nat_eq (get_or ls i c).line line) (site body (get_or ps i 0) ∷ []) []
    ++ sites_at body line (drop n (p ∷ ps)) (drop n (l ∷ ls)))
    (next i)

pub sites_at_end : (body line : ℕ) (positions : List ℕ) (calls : List CallPosition) (i : ℕ)
    → min (length positions) (length calls) ≤ i → sites_at body line (drop i positions) (drop i calls) ≡ []
sites_at_end body line [] calls zero h = refl
sites_at_end body line [] calls (suc i) h = refl
sites_at_end body line (p ∷ ps) [] zero h = refl
sites_at_end body line (p ∷ ps) [] (suc i) h = past (drop i ps)
  where
    past : (qs : List ℕ) → sites_at body line qs [] ≡ []
    past [] = refl
    past (q ∷ qs) = refl
sites_at_end body line (p ∷ ps) (l ∷ ls) zero h = absurd (omega arith)
sites_at_end body line (p ∷ ps) (l ∷ ls) (suc i) h = sites_at_end body line ps ls i (omega arith)

pub calls_below_more : (n line : ℕ) (code : List BodyTables) (bodies : List TextBody)
    → calls_below (n + 1) line code bodies
    ≡ calls_below n line code bodies ++ sites_by n line (code_of code n) (calls_of bodies n)
calls_below_more n line code bodies = ap (λ k. calls_below k line code bodies) (add-one n)

-- ---- where the call at a position stands, by the code and the calls of its body

positions_at : (bodies : List TextBody) (i : ℕ)
    → slice_get (positions_of bodies) i ≡ option_map (λ b. b.calls) (slice_get bodies i)
positions_at [] i = refl
positions_at (b ∷ bs) zero = refl
positions_at (b ∷ bs) (suc i) = positions_at bs i

no_code : (o : Option BodyTables) (p : Option (List CallPosition)) (pc : ℕ) → option_map (λ b. b.instructions) o ≡ None
    → position_by o p pc ≡ None
no_code None p pc e = refl
no_code (Some b) p pc e = absurd cc

no_calls : (o : Option BodyTables) (p : Option (List CallPosition)) (pc : ℕ) → p ≡ None → position_by o p pc ≡ None
no_calls None p pc e = refl
no_calls (Some b) None pc e = refl
no_calls (Some b) (Some calls) pc e = absurd cc

both : (o : Option BodyTables) (is : List Instruction) (calls : List CallPosition) (pc : ℕ)
    → option_map (λ b. b.instructions) o ≡ Some is
    → position_by o (Some calls) pc ≡ slice_get calls (count_by is_call (take pc is))
both None is calls pc e = absurd cc
both (Some b) is calls pc e =
    let same : b.instructions ≡ is = cc in
    ap (λ (xs : List Instruction). slice_get calls (count_by is_call (take pc xs))) same

module _ (code : List BodyTables) (bodies : List TextBody) (body pc : ℕ) where
  pub position_no_code : code_of code body ≡ None → position_of code (positions_of bodies) body pc ≡ None
  position_no_code e = no_code (slice_get code body) (slice_get (positions_of bodies) body) pc e

  pub position_no_calls : calls_of bodies body ≡ None → position_of code (positions_of bodies) body pc ≡ None
  position_no_calls e = no_calls (slice_get code body) _ pc (positions_at bodies body ∙ e)

  pub position_found : (is : List Instruction) (calls : List CallPosition) → code_of code body ≡ Some is
      → calls_of bodies body ≡ Some calls
      → position_of code (positions_of bodies) body pc ≡ slice_get calls (count_by is_call (take pc is))
  position_found is calls e f =
      ap (λ (p : Option (List CallPosition)). position_by (slice_get code body) p pc) (positions_at bodies body ∙ f)
      ∙ both (slice_get code body) is calls pc e

-- the instructions of a body are as few as those that are found
pub sized_by : (o : Option BodyTables) (is : List Instruction) → option_map (λ b. b.instructions) o ≡ Some is
    → length (found_instructions o) ≤ 65535 → length is ≤ 65535
sized_by None is e h = absurd cc
sized_by (Some b) is e h =
    let same : b.instructions ≡ is = cc in
    subst (λ (xs : List Instruction). length xs ≤ 65535) same h

pub rests_text_at : (tasks : List TaskConfig) (rest : List Bool) (i : ℕ) (x : TaskConfig) (b : Bool)
    → i < length tasks → i < length rest
    → rests_text (drop i tasks) (drop i rest)
    ≡ cond (get_or rest i b) (rest_text (get_or tasks i x)) [] ++ rests_text (drop (i + 1) tasks) (drop (i + 1) rest)
rests_text_at [] rest i x b h k = absurd (omega arith)
rests_text_at (t ∷ ts) [] i x b h k = absurd (omega arith)
rests_text_at (t ∷ ts) (r ∷ rs) zero x b h k = refl
rests_text_at (t ∷ ts) (r ∷ rs) (suc i) x b h k =
    rests_text_at ts rs i x b (omega arith) (omega arith)
    ∙ ap
    (λ n. cond (get_or rs i b) (rest_text (get_or ts i x)) [] ++ rests_text (drop n (t ∷ ts)) (drop n (r ∷ rs)))
    (next i)

pub rests_text_end : (tasks : List TaskConfig) (rest : List Bool) (i : ℕ) → min (length tasks) (length rest) ≤ i
    → rests_text (drop i tasks) (drop i rest) ≡ []
rests_text_end [] rest zero h = refl
rests_text_end [] rest (suc i) h = refl
rests_text_end (t ∷ ts) [] zero h = refl
rests_text_end (t ∷ ts) [] (suc i) h = past (drop i ts)
  where
    past : (qs : List TaskConfig) → rests_text qs [] ≡ []
    past [] = refl
    past (q ∷ qs) = refl
rests_text_end (t ∷ ts) (r ∷ rs) zero h = absurd (omega arith)
rests_text_end (t ∷ ts) (r ∷ rs) (suc i) h = rests_text_end ts rs i (omega arith)
