-- The bodies of an accepted text keep the rules of images.
use Rattle.std.proofs.Common.{◌≡◌, ℕ, suc, max, true, List, [], ◌∷◌, Some, refl, sym, ap, ◌∙◌, subst, arith}
use Rattle.std.specs.Prelude.{slice_get}
use Rattle.std.specs.List.{AllByRecursion}
use Rattle.fmp_base.specs.declared.services.Service.{Service}
use Rattle.fmp_base.specs.declared.services.Service.TheVariants.{MrotRdq}
use Rattle.fmp_base.specs.Systems.{SystemTables}
use Rattle.fmp_tasklang.specs.Trees.{BodyTree}
use Rattle.fmp_instructions.specs.declared.instructions.Instruction.{Instruction}
use Rattle.fmp_instructions.specs.declared.instructions.Instruction.TheVariants.{LoadIndexed, StoreIndexed, Call}
use Rattle.fmp_instructions.specs.Instructions.{BodyTables}
use Rattle.fmp_instructions.specs.Verify.{Verified, VerifiedBody}
use Rattle.fmp_codegen.specs.Compiling.{compiled_body, compiled}
use Rattle.fmp_scopes.specs.Depths.{body_depth}
use Rattle.fmp_scopes.specs.DepthTables.{body_depths}
use Rattle.fmp_codegen.specs.Laws as codegen
use Rattle.fmp_image_bytes.specs.Bodies.{greatest, IsBody}
use Rattle.fmp_image_bytes.specs.Instructions.{HasWord}
use Rattle.fmp_image_bytes.specs.Pairs.{AllPairs}
use Rattle.fmp_image_bytes.specs.Versions.{has, has_service, newest}
use Rattle.fmp_image.specs.Building.{built_head, built_heads}

same_greatest : (ds : List ℕ) → greatest ds ≡ codegen.greatest ds
same_greatest [] = refl
same_greatest (d ∷ ds) = ap (max d) (same_greatest ds)

newest_has_service : (s : Service) → has_service newest s ≡ true
newest_has_service MrotRdq = refl
newest_has_service _ = refl

newest_has : (i : Instruction) → has newest i ≡ true
newest_has (LoadIndexed base places) = refl
newest_has (StoreIndexed base places) = refl
newest_has (Call service out result) = newest_has_service service
newest_has _ = refl

all_known : (code : List Instruction) → AllByRecursion (λ i. has newest i ≡ true) code
all_known [] = tt
all_known (i ∷ code) = (newest_has i, all_known code)

module _ (needed : (body : BodyTree) → codegen.greatest (body_depths body) ≡ body_depth body)
    (tables : SystemTables) where
  one_body : (b : BodyTree) → VerifiedBody (compiled_body tables b)
      → AllByRecursion HasWord (compiled_body tables b).instructions
      → IsBody newest (built_head b) (compiled_body tables b)
  one_body b verified words =
      record {
        verified = verified;
        locals = omega arith;
        depth = sym (same_greatest (body_depths b) ∙ needed b);
        words = words;
        known = all_known (compiled_body tables b).instructions;
      }

  each_body :
      (bodies : List BodyTree) → ((k : ℕ) (b : BodyTables) → slice_get (compiled tables bodies) k ≡ Some b
      → VerifiedBody b) →
      AllByRecursion (λ (b : BodyTables). AllByRecursion HasWord b.instructions) (compiled tables bodies) →
      AllPairs (IsBody newest) (built_heads bodies) (compiled tables bodies)
  each_body [] verified words = tt
  each_body (b ∷ bs) verified words = (
    one_body b (verified 0 (compiled_body tables b) refl) words.0,
    each_body bs
        (λ k x h. verified (suc k) x h) words.1,
  )

  pub are_bodies :
      (bodies : List BodyTree) (code : List BodyTables) → code ≡ compiled tables bodies → Verified code →
      AllByRecursion (λ (b : BodyTables). AllByRecursion HasWord b.instructions) code →
      AllPairs (IsBody newest) (built_heads bodies) code
  are_bodies bodies code is verified words =
      subst (λ (c : List BodyTables). AllPairs (IsBody newest) (built_heads bodies) c) (sym is)
      (each_body bodies (subst Verified is verified).each
      (subst (λ (c : List BodyTables). AllByRecursion (λ (b : BodyTables). AllByRecursion HasWord b.instructions) c)
      is words))
