-- What is left by events of which the last one is done.
use Rattle.std.proofs.Common.{◌≡◌, ◌==◌, ℕ, true, List, [], ◌∷◌, ◌++◌, refl, sym, ap, ◌∙◌, inl, inr, length, subst}
use Rattle.std.proofs.Common.{arith}
use Rattle.std.proofs.lemmas.Bool.Decides.{nat_tests}
use Rattle.fmp_base.specs.declared.events.Event.{Event}
use Rattle.fmp_base.specs.Meanings.{World}
use Rattle.fmp_base.specs.Steps.{Done, Reaction, Did, step}
use Rattle.fmp_witness.specs.Findings.{EndsWith, HasDoneLast}
use Rattle.fmp_witness.specs.Followed.{HasDone, IsFollowed}
use Rattle.fmp_image_bytes.specs.Images.{ImageTables}
use Rattle.fmp_instructions.specs.Instructions.{BodyTables}
use Rattle.fmp_instructions.specs.Machine.{code_meaning}
use Rattle.fmp_instructions.specs.declared.instructions.MachineContext.{MachineContext}
use Rattle.fmp_kernel.specs.KernelViews.{KernelView, done_or}
use Rattle.fmp_replay.specs.Replays.{kernel_after, reaction, replay}
use Rattle.fmp_replay.proofs.Replaying.{replay_last, world_of}
use Rattle.fmp_witness.proofs.Following.{followed_none}

abbrev Kernels : Type 0
Kernels = KernelView (List BodyTables) MachineContext

none_of : (es : List Event) → true ≡ (length es == 0) → es ≡ []
none_of [] h = refl
none_of (e ∷ es) h = absurd (grind (arith, nat_tests))

module _ (i : ImageTables) (n : ℕ) where
  -- there is no event
  pub done_none : (es : List Event) (k : Kernels) → true ≡ (length es == 0) → k ≡ kernel_after i n []
      → HasDoneLast i n es k
  done_none es k none h =
      record {
        followed = subst (λ (fs : List Event). IsFollowed i n fs k) (sym (none_of es none)) (followed_none i n k h);
        of_last = inl (none_of es none);
      }

  left_last : (before : List Event) (last : Event) (k : Kernels) (h : HasDone i n before last k)
      → replay i n (before ++ last ∷ []) ≡ h.done
  left_last before last k h =
      replay_last i n before last
      ∙ ap (λ (r : Reaction MachineContext). done_or (replay i n before) r) h.did

  ends_with : (es before : List Event) (last : Event) (k : Kernels) → es ≡ before ++ last ∷ []
      → HasDone i n before last k → EndsWith i.system (code_meaning i.code) n es (replay i n es)
  unfolding reaction
  ends_with es before last k parts h =
      record {
        before = before;
        last = last;
        parts = parts;
        did =
            ap (λ (w : World MachineContext). step i.system (code_meaning i.code) n w last) (sym (world_of i n before))
            ∙ h.did
            ∙ ap (λ (d : Done MachineContext). Did d)
            (sym (ap (λ (fs : List Event). replay i n fs) parts ∙ left_last before last k h));
      }

  -- the last one is done
  pub done_last : (es before : List Event) (last : Event) (k : Kernels) → es ≡ before ++ last ∷ []
      → HasDone i n before last k → HasDoneLast i n es k
  done_last es before last k parts h =
      record {
        followed = subst (λ (fs : List Event). IsFollowed i n fs k) (sym parts) h.followed;
        of_last = inr (ends_with es before last k parts h);
      }
