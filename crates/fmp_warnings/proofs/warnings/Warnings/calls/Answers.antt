use Rattle.std.proofs.Common.{◌≡◌, ◌∙◌, Some, None, sym}
use Rattle.fmp_diagnosis.specs.Tokens.{kind_at}
use Rattle.fmp_warnings.proofs.Marks.{noted_body, noted_structure, passed_body, passed_structure}
use Rattle.fmp_warnings.proofs.warnings.Warnings.calls.Goals as goal
use Rattle.fmp_warnings.proofs.warnings.Warnings.calls.Goals.{in-Some+in_ok-note+in_ok-look_at_token, in_default}

pub loop-at-preserved : goal.loop-at-preserved
loop-at-preserved c =
    let ts = c.args.tokens.now in
    let n = c.loop-at.at in
    let old = c.loop-at.landmarks in
    elim c.match-kind.branch [
      | in-Some+in_ok-note+in_ok-look_at_token w ↦
          let k = w.in-Some.kind in
          let new = w.note.new.self in
          let is : kind_at ts n ≡ Some k = cc in
          let body = noted_body ts n k old.body new.body is c.loop-at.invariant.body w.in_ok-note.ensures.body in
          rw w.landmarks-is
          (record {
            structure =
                noted_structure ts n k new.body old.structure.items new.structure.items is c.loop-at.invariant.structure
                body w.in_ok-note.ensures.structure;
            body = body;
          })
      | in_default w ↦
          let is : kind_at ts n ≡ None = cc in
          rw w.landmarks-is
          (record {
            structure = c.loop-at.invariant.structure ∙ sym (passed_structure ts n is);
            body = c.loop-at.invariant.body ∙ sym (passed_body ts n is);
          })
    ]
