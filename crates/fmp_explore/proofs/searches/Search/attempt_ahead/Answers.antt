use Rattle.fmp_explore.proofs.KernelLemmas.{stepped, stepped_does, stepped_over, stepped_sound}
use Rattle.fmp_explore.proofs.searches.Search.attempt_ahead.Goals as goal
use Rattle.fmp_witness.specs.Asked.{asked_of}

pub note_effect-requires-clause-sound : goal.note_effect-requires-clause-sound
note_effect-requires-clause-sound c =
    let asked = asked_of c.args.attempt.here.subject.now in
    let a = c.args.attempt in
    let k = c.step-effect.new.self in
    let x = c.step-effect.result in
    let done = stepped asked c.args.kernel.now k a.event x c.requires.ready c.step-effect.ensures.effect
    c.step-effect.ensures.state in
    record {
      over = stepped_over asked c.keeps_rules.ensures c.args.kernel.now a.event k x done;
      sound = stepped_sound asked c.keeps_rules.ensures c.args.kernel.now a.event k x done;
    }

pub returns-clause-dealt : goal.returns-clause-dealt
returns-clause-dealt c =
    let asked = asked_of c.args.attempt.here.subject.now in
    let a = c.args.attempt in
    c.in_ok-note_effect.ensures c.args.kernel.now
    (stepped asked c.args.kernel.now c.step-effect.new.self a.event c.step-effect.result
    c.requires.ready c.step-effect.ensures.effect c.step-effect.ensures.state)

pub returns-clause-does : goal.returns-clause-does
returns-clause-does c = λ yes.
    let asked = asked_of c.args.attempt.here.subject.now in
    let a = c.args.attempt in
    stepped_does asked c.keeps_rules.ensures c.args.kernel.now a.event c.step-effect.new.self
    c.step-effect.result
    (stepped asked c.args.kernel.now c.step-effect.new.self a.event c.step-effect.result
    c.requires.ready c.step-effect.ensures.effect c.step-effect.ensures.state)
    (c.has_done.ensures.something yes)
