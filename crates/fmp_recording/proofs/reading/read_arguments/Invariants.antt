use Rattle.std.proofs.Common.{◌≡◌, ◌-◌, length, take}
use Rattle.fmp_recording.specs.Recordings.{arguments_in}
use Rattle.fmp_recording.proofs.LineByLine.{after_numbers}
use Rattle.fmp_recording.proofs.reading.read_arguments.Given as goal

-- the numbers so far, and those that are left, are those of the text
abbrev pub invariant-loop-place : goal.invariant-loop-place
invariant-loop-place l =
    record {
      four : length l.numbers ≡ 4;
      said : after_numbers (take l.place l.numbers) (arguments_in (l.count - l.place) l.rest)
          ≡ arguments_in l.count l.text;
    }
