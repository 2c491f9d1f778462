-- What comes of random runs, as an object of JSON.
use Rattle.std.specs.Prelude.{ℕ, List, ◌++◌, Option, Some, None, codes}
use Rattle.std.specs.Str.Lossy.{utf8_lossy}
use Rattle.json.specs.Token.{Token}
use Rattle.fmp_json.specs.Members.{number_member, object_line, text_member}
use Rattle.fmp_trials.specs.declared.testing.FailedTrial.{FailedTrial}
use Rattle.fmp_looking.specs.declared.reporting.FailedTest.{FailedTest}
use Rattle.fmp_expect.specs.Words.{line_at}

-- the file by which runs are judged, how many are asked for, and how many are made
abbrev pub asked_members : (file : List ℕ) → (seeds runs : ℕ) → List Token
asked_members file seeds runs =
    text_member (codes "file") file ++ (number_member (codes "seeds") seeds ++ number_member (codes "runs") runs)

-- the run that fails, and how many events it had
abbrev pub run_members : FailedTrial → List Token
run_members t =
    text_member (codes "verdict") (codes "fails")
    ++ (number_member (codes "seed") t.seed ++ number_member (codes "drawn") t.drawn)

-- the line that it fails, in which event, and its steps
abbrev pub failed_members : FailedTrial → (expectation steps : List ℕ) → List Token
failed_members t expectation steps =
    number_member (codes "line") t.run.broken.line
    ++ (text_member (codes "expectation") expectation
    ++ (number_member (codes "event") t.run.broken.event ++ text_member (codes "steps") steps))

-- the object of runs of which this one fails: as many are made as its seed says
abbrev pub failed_record : (file : List ℕ) → (seeds : ℕ) → FailedTrial → (expectation steps : List ℕ) → List ℕ
failed_record file seeds t expectation steps =
    object_line (asked_members file seeds t.seed ++ (run_members t ++ failed_members t expectation steps))

-- the object of runs of which none fails
abbrev pub none_record : (file : List ℕ) → (seeds : ℕ) → List ℕ
none_record file seeds =
    object_line (asked_members file seeds seeds ++ text_member (codes "verdict") (codes "none fails"))

-- the object of runs, of which this one fails, if one does, with the line of this text that it fails, and its steps as
-- printed
abbrev pub test_record : (file text : List ℕ) → (seeds : ℕ) → Option FailedTest → List ℕ
test_record file text seeds None = none_record file seeds
test_record file text seeds (Some f) =
    failed_record file seeds f.trial (utf8_lossy (line_at text f.trial.run.broken.line)) (utf8_lossy f.steps.items)
