-- The files that a test reads and writes, by their names.
use Rattle.std.specs.Prelude.{ℕ, ◌≢◌, List, Option, IfSome}
use denote.Ref.{Bor}
use Rattle.fmp_looking.specs.declared.wanted.ImageTest.{ImageTest}

-- two files, if both are named, have two names
abbrev pub AreTwo : Option (Bor (List ℕ)) → Option (Bor (List ℕ)) → Type 0
AreTwo one other = IfSome one (λ a. IfSome other (λ b. a.now ≢ b.now))

-- a file that a test reads has another name
pub record IsNotRead (t : ImageTest) (name : List ℕ) : Type 0 where
  pub expect : name ≢ t.expect.now
  pub cfg : name ≢ t.testing.cfg.now
  pub src : name ≢ t.testing.src.now

-- the files that a test writes are none of those that it reads, and no two of them are one
pub record AreApart (t : ImageTest) : Type 0 where
  pub coverage : AreTwo t.testing.files.lcov t.testing.files.coverage
  pub report_lcov : AreTwo t.testing.junit t.testing.files.lcov
  pub report_coverage : AreTwo t.testing.junit t.testing.files.coverage
  pub report_read : IfSome t.testing.junit (λ out. IsNotRead t out.now)
  pub lcov_read : IfSome t.testing.files.lcov (λ out. IsNotRead t out.now)
  pub coverage_read : IfSome t.testing.files.coverage (λ out. IsNotRead t out.now)
