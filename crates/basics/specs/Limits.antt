-- The limits of 01, "The record" ("F formulas (1 to 4,096), S statements (0 to 256), N steps (1 to 16,384)", "depth is
-- at most 512", "Atoms and principals are numbered 0 to 4,095").
-- They stand here, and in src/limits.rt. Proved in proofs/LimitsAre.antt. Assumes nothing.
use Rattle.std.specs.Prelude.{ℕ, ◌+◌, ◌*◌, ◌≡◌}

abbrev pub most_formulas : ℕ
most_formulas = 4096

abbrev pub most_statements : ℕ
most_statements = 256

abbrev pub most_steps : ℕ
most_steps = 16384

abbrev pub most_depth : ℕ
most_depth = 512

abbrev pub most_atoms : ℕ
most_atoms = 4096

abbrev pub most_principals : ℕ
most_principals = 4096

-- 01's numbers, and what follows from them: a record has "at most 49,672" bytes, an exchange file, with one list more,
-- 50,184. No limit can move alone, nor two against each other.
pub record LimitsAre : Type 0 where
  pub formulas : most_formulas ≡ 4096
  pub statements : most_statements ≡ 256
  pub steps : most_steps ≡ 16384
  pub depth : most_depth ≡ 512
  pub atoms : most_atoms ≡ 4096
  pub principals : most_principals ≡ 4096
  pub record_bytes : 2 * (4 + 2 * most_formulas + most_statements + most_steps) ≡ 49672
  pub exchange_bytes : 2 * (4 + 2 * most_formulas + most_statements + most_statements + most_steps) ≡ 50184
