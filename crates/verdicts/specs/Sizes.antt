-- What the machine's numbers must keep to for a verdict to be judged. Definitions only. Assumes nothing.
use Rattle.std.specs.Prelude.{ℕ, ◌*◌, ◌<◌}
use Rattle.files.specs.Limits.{sum_limit}

-- tolerance × w², E and G are below 2^62
pub record Judgeable (tolerance w e g : ℕ) : Type 0 where
  pub limit : tolerance * (w * w) < sum_limit
  pub distance : e < sum_limit
  pub gap : g < sum_limit
