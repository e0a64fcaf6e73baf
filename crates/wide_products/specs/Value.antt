-- The natural number that a Wide stands for. Definitions only. Assumes nothing.
use Rattle.std.specs.Prelude.{ℕ, ◌+◌, ◌*◌, ◌^◌}
use Rattle.wide_products.specs.declared.Wide.{Wide}

-- hi × 2^64 + lo
unfoldable pub value : Wide → ℕ
value x = x.hi * 2 ^ 64 + x.lo
