-- What a text holds, and a text with bytes added. Definitions only. Assumes nothing.
use Rattle.std.specs.Prelude.{◌≡◌, List, ◌++◌, ℕ, ◌+◌, ◌-◌, ◌≤◌, length, take, drop, replicate}
use Rattle.text.specs.Decimal.{decimal}
use Rattle.text.specs.declared.Figures.{Figures}
use Rattle.text.specs.declared.Text.{Text}

-- the bytes of a text
abbrev pub text_limit : ℕ
text_limit = 4096

-- the bytes that a text holds
abbrev pub bytes_of : Text → List ℕ
bytes_of t = take t.len t.bytes

-- a text of these bytes, with 0 in every byte behind them
pub record Holds (l : List ℕ) (t : Text) : Type 0 where
  pub fits : t.len ≤ text_limit
  pub length_is : t.len ≡ length l
  pub bytes_are : bytes_of t ≡ l
  pub rest : drop t.len t.bytes ≡ replicate (text_limit - t.len) 0

-- the text u is t followed by these bytes, with every byte behind them as it was
pub record Adds (t : Text) (l : List ℕ) (u : Text) : Type 0 where
  pub fits : u.len ≤ text_limit
  pub length_is : u.len ≡ t.len + length l
  pub bytes_are : bytes_of u ≡ bytes_of t ++ l
  pub rest : drop u.len u.bytes ≡ drop u.len t.bytes

-- the figures of n stand at the end of a buffer
pub record FiguresOf (n : ℕ) (x : Figures) : Type 0 where
  pub starts : x.at ≤ 20
  pub long : length x.bytes ≡ 20
  pub figures_are : drop x.at x.bytes ≡ decimal n
