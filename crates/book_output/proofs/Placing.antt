-- A fleet book's trailer, number by number.
use mathlib.Core.Path.{◌≡◌, refl}
use mathlib.Core.List.{List, ◌++◌}
use Prim.Native.Nat.{ℕ, ◌+◌, ◌≤◌}
use native.Mathlib.Omega.{arith}
use lib.ListN.{length}
use Rattle.files.specs.Bytes.{number_bytes}
use Rattle.files.specs.Book.{WBK1}
use Rattle.buffers.specs.Placed.{placed}
use Rattle.buffers.proofs.Placing.{placed_next}
use Rattle.book_output.specs.Output.{book_trailer}

module _ (out : List ℕ) {o₁ o₂ o₃ o₄ : List ℕ} (at n c : ℕ) (h : at + 12 ≤ length out) (e₁ : o₁ ≡ placed out at (number_bytes 4 at)) (e₂ : o₂ ≡ placed o₁ (at + 4) (number_bytes 2 n))
    (e₃ : o₃ ≡ placed o₂ (at + 6) (number_bytes 2 c)) (e₄ : o₄ ≡ placed o₃ (at + 8) WBK1) where
  pub book_trailer_placed : o₄ ≡ placed out at (book_trailer at n c)
  unfolding number_bytes book_trailer
  book_trailer_placed =
      let p₂ = placed_next out at (number_bytes 4 at) (number_bytes 2 n) (at + 4) e₁ e₂ refl (omega arith) in
      let p₃ = placed_next out at (number_bytes 4 at ++ number_bytes 2 n) (number_bytes 2 c) (at + 6) p₂ e₃ refl (omega arith) in
      placed_next out at ((number_bytes 4 at ++ number_bytes 2 n) ++ number_bytes 2 c) WBK1 (at + 8) p₃ e₄ refl (omega arith)
