-- A sheet's trailer, number by number.
use mathlib.Core.Path.{◌≡◌, refl}
use mathlib.Core.List.{List, ◌++◌}
use Prim.Native.Nat.{ℕ, ◌+◌, ◌≤◌}
use native.Mathlib.Omega.{arith}
use lib.ListN.{length}
use Rattle.files.specs.Bytes.{number_bytes}
use Rattle.buffers.specs.Placed.{placed}
use Rattle.buffers.proofs.Placing.{placed_next}
use Rattle.sheet_output.specs.Output.{sheet_trailer}

module _ (out : List ℕ) {o₁ o₂ o₃ o₄ o₅ : List ℕ} (at c k t : ℕ) (letters : List ℕ) (four : length letters ≡ 4) (h : at + 16 ≤ length out) (e₁ : o₁ ≡ placed out at (number_bytes 4 at)) (e₂ : o₂ ≡ placed o₁ (at + 4) (number_bytes 2 c))
    (e₃ : o₃ ≡ placed o₂ (at + 6) (number_bytes 2 k)) (e₄ : o₄ ≡ placed o₃ (at + 8) (number_bytes 4 t)) (e₅ : o₅ ≡ placed o₄ (at + 12) letters) where
  pub sheet_trailer_placed : o₅ ≡ placed out at (sheet_trailer letters at c k t)
  unfolding number_bytes sheet_trailer
  sheet_trailer_placed =
      let p₂ = placed_next out at (number_bytes 4 at) (number_bytes 2 c) (at + 4) e₁ e₂ refl (omega arith) in
      let p₃ = placed_next out at (number_bytes 4 at ++ number_bytes 2 c) (number_bytes 2 k) (at + 6) p₂ e₃ refl (omega arith) in
      let p₄ = placed_next out at ((number_bytes 4 at ++ number_bytes 2 c) ++ number_bytes 2 k) (number_bytes 4 t) (at + 8) p₃ e₄ refl (omega arith) in
      placed_next out at (((number_bytes 4 at ++ number_bytes 2 c) ++ number_bytes 2 k) ++ number_bytes 4 t) letters (at + 12) p₄ e₅ refl (omega arith)
