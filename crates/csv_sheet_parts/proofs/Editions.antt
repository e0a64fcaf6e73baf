-- A sheet of either edition put together: target, factors, trailer; and the CSV in front of it.
use mathlib.Core.Path.{◌≡◌, refl, ap, ◌∙◌}
use mathlib.Core.Bool.{true, false}
use mathlib.Core.List.{List, ◌++◌}
use Prim.Native.Nat.{ℕ, ◌+◌, ◌*◌, ◌≤◌}
use native.Mathlib.Omega.{arith}
use borrow.Author.Tests.{eq-eqb, ne_eqb}
use lib.ListN.{length, take, length-append}
use Rattle.files.specs.Limits.{file_limit}
use Rattle.files.specs.Sheet.{WSH1, WSH2}
use Rattle.buffers.specs.Placed.{placed}
use Rattle.buffers.proofs.Placing.{placed_next, placed_length}
use Rattle.sheet_output.specs.Output.{values_bytes, sheet_trailer, sheet_bytes, factored_body, factored_bytes, edition_bytes}
use Rattle.sheet_output.proofs.Values.{length_values_bytes}
use Rattle.sheet_output.proofs.Back.{sheet_trailer_length}
use Rattle.buffers.proofs.Writing.{front_taken}
use Rattle.csv_sheet_parts.specs.Parts.{row_for, target_of, has_factors, factors_of, steps_of, tolerance_of, sheet_of, asked_at, sheet_at}
use Rattle.csv_sheet_parts.specs.Ready.{Ready}
use Rattle.csv_sheet_parts.proofs.Bounds.{target_long}

module _ (ps csv factors : List ℕ) (steps tolerance : ℕ) where
  abbrev bytes : List ℕ
  bytes = edition_bytes (has_factors csv) (sheet_of ps csv factors steps tolerance)

  pub values_long : length (values_bytes (target_of ps csv)) ≡ 2 * length ps
  values_long = length_values_bytes (target_of ps csv) ∙ ap (λ (n : ℕ). 2 * n) (target_long ps csv)

  module _ {row : ℕ} (er : row ≡ row_for 2 csv) where
    without : row ≡ 0 → has_factors csv ≡ false
    unfolding has_factors
    without z = rw (← er, eq-eqb row 0 z)

    with_some : (row ≡ 0 → ⊥) → has_factors csv ≡ true
    unfolding has_factors
    with_some z = rw (← er, ne_eqb row 0 z)

    plain_is : row ≡ 0 → bytes ≡ values_bytes (target_of ps csv) ++ sheet_trailer WSH1 (2 * length ps) (length ps) steps tolerance
    unfolding edition_bytes sheet_bytes
    plain_is z = rw (without z, values_long, target_long)

    module _ (ef : length factors ≡ length ps) where
      body_long : length (values_bytes (target_of ps csv) ++ factors) ≡ 3 * length ps
      body_long = omega (arith, length-append (values_bytes (target_of ps csv)) factors, values_long)

      factored_is : (row ≡ 0 → ⊥) → bytes ≡ (values_bytes (target_of ps csv) ++ factors) ++ sheet_trailer WSH2 (3 * length ps) (length ps) steps tolerance
      unfolding edition_bytes factored_bytes factored_body
      factored_is z = rw (with_some z, body_long, target_long)

    -- put into a buffer after the target
    module _ (few : length ps ≤ 64) (out : List ℕ) (l : 208 ≤ length out) {o₁ : List ℕ} (e₁ : o₁ ≡ placed out 0 (values_bytes (target_of ps csv))) where
      pub plain_put : row ≡ 0 → {o₂ : List ℕ} → o₂ ≡ placed o₁ (2 * length ps) (sheet_trailer WSH1 (2 * length ps) (length ps) steps tolerance) →
          (2 * length ps + 16 ≡ length bytes) × ((2 * length ps + 16 ≤ 208) × (o₂ ≡ placed out 0 bytes))
      plain_put z e₂ =
          let t = sheet_trailer WSH1 (2 * length ps) (length ps) steps tolerance in (
            omega (arith, ap length (plain_is z), length-append (values_bytes (target_of ps csv)) t, values_long, sheet_trailer_length WSH1 (2 * length ps) (length ps) steps tolerance refl),
            (omega arith, rw (plain_is z) (placed_next out 0 (values_bytes (target_of ps csv)) t (2 * length ps) e₁ e₂ (omega (arith, values_long)) (omega (arith, values_long)))),
          )

      pub factored_put : length factors ≡ length ps → (row ≡ 0 → ⊥) → {o₂ : List ℕ} → o₂ ≡ placed o₁ (2 * length ps) factors →
          {o₃ : List ℕ} → o₃ ≡ placed o₂ (3 * length ps) (sheet_trailer WSH2 (3 * length ps) (length ps) steps tolerance) →
          (3 * length ps + 16 ≡ length bytes) × ((3 * length ps + 16 ≤ 208) × (o₃ ≡ placed out 0 bytes))
      factored_put ef z e₂ e₃ =
          let v = values_bytes (target_of ps csv) in
          let t = sheet_trailer WSH2 (3 * length ps) (length ps) steps tolerance in
          let p = placed_next out 0 v factors (2 * length ps) e₁ e₂ (omega (arith, values_long)) (omega (arith, values_long)) in (
            omega (arith, ap length (factored_is ef z), length-append (v ++ factors) t, body_long ef, sheet_trailer_length WSH2 (3 * length ps) (length ps) steps tolerance refl),
            (omega arith, rw (factored_is ef z) (placed_next out 0 (v ++ factors) t (3 * length ps) p e₃ (omega (arith, body_long ef)) (omega (arith, body_long ef)))),
          )

-- ---- behind its CSV
module _ {ps csv : List ℕ} (d : Ready ps csv) {factors : List ℕ} (ef : factors ≡ factors_of ps csv) {steps : ℕ} (es : steps ≡ steps_of csv) {tolerance : ℕ} (et : tolerance ≡ tolerance_of ps csv)
    (out empty : List ℕ) (l : file_limit ≤ length out) (k : length empty ≡ 208) where
  same_sheet : edition_bytes (has_factors csv) (sheet_of ps csv factors steps tolerance) ≡ edition_bytes (has_factors csv) (asked_at ps csv)
  unfolding asked_at
  same_sheet = rw (ef, es, et)

  module _ {size : ℕ} {sheet : List ℕ} (e : size ≡ length (edition_bytes (has_factors csv) (sheet_of ps csv factors steps tolerance))) (few : size ≤ 208)
      (p : sheet ≡ placed empty 0 (edition_bytes (has_factors csv) (sheet_of ps csv factors steps tolerance))) where
    taken : take size sheet ≡ edition_bytes (has_factors csv) (asked_at ps csv)
    taken = front_taken empty (edition_bytes (has_factors csv) (sheet_of ps csv factors steps tolerance)) p e (omega arith) ∙ same_sheet

    size_is : size ≡ length (edition_bytes (has_factors csv) (asked_at ps csv))
    size_is = e ∙ ap length same_sheet

    module _ {o₁ : List ℕ} (e₁ : o₁ ≡ placed out 0 csv) where
      pub sheet_room : length csv + length (take size sheet) ≤ length o₁
      sheet_room = omega (arith, d.short, ap length taken, size_is, ap length e₁, placed_length out 0 csv (omega (arith, d.short)))

      pub file_put : {o₂ : List ℕ} → o₂ ≡ placed o₁ (length csv) (take size sheet) → (length csv + size ≡ length (sheet_at ps csv)) × (o₂ ≡ placed out 0 (sheet_at ps csv))
      unfolding sheet_at
      file_put e₂ =
          let b = edition_bytes (has_factors csv) (asked_at ps csv) in
          (omega (arith, length-append csv b, size_is), placed_next out 0 csv b (length csv) e₁ (rw taken at e₂) (omega arith) (omega (arith, d.short)))
