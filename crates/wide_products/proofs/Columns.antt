-- The product of two numbers of two digits each in any base P, column by column with carries. Assumes nothing.
use mathlib.Core.Path.{◌≡◌, refl, sym, ap, ◌∙◌}
use Prim.Native.Nat.{ℕ, ◌+◌, ◌*◌, ◌/◌, ◌%◌}
use native.Mathlib.Nat.{add_assoc, add_comm, add_left_comm, mul_assoc, mul_comm, mul_left_comm, mul-add, add-mul, div-add-mod'}

-- four regroupings of sums and products, one after each column

multiplied : (P a₀ a₁ b₀ b₁ : ℕ) → (a₁ * P + a₀) * (b₁ * P + b₀) ≡ a₁ * b₁ * (P * P) + a₁ * b₀ * P + a₀ * b₁ * P + a₀ * b₀
multiplied P a₀ a₁ b₀ b₁ = simp (mul-add, add-mul, mul_assoc, mul_comm, mul_left_comm, add_assoc, add_comm, add_left_comm) refl

low_column : (P a₀ a₁ b₀ b₁ q r : ℕ)
    → a₁ * b₁ * (P * P) + a₁ * b₀ * P + a₀ * b₁ * P + (q * P + r) ≡ a₁ * b₁ * (P * P) + (a₁ * b₀ + q) * P + a₀ * b₁ * P + r
low_column P a₀ a₁ b₀ b₁ q r = simp (add-mul, mul_assoc, mul_comm, mul_left_comm, add_assoc, add_comm, add_left_comm) refl

middle_column : (P a₀ a₁ b₁ r₀ q r : ℕ)
    → a₁ * b₁ * (P * P) + (q * P + r) * P + a₀ * b₁ * P + r₀ ≡ a₁ * b₁ * (P * P) + q * (P * P) + (r + a₀ * b₁) * P + r₀
middle_column P a₀ a₁ b₁ r₀ q r = simp (add-mul, mul_assoc, mul_comm, mul_left_comm, add_assoc, add_comm, add_left_comm) refl

next_column : (P a₁ b₁ r₀ q₀ q r : ℕ)
    → a₁ * b₁ * (P * P) + q₀ * (P * P) + (q * P + r) * P + r₀ ≡ (a₁ * b₁ + q₀ + q) * (P * P) + (r * P + r₀)
next_column P a₁ b₁ r₀ q₀ q r = simp (add-mul, mul_assoc, mul_comm, mul_left_comm, add_assoc, add_comm, add_left_comm) refl

-- the product by its columns, given each column's carry and digit
columns : (P a₀ a₁ b₀ b₁ q₀ r₀ q₁ r₁ q₂ r₂ : ℕ)
    → a₀ * b₀ ≡ q₀ * P + r₀
    → a₁ * b₀ + q₀ ≡ q₁ * P + r₁
    → r₁ + a₀ * b₁ ≡ q₂ * P + r₂
    → (a₁ * P + a₀) * (b₁ * P + b₀) ≡ (a₁ * b₁ + q₁ + q₂) * (P * P) + (r₂ * P + r₀)
columns P a₀ a₁ b₀ b₁ q₀ r₀ q₁ r₁ q₂ r₂ e₀ e₁ e₂ =
    multiplied P a₀ a₁ b₀ b₁ ∙ ap (λ (x : ℕ). a₁ * b₁ * (P * P) + a₁ * b₀ * P + a₀ * b₁ * P + x) e₀
    ∙ low_column P a₀ a₁ b₀ b₁ q₀ r₀ ∙ ap (λ (x : ℕ). a₁ * b₁ * (P * P) + x * P + a₀ * b₁ * P + r₀) e₁
    ∙ middle_column P a₀ a₁ b₁ r₀ q₁ r₁ ∙ ap (λ (x : ℕ). a₁ * b₁ * (P * P) + q₁ * (P * P) + x * P + r₀) e₂
    ∙ next_column P a₁ b₁ r₀ q₁ q₂ r₂

-- the sums of the middle column and of the next one
abbrev pub middle : (P a₀ a₁ b₀ : ℕ) → ℕ
middle P a₀ a₁ b₀ = a₁ * b₀ + a₀ * b₀ / P

abbrev pub next : (P a₀ a₁ b₀ b₁ : ℕ) → ℕ
next P a₀ a₁ b₀ b₁ = middle P a₀ a₁ b₀ % P + a₀ * b₁

pub by_columns : (P a₀ a₁ b₀ b₁ : ℕ)
    → (a₁ * b₁ + middle P a₀ a₁ b₀ / P + next P a₀ a₁ b₀ b₁ / P) * (P * P) + (next P a₀ a₁ b₀ b₁ % P * P + a₀ * b₀ % P)
    ≡ (a₁ * P + a₀) * (b₁ * P + b₀)
by_columns P a₀ a₁ b₀ b₁ =
    sym (columns P a₀ a₁ b₀ b₁ (a₀ * b₀ / P) (a₀ * b₀ % P) (middle P a₀ a₁ b₀ / P) (middle P a₀ a₁ b₀ % P) (next P a₀ a₁ b₀ b₁ / P)
    (next P a₀ a₁ b₀ b₁ % P) (sym (div-add-mod' (a₀ * b₀) P)) (sym (div-add-mod' (middle P a₀ a₁ b₀) P))
    (sym (div-add-mod' (next P a₀ a₁ b₀ b₁) P)))
