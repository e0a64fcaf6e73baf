-- A solver for equations in the ring of integers: both sides are expressions, and antt multiplies them out.
-- `solve ρ a b tt`, where ρ lists the values of x₀, x₁, ..; Examples.antt shows its use. Assumes nothing.
use mathlib.Core.Path.{◌≡◌, refl, sym, ap, ap₂, ◌∙◌}
use mathlib.Core.Bool.{Bool, true, false, ◌&&◌, cond}
use mathlib.Core.List.{List, [], ◌∷◌}
use Prim.Native.Nat.{ℕ, zero, suc}
use lib.Dec.{T, ltb, eqb, eqb→eq}
use lib.IntN.{ℤ, pos, negsuc, neg_ℤ, ◌+ℤ◌, ◌*ℤ◌, +ℤ_assoc, +ℤ_idl, +ℤ_idr, *ℤ_comm, zero-*ℤ, *ℤ-zero, *ℤ-one, neg_ℤ-+ℤ, -ℤ-+ℤ_cancel}
use Rattle.integers.proofs.Ring.{*ℤ-distrib-r, *ℤ-distrib-l, *ℤ-assoc, neg-*ℤ, +ℤ-left-comm, *ℤ-left-comm}

-- an expression in numbered variables
pub data Expr : Type 0 where
  var : ℕ → Expr
  con : ℤ → Expr
  ◌⊕◌ : Expr → Expr → Expr
  ◌⊗◌ : Expr → Expr → Expr
  ⊖◌ : Expr → Expr

infixl 6 ◌⊕◌
infixl 7 ◌⊗◌
infix 8 ⊖◌
infixl 6 ◌⊝◌
abbrev pub ◌⊝◌ : Expr → Expr → Expr
a ⊝ b = a ⊕ (⊖ b)

-- the variables by name
abbrev pub x₀ : Expr
x₀ = var 0

abbrev pub x₁ : Expr
x₁ = var 1

abbrev pub x₂ : Expr
x₂ = var 2

abbrev pub x₃ : Expr
x₃ = var 3

abbrev pub x₄ : Expr
x₄ = var 4

abbrev pub x₅ : Expr
x₅ = var 5

abbrev pub x₆ : Expr
x₆ = var 6

abbrev pub x₇ : Expr
x₇ = var 7

abbrev pub x₈ : Expr
x₈ = var 8

abbrev pub x₉ : Expr
x₉ = var 9

abbrev pub x₁₀ : Expr
x₁₀ = var 10

abbrev pub x₁₁ : Expr
x₁₁ = var 11

abbrev pub x₁₂ : Expr
x₁₂ = var 12

abbrev pub x₁₃ : Expr
x₁₃ = var 13

-- a variable's value; one that ρ does not list is 0
abbrev pub lookup : List ℤ → ℕ → ℤ
lookup [] n = pos zero
lookup (x ∷ xs) zero = x
lookup (x ∷ xs) (suc n) = lookup xs n

abbrev pub eval : List ℤ → Expr → ℤ
eval ρ (var n) = lookup ρ n
eval ρ (con k) = k
eval ρ (a ⊕ b) = eval ρ a +ℤ eval ρ b
eval ρ (a ⊗ b) = eval ρ a *ℤ eval ρ b
eval ρ (⊖ a) = neg_ℤ (eval ρ a)

-- a monomial: its coefficient and its variables, sorted
pub record Monomial : Type 0 where
  pub coefficient : ℤ
  pub variables : List ℕ

-- what lists of variables and of monomials stand for: the product, and the sum
unfoldable pub eval_variables : List ℤ → List ℕ → ℤ
eval_variables ρ [] = pos 1
eval_variables ρ (n ∷ ns) = lookup ρ n *ℤ eval_variables ρ ns

unfoldable pub eval_polynomial : List ℤ → List Monomial → ℤ
eval_polynomial ρ [] = pos zero
eval_polynomial ρ (m ∷ ms) = m.coefficient *ℤ eval_variables ρ m.variables +ℤ eval_polynomial ρ ms

-- two sorted lists of variables: equal, and in the order in which monomials are kept
abbrev pub same_variables : List ℕ → List ℕ → Bool
same_variables [] [] = true
same_variables [] (y ∷ ys) = false
same_variables (x ∷ xs) [] = false
same_variables (x ∷ xs) (y ∷ ys) = eqb x y && same_variables xs ys

abbrev pub before : List ℕ → List ℕ → Bool
before [] [] = false
before [] (y ∷ ys) = true
before (x ∷ xs) [] = false
before (x ∷ xs) (y ∷ ys) = cond (ltb x y) true (eqb x y && before xs ys)

abbrev pub insert_variable : ℕ → List ℕ → List ℕ
insert_variable n [] = n ∷ []
insert_variable n (m ∷ ms) = let r = m ∷ insert_variable n ms in cond (ltb m n) r (n ∷ m ∷ ms)

abbrev pub merge_variables : List ℕ → List ℕ → List ℕ
merge_variables [] ms = ms
merge_variables (n ∷ ns) ms = insert_variable n (merge_variables ns ms)

-- a sum of monomials with one more: added to the monomial of the same variables, or put in order
abbrev pub insert : Monomial → List Monomial → List Monomial
insert m [] = m ∷ []
insert m (k ∷ ks) =
    let r = k ∷ insert m ks in
    cond (same_variables m.variables k.variables) (record { coefficient = m.coefficient +ℤ k.coefficient; variables = k.variables } ∷ ks)
    (cond (before m.variables k.variables) (m ∷ k ∷ ks) r)

abbrev pub sum : List Monomial → List Monomial → List Monomial
sum [] q = q
sum (m ∷ p) q = insert m (sum p q)

abbrev pub times_monomial : Monomial → List Monomial → List Monomial
times_monomial m [] = []
times_monomial m (k ∷ ks) = insert (record { coefficient = m.coefficient *ℤ k.coefficient; variables = merge_variables m.variables k.variables }) (times_monomial m ks)

abbrev pub product : List Monomial → List Monomial → List Monomial
product [] q = []
product (m ∷ p) q = sum (times_monomial m q) (product p q)

abbrev pub negation : List Monomial → List Monomial
negation [] = []
negation (m ∷ p) = record { coefficient = neg_ℤ m.coefficient; variables = m.variables } ∷ negation p

abbrev pub normal_form : Expr → List Monomial
normal_form (var n) = record { coefficient = pos 1; variables = n ∷ [] } ∷ []
normal_form (con k) = record { coefficient = k; variables = [] } ∷ []
normal_form (a ⊕ b) = sum (normal_form a) (normal_form b)
normal_form (a ⊗ b) = product (normal_form a) (normal_form b)
normal_form (⊖ a) = negation (normal_form a)

abbrev pub is_zero : ℤ → Bool
is_zero (pos n) = eqb n 0
is_zero (negsuc n) = false

abbrev pub all_zero : List Monomial → Bool
all_zero [] = true
all_zero (m ∷ p) = is_zero m.coefficient && all_zero p

-- ---- Soundness: each operation stands for what its name says

either_way : {A : Type 0} (b : Bool) (f : A → ℤ) (x y : A) (z : ℤ) → (T b → f x ≡ z) → f y ≡ z → f (cond b x y) ≡ z
either_way true f x y z p q = p tt
either_way false f x y z p q = q

and_l : (a b : Bool) → T (a && b) → T a
and_l true b t = tt
and_l false b t = t

and_r : (a b : Bool) → T (a && b) → T b
and_r true b t = t
and_r false b t = absurd t

one_times : (a : ℤ) → pos 1 *ℤ a ≡ a
unfolding lib.IntN.one
one_times a = *ℤ_comm (pos 1) a ∙ *ℤ-one a

times_one : (a : ℤ) → a *ℤ pos 1 ≡ a
unfolding lib.IntN.one
times_one a = *ℤ-one a

same_sound : (ρ : List ℤ) (xs ys : List ℕ) → T (same_variables xs ys) → eval_variables ρ xs ≡ eval_variables ρ ys
unfolding eval_variables
same_sound ρ [] [] t = refl
same_sound ρ [] (y ∷ ys) t = absurd t
same_sound ρ (x ∷ xs) [] t = absurd t
same_sound ρ (x ∷ xs) (y ∷ ys) t =
    ap₂ (λ a b. a *ℤ b) (ap (lookup ρ) (eqb→eq x y (and_l (eqb x y) (same_variables xs ys) t))) (same_sound ρ xs ys (and_r (eqb x y) (same_variables xs ys) t))

insert_variable_sound : (ρ : List ℤ) (n : ℕ) (ms : List ℕ) → eval_variables ρ (insert_variable n ms) ≡ lookup ρ n *ℤ eval_variables ρ ms
unfolding eval_variables
insert_variable_sound ρ n [] = refl
insert_variable_sound ρ n (m ∷ ms) =
    either_way (ltb m n) (eval_variables ρ) (m ∷ insert_variable n ms) (n ∷ m ∷ ms) (lookup ρ n *ℤ (lookup ρ m *ℤ eval_variables ρ ms))
    (λ t. ap (λ x. lookup ρ m *ℤ x) (insert_variable_sound ρ n ms) ∙ *ℤ-left-comm (lookup ρ m) (lookup ρ n) (eval_variables ρ ms))
    refl

merge_sound : (ρ : List ℤ) (ns ms : List ℕ) → eval_variables ρ (merge_variables ns ms) ≡ eval_variables ρ ns *ℤ eval_variables ρ ms
unfolding eval_variables
merge_sound ρ [] ms = sym (one_times (eval_variables ρ ms))
merge_sound ρ (n ∷ ns) ms =
    insert_variable_sound ρ n (merge_variables ns ms) ∙ ap (λ x. lookup ρ n *ℤ x) (merge_sound ρ ns ms) ∙ sym (*ℤ-assoc (lookup ρ n) (eval_variables ρ ns) (eval_variables ρ ms))

insert_sound : (ρ : List ℤ) (m : Monomial) (p : List Monomial) → eval_polynomial ρ (insert m p) ≡ m.coefficient *ℤ eval_variables ρ m.variables +ℤ eval_polynomial ρ p
unfolding eval_polynomial
insert_sound ρ m [] = refl
insert_sound ρ m (k ∷ ks) =
    either_way (same_variables m.variables k.variables) (eval_polynomial ρ) _ _ _
    (λ t. ap (λ x. x +ℤ eval_polynomial ρ ks) (*ℤ-distrib-r m.coefficient k.coefficient (eval_variables ρ k.variables))
    ∙ ap (λ x. m.coefficient *ℤ x +ℤ k.coefficient *ℤ eval_variables ρ k.variables +ℤ eval_polynomial ρ ks) (sym (same_sound ρ m.variables k.variables t))
    ∙ +ℤ_assoc (m.coefficient *ℤ eval_variables ρ m.variables) (k.coefficient *ℤ eval_variables ρ k.variables) (eval_polynomial ρ ks))
    (either_way (before m.variables k.variables) (eval_polynomial ρ) _ _ _ (λ t. refl)
    (ap (λ x. k.coefficient *ℤ eval_variables ρ k.variables +ℤ x) (insert_sound ρ m ks)
    ∙ +ℤ-left-comm (k.coefficient *ℤ eval_variables ρ k.variables) (m.coefficient *ℤ eval_variables ρ m.variables) (eval_polynomial ρ ks)))

sum_sound : (ρ : List ℤ) (p q : List Monomial) → eval_polynomial ρ (sum p q) ≡ eval_polynomial ρ p +ℤ eval_polynomial ρ q
unfolding eval_polynomial
sum_sound ρ [] q = sym (+ℤ_idl (eval_polynomial ρ q))
sum_sound ρ (m ∷ p) q =
    insert_sound ρ m (sum p q) ∙ ap (λ x. m.coefficient *ℤ eval_variables ρ m.variables +ℤ x) (sum_sound ρ p q)
    ∙ sym (+ℤ_assoc (m.coefficient *ℤ eval_variables ρ m.variables) (eval_polynomial ρ p) (eval_polynomial ρ q))

-- (a b) (c d) = (a c) (b d)
product_swap : (a b c d : ℤ) → (a *ℤ b) *ℤ (c *ℤ d) ≡ (a *ℤ c) *ℤ (b *ℤ d)
product_swap a b c d = *ℤ-assoc a b (c *ℤ d) ∙ ap (λ x. a *ℤ x) (*ℤ-left-comm b c d) ∙ sym (*ℤ-assoc a c (b *ℤ d))

times_sound : (ρ : List ℤ) (m : Monomial) (p : List Monomial) → eval_polynomial ρ (times_monomial m p) ≡ (m.coefficient *ℤ eval_variables ρ m.variables) *ℤ eval_polynomial ρ p
unfolding eval_polynomial
times_sound ρ m [] = sym (*ℤ-zero (m.coefficient *ℤ eval_variables ρ m.variables))
times_sound ρ m (k ∷ ks) =
    insert_sound ρ _ (times_monomial m ks)
    ∙ ap₂ (λ x y. x +ℤ y)
    (ap (λ x. (m.coefficient *ℤ k.coefficient) *ℤ x) (merge_sound ρ m.variables k.variables) ∙ product_swap m.coefficient k.coefficient (eval_variables ρ m.variables) (eval_variables ρ k.variables))
    (times_sound ρ m ks)
    ∙ sym (*ℤ-distrib-l (m.coefficient *ℤ eval_variables ρ m.variables) (k.coefficient *ℤ eval_variables ρ k.variables) (eval_polynomial ρ ks))

product_sound : (ρ : List ℤ) (p q : List Monomial) → eval_polynomial ρ (product p q) ≡ eval_polynomial ρ p *ℤ eval_polynomial ρ q
unfolding eval_polynomial
product_sound ρ [] q = sym (zero-*ℤ (eval_polynomial ρ q))
product_sound ρ (m ∷ p) q =
    sum_sound ρ (times_monomial m q) (product p q) ∙ ap₂ (λ x y. x +ℤ y) (times_sound ρ m q) (product_sound ρ p q)
    ∙ sym (*ℤ-distrib-r (m.coefficient *ℤ eval_variables ρ m.variables) (eval_polynomial ρ p) (eval_polynomial ρ q))

negation_sound : (ρ : List ℤ) (p : List Monomial) → eval_polynomial ρ (negation p) ≡ neg_ℤ (eval_polynomial ρ p)
unfolding eval_polynomial
negation_sound ρ [] = refl
negation_sound ρ (m ∷ p) =
    ap₂ (λ x y. x +ℤ y) (neg-*ℤ m.coefficient (eval_variables ρ m.variables)) (negation_sound ρ p)
    ∙ sym (neg_ℤ-+ℤ (m.coefficient *ℤ eval_variables ρ m.variables) (eval_polynomial ρ p))

normal_form_sound : (ρ : List ℤ) (e : Expr) → eval_polynomial ρ (normal_form e) ≡ eval ρ e
unfolding eval_polynomial eval_variables
normal_form_sound ρ (var n) = +ℤ_idr _ ∙ one_times _ ∙ times_one (lookup ρ n)
normal_form_sound ρ (con k) = +ℤ_idr _ ∙ times_one k
normal_form_sound ρ (a ⊕ b) = sum_sound ρ (normal_form a) (normal_form b) ∙ ap₂ (λ x y. x +ℤ y) (normal_form_sound ρ a) (normal_form_sound ρ b)
normal_form_sound ρ (a ⊗ b) = product_sound ρ (normal_form a) (normal_form b) ∙ ap₂ (λ x y. x *ℤ y) (normal_form_sound ρ a) (normal_form_sound ρ b)
normal_form_sound ρ (⊖ a) = negation_sound ρ (normal_form a) ∙ ap neg_ℤ (normal_form_sound ρ a)

is_zero_sound : (k : ℤ) → T (is_zero k) → k ≡ pos zero
is_zero_sound (pos n) t = ap pos (eqb→eq n 0 t)
is_zero_sound (negsuc n) t = absurd t

all_zero_sound : (ρ : List ℤ) (p : List Monomial) → T (all_zero p) → eval_polynomial ρ p ≡ pos zero
unfolding eval_polynomial
all_zero_sound ρ [] t = refl
all_zero_sound ρ (m ∷ p) t =
    ap₂ (λ x y. x *ℤ eval_variables ρ m.variables +ℤ y) (is_zero_sound m.coefficient (and_l (is_zero m.coefficient) (all_zero p) t))
    (all_zero_sound ρ p (and_r (is_zero m.coefficient) (all_zero p) t))
    ∙ +ℤ_idr _ ∙ zero-*ℤ (eval_variables ρ m.variables)

-- one side less the other, multiplied out, leaves nothing
abbrev pub Same : Expr → Expr → Type 0
Same a b = T (all_zero (normal_form (a ⊕ (⊖ b))))

-- two expressions that multiply out alike have one value, whatever the variables' values
pub solve : (ρ : List ℤ) (a b : Expr) → Same a b → eval ρ a ≡ eval ρ b
solve ρ a b t =
    sym (-ℤ-+ℤ_cancel (eval ρ a) (eval ρ b))
    ∙ ap (λ x. x +ℤ eval ρ b) (sym (normal_form_sound ρ (a ⊕ (⊖ b))) ∙ all_zero_sound ρ (normal_form (a ⊕ (⊖ b))) t)
    ∙ +ℤ_idl (eval ρ b)
