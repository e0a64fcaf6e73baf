-- Lists of integers as vectors: sums, multiples, inner products, mixtures of rows. Definitions only. Assumes nothing.
-- Where two lists differ in length, what lies past the end of the shorter one counts for nothing.
use Rattle.std.specs.Prelude.{List, [], ◌∷◌, ℕ, ◌+◌, ◌*◌, ℤ, pos, nat_abs, ◌+ℤ◌, ◌-ℤ◌, ◌*ℤ◌, replicate}

unfoldable pub add : List ℤ → List ℤ → List ℤ
add [] ys = []
add (x ∷ xs) [] = []
add (x ∷ xs) (y ∷ ys) = (x +ℤ y) ∷ add xs ys

unfoldable pub subtract : List ℤ → List ℤ → List ℤ
subtract [] ys = []
subtract (x ∷ xs) [] = []
subtract (x ∷ xs) (y ∷ ys) = (x -ℤ y) ∷ subtract xs ys

unfoldable pub scale : ℕ → List ℤ → List ℤ
scale k [] = []
scale k (x ∷ xs) = (pos k *ℤ x) ∷ scale k xs

-- the sum over the columns of the products
unfoldable pub inner : List ℤ → List ℤ → ℤ
inner [] ys = pos 0
inner (x ∷ xs) [] = pos 0
inner (x ∷ xs) (y ∷ ys) = x *ℤ y +ℤ inner xs ys

-- the sum over the columns of factor times product
unfoldable pub weighted : (factors : List ℕ) → List ℤ → List ℤ → ℤ
weighted [] xs ys = pos 0
weighted (f ∷ fs) [] ys = pos 0
weighted (f ∷ fs) (x ∷ xs) [] = pos 0
weighted (f ∷ fs) (x ∷ xs) (y ∷ ys) = pos f *ℤ (x *ℤ y) +ℤ weighted fs xs ys

-- the sum over the columns of factor times square
unfoldable pub weighted_norm : (factors : List ℕ) → List ℤ → ℕ
weighted_norm [] xs = 0
weighted_norm (f ∷ fs) [] = 0
weighted_norm (f ∷ fs) (x ∷ xs) = f * (nat_abs x * nat_abs x) + weighted_norm fs xs

-- every factor 1
abbrev pub ones : (columns : ℕ) → List ℕ
ones c = replicate c 1

-- the sum of the squares
unfoldable pub squared_norm : List ℤ → ℕ
squared_norm [] = 0
squared_norm (x ∷ xs) = nat_abs x * nat_abs x + squared_norm xs

-- v is one of the rows
pub data Among : List (List ℤ) → List ℤ → Type 0 where
  here : {v : List ℤ} {vs : List (List ℤ)} → Among (v ∷ vs) v
  there : {u v : List ℤ} {vs : List (List ℤ)} → Among vs v → Among (u ∷ vs) v

unfoldable pub sum : List ℕ → ℕ
sum [] = 0
sum (q ∷ qs) = q + sum qs

-- the sum over the rows, of so many columns, of share times row
unfoldable pub combination : (columns : ℕ) → (shares : List ℕ) → (rows : List (List ℤ)) → List ℤ
combination c [] vs = replicate c (pos 0)
combination c (q ∷ qs) [] = replicate c (pos 0)
combination c (q ∷ qs) (v ∷ vs) = add (scale q v) (combination c qs vs)
