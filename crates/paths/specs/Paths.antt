-- Paths of files, as bytes. Definitions only. Assumes nothing.
use Rattle.std.specs.Prelude.{cond, List, [], ◌∷◌, ◌++◌, ℕ, leb, length}

-- these bytes, or none where there are more than a path may have
unfoldable pub bounded : List ℕ → List ℕ
bounded path = cond (leb (length path) 4095) path []

-- of a file in a folder, with a slash between them; in the current folder, which has no name, the file's name alone
unfoldable pub path_in : (folder name : List ℕ) → List ℕ
path_in [] name = bounded name
path_in (x ∷ folder) name = bounded ((x ∷ folder) ++ (47 ∷ name))

-- ".XXXXXX": the system puts letters for the six X
abbrev pub ending : List ℕ
ending = 46 ∷ 88 ∷ 88 ∷ 88 ∷ 88 ∷ 88 ∷ 88 ∷ []

-- of the new file by which another is replaced, in the same folder
unfoldable pub temporary_path : (path : List ℕ) → List ℕ
temporary_path path = bounded (path ++ ending)
