-- The products of the boat that a step picks, made for this step alone.
use mathlib.Core.Path.{◌≡◌, sym, ap, ◌∙◌}
use mathlib.Core.List.{List, ◌++◌}
use Prim.Native.Nat.{ℕ, ◌+◌, ◌<◌}
use native.Mathlib.Omega.{arith}
use native.Mathlib.Numerals.{add-one}
use lib.IntN.{ℤ, pos}
use lib.ListN.{get_or, take, drop, length-append}
use lib.Seq.{take_at, get_or-take}
use Rattle.files.specs.Book.{boats}
use Rattle.files.specs.Sheet.{files_refusal}
use Rattle.method.specs.Problem.{fixed, share}
use Rattle.iteration.specs.States.{boat_products}
use Rattle.iteration.proofs.States.{product_count}
use Rattle.run_loop.specs.Runs.{Products}

-- step t + 1 gives as many shares where no table is lent
pub fixed_share : (t : ℕ) → t + 1 ≡ share fixed t
unfolding share
fixed_share t = rw add-one

module _ (b s : List ℕ) (ok : files_refusal b s ≡ 0) (i : ℕ) (old : List ℤ) {ps : List ℤ} (e : ps ≡ boat_products b s i ++ drop (boats b) old) where
  pub products_here : Products b s i ps
  products_here =
      record {
        room = rw (e, length-append, product_count b s ok i) (omega arith);
        are = ap (take (boats b)) e ∙ take_at (boat_products b s i) (drop (boats b) old) (boats b) (product_count b s ok i);
      }

  pub own_here : i < boats b → get_or ps i (pos 0) ≡ get_or (boat_products b s i) i (pos 0)
  own_here h = sym (get_or-take (boats b) ps i (pos 0) h) ∙ ap (λ (z : List ℤ). get_or z i (pos 0)) products_here.are
