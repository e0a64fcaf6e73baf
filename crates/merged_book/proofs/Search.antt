-- A search on the merged book is bounded against mixtures of either yard's boats: each of them is a mixture of the merged book.
use mathlib.Core.Path.{◌≡◌, sym, ◌∙◌}
use mathlib.Core.List.{List}
use Prim.Native.Nat.{ℕ, ◌≤◌}
use native.Mathlib.Omega.{arith}
use lib.ListN.{length}
use lib.IntN.{ℤ}
use Rattle.frank_wolfe.specs.Vectors.{sum}
use Rattle.files.specs.Book.{columns, rows}
use Rattle.method.specs.declared.Answer.{Answer}
use Rattle.method.specs.Problem.{Problem, problem, call_problem}
use Rattle.method.specs.Bounds.{RunBounds}
use Rattle.merged_book.specs.Merging.{merged_rows, merged_book, merge_refusal}
use Rattle.merged_book.specs.Mixtures.{both_rows, MixturesOf, with_vertices}
use Rattle.merged_book.specs.Search.{BoundedAgainst, BothYardsBounded}
use Rattle.merged_book.proofs.Mixtures.{same_distance}
use Rattle.merged_book.proofs.Book.{merged_of}
use Rattle.merged_book.proofs.Promise.{Passes, passes, from_both, from_first, from_second}

-- the bounds against the vertices hold against rows whose mixtures are all mixtures of the vertices
bounded : (p : Problem) (answer : Answer) (shares : List ℕ) (vs : List (List ℤ)) → MixturesOf p.columns vs p.vertices → RunBounds p answer shares → BoundedAgainst p answer (with_vertices vs p)
bounded p answer shares vs m r =
    record {
      gap_bound = λ qs e h. rw (same_distance p vs p.vertices m qs e, (m qs e).total) at (r.answer.gap_bound (m qs e).shares (m qs e).share_count (some qs e h));
      step_bound = λ qs e h. rw (same_distance p vs p.vertices m qs e, (m qs e).total) at (r.step_bound (m qs e).shares (m qs e).share_count (some qs e h));
      beyond = λ v qs e h. rw (same_distance p vs p.vertices m qs e, (m qs e).total) at (r.answer.beyond v (m qs e).shares (m qs e).share_count (some qs e h));
      spent = λ v qs e h. rw (same_distance p vs p.vertices m qs e, (m qs e).total) at (r.spent v (m qs e).shares (m qs e).share_count (some qs e h));
    }
  where
    some : (qs : List ℕ) (e : length qs ≡ length vs) → 1 ≤ sum qs → 1 ≤ sum (m qs e).shares
    some qs e h = omega (arith, (m qs e).total)

module _ (a b s : List ℕ) (room : ℕ) (answer : Answer) (shares : List ℕ) (ok : merge_refusal a b room ≡ 0) (r : RunBounds (problem (merged_book a b) s) answer shares) where
  against : (vs : List (List ℤ)) → MixturesOf (columns a) vs (merged_rows a b) → BoundedAgainst (problem (merged_book a b) s) answer (with_vertices vs (problem a s))
  unfolding call_problem
  against vs m =
      let p = passes a b room ok in
      let q = merged_of a b p.first p.second p.same_columns p.few_boats in
      rw (← q.columns_back) (bounded (problem (merged_book a b) s) answer shares vs (rw (q.columns_back, q.rows_back) m) r)

pub both_yards_bounded : BothYardsBounded
unfolding BothYardsBounded call_problem
both_yards_bounded a b s room answer shares ok r =
    let p = passes a b room ok in (
      against a b s room answer shares ok r (rows a) (from_first a b room p),
      (
        rw (← p.same_columns) (against a b s room answer shares ok r (rows b) (from_second a b room p)),
        against a b s room answer shares ok r (both_rows a b) (from_both a b room p),
      ),
    )
