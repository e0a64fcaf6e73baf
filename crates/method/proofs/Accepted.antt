-- An accepted fleet book and sheet are a well-formed problem, in range and sized, with any shares that serve, with their own factors and with others.
use mathlib.Core.Path.{◌≡◌, refl, ap, ◌∙◌}
use mathlib.Core.List.{List, [], ◌∷◌}
use Prim.Native.Nat.{ℕ, zero, suc, ◌≤◌, ◌<◌}
use native.Mathlib.Nat.{le_trans}
use native.Mathlib.Omega.{arith}
use lib.IntN.{ℤ}
use lib.ListN.{length, get_or}
use Rattle.files.specs.Book.{boats, columns, rows, book_refusal}
use Rattle.files.specs.Sheet.{sheet, files_refusal}
use Rattle.files.specs.Fits.{BookFits, SheetFits}
use Rattle.files.proofs.Accepted.{files_accepted}
use Rattle.frank_wolfe.specs.Vectors.{sum, Among, here, there}
use Rattle.method.specs.ReleasedBoats.{Usable, every, only, used_from, set_refusal}
use Rattle.method.specs.Problem.{Schedule, Problem, Terms, problem_with, fleet_problem, call_problem}
use Rattle.method.specs.Calls.{before, schedule_refusal, released_refusal, call_refusal}
use Rattle.method.specs.Iterates.{iterate}
use Rattle.method.proofs.Schedules.{ScheduleSized, schedule_sized}
use Rattle.method.proofs.Entries.{Bounded}
use Rattle.method.proofs.Shares.{Mixed, iterate_mixed}
use Rattle.method.proofs.Mixtures.{WellFormed, InRange, Sized}
use Rattle.method.proofs.ReleasedBoats.{some_released, length_gather, well_formed_released, in_range_released, sized_released}

-- what holds of each row by its index holds of the rows
among_by : (P : List ℤ → Type 0) (vs : List (List ℤ)) → ((i : ℕ) → i < length vs → P (get_or vs i [])) → {v : List ℤ} → Among vs v → P v
among_by P [] f {v = v} x = elim x [ ]
among_by P (v ∷ vs) f here = f 0 (omega arith)
among_by P (u ∷ vs) f (there a) = among_by P vs (λ i h. f (suc i) (omega arith)) a

module _ (b s : List ℕ) (ok : files_refusal b s ≡ 0) where
  abbrev f : BookFits b
  f = (files_accepted b s ok).0

  abbrev g : SheetFits (columns b) s
  g = (files_accepted b s ok).1

  pub row_wide : (v : List ℤ) → Among (rows b) v → length v ≡ columns b
  row_wide v a = among_by (λ v. length v ≡ columns b) (rows b) (λ i h. f.row_length i (rw f.row_count at h)) a

  pub row_bounded : (v : List ℤ) → Among (rows b) v → Bounded 2000 v
  row_bounded v a = among_by (Bounded 2000) (rows b) (λ i h. record { each = f.entry_bound i }) a

  -- with any shares that serve, and any factors that total at most 64
  module _ {a : Schedule} (S : ScheduleSized a) (fs : List ℕ) (few : sum fs ≤ 64) where
    abbrev p : Problem
    p = problem_with a fs b s

    pub well_formed_with : WellFormed p
    well_formed_with =
        record {
          some_row = rw f.row_count f.some_boats;
          wide = record { each = row_wide };
          target_length = g.target_length;
          schedule_fits = S.fits;
        }

    pub in_range_with : InRange p
    in_range_with = record { few_factors = few; rows_bounded = row_bounded; target_bounded = record { each = g.target_bound } }

    pub sized_with : Sized p
    sized_with =
        record {
          some_steps = S.some_steps (sheet s).steps g.some_steps;
          weights = λ t h. S.most_total t (le_trans h (le_trans (S.most_steps (sheet s).steps) g.most_steps));
          most_tolerance = g.most_tolerance;
        }

    pub mixed_with : (t : ℕ) → Mixed p t (iterate p t)
    mixed_with t = iterate_mixed p well_formed_with.some_row well_formed_with.wide t

    pub share_count_with : (t : ℕ) → length (iterate p t).shares ≡ boats b
    share_count_with t = (mixed_with t).count ∙ f.row_count

-- ---- The problem of a call

-- neither of two numbers refuses
pub both : (n k : ℕ) → before n k ≡ 0 → (n ≡ 0) × (k ≡ 0)
both zero k e = (refl, e)
both (suc n) k e = absurd (omega arith)

pub released_accepted : (u : Usable) (b s : List ℕ) → released_refusal u b s ≡ 0 → (files_refusal b s ≡ 0) × (set_refusal (boats b) u ≡ 0)
unfolding set_refusal
released_accepted every b s e = (e, refl)
released_accepted (only set) b s e =
    let p = both (book_refusal b) (before (set_refusal (boats b) (only set)) (files_refusal b s)) e in
    let q = both (set_refusal (boats b) (only set)) (files_refusal b s) p.1 in
    (q.1, q.0)

module _ (m : Terms) (b s : List ℕ) (ok : call_refusal m b s ≡ 0) where
  passed : (schedule_refusal m.schedule ≡ 0) × (released_refusal m.released b s ≡ 0)
  passed = both (schedule_refusal m.schedule) (released_refusal m.released b s) ok

  pub files_ok : files_refusal b s ≡ 0
  files_ok = (released_accepted m.released b s passed.1).0

  pub schedule_ok : schedule_refusal m.schedule ≡ 0
  schedule_ok = passed.0

  pub set_ok : set_refusal (boats b) m.released ≡ 0
  set_ok = (released_accepted m.released b s passed.1).1

  pub call_schedule : ScheduleSized m.schedule
  call_schedule = schedule_sized m.schedule schedule_ok

  few : sum (sheet s).factors ≤ 64
  few = (files_accepted b s files_ok).1.few_factors

  -- one of the book's boats may be used
  pub some_used : 1 ≤ length (used_from m.released 0 (boats b))
  some_used = some_released (boats b) m.released (files_accepted b s files_ok).0.some_boats set_ok

  some_vertex : 1 ≤ length (used_from m.released 0 (length (fleet_problem m b s).vertices))
  some_vertex = rw (files_accepted b s files_ok).0.row_count some_used

  -- of all boats of the book
  pub fleet_formed : WellFormed (fleet_problem m b s)
  fleet_formed = well_formed_with b s files_ok call_schedule (sheet s).factors few

  -- of those that may be used
  pub well_formed : WellFormed (call_problem m b s)
  unfolding call_problem
  well_formed = well_formed_released m.released some_vertex fleet_formed

  pub in_range : InRange (call_problem m b s)
  unfolding call_problem
  in_range = in_range_released m.released some_vertex (in_range_with b s files_ok call_schedule (sheet s).factors few)

  pub sized : Sized (call_problem m b s)
  unfolding call_problem
  sized = sized_released m.released some_vertex (sized_with b s files_ok call_schedule (sheet s).factors few)

  -- as many as the boats that may be used
  pub vertex_count : length (call_problem m b s).vertices ≡ length (used_from m.released 0 (boats b))
  unfolding call_problem
  vertex_count = length_gather m.released (rows b) ∙ ap (λ n. length (used_from m.released 0 n)) (files_accepted b s files_ok).0.row_count

  pub share_count : (t : ℕ) → length (iterate (call_problem m b s) t).shares ≡ length (used_from m.released 0 (boats b))
  share_count t = (iterate_mixed (call_problem m b s) well_formed.some_row well_formed.wide t).count ∙ vertex_count
