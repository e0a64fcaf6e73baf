-- Records, shares and own steps of a queue by the number of the sheet.
use mathlib.Core.Path.{◌≡◌, refl, ap, ap₂, ◌∙◌}
use mathlib.Core.List.{List, [], ◌∷◌}
use Prim.Native.Nat.{ℕ, zero, suc, ◌+◌, ◌≤◌, ◌<◌}
use native.Mathlib.Omega.{arith}
use lib.ListN.{length, get_or, take, drop}
use Rattle.frank_wolfe.specs.Vectors.{sum}
use Rattle.method.specs.Problem.{problem}
use Rattle.method.specs.Answers.{steps_used, run_iterate}
use Rattle.sheet_queue.specs.declared.SheetRecord.{SheetRecord}
use Rattle.sheet_queue.specs.Queue.{blank, lengths, sheets_of, problems, with_steps, own_steps, record_of, records_of, shares_of}
use Rattle.sheet_queue.specs.Promise.{used_steps}

pub lengths_count : (rs : List SheetRecord) → length (lengths rs) ≡ length rs
unfolding lengths
lengths_count [] = refl
lengths_count (r ∷ rs) = ap suc (lengths_count rs)

pub sheets_count : (ns bs : List ℕ) → length (sheets_of ns bs) ≡ length ns
unfolding sheets_of
sheets_count [] bs = refl
sheets_count (n ∷ ns) bs = ap suc (sheets_count ns (drop n bs))

module _ (b : List ℕ) where
  pub own_count : (ss : List (List ℕ)) → length (own_steps (problems b ss)) ≡ length ss
  unfolding own_steps problems
  own_count [] = refl
  own_count (s ∷ ss) = ap suc (own_count ss)

  pub own_at : (ss : List (List ℕ)) (i : ℕ) → i < length ss → get_or (own_steps (problems b ss)) i 0 ≡ steps_used (problem b (get_or ss i []))
  unfolding own_steps problems
  own_at [] i h = absurd (omega arith)
  own_at (s ∷ ss) zero h = refl
  own_at (s ∷ ss) (suc i) h = own_at ss i (omega arith)

  pub records_count : (ns : List ℕ) (ss : List (List ℕ)) (ks : List ℕ) → length ss ≡ length ns → length ks ≡ length ns → length (records_of ns (problems b ss) ks) ≡ length ns
  unfolding records_of problems
  records_count [] ss ks e f = refl
  records_count (n ∷ ns) [] ks e f = absurd (omega arith)
  records_count (n ∷ ns) (s ∷ ss) [] e f = absurd (omega arith)
  records_count (n ∷ ns) (s ∷ ss) (k ∷ ks) e f = ap suc (records_count ns ss ks (omega arith) (omega arith))

  pub records_lengths : (ns : List ℕ) (ss : List (List ℕ)) (ks : List ℕ) → length ss ≡ length ns → length ks ≡ length ns → lengths (records_of ns (problems b ss) ks) ≡ ns
  unfolding lengths records_of record_of problems
  records_lengths [] ss ks e f = refl
  records_lengths (n ∷ ns) [] ks e f = absurd (omega arith)
  records_lengths (n ∷ ns) (s ∷ ss) [] e f = absurd (omega arith)
  records_lengths (n ∷ ns) (s ∷ ss) (k ∷ ks) e f = ap (λ (l : List ℕ). n ∷ l) (records_lengths ns ss ks (omega arith) (omega arith))

  pub records_used : (ns : List ℕ) (ss : List (List ℕ)) (ks : List ℕ) → length ss ≡ length ns → length ks ≡ length ns → used_steps (records_of ns (problems b ss) ks) ≡ ks
  unfolding used_steps records_of record_of problems
  records_used [] ss [] e f = refl
  records_used [] ss (k ∷ ks) e f = absurd (omega arith)
  records_used (n ∷ ns) [] ks e f = absurd (omega arith)
  records_used (n ∷ ns) (s ∷ ss) [] e f = absurd (omega arith)
  records_used (n ∷ ns) (s ∷ ss) (k ∷ ks) e f = ap (λ (l : List ℕ). k ∷ l) (records_used ns ss ks (omega arith) (omega arith))

  pub records-at : (ns : List ℕ) (ss : List (List ℕ)) (ks : List ℕ) → length ss ≡ length ns → length ks ≡ length ns → (i : ℕ) → i < length ns →
      get_or (records_of ns (problems b ss) ks) i blank ≡ record_of (get_or ns i 0) (problem b (get_or ss i [])) (get_or ks i 0)
  unfolding records_of problems
  records-at [] ss ks e f i h = absurd (omega arith)
  records-at (n ∷ ns) [] ks e f i h = absurd (omega arith)
  records-at (n ∷ ns) (s ∷ ss) [] e f i h = absurd (omega arith)
  records-at (n ∷ ns) (s ∷ ss) (k ∷ ks) e f zero h = refl
  records-at (n ∷ ns) (s ∷ ss) (k ∷ ks) e f (suc i) h = records-at ns ss ks (omega arith) (omega arith) i (omega arith)

  pub shares_count : (ss : List (List ℕ)) (ks : List ℕ) → length ks ≡ length ss → length (shares_of (problems b ss) ks) ≡ length ss
  unfolding shares_of problems
  shares_count [] ks f = refl
  shares_count (s ∷ ss) [] f = absurd (omega arith)
  shares_count (s ∷ ss) (k ∷ ks) f = ap suc (shares_count ss ks (omega arith))

  pub shares_at : (ss : List (List ℕ)) (ks : List ℕ) → length ks ≡ length ss → (i : ℕ) → i < length ss →
      get_or (shares_of (problems b ss) ks) i [] ≡ (run_iterate (with_steps (get_or ks i 0) (problem b (get_or ss i [])))).shares
  unfolding shares_of problems
  shares_at [] ks f i h = absurd (omega arith)
  shares_at (s ∷ ss) [] f i h = absurd (omega arith)
  shares_at (s ∷ ss) (k ∷ ks) f zero h = refl
  shares_at (s ∷ ss) (k ∷ ks) f (suc i) h = shares_at ss ks (omega arith) i (omega arith)
