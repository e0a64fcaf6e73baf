-- The order of a call's tests: the table, the book, the set, the sheet.
use mathlib.Core.Path.{◌≡◌, ap, ◌∙◌}
use mathlib.Core.Bool.{true, false}
use mathlib.Core.List.{List}
use Prim.Native.Nat.{ℕ}
use Rattle.files.specs.Book.{boats, columns, book_refusal}
use Rattle.files.specs.Sheet.{sheet_refusal, files_refusal}
use Rattle.method.specs.declared.Released.{Released}
use Rattle.method.specs.ReleasedBoats.{usable, set_refusal}
use Rattle.method.specs.Problem.{Terms}
use Rattle.method.specs.Calls.{before, schedule_refusal, released_refusal, call_refusal}
use Rattle.calls.proofs.First.{first_refuses, later_refuses}

module _ (set : Released) (b s : List ℕ) (limited : set.limited ≡ true) where
  order : released_refusal (usable set) b s ≡ before (book_refusal b) (before (set_refusal (boats b) (usable set)) (files_refusal b s))
  order = rw limited

  pub book_refuses : (n : ℕ) → n ≡ book_refusal b → (n ≡ 0 → ⊥) → n ≡ released_refusal (usable set) b s
  book_refuses n e h = rw order (first_refuses n _ e h)

  module _ {k : ℕ} (ek : k ≡ book_refusal b) (zk : k ≡ 0) {c : ℕ} (ec : c ≡ boats b) where
    pub set_refuses : (n : ℕ) → n ≡ set_refusal c (usable set) → (n ≡ 0 → ⊥) → n ≡ released_refusal (usable set) b s
    set_refuses n e h = rw order (later_refuses (book_refusal b) ek zk (first_refuses n (files_refusal b s) (e ∙ ap (λ i. set_refusal i (usable set)) ec) h))

    pub sheet_refuses : (n : ℕ) → n ≡ set_refusal c (usable set) → n ≡ 0 → {w : ℕ} → w ≡ columns b → {r : ℕ} → r ≡ sheet_refusal w s → r ≡ released_refusal (usable set) b s
    unfolding files_refusal
    sheet_refuses n e z {w} ew {r} er =
        let f : r ≡ files_refusal b s = er ∙ rw (ew, ← ek, zk) in
        rw order (later_refuses (book_refusal b) ek zk (later_refuses (set_refusal (boats b) (usable set)) (e ∙ ap (λ i. set_refusal i (usable set)) ec) z f))

-- ---- With the table

module _ (m : Terms) (b s : List ℕ) where
  pub table_refuses : (n : ℕ) → n ≡ schedule_refusal m.schedule → (n ≡ 0 → ⊥) → n ≡ call_refusal m b s
  table_refuses n e h = first_refuses n _ e h

  pub files_refuse : (n : ℕ) → n ≡ schedule_refusal m.schedule → n ≡ 0 → {r : ℕ} → r ≡ released_refusal m.released b s → r ≡ call_refusal m b s
  files_refuse n e z q = later_refuses (schedule_refusal m.schedule) e z q

-- where the call is not limited
pub unlimited_order : (set : Released) (b s : List ℕ) → set.limited ≡ false → {r : ℕ} → r ≡ files_refusal b s → r ≡ released_refusal (usable set) b s
unlimited_order set b s e q = rw e q
