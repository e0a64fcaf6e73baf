-- The pairs that were read, one after the other: the loop of `check_pairs`, and the report of all of them.
use mathlib.Core.Path.{◌≡◌, refl, sym, ap, ◌∙◌}
use mathlib.Core.List.{List, [], ◌∷◌, ◌++◌, append-nil}
use Prim.Native.Nat.{ℕ, suc, ◌+◌, ◌-◌, ◌≤◌, ◌<◌}
use native.Mathlib.Numerals.{add-one}
use native.Mathlib.Omega.{arith}
use lib.ListN.{length, replicate, length-append, length-replicate}
use Rattle.text.specs.declared.Text.{Text}
use Rattle.leaning.specs.Report.{Pair, pair_of, start_refusal}
use Rattle.leaning.specs.Slots.{Checked, Starts}
use Rattle.leaning.specs.Promise.{ReportsChecked}
use Rattle.leaning.proofs.Checking.{start_passed}
use Rattle.lean_folder.specs.Folder.{SomePair, SomeChecked, SomeReport}

-- pairs that nobody looks at
unread : ℕ → List Pair
unread n = replicate n (pair_of [] [])

-- k pairs were checked, none refused
pub record Going (b : List ℕ) (cards : ℕ) (slots : List ℕ) (k : ℕ) : Type 0 where
  pub pairs : List Pair
  pub count : length pairs ≡ k
  pub reached : k ≤ cards
  pub few : cards ≤ 64
  pub checked : Checked b cards pairs 0 slots

module _ {b : List ℕ} {n : ℕ} where
  pub going_start : {x : ℕ} {slots : List ℕ} → (x ≡ start_refusal b n) × Starts b n x → x ≡ 0 → 16384 ≤ length slots → Going b n slots 0
  going_start {x} {slots} p z h =
      record { pairs = []; count = refl; reached = omega arith; few = (start_passed b n (sym p.0 ∙ z)).1.1; checked = rw z at (p.1 slots h) }

  pub start_refused : {x : ℕ} {slots : List ℕ} → (x ≡ start_refusal b n) × Starts b n x → (x ≡ 0 → ⊥) → 16384 ≤ length slots → SomeChecked b n x slots
  unfolding unread
  start_refused {x} {slots} p z h =
      record { pairs = []; rest = unread n; number = length-replicate n (pair_of [] []); all = λ e. absurd (z e); checked = p.1 slots h }

  module _ {k r : ℕ} {old new : List ℕ} (g : Going b n old k) (below : k < n) (p : SomePair b k old r new) where
    longer : length (g.pairs ++ (p.pair ∷ [])) ≡ suc k
    longer = length-append g.pairs (p.pair ∷ []) ∙ omega (arith, g.count)

    added : Checked b n (g.pairs ++ (p.pair ∷ [])) r new
    added = p.adds n g.pairs g.checked g.count below

    pub going_more : r ≡ 0 → Going b n new (k + 1)
    going_more z = record { pairs = g.pairs ++ (p.pair ∷ []); count = longer ∙ sym (add-one k); reached = omega arith; few = g.few; checked = rw z at added }

    pub going_refused : (r ≡ 0 → ⊥) → SomeChecked b n r new
    unfolding unread
    going_refused z =
        record {
          pairs = g.pairs ++ (p.pair ∷ []);
          rest = unread (n - suc k);
          number = length-append (g.pairs ++ (p.pair ∷ [])) (unread (n - suc k)) ∙ omega (arith, longer, length-replicate (n - suc k) (pair_of [] []));
          all = λ e. absurd (z e);
          checked = added;
        }

  pub going_end : {k : ℕ} {slots : List ℕ} → Going b n slots k → n ≤ k → SomeChecked b n 0 slots
  going_end {k} {slots} g h =
      record { pairs = g.pairs; rest = []; number = ap length (append-nil g.pairs) ∙ omega (arith, g.count, g.reached); all = λ e. refl; checked = g.checked }

  pub some_report : {r : ℕ} {slots : List ℕ} {t : Text} → SomeChecked b n r slots → ReportsChecked b r n slots t → SomeReport b n t
  some_report s f = record { pairs = s.pairs ++ s.rest; number = s.number; report = f s.pairs s.rest s.checked s.number s.all }
