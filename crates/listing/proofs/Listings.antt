-- Laws of the listing's lines: the verdict's, the boats', the head and the whole. Assumes nothing.
use mathlib.Core.Path.{◌≡◌, refl, sym, ap, ◌∙◌}
use mathlib.Core.List.{List, [], ◌∷◌, ◌++◌, append_assoc, append-nil}
use Prim.Native.Nat.{ℕ, zero, suc, ◌+◌, ◌*◌, ◌≤◌, ◌<◌}
use native.Mathlib.Nat.{add-zero, add-suc, suc-add, zero-add}
use native.Mathlib.Numerals.{add-one}
use native.Mathlib.Omega.{arith}
use lib.ListN.{length, get_or, take, length-append}
use lib.Seq.{take-suc, length-take-le}
use Rattle.method.specs.declared.Verdict.{Verdict}
use Rattle.method.specs.declared.Answer.{Answer}
use Rattle.listing.specs.Lines.{fleet_word, sheet_word, distance_word, gap_word, boat_word, verdict_word, boat_line, boat_lines, head_lines}
use Rattle.text.specs.Lines.{number_line, pair_line}
use Rattle.text.specs.Texts.{text_limit, Holds, Adds}
use Rattle.text.specs.declared.Text.{Text}
use Rattle.text.proofs.Decimals.{figures_at_most}
use Rattle.text.proofs.Texts.{adds_both, adds_to_empty}

pub verdict_added : {t u : Text} {word : List ℕ} (v : Verdict) (m n : ℕ) → verdict_word v ≡ word → length word ≤ 7 → Adds t (pair_line word m n) u × (u.len ≤ t.len + length word + 42) →
    Adds t (pair_line (verdict_word v) m n) u × (u.len ≤ t.len + 49)
verdict_added v m n e h p = (rw e p.0, omega (arith, p.1))

-- ---- Boats

pub no_boat_added : {t : Text} (boat share : ℕ) → t.len + 47 ≤ text_limit → share ≡ 0 → Adds t (boat_line boat share) t × (t.len ≤ t.len + 15)
unfolding boat_line
no_boat_added {t} i q h e = (rw e (record { fits = omega arith; length_is = sym (add-zero t.len); bytes_are = sym (append-nil _); rest = refl }), omega arith)

boat_length : (i q : ℕ) → i < 256 → q < 65536 → length (pair_line boat_word i q) ≤ 15
unfolding pair_line
boat_length i q h k = simp length-append (omega (arith, figures_at_most 2 i (omega arith), figures_at_most 4 q (omega arith)))

pub boat_added : {t u : Text} (boat share : ℕ) → boat < 256 → share < 65536 → (share ≡ 0 → ⊥) → Adds t (pair_line boat_word boat share) u →
    Adds t (boat_line boat share) u × (u.len ≤ t.len + 15)
unfolding boat_line
boat_added i zero h k n p = absurd (n refl)
boat_added i (suc q) h k n p = (p, omega (arith, p.length_is, boat_length i (suc q) h k))

last_boat : (first : ℕ) (qs : List ℕ) (q : ℕ) → boat_lines first (qs ++ (q ∷ [])) ≡ boat_lines first qs ++ boat_line (first + length qs) q
unfolding boat_lines
last_boat i [] q = simp (append-nil, add-zero)
last_boat i (p ∷ qs) q =
    ap (λ (l : List ℕ). boat_line i p ++ l) (last_boat (suc i) qs q ∙ ap (λ (k : ℕ). boat_lines (suc i) qs ++ boat_line k q) (suc-add i (length qs) ∙ sym (add-suc i (length qs))))
    ∙ sym (append_assoc (boat_line i p) (boat_lines (suc i) qs) (boat_line (i + suc (length qs)) q))

-- the loop of `with_boats`: the lines of the first i boats are added to t, at most 15 bytes each
pub record BoatsAdded (t : Text) (shares : List ℕ) (boats : ℕ) (u : Text) (i : ℕ) : Type 0 where
  pub reached : i ≤ boats
  pub few : boats ≤ 256
  pub long : length shares ≡ 256
  pub room : u.len ≤ 200 + 15 * i
  pub added : Adds t (boat_lines 0 (take i shares)) u

pub boats_start : {t : Text} {shares : List ℕ} {boats : ℕ} → boats ≤ 256 → t.len ≤ 200 → length shares ≡ 256 → BoatsAdded t shares boats t 0
unfolding boat_lines
boats_start {t} f r l =
    record {
      reached = omega arith;
      few = f;
      long = l;
      room = omega arith;
      added = record { fits = omega arith; length_is = sym (add-zero t.len); bytes_are = sym (append-nil _); rest = refl };
    }

pub boats_more : {t u v : Text} {shares : List ℕ} {boats i : ℕ} → BoatsAdded t shares boats u i → i < boats →
    Adds u (boat_line i (get_or shares i 0)) v × (v.len ≤ u.len + 15) → BoatsAdded t shares boats v (i + 1)
boats_more {t} {u} {v} {shares} {boats} {i} b h p =
    let k : i < length shares = omega (arith, b.few, b.long) in
    let n : length (take i shares) ≡ i = length-take-le i shares (omega arith) in
    let e : boat_lines 0 (take (i + 1) shares) ≡ boat_lines 0 (take i shares) ++ boat_line i (get_or shares i 0) =
    rw (add-one, take-suc shares i 0 k) (last_boat 0 (take i shares) (get_or shares i 0) ∙ ap (λ (x : ℕ). boat_lines 0 (take i shares) ++ boat_line x (get_or shares i 0)) (zero-add (length (take i shares)) ∙ n)) in
    record {
      reached = omega arith;
      few = b.few;
      long = b.long;
      room = omega (arith, b.room, p.1);
      added = rw e (adds_both b.added p.0);
    }

pub boats_end : {t u : Text} {shares : List ℕ} {boats i : ℕ} → BoatsAdded t shares boats u i → boats ≤ i → Adds t (boat_lines 0 (take boats shares)) u
boats_end {t} {u} {shares} {boats} {i} b h =
    let e : i ≡ boats = omega (arith, b.reached) in
    rw e at b.added

-- ---- The head

pub head_holds : {a b d e f g : Text} (n c tolerance steps : ℕ) (x : Answer) → Holds [] a →
    Adds a (pair_line fleet_word n c) b × (b.len ≤ a.len + 6 + 42) →
    Adds b (pair_line sheet_word tolerance steps) d × (d.len ≤ b.len + 6 + 42) →
    Adds d (pair_line (verdict_word x.verdict) x.steps x.weight) e × (e.len ≤ d.len + 49) →
    Adds e (number_line distance_word x.distance) f × (f.len ≤ e.len + 9 + 21) →
    Adds f (number_line gap_word x.gap) g × (g.len ≤ f.len + 4 + 21) →
    Holds (head_lines n c tolerance steps x) g × (g.len ≤ 200)
unfolding head_lines
head_holds n c tolerance steps x o p q r s w = (
  adds_to_empty o (adds_both p.0 (adds_both q.0 (adds_both r.0 (adds_both s.0 w.0)))),
  omega (arith, o.length_is, p.1, q.1, r.1, s.1, w.1),
)
