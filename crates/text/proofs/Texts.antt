-- Laws of texts: the loop of `figures_of`, bytes put behind a text, and texts with several parts added. Assumes nothing.
use mathlib.Core.Path.{◌≡◌, refl, sym, ap, ◌∙◌}
use mathlib.Core.List.{List, [], ◌∷◌, ◌++◌, append_assoc, append-nil}
use Prim.Native.Nat.{ℕ, zero, suc, ◌+◌, ◌*◌, ◌-◌, ◌/◌, ◌%◌, ◌^◌, ◌≤◌, ◌<◌}
use native.Mathlib.Nat.{pow-succ', le_of_suc-le-suc}
use native.Mathlib.Omega.{arith}
use lib.ListN.{length, take, drop, set, replicate, length-append, length-drop, length-set}
use lib.Seq.{drop-drop, take_all}
use Rattle.buffers.specs.Placed.{placed}
use Rattle.buffers.proofs.Placing.{take_placed, drop_placed}
use Rattle.text.specs.Decimal.{figure, decimal, pair}
use Rattle.text.specs.Lines.{number_line, pair_line}
use Rattle.text.specs.Texts.{text_limit, bytes_of, Holds, Adds, FiguresOf}
use Rattle.text.specs.declared.Figures.{Figures}
use Rattle.text.specs.declared.Text.{Text}
use Rattle.text.proofs.Decimals.{decimal_one, decimal_two, decimal_hundred}

-- ---- The loop of `figures_of`

-- the figures of `rest` with those written are the figures of n, and those of `rest` have room
pub record Written (n : ℕ) (bytes : List ℕ) (rest at : ℕ) : Type 0 where
  pub below : rest < 10 ^ at
  pub some : 1 ≤ at
  pub most : at ≤ 20
  pub long : length bytes ≡ 20
  pub figures_are : decimal n ≡ decimal rest ++ drop at bytes

pub written_start : (n : ℕ) → n < 18446744073709551616 → Written n (replicate 20 0) n 20
written_start n h = record { below = omega arith; some = omega arith; most = omega arith; long = refl; figures_are = sym (append-nil (decimal n)) }

set_one : (l : List ℕ) (a x : ℕ) → suc a ≤ length l → drop a (set l a x) ≡ x ∷ drop (suc a) l
set_one [] a x h = absurd (omega arith)
set_one (p ∷ l) zero x h = refl
set_one (p ∷ l) (suc a) x h = set_one l a x (le_of_suc-le-suc h)

set_two : (l : List ℕ) (a x y : ℕ) → suc (suc a) ≤ length l → drop a (set (set l a x) (suc a) y) ≡ x ∷ y ∷ drop (suc (suc a)) l
set_two [] a x y h = absurd (omega arith)
set_two (p ∷ []) zero x y h = absurd (omega arith)
set_two (p ∷ q ∷ l) zero x y h = refl
set_two (p ∷ l) (suc a) x y h = set_two l a x y (le_of_suc-le-suc h)

-- three places at least are left for a number of three figures
room_three : (rest at : ℕ) → 100 ≤ rest → rest < 10 ^ at → 3 ≤ at
room_three rest zero h p = absurd (omega arith)
room_three rest (suc zero) h p = absurd (omega arith)
room_three rest (suc (suc zero)) h p = absurd (omega arith)
room_three rest (suc (suc (suc m))) h p = omega arith

-- and two for one of two
room_two : (rest at : ℕ) → 10 ≤ rest → rest < 10 ^ at → 2 ≤ at
room_two rest zero h p = absurd (omega arith)
room_two rest (suc zero) h p = absurd (omega arith)
room_two rest (suc (suc m)) h p = omega arith

pub two_more : {n rest at : ℕ} {bytes : List ℕ} → Written n bytes rest at → 100 ≤ rest → 2 ≤ at
two_more {n} {rest} {at} w h = omega (arith, room_three rest at h w.below)

pub two_last : {n rest at : ℕ} {bytes : List ℕ} → Written n bytes rest at → 10 ≤ rest → 2 ≤ at
two_last {n} {rest} {at} w h = room_two rest at h w.below

-- the place of two more figures
less_two : (rest m : ℕ) → rest < 10 ^ suc (suc m) → rest / 100 < 10 ^ m
less_two rest m h =
    let e : rest < 10 * (10 * 10 ^ m) = rw (pow-succ', pow-succ') at h in
    omega arith

pub written_more : {n rest at x y : ℕ} {bytes : List ℕ} → Written n bytes rest at → 100 ≤ rest → x ≡ figure (rest % 100 / 10) → y ≡ figure (rest % 100 % 10) →
    Written n (set (set bytes (at - 2) x) (at - 2 + 1) y) (rest / 100) (at - 2)
written_more {n} {rest} {at} {x} {y} {bytes} w h p q =
    let t : 3 ≤ at = room_three rest at h w.below in
    let e : at ≡ suc (suc (at - 2)) = omega arith in
    let b : rest < 10 ^ suc (suc (at - 2)) = rw e at w.below in
    let i : at - 2 + 1 ≡ suc (at - 2) = omega arith in
    let l : suc (suc (at - 2)) ≤ length bytes = omega (arith, w.long, w.most) in
    record {
      below = less_two rest (at - 2) b;
      some = omega arith;
      most = omega (arith, w.most);
      long = rw (length-set, length-set) w.long;
      figures_are =
          w.figures_are
          ∙ ap (λ (d : List ℕ). d ++ drop at bytes) (decimal_hundred rest h)
          ∙ append_assoc (decimal (rest / 100)) (pair (rest % 100)) (drop at bytes)
          ∙ ap (λ (d : List ℕ). decimal (rest / 100) ++ d)
          (ap (λ (a : ℕ). figure (rest % 100 / 10) ∷ figure (rest % 100 % 10) ∷ drop a bytes) e
          ∙ sym (rw (i, p, q) (set_two bytes (at - 2) (figure (rest % 100 / 10)) (figure (rest % 100 % 10)) l)));
    }

pub written_one : {n rest at x : ℕ} {bytes : List ℕ} → Written n bytes rest at → rest < 10 → x ≡ figure (rest % 10) →
    FiguresOf n (record { bytes = set bytes (at - 1) x; at = at - 1 })
written_one {n} {rest} {at} {x} {bytes} w h p =
    let e : at ≡ suc (at - 1) = omega (arith, w.some) in
    let l : suc (at - 1) ≤ length bytes = omega (arith, w.long, w.most) in
    let r : rest % 10 ≡ rest = omega arith in
    record {
      starts = omega (arith, w.most);
      long = rw length-set w.long;
      figures_are = sym
          (w.figures_are
          ∙ ap (λ (d : List ℕ). d ++ drop at bytes) (decimal_one rest h)
          ∙ ap (λ (a : ℕ). figure rest ∷ drop a bytes) e
          ∙ sym (rw (p, r) (set_one bytes (at - 1) (figure rest) l)));
    }

pub written_two : {n rest at x y : ℕ} {bytes : List ℕ} → Written n bytes rest at → 10 ≤ rest → rest < 100 → x ≡ figure (rest / 10) → y ≡ figure (rest % 10) →
    FiguresOf n (record { bytes = set (set bytes (at - 2) x) (at - 2 + 1) y; at = at - 2 })
written_two {n} {rest} {at} {x} {y} {bytes} w h g p q =
    let t : 2 ≤ at = room_two rest at h w.below in
    let e : at ≡ suc (suc (at - 2)) = omega arith in
    let i : at - 2 + 1 ≡ suc (at - 2) = omega arith in
    let l : suc (suc (at - 2)) ≤ length bytes = omega (arith, w.long, w.most) in
    record {
      starts = omega (arith, w.most);
      long = rw (length-set, length-set) w.long;
      figures_are = sym
          (w.figures_are
          ∙ ap (λ (d : List ℕ). d ++ drop at bytes) (decimal_two rest h g)
          ∙ ap (λ (a : ℕ). figure (rest / 10) ∷ figure (rest % 10) ∷ drop a bytes) e
          ∙ sym (rw (i, p, q) (set_two bytes (at - 2) (figure (rest / 10)) (figure (rest % 10)) l)));
    }

-- ---- Bytes put behind a text

pub adds_placed : {t : Text} {s new : List ℕ} {n : ℕ} → t.len + length s ≤ text_limit → length t.bytes ≡ text_limit → new ≡ placed t.bytes t.len s → n ≡ t.len + length s →
    Adds t s (record { bytes = new; len = n })
adds_placed {t} {s} {new} {n} r l e p =
    let h : t.len ≤ length t.bytes = omega arith in
    record {
      fits = omega arith;
      length_is = p;
      bytes_are = rw (e, p) (take_placed t.bytes t.len s h);
      rest = rw (e, p) (drop_placed t.bytes t.len s h);
    }

-- ---- Texts with several parts added

-- what stands behind u, which is t with l added, from what stands behind t
behind : {t u : Text} {l : List ℕ} → Adds t l u → {z : List ℕ} → drop t.len t.bytes ≡ z → drop u.len u.bytes ≡ drop (length l) z
behind {t} {u} {l} q e =
    let n : u.len ≡ t.len + length l = q.length_is in
    q.rest ∙ rw n (sym (drop-drop (length l) t.len t.bytes) ∙ ap (drop (length l)) e)

drop_zeros : (n m : ℕ) → drop {A = ℕ} n (replicate (n + m) 0) ≡ replicate m 0
drop_zeros zero m = let e : 0 + m ≡ m = omega arith in rw e
drop_zeros (suc n) m = let e : suc n + m ≡ suc (n + m) = omega arith in rw e (drop_zeros n m)

behind_zeros : {t u : Text} {l : List ℕ} → Adds t l u → drop t.len t.bytes ≡ replicate (text_limit - t.len) 0 → drop u.len u.bytes ≡ replicate (text_limit - u.len) 0
behind_zeros {t} {u} {l} q e =
    let n : text_limit - t.len ≡ length l + (text_limit - u.len) = omega (arith, q.fits, q.length_is) in
    behind q e ∙ rw n (drop_zeros (length l) (text_limit - u.len))

pub adds_both : {t u v : Text} {a b : List ℕ} → Adds t a u → Adds u b v → Adds t (a ++ b) v
adds_both {t} {u} {v} {a} {b} p q =
    record {
      fits = q.fits;
      length_is = rw length-append (omega (arith, p.length_is, q.length_is));
      bytes_are = q.bytes_are ∙ ap (λ (l : List ℕ). l ++ b) p.bytes_are ∙ append_assoc (bytes_of t) a b;
      rest = behind q p.rest ∙ drop-drop (length b) u.len t.bytes ∙ ap (λ (n : ℕ). drop n t.bytes) (sym q.length_is);
    }

pub adds_to_empty : {t u : Text} {l : List ℕ} → Holds [] t → Adds t l u → Holds l u
adds_to_empty {t} {u} {l} p q =
    record {
      fits = q.fits;
      length_is = omega (arith, p.length_is, q.length_is);
      bytes_are = q.bytes_are ∙ ap (λ (x : List ℕ). x ++ l) p.bytes_are;
      rest = behind_zeros q p.rest;
    }

pub holds_more : {t u : Text} {a b : List ℕ} → Holds a t → Adds t b u → Holds (a ++ b) u
holds_more {t} {u} {a} {b} p q =
    record {
      fits = q.fits;
      length_is = rw length-append (omega (arith, p.length_is, q.length_is));
      bytes_are = q.bytes_are ∙ ap (λ (x : List ℕ). x ++ b) p.bytes_are;
      rest = behind_zeros q p.rest;
    }

-- the figures of a number, at most 20, as the last bytes of a buffer of 20
pub adds_number : {t u : Text} {x : Figures} {n : ℕ} → FiguresOf n x → Adds t (take (20 - x.at) (drop x.at x.bytes)) u → Adds t (decimal n) u × (u.len ≤ t.len + 20)
adds_number {t} {u} {x} {n} f p =
    let l : length (drop x.at x.bytes) ≡ 20 - x.at = rw (length-drop, f.long) in
    let e : take (20 - x.at) (drop x.at x.bytes) ≡ decimal n = take_all (20 - x.at) (drop x.at x.bytes) (omega arith) ∙ f.figures_are in
    let m : length (decimal n) ≡ 20 - x.at = ap length (sym f.figures_are) ∙ l in
    let q : Adds t (decimal n) u = rw e at p in
    (q, omega (arith, q.length_is))

pub adds_line : {t a b u : Text} {word : List ℕ} (n : ℕ) → Adds t word a → Adds a (decimal n) b × (b.len ≤ a.len + 20) → Adds b (10 ∷ []) u →
    Adds t (number_line word n) u × (u.len ≤ t.len + length word + 21)
unfolding number_line
adds_line n p q r = (adds_both p (adds_both q.0 r), omega (arith, p.length_is, q.1, r.length_is))

pub adds_pair : {t a b d e u : Text} {word : List ℕ} (m n : ℕ) → Adds t word a → Adds a (decimal m) b × (b.len ≤ a.len + 20) → Adds b (32 ∷ []) d →
    Adds d (decimal n) e × (e.len ≤ d.len + 20) → Adds e (10 ∷ []) u → Adds t (pair_line word m n) u × (u.len ≤ t.len + length word + 42)
unfolding pair_line
adds_pair m n p q r s w =
    (adds_both p (adds_both q.0 (adds_both r (adds_both s.0 w))), omega (arith, p.length_is, q.1, r.length_is, s.1, w.length_is))
