-- What the Frank-Wolfe method reaches, as one record of statements, which proofs/Theorem.antt proves for every space, vertices and target u.
-- E = |r|² with r = y - W u is W² times the run's squared distance, Q = |ρ|² with ρ = z - N u is N² times a mixture's. Assumes nothing.
use Rattle.std.specs.Prelude.{ℕ, suc, ◌+◌, ◌*◌, ◌≤◌, ℤ, pos, ◌+ℤ◌, ◌-ℤ◌, ◌*ℤ◌, ◌≤ℤ◌, ◌<ℤ◌}
use Rattle.frank_wolfe.specs.Method.{Space, squared_distance, Plus, Residual, Zero, Mixture, Diameter, Argmin, Gap, total, Run, Sequence}

-- a mixture of n shares that a run is compared with: z is its sum, ρ = z - n u
pub record Compared (S : Space) (Vertex : S.Vec → Type 0) (u : S.Vec) (n : ℕ) (z ρ : S.Vec) : Type 0 where
  pub mixture : Mixture S Vertex n z
  pub residual : Residual S z (pos n) u ρ

-- among the steps 1 to k of a run with shares 1, 2, 3, .. one whose G = <r, y - W s> has 4 (k + 2) G ≤ 27 D² W²
pub record SmallGap (S : Space) (d : ℤ) (y r s : ℕ → S.Vec) (k : ℕ) : Type 0 where
  pub at : ℕ
  pub some_step : 1 ≤ at
  pub most_steps : at ≤ k
  pub bound :
      (pos 4 *ℤ pos (k + 2) *ℤ (S.inner (r at) (y at) -ℤ pos (total suc at) *ℤ S.inner (r at) (s at))) ≤ℤ (pos 27 *ℤ d *ℤ pos (total suc at * total suc at))

pub record FrankWolfe (S : Space) (Vertex : S.Vec → Type 0) (u : S.Vec) : Type 0 where
  -- ONE STEP with share k, from a mixture of w shares, w above 0: N² w E' ≤ N² (w + k) E + w (w + k) k Q + k² w D² N²
  pub one_step : {w k n : ℕ} {d : ℤ} {y r s y' r' z ρ : S.Vec} →
      Diameter S Vertex d → 1 ≤ w → Mixture S Vertex w y → Residual S y (pos w) u r →
      Argmin S Vertex r s → Plus S y (pos k) s y' → Residual S y' (pos (w + k)) u r' → Compared S Vertex u n z ρ →
      (pos (n * n * w) *ℤ S.inner r' r')
      ≤ℤ (pos (n * n * (w + k)) *ℤ S.inner r r +ℤ pos (w * (w + k) * k) *ℤ S.inner ρ ρ +ℤ pos (k * k * w * (n * n)) *ℤ d)
  -- THE FIRST STEP with share k, from nothing, scored with g = v - u of a vertex v: N² E ≤ k² Q + k² D² N²
  pub first_step : {k n : ℕ} {d : ℤ} {v g s y₀ y r z ρ : S.Vec} →
      Diameter S Vertex d → Vertex v → Residual S v (pos 1) u g →
      Argmin S Vertex g s → Zero S y₀ → Plus S y₀ (pos k) s y → Residual S y (pos k) u r → Compared S Vertex u n z ρ →
      (pos (n * n) *ℤ S.inner r r) ≤ℤ (pos (k * k) *ℤ S.inner ρ ρ +ℤ pos (k * k * (n * n)) *ℤ d)
  -- THE STEP BOUND, for the shares 1, 2, 3, ..: E / W² - Q / N² ≤ 4 D² / (t + 2), multiplied out
  pub step_bound : {t n : ℕ} {d : ℤ} {y r z ρ : S.Vec} →
      Diameter S Vertex d → Run S Vertex u suc t y → Residual S y (pos (total suc t)) u r → Compared S Vertex u n z ρ →
      (S.inner r r *ℤ pos (n * n) *ℤ pos (t + 2))
      ≤ℤ (S.inner ρ ρ *ℤ pos (total suc t * total suc t) *ℤ pos (t + 2) +ℤ pos 4 *ℤ d *ℤ pos (total suc t * total suc t) *ℤ pos (n * n))
  -- THE BOUND FOR ANY SHARES a, none of whose squares is above twice the total that includes it: E / W² - Q / N² ≤ 2 D² t / W
  pub table_bound : {t n : ℕ} {d : ℤ} {y r z ρ : S.Vec} {a : ℕ → ℕ} →
      1 ≤ a 0 → ((k : ℕ) → a k * a k ≤ 2 * total a (suc k)) →
      Diameter S Vertex d → Run S Vertex u a t y → Residual S y (pos (total a t)) u r → Compared S Vertex u n z ρ →
      (S.inner r r *ℤ pos (n * n))
      ≤ℤ (S.inner ρ ρ *ℤ pos (total a t * total a t) +ℤ pos 2 *ℤ d *ℤ pos t *ℤ pos (total a t) *ℤ pos (n * n))
  -- THE GAP BOUND, of any point y / w: E / w² - Q / N² ≤ 2 G / w²
  pub gap_bound : {w n : ℕ} {γ : ℤ} {y r z ρ : S.Vec} →
      Residual S y (pos w) u r → Gap S Vertex y (pos w) r γ → Compared S Vertex u n z ρ →
      (S.inner r r *ℤ pos (n * n)) ≤ℤ (S.inner ρ ρ *ℤ pos (w * w) +ℤ pos 2 *ℤ γ *ℤ pos (n * n))
  -- BEYOND: where E - 2 G is above τ w², every mixture's squared distance is above τ
  pub beyond : {w n : ℕ} {γ : ℤ} {y r z ρ : S.Vec} (τ : ℤ) →
      Residual S y (pos w) u r → Gap S Vertex y (pos w) r γ → Compared S Vertex u n z ρ → 1 ≤ n →
      (τ *ℤ pos (w * w) +ℤ pos 2 *ℤ γ) <ℤ S.inner r r → (τ *ℤ pos (n * n)) <ℤ S.inner ρ ρ
  -- THE SHARPER BEYOND: where E is above G, and (E - G)² above τ w² E, every mixture's squared distance is above τ
  pub sharper_beyond : {w n : ℕ} {γ : ℤ} {y r z ρ : S.Vec} (τ : ℤ) →
      Residual S y (pos w) u r → Gap S Vertex y (pos w) r γ → Compared S Vertex u n z ρ → 1 ≤ n → pos 0 ≤ℤ γ →
      γ <ℤ S.inner r r → (τ *ℤ pos (w * w) *ℤ S.inner r r) <ℤ ((S.inner r r -ℤ γ) *ℤ (S.inner r r -ℤ γ)) →
      (τ *ℤ pos (n * n)) <ℤ S.inner ρ ρ
  -- SPENT: where E is at least τ W², every mixture's squared distance is at least τ less 4 D² / (t + 2)
  pub spent : {t n : ℕ} {d : ℤ} {y r z ρ : S.Vec} (τ : ℤ) →
      Diameter S Vertex d → 1 ≤ t → Run S Vertex u suc t y → Residual S y (pos (total suc t)) u r → Compared S Vertex u n z ρ →
      (τ *ℤ pos (total suc t * total suc t)) ≤ℤ S.inner r r →
      (τ *ℤ pos (n * n) *ℤ pos (t + 2)) ≤ℤ (S.inner ρ ρ *ℤ pos (t + 2) +ℤ pos 4 *ℤ d *ℤ pos (n * n))
  -- THE GAP IS NOT NEGATIVE at a mixture of shares of a total above 0, whatever r is
  pub gap_nonnegative : {w : ℕ} {γ : ℤ} {y r : S.Vec} → 1 ≤ w → Mixture S Vertex w y → Gap S Vertex y (pos w) r γ → pos 0 ≤ℤ γ
  -- HOW LARGE E CAN BE: where no vertex is farther from u than d, E is at most w² d
  pub residual_bound : {w : ℕ} {d : ℤ} {y r : S.Vec} →
      1 ≤ w → Mixture S Vertex w y → ((v : S.Vec) → Vertex v → squared_distance S u v ≤ℤ d) → Residual S y (pos w) u r →
      S.inner r r ≤ℤ (pos (w * w) *ℤ d)
  -- HOW LARGE G CAN BE: where no vertex is farther than d from u nor from the vertex v, <r, y - w v> is at most w² d
  pub score_bound : {w : ℕ} {d : ℤ} {y r : S.Vec} (v : S.Vec) →
      1 ≤ w → Mixture S Vertex w y → ((x : S.Vec) → Vertex x → squared_distance S u x ≤ℤ d) → ((x : S.Vec) → Vertex x → squared_distance S v x ≤ℤ d) →
      Residual S y (pos w) u r → (S.inner r y -ℤ pos w *ℤ S.inner r v) ≤ℤ (pos (w * w) *ℤ d)
  -- THE DESCENT of a step with share k towards a vertex s, from a mixture of w shares: w² E' + 2 k (w + k) <r, y - w s> ≤ (w + k)² E + k² w² D²
  pub descent : {w k : ℕ} {d : ℤ} {y r s y' r' : S.Vec} →
      Diameter S Vertex d → 1 ≤ w → Mixture S Vertex w y → Residual S y (pos w) u r → Vertex s → Plus S y (pos k) s y' → Residual S y' (pos (w + k)) u r' →
      (pos (w * w) *ℤ S.inner r' r' +ℤ pos (2 * k * (w + k)) *ℤ (S.inner r y -ℤ pos w *ℤ S.inner r s))
      ≤ℤ (pos ((w + k) * (w + k)) *ℤ S.inner r r +ℤ pos (k * k * (w * w)) *ℤ d)
  -- HOW SMALL THE GAP GETS within k steps, k at least 2, of the shares 1, 2, 3, ..
  pub small_gap : {d : ℤ} {y r s : ℕ → S.Vec} (k : ℕ) → 2 ≤ k → Diameter S Vertex d → Sequence S Vertex u suc y r s → SmallGap S d y r s k
