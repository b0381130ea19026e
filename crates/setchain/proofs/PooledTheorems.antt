-- Demand 3 for pooled figures (document 02, item 7): for every set-chain with sound rows, any counts that are not all 0, any t and ALL picks,
-- "With the same yearly matrix for the whole book".
use Rattle.std.specs.Prelude.{ℕ, ◌+◌, ◌*◌, ◌≤◌, ◌<◌, Bool, true, false, List}
use Rattle.std.proofs.Common.{subst, arith, le_refl}
use Rattle.setchain.specs.Sums.{sum_to, dot}
use Rattle.setchain.specs.Fractions.{Fraction, whole, ◌⊗◌, Proper}
use Rattle.setchain.specs.Rows.{SetChain, SoundChain}
use Rattle.setchain.specs.Step.{NotAfter}
use Rattle.setchain.specs.Years.{low_share, high_share, CENT, mean_tenths, total_tenths}
use Rattle.setchain.specs.Picks.{Matrix, PicksFor, exact_mean, exact_total}
use Rattle.setchain.specs.Promise.{share_in_parts, NoFurther, Nearer, with_rounding, cent_and_tenths, Closeness, Promise, SomeNear, KeptBy}
use Rattle.setchain.specs.Pooled.{pooled_figure, exact_pooled}
use Rattle.setchain.proofs.Laws.Pooled.{pooled_between, pooled_nearer}
use Rattle.setchain.proofs.Laws.Fractions.{mul_whole_one}
use Rattle.setchain.proofs.Inward.{dot_inward, rounded_inward}
use Rattle.setchain.proofs.Theorems.{share_promise, mean_tenths_lem, total_tenths_lem, exact_proper}

-- Figures that keep a promise in a unit m, pooled and answered outward in wholes, keep it nearer than 1 and d / m, with the same picks.
module _ {c : SetChain} {t : ℕ} (exact : List Matrix → ℕ → Fraction) (count : ℕ → ℕ) (some : 1 ≤ sum_to c.states count) (m : ℕ) (positive : 1 ≤ m) (d : ℕ)
    (proper : (ps : List Matrix) → PicksFor c t ps → (i : ℕ) → i < c.states → Proper (exact ps i)) where
  pooled_close : (side : Bool) {bound : ℕ → ℕ} → Closeness c t (NoFurther (whole d)) bound (λ ps i. exact ps i ⊗ whole m)
      → SomeNear c t (Nearer (with_rounding m (whole d))) (pooled_figure side m c.states count bound) (λ ps. exact_pooled c.states count (exact ps))
  pooled_close side {bound} s =
      record {
        picks = s.picks;
        made = s.made;
        close = pooled_nearer c.states count m (exact s.picks) (proper s.picks s.made) some positive side d bound s.close;
      }

  pub pooled_promise : {low high : ℕ → ℕ} → Promise c t (NoFurther (whole d)) low high (λ ps i. exact ps i ⊗ whole m)
      → KeptBy c t (Nearer (with_rounding m (whole d))) (λ ps. exact_pooled c.states count (exact ps))
      (pooled_figure false m c.states count low) (pooled_figure true m c.states count high)
  pooled_promise {low} {high} k =
      record {
        contains = λ ps picks. pooled_between c.states count m (exact ps) (proper ps picks) some positive low high (k.contains ps picks);
        low_close = pooled_close false k.low_close;
        high_close = pooled_close true k.high_close;
      }

-- A whole more than t, and nearer: no further than t + 1.
within_one_more : {c : SetChain} {t : ℕ} {exact : List Matrix → Fraction} {low high : ℕ} → KeptBy c t (Nearer (with_rounding 1 (whole t))) exact low high
    → KeptBy c t (NoFurther (whole (t + 1))) exact low high
within_one_more {c} {t} {exact} k = record { contains = k.contains; low_close = some_near k.low_close; high_close = some_near k.high_close }
  where
    some_near : {bound : ℕ} → SomeNear c t (Nearer (with_rounding 1 (whole t))) bound exact → SomeNear c t (NoFurther (whole (t + 1))) bound exact
    some_near s =
        record { picks = s.picks; made = s.made; close = record { under = omega (arith, s.close.under); over = omega (arith, s.close.over) } }

module _ (c : SetChain) (sound : SoundChain c) (count : ℕ → ℕ) (some : 1 ≤ sum_to c.states count) (t : ℕ) where
  -- "no picks leave the pooled share bounds, and some come within t + 1 parts".
  pub share_pooled : (j : ℕ)
      → KeptBy c t (NoFurther (whole (t + 1))) (λ ps. exact_pooled c.states count (share_in_parts c.states j ps))
      (pooled_figure false 1 c.states count (low_share c j t)) (pooled_figure true 1 c.states count (high_share c j t))
  share_pooled j =
      within_one_more
      (pooled_promise (share_in_parts c.states j) count some 1 (le_refl 1) t (λ ps picks i l. (exact_proper c sound (λ k. 0) j t ps picks i l).0)
      (subst (Promise c t (NoFurther (whole t)) (low_share c j t) (high_share c j t)) (λ k ps i. mul_whole_one (share_in_parts c.states j ps i) k) (share_promise c sound j t)))

  -- "Money bounds contain likewise, and some picks come nearer than one cent plus t tenths."
  module _ (premium : ℕ → ℕ) where
    pub mean_pooled : KeptBy c t (Nearer (cent_and_tenths t)) (λ ps. exact_pooled c.states count (exact_mean c.states premium ps))
        (pooled_figure false CENT c.states count (mean_tenths false c premium t)) (pooled_figure true CENT c.states count (mean_tenths true c premium t))
    mean_pooled = pooled_promise (exact_mean c.states premium) count some CENT (omega arith) t (λ ps picks i l. (exact_proper c sound premium 0 t ps picks i l).1) (mean_tenths_lem c sound premium t)

    pub total_pooled : KeptBy c t (Nearer (cent_and_tenths t)) (λ ps. exact_pooled c.states count (exact_total c.states premium ps))
        (pooled_figure false CENT c.states count (total_tenths false c premium t)) (pooled_figure true CENT c.states count (total_tenths true c premium t))
    total_pooled = pooled_promise (exact_total c.states premium) count some CENT (omega arith) t (λ ps picks i l. (exact_proper c sound premium 0 t ps picks i l).2) (total_tenths_lem c sound premium t)

-- Pooled figures move inward as the figures of every state do (document 02, item 1), rounding included.
pub pooled_inward : (high : Bool) (m n : ℕ) (count f g : ℕ → ℕ) → ((j : ℕ) → j < n → NotAfter high (f j) (g j))
    → NotAfter high (pooled_figure high m n count f) (pooled_figure high m n count g)
pooled_inward high m n count f g h = rounded_inward high (m * sum_to n count) (dot n count f) (dot n count g) (dot_inward high n count f g h)
