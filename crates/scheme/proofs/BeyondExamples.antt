-- Worked cases of schemes with the same values: Example A with one value changed, and Example A with other values beyond s and m.
use Rattle.std.specs.Prelude.{ℕ, zero, suc, ◌<◌, ◌≡◌, refl, [], ◌∷◌, ◌++◌, replicate}
use Rattle.std.proofs.Common.{arith}
use Rattle.setchain.specs.Sums.{sum_to}
use Rattle.setchain.specs.Tests.{any_below}
use Rattle.setchain.proofs.Laws.Sums.{below_two}
use Rattle.scheme.specs.declared.Scheme.{Scheme}
use Rattle.scheme.specs.Tables.{tab}
use Rattle.scheme.specs.Access.{rule_at, lower_at, upper_at, premium_at}
use Rattle.scheme.specs.Cause.{size_out, start_out, horizon_out, rule_out, band_out, sum_out, premium_out, cause_of}
use Rattle.scheme.specs.Stored.{up_to, scheme_of, cleared}
use Rattle.scheme.specs.Values.{SameValues}
use Rattle.scheme.proofs.Examples.{padded, scheme_a}

-- Example A with another size, start or horizon, and other values in its last class and column.
abbrev pub other_a : (classes columns start horizon rule lower upper premium : ℕ) → Scheme
other_a classes columns start horizon rule lower upper premium =
    record {
      classes = classes;
      columns = columns;
      start = start;
      horizon = horizon;
      rules = padded 245 (1 ∷ 1 ∷ 2 ∷ 0 ∷ 0 ∷ 0 ∷ 0 ∷ 0 ∷ 1 ∷ 2 ∷ rule ∷ []);
      lowers = padded 5 (800000000 ∷ 100000000 ∷ lower ∷ []);
      uppers = padded 5 (900000000 ∷ 200000000 ∷ upper ∷ []);
      premiums = padded 30 (10000 ∷ premium ∷ []);
    }

-- One value changed up to s and m: not the same values.
pub record ChangedA : Type 0 where
  pub none : other_a 2 3 2 2 2 0 50000000 15000 ≡ scheme_a
  pub classes : ¬ SameValues scheme_a (other_a 1 3 2 2 2 0 50000000 15000)
  pub columns : ¬ SameValues scheme_a (other_a 2 2 2 2 2 0 50000000 15000)
  pub start : ¬ SameValues scheme_a (other_a 2 3 1 2 2 0 50000000 15000)
  pub horizon : ¬ SameValues scheme_a (other_a 2 3 2 1 2 0 50000000 15000)
  pub rule : ¬ SameValues scheme_a (other_a 2 3 2 2 1 0 50000000 15000)
  pub lower : ¬ SameValues scheme_a (other_a 2 3 2 2 2 1 50000000 15000)
  pub upper : ¬ SameValues scheme_a (other_a 2 3 2 2 2 0 50000001 15000)
  pub premium : ¬ SameValues scheme_a (other_a 2 3 2 2 2 0 50000000 15001)

pub changed_a : ChangedA
changed_a =
    record {
      none = refl;
      classes = λ v. omega (arith, v.others.classes);
      columns = λ v. omega (arith, v.others.columns);
      start = λ v. omega (arith, v.others.start);
      horizon = λ v. omega (arith, v.others.horizon);
      rule = λ v. omega (arith, v.others.rules 1 2 (omega arith) (omega arith));
      lower = λ v. omega (arith, v.lowers 1 2 (omega arith) (omega arith));
      upper = λ v. omega (arith, v.uppers 1 2 (omega arith) (omega arith));
      premium = λ v. omega (arith, v.others.premiums 1 (omega arith));
    }

-- Example A with values that would be refused at every place beyond its two classes and three columns.
abbrev pub stray_a : Scheme
stray_a =
    record {
      classes = 2;
      columns = 3;
      start = 2;
      horizon = 2;
      rules = (1 ∷ 1 ∷ 2 ∷ 9 ∷ 9 ∷ 9 ∷ 9 ∷ 9 ∷ 1 ∷ 2 ∷ 2 ∷ []) ++ replicate 245 9;
      lowers = (800000000 ∷ 100000000 ∷ 0 ∷ []) ++ replicate 5 4000000000;
      uppers = (900000000 ∷ 200000000 ∷ 50000000 ∷ []) ++ replicate 5 3000000000;
      premiums = (10000 ∷ 15000 ∷ []) ++ replicate 30 10000001;
    }

-- They are ignored.
pub accepted_a : cause_of stray_a ≡ 0
unfolding cause_of size_out start_out horizon_out rule_out band_out sum_out premium_out any_below sum_to
accepted_a = refl

-- With 0 for them it is Example A.
pub cleared_a : cleared stray_a ≡ scheme_a
unfolding scheme_of up_to tab
cleared_a = refl

-- What holds for three columns.
pub three : (P : ℕ → Type 0) → P 0 → P 1 → P 2 → (k : ℕ) → k < 3 → P k
three P a b c zero l = a
three P a b c (suc k) l = below_two (λ j. P (suc j)) b c k (omega arith)

-- And its values are Example A's.
pub beyond_a : SameValues stray_a scheme_a
beyond_a =
    record {
      others =
          record {
            classes = refl;
            columns = refl;
            start = refl;
            horizon = refl;
            rules = λ i k l g.
                below_two (λ j. rule_at stray_a j k ≡ rule_at scheme_a j k)
                (three (λ q. rule_at stray_a 0 q ≡ rule_at scheme_a 0 q) refl refl refl k g)
                (three (λ q. rule_at stray_a 1 q ≡ rule_at scheme_a 1 q) refl refl refl k g)
                i l;
            premiums = λ i l. below_two (λ j. premium_at stray_a j ≡ premium_at scheme_a j) refl refl i l;
          };
      lowers = λ i k l g. three (λ q. lower_at stray_a i q ≡ lower_at scheme_a i q) refl refl refl k g;
      uppers = λ i k l g. three (λ q. upper_at stray_a i q ≡ upper_at scheme_a i q) refl refl refl k g;
    }
