-- Worked cases of trimmed schemes: Example A with narrower bands, and pairs that are not trimmed.
use Rattle.std.specs.Prelude.{ℕ, ◌≤◌, ◌≡◌, refl, List, [], ◌∷◌, ◌++◌, replicate}
use Rattle.std.proofs.Common.{arith}
use Rattle.setchain.specs.Sums.{sum_to}
use Rattle.setchain.specs.Tests.{any_below}
use Rattle.scheme.specs.declared.Scheme.{Scheme}
use Rattle.scheme.specs.Access.{lower_at, upper_at}
use Rattle.scheme.specs.Cause.{size_out, start_out, horizon_out, rule_out, band_out, sum_out, premium_out, cause_of}
use Rattle.scheme.specs.Values.{SameButBands, Trimmed}
use Rattle.scheme.proofs.Examples.{scheme_a}
use Rattle.scheme.proofs.BeyondExamples.{other_a, stray_a, three, beyond_a}
use Rattle.scheme.proofs.Laws.Values.{same_back}

-- Three ends, and beyond them five that would be refused.
abbrev ends : ℕ → ℕ → ℕ → List ℕ
ends a b c = (a ∷ b ∷ c ∷ []) ++ replicate 5 4000000000

-- Example A with other bands, and values beyond its two classes and three columns that would be refused.
abbrev pub bands_a : (lowers uppers : List ℕ) → Scheme
bands_a lowers uppers =
    record {
      classes = 2;
      columns = 3;
      start = 2;
      horizon = 2;
      rules = stray_a.rules;
      lowers = lowers;
      uppers = uppers;
      premiums = stray_a.premiums;
    }

-- The last column's band, 0 to .05, trimmed to .01 to .04.
abbrev pub narrow_a : Scheme
narrow_a = bands_a (ends 800000000 100000000 10000000) (ends 900000000 200000000 40000000)

-- The second column's band, .1 to .2, trimmed to .1 to .15. From class 2 the upper entry of class 2 falls from .25 to .2, and no row can have more there,
-- since the first column leads at least.8 to class 1; from class 1 the upper entry of class 1 stays ONE.
abbrev pub unchanged_a : Scheme
unchanged_a = bands_a (ends 800000000 100000000 0) (ends 900000000 150000000 50000000)

-- All but the bands is Example A's.
others_a : (lowers uppers : List ℕ) → SameButBands scheme_a (bands_a lowers uppers)
others_a lowers uppers =
    let v = (same_back beyond_a).others in
    record { classes = refl; columns = refl; start = refl; horizon = refl; rules = v.rules; premiums = v.premiums }

-- Example A against narrower bands, the other way, and with one end or one premium free.
pub record TrimmedA : Type 0 where
  pub narrow_accepted : cause_of narrow_a ≡ 0
  pub unchanged_accepted : cause_of unchanged_a ≡ 0
  pub narrow : Trimmed scheme_a narrow_a
  pub unchanged : Trimmed scheme_a unchanged_a
  pub turned : ¬ Trimmed narrow_a scheme_a
  pub lower_free : ¬ Trimmed narrow_a (bands_a (ends 800000000 100000000 0) (ends 900000000 200000000 40000000))
  pub upper_free : ¬ Trimmed narrow_a (bands_a (ends 800000000 100000000 10000000) (ends 900000000 200000000 50000000))
  pub premium : ¬ Trimmed scheme_a (other_a 2 3 2 2 2 0 50000000 15001)

pub trimmed_a : TrimmedA
unfolding cause_of size_out start_out horizon_out rule_out band_out sum_out premium_out any_below sum_to
trimmed_a =
    record {
      narrow_accepted = refl;
      unchanged_accepted = refl;
      narrow =
          record {
            others = others_a _ _;
            lowers = λ i k l g. three (λ q. lower_at scheme_a i q ≤ lower_at narrow_a i q) (omega arith) (omega arith) (omega arith) k g;
            uppers = λ i k l g. three (λ q. upper_at narrow_a i q ≤ upper_at scheme_a i q) (omega arith) (omega arith) (omega arith) k g;
          };
      unchanged =
          record {
            others = others_a _ _;
            lowers = λ i k l g. three (λ q. lower_at scheme_a i q ≤ lower_at unchanged_a i q) (omega arith) (omega arith) (omega arith) k g;
            uppers = λ i k l g. three (λ q. upper_at unchanged_a i q ≤ upper_at scheme_a i q) (omega arith) (omega arith) (omega arith) k g;
          };
      turned = λ h. omega (arith, h.lowers 1 2 (omega arith) (omega arith));
      lower_free = λ h. omega (arith, h.lowers 1 2 (omega arith) (omega arith));
      upper_free = λ h. omega (arith, h.uppers 1 2 (omega arith) (omega arith));
      premium = λ h. omega (arith, h.others.premiums 1 (omega arith));
    }
