-- Books of Example A pooled, computed: what is answered, the causes in their order, and the exact figure of given picks.
use Rattle.std.specs.Prelude.{◌≡◌, refl, true, false, [], ◌∷◌}
use Rattle.std.proofs.Common.{arith}
use Rattle.setchain.specs.Sums.{at, sum_to, only_if}
use Rattle.setchain.specs.Tests.{any_below}
use Rattle.setchain.specs.Fractions.{◌≈◌, sum_fractions}
use Rattle.setchain.specs.Step.{capacity_before, fill_row, step_figure}
use Rattle.setchain.specs.Years.{years_figure}
use Rattle.setchain.specs.Picks.{product, exact_mean, exact_total}
use Rattle.setchain.proofs.Laws.Sums.{below_two}
use Rattle.setchain.proofs.Examples.{picks_a}
use Rattle.setchain.proofs.DistanceExamples.{fraction}
use Rattle.scheme.specs.Tables.{tab}
use Rattle.scheme.specs.Cause.{size_out, start_out, horizon_out, rule_out, band_out, sum_out, premium_out, cause_of}
use Rattle.scheme.proofs.Examples.{scheme_a, single}
use Rattle.book_spec.specs.Book.{count_out, no_chamber}
use Rattle.bounds_spec.specs.Answers.{Answered, Refused}
use Rattle.bounds_spec.specs.Pooled.{Figure, pooled_answer, pooled_lengths_cause, pooled_sheet_cause, pooled_shares, exact_of, OneChamber}

-- Two chambers in class 1 and one in class 2, with junk beyond; three and four. In year 2 class 1 has shares of .9425 to 1 and class 2 of .92 to .99 of class 1,
-- means of 10000.0 to 10287.5 and of 10050.0 to 10400.0 cents. Rounded to cents before they are pooled, the high mean would be 10326.
pub record PooledA : Type 0 where
  pub share1 : pooled_answer scheme_a (2 ∷ 1 ∷ 4294967295 ∷ []) (Figure.share 1) 2 ≡ Answered 935000000 996666667
  pub share2 : pooled_answer scheme_a (2 ∷ 1 ∷ 4294967295 ∷ []) (Figure.share 2) 2 ≡ Answered 3333333 65000000
  pub other_book : pooled_answer scheme_a (3 ∷ 4 ∷ []) (Figure.share 1) 2 ≡ Answered 929642857 994285715
  pub year0 : pooled_answer scheme_a (3 ∷ 4 ∷ []) (Figure.share 1) 0 ≡ Answered 428571428 428571429
  pub year1 : pooled_answer scheme_a (3 ∷ 4 ∷ []) (Figure.share 1) 1 ≡ Answered 864285714 942857143
  pub mean : pooled_answer scheme_a (2 ∷ 1 ∷ 4294967295 ∷ []) Figure.mean 2 ≡ Answered 10016 10325
  pub total : pooled_answer scheme_a (2 ∷ 1 ∷ 4294967295 ∷ []) Figure.total 2 ≡ Answered 21833 22167
  pub most_of_both : pooled_answer scheme_a (1000000 ∷ 1000000 ∷ []) Figure.total 2 ≡ Answered 22750 23125
  pub lows : pooled_shares false scheme_a (3 ∷ 4 ∷ []) 1 ≡ 864285714 ∷ 57142857 ∷ []
  pub highs : pooled_shares true scheme_a (3 ∷ 4 ∷ []) 1 ≡ 942857143 ∷ 135714286 ∷ []

pub pooled_a : PooledA
unfolding pooled_answer pooled_shares tab count_out no_chamber cause_of size_out start_out horizon_out rule_out band_out sum_out premium_out any_below years_figure step_figure fill_row capacity_before sum_to only_if
pooled_a =
    record { share1 = refl; share2 = refl; other_book = refl; year0 = refl; year1 = refl; mean = refl; total = refl; most_of_both = refl; lows = refl; highs = refl }

-- Each cause before the next: of the scheme, the class, the year, a count above the limit, no chamber, slices of another length.
pub record PooledCauses : Type 0 where
  pub scheme : pooled_answer (single 2 0 1000000000 0) (1000001 ∷ []) (Figure.share 3) 101 ≡ Refused 7
  pub class : pooled_answer scheme_a (1000001 ∷ []) (Figure.share 3) 3 ≡ Refused 11
  pub year : (pooled_answer scheme_a (1000001 ∷ []) (Figure.share 2) 3 ≡ Refused 12) × (pooled_answer scheme_a [] Figure.mean 3 ≡ Refused 12) × (pooled_answer scheme_a [] Figure.total 3 ≡ Refused 12)
  pub count : (pooled_answer scheme_a (0 ∷ 1000001 ∷ []) (Figure.share 2) 2 ≡ Refused 18) × (pooled_answer scheme_a (0 ∷ 1000001 ∷ []) Figure.mean 2 ≡ Refused 18)
  pub empty : (pooled_answer scheme_a (0 ∷ 0 ∷ 1 ∷ []) (Figure.share 2) 2 ≡ Refused 19) × (pooled_answer scheme_a (0 ∷ 0 ∷ 1 ∷ []) Figure.total 2 ≡ Refused 19)
  pub sheet_year : pooled_lengths_cause scheme_a (1000001 ∷ []) 3 2 3 ≡ 12
  pub sheet_count : pooled_lengths_cause scheme_a (1000001 ∷ []) 2 2 3 ≡ 18
  pub sheet_empty : pooled_lengths_cause scheme_a (0 ∷ 0 ∷ 1 ∷ []) 2 2 3 ≡ 19
  pub sheet_slices : (pooled_lengths_cause scheme_a (1 ∷ []) 2 2 3 ≡ 13) × (pooled_sheet_cause scheme_a (1 ∷ []) 2 (7 ∷ []) (7 ∷ 7 ∷ []) ≡ 13)
      × (pooled_sheet_cause scheme_a (1 ∷ []) 2 (7 ∷ 7 ∷ []) (7 ∷ []) ≡ 13)
  pub sheet_none : pooled_sheet_cause scheme_a (1 ∷ 0 ∷ 1000001 ∷ []) 2 (7 ∷ 7 ∷ []) (7 ∷ 7 ∷ []) ≡ 0

pub pooled_causes : PooledCauses
unfolding pooled_answer pooled_sheet_cause count_out no_chamber cause_of size_out start_out horizon_out rule_out band_out sum_out premium_out any_below sum_to
pooled_causes =
    record {
      scheme = refl;
      class = refl;
      year = (refl, refl, refl);
      count = (refl, refl);
      empty = (refl, refl);
      sheet_year = refl;
      sheet_count = refl;
      sheet_empty = refl;
      sheet_slices = (refl, refl, refl);
      sheet_none = refl;
    }

-- With the same two matrices for both classes, class 1 has 19/20 of class 1 and class 2 has 163/175: of two chambers and one, 991/1050.
-- Their means are 10250 and 72400/7, their totals 20000 and 26000.
pub record ExactA : Type 0 where
  pub share : exact_of scheme_a (2 ∷ 1 ∷ []) (Figure.share 1) picks_a ≈ fraction 991000000000 1050
  pub mean : exact_of scheme_a (2 ∷ 1 ∷ []) Figure.mean picks_a ≈ fraction 215900 21
  pub total : exact_of scheme_a (2 ∷ 1 ∷ []) Figure.total picks_a ≈ fraction 22000 1

pub exact_a : ExactA
unfolding exact_mean exact_total product sum_fractions sum_to only_if
exact_a = record { share = refl; mean = refl; total = refl }

-- Example A starts in class 2: one chamber there and none in class 1, whatever lies beyond; not one in class 1, not two, not one in each.
pub one_chambers :
    OneChamber scheme_a (0 ∷ 1 ∷ 9 ∷ []) × ¬ OneChamber scheme_a (1 ∷ 0 ∷ []) × ¬ OneChamber scheme_a (0 ∷ 2 ∷ []) × ¬ OneChamber scheme_a (1 ∷ 1 ∷ [])
one_chambers = (
  record { own = refl; others = λ i l h. below_two (λ i. (i ≡ 1 → ⊥) → at (0 ∷ 1 ∷ 9 ∷ []) i ≡ 0) (λ h. refl) (λ h. absurd (h refl)) i l h },
  λ w. omega (arith, w.own),
  λ w. omega (arith, w.own),
  λ w. omega (arith, w.others 0 (omega arith) (λ e. omega arith)),
)
