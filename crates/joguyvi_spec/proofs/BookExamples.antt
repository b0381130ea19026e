-- Lent books with Example A's record and without one, computed: numbers, what the calls may answer and leave, and what not.
use Rattle.std.specs.Prelude.{ℕ, ◌≡◌, refl, List, [], ◌∷◌, get_or, replicate}
use Rattle.std.proofs.Common.{ap, sym, ◌∙◌, subst, arith}
use Rattle.setchain.specs.Sums.{sum_to, only_if}
use Rattle.setchain.specs.Tests.{any_below}
use Rattle.setchain.specs.Fractions.{sum_fractions}
use Rattle.setchain.specs.Step.{capacity_before, fill_row, step_figure}
use Rattle.setchain.specs.Years.{years_figure}
use Rattle.scheme.specs.Tables.{tab}
use Rattle.scheme.specs.Cause.{size_out, start_out, horizon_out, rule_out, band_out, sum_out, premium_out, cause_of}
use Rattle.scheme.specs.Stored.{up_to, scheme_of}
use Rattle.scheme.proofs.Examples.{padded}
use Rattle.big_endian_spec.specs.Numbers.{be_at}
use Rattle.record_spec.specs.Layout.{layout_of}
use Rattle.record_spec.specs.Read.{frame_cause}
use Rattle.record_spec.proofs.Examples.{example_a, scheme_a_lem}
use Rattle.book_spec.specs.Book.{count_out, no_chamber, joined_book, join_cause, join_answer}
use Rattle.bounds_spec.specs.Answers.{Answered}
use Rattle.bounds_spec.specs.Pooled.{Figure, pooled_answer, pooled_sheet_cause, pooled_shares, PooledKept}
use Rattle.bounds_spec.proofs.PooledPromiseExamples.{forbidden_pooled}
use Rattle.bounds_spec.proofs.Laws.Pooled.{pooled_kept, pooled_sheet_kept}
use Rattle.joguyvi_spec.specs.Buffers.{first32}
use Rattle.joguyvi_spec.specs.Figures.{put_number, low_and_high}
use Rattle.joguyvi_spec.specs.Books.{lent_answer, PooledCall, PooledSheetCall, JoinCall}
use Rattle.joguyvi_spec.proofs.Examples.{two, three, in_a, after_a, lent_a, short_a}
use Rattle.joguyvi_spec.proofs.Laws.Figures.{bounds_call}
use Rattle.joguyvi_spec.proofs.Laws.Books.{lent_kept}

-- Low and high of Example A's record over a lent book, from those of its scheme.
put_a : (figure : Figure) {low high : ℕ} → pooled_answer in_a (first32 lent_a) figure 2 ≡ Answered low high → PooledCall figure example_a lent_a 2 two 0 (low ∷ high ∷ [])
unfolding put_number
put_a figure {low} {high} e =
    let answer = pooled_answer in_a (first32 lent_a) figure 2 in
    let lent : lent_answer lent_a answer ≡ Answered low high = ap (lent_answer lent_a) e in
    bounds_call example_a two (lent_kept (PooledKept in_a (first32 lent_a) figure 2) lent_a answer (pooled_kept in_a (first32 lent_a) figure 2))
    (record { answer = sym (after_a _ ∙ ap (λ b. put_number b two) lent); filled = sym (ap low_and_high lent) })

-- The pooled share of class 1 in year 2: low, then high, and no 4 parts wider; a class that is none, a year too late, a book of another length, no bytes.
pub pooled_share_calls :
    PooledCall (Figure.share 1) example_a lent_a 2 two 0 (935000000 ∷ 996666667 ∷ []) × ¬ PooledCall (Figure.share 1) example_a lent_a 2 two 0 (934999996 ∷ 996666667 ∷ [])
    × ¬ PooledCall (Figure.share 1) example_a short_a 2 two 0 (935000000 ∷ 996666667 ∷ []) × ¬ PooledCall (Figure.share 1) example_a lent_a 2 three 0 (935000000 ∷ 996666667 ∷ [])
    × PooledCall (Figure.share 1) [] lent_a 2 two 1 two × ¬ PooledCall (Figure.share 1) [] lent_a 2 two 1 (8 ∷ 7 ∷ [])
unfolding layout_of first32 pooled_answer put_number count_out no_chamber frame_cause be_at scheme_of up_to tab cause_of size_out start_out horizon_out rule_out band_out sum_out premium_out any_below
    years_figure step_figure fill_row capacity_before sum_fractions sum_to only_if
pooled_share_calls = (
  put_a (Figure.share 1) refl,
  λ w. forbidden_pooled.share_wide.0 (λ z. subst (λ s. PooledKept s (first32 lent_a) (Figure.share 1) 2 934999996 996666667) scheme_a_lem (w.promise refl)),
  λ w. let e : ◌≡◌ {A = ℕ} 0 13 = w.answer ∙ after_a _ in omega arith,
  λ w. let e : ◌≡◌ {A = ℕ} 0 13 = w.answer ∙ after_a _ in omega arith,
  record { answer = refl; figures = refl; promise = λ z. absurd (omega arith) },
  λ w. let e : ◌≡◌ {A = ℕ} 8 7 = ap (λ l. get_or l 0 0) w.figures in omega arith,
)

-- The pooled mean and total of year 2, and not 2 cents less for their low; not each other's.
pub pooled_money_calls :
    PooledCall Figure.mean example_a lent_a 2 two 0 (10016 ∷ 10325 ∷ []) × ¬ PooledCall Figure.mean example_a lent_a 2 two 0 (10014 ∷ 10325 ∷ [])
    × PooledCall Figure.total example_a lent_a 2 two 0 (21833 ∷ 22167 ∷ []) × ¬ PooledCall Figure.total example_a lent_a 2 two 0 (21831 ∷ 22167 ∷ [])
unfolding layout_of first32 pooled_answer count_out no_chamber frame_cause be_at scheme_of up_to tab cause_of size_out start_out horizon_out rule_out band_out sum_out premium_out any_below
    years_figure step_figure fill_row capacity_before sum_fractions sum_to only_if
pooled_money_calls = (
  put_a Figure.mean refl,
  λ w. forbidden_pooled.mean_wide.0 (λ z. subst (λ s. PooledKept s (first32 lent_a) Figure.mean 2 10014 10325) scheme_a_lem (w.promise refl)),
  put_a Figure.total refl,
  λ w. forbidden_pooled.total_wide.0 (λ z. subst (λ s. PooledKept s (first32 lent_a) Figure.total 2 21831 22167) scheme_a_lem (w.promise refl)),
)

-- The pooled shares of both classes in year 2, each low and each high in its own buffer, and not 4 parts wider; declined, both buffers stay.
abbrev lows_a : List ℕ
lows_a = 935000000 ∷ 3333333 ∷ []

abbrev highs_a : List ℕ
highs_a = 996666667 ∷ 65000000 ∷ []

pub pooled_sheet_calls :
    PooledSheetCall example_a lent_a 2 two two 0 lows_a highs_a × ¬ PooledSheetCall example_a lent_a 2 two two 0 highs_a highs_a × ¬ PooledSheetCall example_a lent_a 2 two two 0 lows_a lows_a
    × ¬ PooledSheetCall example_a lent_a 2 two two 0 (934999996 ∷ 3333333 ∷ []) highs_a × PooledSheetCall example_a short_a 2 two two 13 two two
    × ¬ PooledSheetCall example_a short_a 2 two two 13 lows_a two × ¬ PooledSheetCall example_a short_a 2 two two 13 two highs_a × PooledSheetCall [] short_a 2 two two 1 two two
    × ¬ PooledSheetCall [] short_a 2 two two 13 two two × PooledSheetCall [] short_a 2 two three 1 two three
unfolding layout_of first32 pooled_sheet_cause pooled_shares count_out no_chamber frame_cause be_at scheme_of up_to tab cause_of size_out start_out horizon_out rule_out band_out sum_out premium_out any_below
    years_figure step_figure fill_row capacity_before sum_fractions sum_to only_if
pooled_sheet_calls = (
  record { answer = sym (after_a _); lows = refl; highs = refl; promise = pooled_sheet_kept in_a (first32 lent_a) 2 two two },
  λ w. let e : ◌≡◌ {A = ℕ} 996666667 935000000 = ap (λ l. get_or l 0 0) w.lows in omega arith,
  λ w. let e : ◌≡◌ {A = ℕ} 935000000 996666667 = ap (λ l. get_or l 0 0) w.highs in omega arith,
  λ w. let e : ◌≡◌ {A = ℕ} 934999996 935000000 = ap (λ l. get_or l 0 0) w.lows in omega arith,
  record { answer = sym (after_a _); lows = refl; highs = refl; promise = λ z. absurd (omega arith) },
  λ w. let e : ◌≡◌ {A = ℕ} 935000000 7 = ap (λ l. get_or l 0 0) w.lows in omega arith,
  λ w. let e : ◌≡◌ {A = ℕ} 996666667 7 = ap (λ l. get_or l 0 0) w.highs in omega arith,
  record { answer = refl; lows = refl; highs = refl; promise = λ z. absurd (omega arith) },
  λ w. omega (arith, w.answer),
  record { answer = refl; lows = refl; highs = refl; promise = λ z. absurd (omega arith) },
)

-- Two books joined: 32 counts each, the sums into a buffer of 32; 18 before 13, which each of the three buffers can bring; declined, the buffer stays.
abbrev sums_a : List ℕ
sums_a = padded 30 (4 ∷ 2 ∷ [])

abbrev full : List ℕ
full = padded 30 (1000000 ∷ 0 ∷ [])

pub join_calls :
    JoinCall lent_a lent_a (replicate 32 7) 0 sums_a × ¬ JoinCall lent_a lent_a (replicate 32 7) 0 lent_a × JoinCall full lent_a (replicate 32 7) 18 (replicate 32 7)
    × ¬ JoinCall full lent_a (replicate 32 7) 18 sums_a × ¬ JoinCall full lent_a (replicate 32 7) 0 (padded 30 (1000002 ∷ 1 ∷ [])) × JoinCall full short_a two 18 two
    × JoinCall lent_a short_a (replicate 32 7) 13 (replicate 32 7) × JoinCall short_a lent_a (replicate 32 7) 13 (replicate 32 7) × JoinCall lent_a lent_a two 13 two
    × ¬ JoinCall lent_a lent_a two 0 sums_a
unfolding first32 join_answer join_cause joined_book count_out any_below tab
join_calls = (
  record { answer = refl; filled = refl },
  λ w. let e : ◌≡◌ {A = ℕ} 2 4 = ap (λ l. get_or l 0 0) w.filled in omega arith,
  record { answer = refl; filled = refl },
  λ w. let e : ◌≡◌ {A = ℕ} 4 7 = ap (λ l. get_or l 0 0) w.filled in omega arith,
  λ w. omega (arith, w.answer),
  record { answer = refl; filled = refl },
  record { answer = refl; filled = refl },
  record { answer = refl; filled = refl },
  record { answer = refl; filled = refl },
  λ w. omega (arith, w.answer),
)
