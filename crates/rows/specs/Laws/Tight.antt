-- The loop that makes a row tight, the tight row of 32 entries, and the row operation over them.
use Rattle.std.specs.Prelude.{ℕ, min, max, ◌+◌, ◌-◌, ◌≤◌, ◌<◌, ◌≡◌, refl, List, ◌++◌, ltb, length, set, take, drop}
use Rattle.std.proofs.Math.Path.{ap}
use Rattle.std.proofs.Common.{ap₂, sym, ◌∙◌, subst, length-take, get_or-set_other, length-take-le, get_or-take, arith, below_none}
use Rattle.std.proofs.Math.ListN.{get_or-eq_default}
use Rattle.std.proofs.Math.Decide.{dec_lt}
use Rattle.setchain.specs.Sums.{at, sum_to, only_if}
use Rattle.setchain.specs.Rows.{ONE, IntervalRow, lists_row}
use Rattle.setchain.specs.Tight.{sum_others, tight_row}
use Rattle.setchain.proofs.Laws.Agreeing.{Agree}
use Rattle.setchain.proofs.Laws.Tight.{others_and_own, tight_lower, tight_upper, tight_agrees}
use Rattle.scheme.specs.declared.Scheme.{Scheme}
use Rattle.scheme.specs.RowAnswer.{RowAnswer}
use Rattle.scheme.specs.Tables.{tab}
use Rattle.scheme.specs.Accepted.{Accepted}
use Rattle.scheme.specs.Cause.{cause_of, class_cause}
use Rattle.scheme.specs.Rows.{chain_of}
use Rattle.scheme.specs.RowAnswer.{row_cause, row_refused, row_answered, interval_at, interval_answer, row_at, row_answer}
use Rattle.scheme.specs.SumByTarget.{Capped}
use Rattle.scheme.proofs.Laws.FirstCause.{first_none, second_none, declined, answered}
use Rattle.scheme.proofs.Laws.Cause.{class_fits}
use Rattle.scheme.proofs.Laws.Judged.{accepted_cause}
use Rattle.scheme.proofs.Laws.Sound.{accepted_sound}
use Rattle.scheme.proofs.Laws.Tab.{tab_eq}
use Rattle.scheme.proofs.Laws.Filled.{Filled, fill_more, fill_all}
use Rattle.scheme.proofs.Laws.RowAnswer.{interval_number, answered_size, answered_agrees, answered_beyond, answered_same}
use Rattle.rows.specs.Rows.{TightPre, TightPost, TightenedPre}
use Rattle.rows.specs.Laws.Front.{joined_rule}

-- One of the two lists: its first j entries are the rule's, and the others as they were.
pub record Passed (rule : ℕ → ℕ) (before : List ℕ) (j : ℕ) (now : List ℕ) : Type 0 where
  pub filled : Filled (length before) rule j now
  pub rest : (k : ℕ) → j ≤ k → at now k ≡ at before k

passed_none : (rule : ℕ → ℕ) (before : List ℕ) → Passed rule before 0 before
passed_none rule before = record { filled = record { long = refl; done = below_none _ }; rest = λ k l. refl }

passed_more : (rule : ℕ → ℕ) (before : List ℕ) (j : ℕ) (now : List ℕ) (v : ℕ) → j < length before → v ≡ rule j → Passed rule before j now → Passed rule before (j + 1) (set now j v)
passed_more rule before j now v l e w =
    record {
      filled = fill_more (length before) rule j now v l e w.filled;
      rest = λ k g. get_or-set_other now j k v 0 (λ q. omega arith) ∙ w.rest k (omega arith);
    }

-- Both lists, by the tight row of what they held.
pub record Tightened (lower upper : List ℕ) (j : ℕ) (lower' upper' : List ℕ) : Type 0 where
  pub lowers : Passed (tight_row (length lower) (lists_row lower upper)).lower lower j lower'
  pub uppers : Passed (tight_row (length lower) (lists_row lower upper)).upper upper j upper'

pub tight_none : (lower upper : List ℕ) → Tightened lower upper 0 lower upper
tight_none lower upper = record { lowers = passed_none _ lower; uppers = passed_none _ upper }

-- One entry more, from what the lists hold there and from the sums of what they held.
module _ {lower upper : List ℕ} (sizes : length upper ≡ length lower) {j : ℕ} {lower' upper' : List ℕ} (l : j < length lower) (w : Tightened lower upper j lower' upper') where
  -- A sum without the entry at j is that of the others.
  others : (before now : List ℕ) (sum : ℕ) → sum ≡ sum_to (length lower) (at before) → at now j ≡ at before j → sum - at now j ≡ sum_others (length lower) (at before) j
  others before now sum e held = omega (arith, others_and_own (length lower) (at before) j l)

  pub tight_more : {lowerSum upperSum least most : ℕ} → lowerSum ≡ sum_to (length lower) (at lower) → upperSum ≡ sum_to (length upper) (at upper)
      → least ≡ max (at lower' j) (ONE - (upperSum - at upper' j))
      → most ≡ min (at upper' j) (ONE - (lowerSum - at lower' j))
      → Tightened lower upper (j + 1) (set lower' j least) (set upper' j most)
  tight_more {lowerSum} {upperSum} {least} {most} lowerIs upperIs e g =
      let low = w.lowers.rest j (omega arith) in
      let up = w.uppers.rest j (omega arith) in
      let upperOthers = others upper upper' upperSum (upperIs ∙ ap (λ k. sum_to k (at upper)) sizes) up in
      let lowerOthers = others lower lower' lowerSum lowerIs low in
      record {
        lowers = passed_more _ lower j lower' least l (e ∙ ap₂ (λ x y. max x (ONE - y)) low upperOthers ∙ sym (tight_lower (length lower) (lists_row lower upper) j l)) w.lowers;
        uppers =
            passed_more _ upper j upper' most (omega arith) (g ∙ ap₂ (λ x y. min x (ONE - y)) up lowerOthers ∙ sym (tight_upper (length lower) (lists_row lower upper) j l)) w.uppers;
      }

pub tight_all : {lower upper : List ℕ} {j : ℕ} {lower' upper' : List ℕ} → length upper ≡ length lower → length lower ≤ j → Tightened lower upper j lower' upper' → TightPost lower upper lower' upper'
tight_all {lower} {upper} sizes h w =
    record {
      lowers = fill_all _ _ _ _ h w.lowers.filled;
      uppers = fill_all _ _ _ _ (omega arith) w.uppers.filled ∙ ap (λ n. tab n (tight_row (length lower) (lists_row lower upper)).upper) sizes;
    }

-- The fronts of n entries of two lists of 32, made tight, and the rest as it was.
module _ {n : ℕ} {interval : RowAnswer} (pre : TightenedPre n interval) where
  abbrev lower : List ℕ
  lower = interval.lower

  abbrev upper : List ℕ
  upper = interval.upper

  -- A front of either list has n entries.
  pub front : (l : List ℕ) → length l ≡ 32 → length (take n l) ≡ n
  front l size = length-take-le n l (omega (arith, pre.few))

  capped_front : (l : List ℕ) → Capped l → Capped (take n l)
  capped_front l capped j = by (dec_lt j n)
    where
      by : Dec (j < n) → at (take n l) j ≤ ONE
      by (yes k) = omega (arith, get_or-take n l j 0 k, capped j)
      by (no k) = omega (arith, get_or-eq_default (take n l) 0 {n = j} (omega (arith, length-take n l)))

  pub fronts_tighten : TightPre (take n lower) (take n upper)
  fronts_tighten =
      record {
        sizes = front upper pre.upper_size ∙ sym (front lower pre.lower_size);
        few = omega (arith, front lower pre.lower_size, pre.few);
        lowers = capped_front lower pre.lowers;
        uppers = capped_front upper pre.uppers;
      }

  -- The fronts hold the same row.
  same : Agree n (lists_row (take n lower) (take n upper)) (lists_row lower upper)
  same = record { lower = λ j l. get_or-take n lower j 0 l; upper = λ j l. get_or-take n upper j 0 l }

  -- One of the two lists.
  joined : (rule rule' : ℕ → ℕ) (before after : List ℕ) → length before ≡ 32 → ((j : ℕ) → n ≤ j → at before j ≡ 0) → ((j : ℕ) → j < n → rule j ≡ rule' j)
      → after ≡ tab n rule → after ++ drop n before ≡ tab 32 (λ j. only_if (ltb j n) (rule' j))
  joined rule rule' before after size beyond same is =
      joined_rule n rule' before after (omega (arith, pre.few)) beyond (is ∙ tab_eq 0 n rule rule' same)
      ∙ ap (λ m. tab m (λ j. only_if (ltb j n) (rule' j))) size

  pub fronts_tight : {lower' upper' : List ℕ} → TightPost (take n lower) (take n upper) lower' upper'
      → ◌≡◌ {A = RowAnswer} (record { number = 0; lower = lower' ++ drop n lower; upper = upper' ++ drop n upper }) (row_answered n (tight_row n (lists_row lower upper)))
  unfolding row_answered
  fronts_tight {lower'} {upper'} post =
      λ k.
      record {
        number = 0;
        lower = joined _ _ lower lower' pre.lower_size (λ j l. (pre.beyond j l).0) tight.lower (post.lowers ∙ ap (λ m. tab m (tight_row m r).lower) (front lower pre.lower_size)) k;
        upper = joined _ _ upper upper' pre.upper_size (λ j l. (pre.beyond j l).1) tight.upper (post.uppers ∙ ap (λ m. tab m (tight_row m r).upper) (front lower pre.lower_size)) k;
      }
    where
      r : IntervalRow
      r = lists_row (take n lower) (take n upper)

      tight : Agree n (tight_row n r) (tight_row n (lists_row lower upper))
      tight = tight_agrees same

-- The interval row of a class of an accepted scheme.
module _ (s : Scheme) (ok : Accepted s) (i : ℕ) (l : i < s.classes) where
  interval_capped : (j : ℕ) → (at (interval_at s i).lower j ≤ ONE) × (at (interval_at s i).upper j ≤ ONE)
  interval_capped j = by (dec_lt j s.classes)
    where
      by : Dec (j < s.classes) → (at (interval_at s i).lower j ≤ ONE) × (at (interval_at s i).upper j ≤ ONE)
      by (yes g) =
          let same = answered_agrees s.classes ((chain_of s).row i) ok.size.classes in
          let sound = accepted_sound s ok i l in
          omega (arith, same.lower j g, same.upper j g, sound.ordered j g, sound.capped j g)
      by (no g) = let none = answered_beyond s.classes ((chain_of s).row i) j (omega arith) in omega (arith, none.0, none.1)

  pub interval_tightens : TightenedPre s.classes (interval_at s i)
  interval_tightens =
      record {
        few = ok.size.classes;
        lower_size = (answered_size s.classes ((chain_of s).row i)).0;
        upper_size = (answered_size s.classes ((chain_of s).row i)).1;
        lowers = λ j. (interval_capped j).0;
        uppers = λ j. (interval_capped j).1;
        beyond = answered_beyond s.classes ((chain_of s).row i);
      }

  pub interval_tight : row_answered s.classes (tight_row s.classes (lists_row (interval_at s i).lower (interval_at s i).upper)) ≡ row_at s i
  interval_tight = answered_same (tight_agrees (answered_agrees s.classes ((chain_of s).row i) ok.size.classes))

-- The row operation over the interval row of its class.
module _ (s : Scheme) (class : ℕ) {interval : RowAnswer} (is : interval ≡ interval_answer s class) where
  number_is : interval.number ≡ row_cause s class
  number_is = interval_number s class is

  -- A call that is declined.
  pub row_refused_lem : (interval.number ≡ 0 → ⊥) → interval ≡ row_answer s class
  row_refused_lem some =
      let h : row_cause s class ≡ 0 → ⊥ = λ z. some (number_is ∙ z) in
      is
      ∙ declined (row_cause s class) (interval_at s (class - 1)) (row_refused (row_cause s class)) h
      ∙ sym (declined (row_cause s class) (row_at s (class - 1)) (row_refused (row_cause s class)) h)

  -- A call that is answered.
  module _ (none : interval.number ≡ 0) where
    cause_none : row_cause s class ≡ 0
    cause_none = sym number_is ∙ none

    ok : Accepted s
    ok = accepted_cause s (first_none (cause_of s) (class_cause s class) cause_none)

    within : class - 1 < s.classes
    within = let fits = class_fits s.classes class (second_none (cause_of s) (class_cause s class) cause_none) in omega arith

    interval_is : interval ≡ interval_at s (class - 1)
    interval_is = is ∙ answered (row_cause s class) (interval_at s (class - 1)) (row_refused (row_cause s class)) cause_none

    pub row_tightens : TightenedPre s.classes interval
    row_tightens = subst (TightenedPre s.classes) (sym interval_is) (interval_tightens s ok (class - 1) within)

    pub row_tight : row_answered s.classes (tight_row s.classes (lists_row interval.lower interval.upper)) ≡ row_answer s class
    row_tight =
        ap (λ r. row_answered s.classes (tight_row s.classes (lists_row r.lower r.upper))) interval_is
        ∙ interval_tight s ok (class - 1) within
        ∙ sym (answered (row_cause s class) (row_at s (class - 1)) (row_refused (row_cause s class)) cause_none)
