-- Opening books pooled (document 02, item 7): the causes, what the calls answer, and what the answers promise.
use Rattle.std.specs.Prelude.{ℕ, ◌+◌, ◌-◌, ◌<◌, ◌≡◌, Bool, true, false, List, [], ◌∷◌, length, get_or}
use Rattle.setchain.specs.Sums.{at}
use Rattle.setchain.specs.Fractions.{Fraction, whole}
use Rattle.setchain.specs.Rows.{SetChain}
use Rattle.setchain.specs.Years.{share_figure, CENT, mean_tenths, total_tenths}
use Rattle.setchain.specs.Picks.{Matrix, exact_mean, exact_total}
use Rattle.setchain.specs.Promise.{share_in_parts, NoFurther, Nearer, cent_and_tenths, Nearness, KeptBy}
use Rattle.setchain.specs.Pooled.{pooled_figure, exact_pooled}
use Rattle.scheme.specs.declared.Scheme.{Scheme}
use Rattle.scheme.specs.Tables.{tab}
use Rattle.scheme.specs.Access.{premium_at}
use Rattle.scheme.specs.FirstCause.{first_of}
use Rattle.scheme.specs.Cause.{slices_cause}
use Rattle.scheme.specs.Rows.{chain_of}
use Rattle.book_spec.specs.Book.{book_cause}
use Rattle.bounds_spec.specs.Answers.{BoundsAnswer, number_of, low_of, high_of, answer_by, start_of}
use Rattle.bounds_spec.specs.Causes.{share_cause, money_cause}

-- What is asked of a year: the share of a class, the mean premium, or the total of as many premiums as there are years.
pub data Figure : Type 0 where
  share : (class : ℕ) → Figure
  mean : Figure
  total : Figure

-- The figure of a state, as the years carry it: a share in parts, "Money figures go into the mean in tenths".
abbrev pub state_figure : (high : Bool) → SetChain → (premium : ℕ → ℕ) → Figure → (t i : ℕ) → ℕ
state_figure high c premium (Figure.share class) t i = share_figure high c (class - 1) t i
state_figure high c premium Figure.mean t i = mean_tenths high c premium t i
state_figure high c premium Figure.total t i = total_tenths high c premium t i

-- "the class figures": class 1 is state 0.
abbrev pub class_figure : (high : Bool) → Scheme → Figure → (t i : ℕ) → ℕ
class_figure high s = state_figure high (chain_of s) (premium_at s)

-- How many units of a carried figure make one of the answer: a share is answered in parts, money in cents.
abbrev pub units_of : Figure → ℕ
units_of (Figure.share class) = 1
units_of Figure.mean = CENT
units_of Figure.total = CENT

-- "The pooled figure is the count-weighted mean of the class figures, rounded outward once", over the classes of the scheme: "pooling ignores those beyond s".
abbrev pub pooled : (high : Bool) → Scheme → (book : List ℕ) → Figure → (t : ℕ) → ℕ
pooled high s book figure t = pooled_figure high (units_of figure) s.classes (at book) (class_figure high s figure t)

-- The causes of the figure itself: 3, 5 to 10, 11 for the share of a class, then 12.
abbrev pub figure_cause : Scheme → Figure → (year : ℕ) → ℕ
figure_cause s (Figure.share class) year = share_cause s class year
figure_cause s Figure.mean year = money_cause s year
figure_cause s Figure.total year = money_cause s year

-- Then the book's: 18 "tested after 12; 19 … tested after 18".
abbrev pub pooled_cause : Scheme → (book : List ℕ) → Figure → (year : ℕ) → ℕ
pooled_cause s book figure year = first_of (figure_cause s figure year ∷ book_cause s.classes book ∷ [])

-- The pooled figure of a year, low and high.
unfoldable pub pooled_answer : Scheme → (book : List ℕ) → Figure → (year : ℕ) → BoundsAnswer
pooled_answer s book figure year = answer_by (pooled_cause s book figure year) (pooled false s book figure year) (pooled true s book figure year)

-- The cause of a pooled share sheet into slices of two lengths: 3, 5 to 10, 12, 18, 19, then 13.
abbrev pub pooled_lengths_cause : Scheme → (book : List ℕ) → (year low high : ℕ) → ℕ
pooled_lengths_cause s book year low high = first_of (money_cause s year ∷ book_cause s.classes book ∷ slices_cause s.classes low high ∷ [])

-- The same of the slices themselves.
unfoldable pub pooled_sheet_cause : Scheme → (book : List ℕ) → (year : ℕ) (low high : List ℕ) → ℕ
pooled_sheet_cause s book year low high = pooled_lengths_cause s book year (length low) (length high)

-- The pooled shares of all classes in order, low or high.
unfoldable pub pooled_shares : (high : Bool) → Scheme → (book : List ℕ) → (year : ℕ) → List ℕ
pooled_shares high s book year = tab s.classes (λ j. pooled high s book (Figure.share (j + 1)) year)

-- The exact figure of class i, as its bounds are answered: a share in parts, money in cents.
abbrev pub exact_figure : Scheme → Figure → List Matrix → ℕ → Fraction
exact_figure s (Figure.share class) ps i = share_in_parts s.classes (class - 1) ps i
exact_figure s Figure.mean ps i = exact_mean s.classes (premium_at s) ps i
exact_figure s Figure.total ps i = exact_total s.classes (premium_at s) ps i

-- The exact pooled figure, "With the same yearly matrix for the whole book".
abbrev pub exact_of : Scheme → (book : List ℕ) → Figure → List Matrix → Fraction
exact_of s book figure ps = exact_pooled s.classes (at book) (exact_figure s figure ps)

-- How near some picks come: of shares "within t + 1 parts", of money "nearer than one cent plus t tenths".
abbrev pub nearness_of : Figure → (t : ℕ) → Nearness
nearness_of (Figure.share class) t = NoFurther (whole (t + 1))
nearness_of Figure.mean t = Nearer (cent_and_tenths t)
nearness_of Figure.total t = Nearer (cent_and_tenths t)

-- "no picks leave the pooled share bounds …", "Money bounds contain likewise …".
abbrev pub PooledKept : Scheme → (book : List ℕ) → Figure → (t low high : ℕ) → Type 0
PooledKept s book figure t low high = KeptBy (chain_of s) t (nearness_of figure t) (exact_of s book figure) low high

-- Of the low and high answered for a pooled figure.
abbrev pub PooledPromise : Scheme → (book : List ℕ) → Figure → (year : ℕ) → BoundsAnswer → Type 0
PooledPromise s book figure year r = number_of r ≡ 0 → PooledKept s book figure year (low_of r) (high_of r)

-- Of the numbers in the two slices of a pooled share sheet, for each class.
abbrev pub PooledSheetPromise : Scheme → (book : List ℕ) → (year number : ℕ) → List ℕ → List ℕ → Type 0
PooledSheetPromise s book year number low high =
    number ≡ 0 → (j : ℕ) → j < s.classes → PooledKept s book (Figure.share (j + 1)) year (get_or low j 0) (get_or high j 0)

-- "A book of one chamber in the start class": no other class up to s has any.
pub record OneChamber (s : Scheme) (book : List ℕ) : Type 0 where
  pub own : at book (start_of s) ≡ 1
  pub others : (i : ℕ) → i < s.classes → (i ≡ start_of s → ⊥) → at book i ≡ 0
