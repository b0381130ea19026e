-- The entries of an interval row as the code makes them from a scheme's parts, and as it makes them tight.
use Rattle.std.specs.Prelude.{ℕ, ◌*◌, ◌≤◌, ◌≡◌, cond, List, eqb, ltb, length, take, drop}
use Rattle.scheme.specs.Access.{CELL_STRIDE, class_bands}
use Rattle.setchain.specs.Sums.{at, only_if}
use Rattle.setchain.specs.Rows.{lists_row}
use Rattle.setchain.specs.Tight.{tight_row}
use Rattle.scheme.specs.RowAnswer.{RowAnswer}
use Rattle.scheme.specs.Tables.{tab}
use Rattle.scheme.specs.SumByTarget.{sum_by_target, Capped}

-- The entries of 32 classes that some rules make with their bands' ends: 0 beyond s.
unfoldable pub entries_of : List ℕ → List ℕ → ℕ → List ℕ
entries_of rules ends classes = tab 32 (λ j. only_if (ltb j classes) (sum_by_target rules ends j))

-- The rules of class i + 1: eight stand for each class, of which as many count as there are columns.
abbrev pub class_rules : ℕ → List ℕ → ℕ → List ℕ
class_rules columns rules i = take columns (drop (i * CELL_STRIDE) rules)

-- The row of class i + 1 that the code makes of a scheme's parts.
abbrev pub row_from : List ℕ → List ℕ → List ℕ → ℕ → ℕ → ℕ → RowAnswer
row_from rules lowers uppers columns classes i =
    record {
      number = 0;
      lower = entries_of (class_rules columns rules i) (class_bands columns lowers i) classes;
      upper = entries_of (class_rules columns rules i) (class_bands columns uppers i) classes;
    }

-- A slice after a row is copied into it: the row where it is of the row's length, and otherwise what it held.
abbrev pub copied_into : (row before : List ℕ) → List ℕ
copied_into row before = cond (eqb (length before) (length row)) row before

-- What tightening asks of the lists of lower and upper entries: as many of both, 32 at most, and none above ONE.
pub record TightPre (lower upper : List ℕ) : Type 0 where
  pub sizes : length upper ≡ length lower
  pub few : length lower ≤ 32
  pub lowers : Capped lower
  pub uppers : Capped upper

-- What it leaves in them: the tight row over as many states.
pub record TightPost (lower upper lower' upper' : List ℕ) : Type 0 where
  pub lowers : lower' ≡ tab (length lower) (tight_row (length lower) (lists_row lower upper)).lower
  pub uppers : upper' ≡ tab (length lower) (tight_row (length lower) (lists_row lower upper)).upper

-- What making an interval row of 32 entries tight asks of it: entries for the classes, 0 beyond, and none above ONE.
pub record TightenedPre (classes : ℕ) (interval : RowAnswer) : Type 0 where
  pub few : classes ≤ 32
  pub lower_size : length interval.lower ≡ 32
  pub upper_size : length interval.upper ≡ 32
  pub lowers : Capped interval.lower
  pub uppers : Capped interval.upper
  pub beyond : (j : ℕ) → classes ≤ j → (at interval.lower j ≡ 0) × (at interval.upper j ≡ 0)
