-- The lines of the years by struct `Tables`.
use Rattle.std.specs.Prelude.{ℕ, ◌≤◌, ◌<◌, ◌≡◌, List, length, get_or}
use Rattle.scheme.specs.declared.Scheme.{Scheme}
use Rattle.record_spec.specs.Joined.{joined}
use Rattle.bounds_spec.specs.Table.{low_table, high_table}
use Rattle.bounds_spec.specs.declared.Bounds.{Bounds}
use Rattle.sheet_text.specs.declared.tables.Tables.{Tables}
use Rattle.sheet_text.specs.Tabled.{class_text, year_text}

-- The tables are those of the scheme.
pub record AreOf (scheme : Scheme) (tables : Tables) : Type 0 where
  pub classes : tables.classes ≡ scheme.classes
  pub low : tables.low.now ≡ low_table scheme
  pub high : tables.high.now ≡ high_table scheme

-- Each table has n figures or more, and there are fewer than 256 classes.
pub record HasFigures (tables : Tables) (n : ℕ) : Type 0 where
  pub classes : tables.classes < 256
  pub low : n ≤ length tables.low.now
  pub high : n ≤ length tables.high.now

-- The figure at a place.
abbrev pub figure_at : Tables → (place : ℕ) → Bounds
figure_at tables place = record { low = get_or tables.low.now place 0; high = get_or tables.high.now place 0 }

-- The class lines of a year, whose figures stand from place `base` on.
abbrev pub classes_by : Tables → (year base : ℕ) → List ℕ
classes_by tables year base = joined tables.classes (class_text tables.low.now tables.high.now year base)

-- The lines of a year.
abbrev pub year_by : Tables → (year : ℕ) → List ℕ
year_by tables year = year_text tables.low.now tables.high.now tables.classes year

-- The lines of the first n years.
abbrev pub years_by : Tables → (n : ℕ) → List ℕ
years_by tables n = joined n (year_text tables.low.now tables.high.now tables.classes)
