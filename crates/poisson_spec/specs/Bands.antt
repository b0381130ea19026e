-- The bands of two claim frequencies (document 02, item 10).
use Rattle.std.specs.Prelude.{ℕ, suc, ◌-◌, Bool, true, false, not, cond, List, eqb}
use Rattle.setchain.specs.Sums.{sum_to}
use Rattle.setchain.specs.Rows.{ONE}
use Rattle.scheme.specs.Tables.{tab}
use Rattle.scheme.specs.Access.{BAND_PLACES}
use Rattle.scheme.specs.Stored.{up_to}
use Rattle.poisson_spec.specs.Values.{value}

-- An end uses one frequency for 0 claims, `free`, and one for other columns, `claimed`.
abbrev pub frequency_of : (claimed free k : ℕ) → ℕ
frequency_of claimed free k = cond (eqb k 0) free claimed

-- Of m columns the end of the last: ONE minus the values of the other kind, all at the frequency of other columns, and not below 0.
abbrev pub last_end : (high : Bool) (claimed m : ℕ) → ℕ
last_end high claimed m = ONE - sum_to (m - 1) (value (not high) claimed)

-- The end of column k.
abbrev pub end_of : (high : Bool) (claimed free m k : ℕ) → ℕ
end_of high claimed free m k = cond (eqb (suc k) m) (last_end high claimed m) (value high (frequency_of claimed free k) k)

-- "Columns beyond m are 0."
unfoldable pub ends_of : (high : Bool) (claimed free m : ℕ) → List ℕ
ends_of high claimed free m = tab BAND_PLACES (up_to m (end_of high claimed free m))

-- "For 0 claims the lower end uses the larger f; for other columns it uses the smaller"; "The last column runs from ONE minus the uppers at the smaller f".
abbrev pub lower_ends : (first second m : ℕ) → List ℕ
lower_ends first second m = ends_of false first second m

-- "the upper end uses the other f"; "to ONE minus the lowers at the larger".
abbrev pub upper_ends : (first second m : ℕ) → List ℕ
upper_ends first second m = ends_of true second first m
