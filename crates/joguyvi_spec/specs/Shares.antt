-- A year's share sheet of a record.
use Rattle.std.specs.Prelude.{ℕ, ◌≡◌, List, [], ◌∷◌}
use Rattle.scheme.specs.FirstCause.{first_of}
use Rattle.record_spec.specs.Layout.{scheme_in}
use Rattle.record_spec.specs.Read.{read_cause}
use Rattle.bounds_spec.specs.Answers.{sheet_cause, low_shares, high_shares}
use Rattle.bounds_spec.specs.Promises.{SheetPromise}
use Rattle.joguyvi_spec.specs.Buffers.{filled_where}

-- The cause of reading, then that of the share sheet, where 13 stands last.
abbrev pub shares_number : List ℕ → (year : ℕ) (low high : List ℕ) → ℕ
shares_number bytes year low high = first_of (read_cause bytes ∷ sheet_cause (scheme_in bytes) year low high ∷ [])

-- joguyvi_share_sheet: what it answers and leaves.
pub record ShareSheetCall (bytes : List ℕ) (year : ℕ) (low high : List ℕ) (number : ℕ) (low' high' : List ℕ) : Type 0 where
  pub answer : number ≡ shares_number bytes year low high
  pub lows : low' ≡ filled_where number (low_shares (scheme_in bytes) year) low
  pub highs : high' ≡ filled_where number (high_shares (scheme_in bytes) year) high
  -- The buffers' numbers keep what is promised (crate bounds_spec, `Promises`).
  pub promise : SheetPromise (scheme_in bytes) year number low' high'
