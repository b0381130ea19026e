-- How many bytes numbers and lines have at most.
use Rattle.std.specs.Prelude.{ℕ, zero, suc, ◌+◌, ◌*◌, ◌/◌, ◌%◌, ◌≤◌, ◌<◌, ◌≡◌, refl, List, [], ◌∷◌, ◌++◌, length}
use Rattle.std.proofs.Common.{arith, le_refl, lt-ltb, le-ltb, length-append}
use Rattle.std.proofs.Math.Decide.{dec_lt}
use Rattle.scheme.specs.declared.Scheme.{Scheme}
use Rattle.scheme.specs.Accepted.{Accepted}
use Rattle.record_spec.specs.Joined.{joined}
use Rattle.sheet_spec.specs.Text.{digits_within, field, newline, scheme_word, year_word, class_word, premium_word, total_word, refused_word}
use Rattle.sheet_spec.specs.Sheet.{scheme_line, class_line, premium_line, total_line, refused_line}

-- A text of at most n bytes.
pub record Within (n : ℕ) (text : List ℕ) : Type 0 where
  pub fits : length text ≤ n

-- One text and then the next.
pub within_append : {m n : ℕ} {a b : List ℕ} → Within m a → Within n b → Within (m + n) (a ++ b)
within_append {m} {n} {a} {b} p q = record { fits = omega (arith, p.fits, q.fits, length-append a b) }

-- Texts one after another.
pub within_joined : (w n : ℕ) (f : ℕ → List ℕ) → ((i : ℕ) → i < n → Within w (f i)) → Within (n * w) (joined n f)
unfolding joined
within_joined w zero f h = record { fits = omega arith }
within_joined w (suc n) f h =
    record {
      fits = omega (arith, length-append (joined n f) (f n), (within_joined w n f (λ i l. h i (omega arith))).fits, (h n (le_refl (suc n))).fits);
    }

-- 10 to the power k.
unfoldable ten_to : ℕ → ℕ
ten_to zero = 1
ten_to (suc k) = 10 * ten_to k

-- A number below 10 to the power k + 1 has at most k + 1 digits.
digits_small : (n x : ℕ) → x < 10 → length (digits_within (suc n) x) ≡ 1
unfolding digits_within
digits_small n x l = rw (lt-ltb x 10 l)

digits_large : (n x : ℕ) → 10 ≤ x → length (digits_within (suc n) x) ≡ length (digits_within n (x / 10)) + 1
unfolding digits_within
digits_large n x l = rw (le-ltb x 10 l) (length-append (digits_within n (x / 10)) ((48 + x % 10) ∷ []))

large_within : (n k x : ℕ) → x < ten_to (suc k) → 10 ≤ x → ((j : ℕ) → x / 10 < ten_to (suc j) → length (digits_within n (x / 10)) ≤ suc j)
    → length (digits_within (suc n) x) ≤ suc k
unfolding ten_to
large_within n zero x h l more = absurd (omega arith)
large_within n (suc k) x h l more = omega (arith, digits_large n x l, more k (omega arith))

digits_within_lem : (n k x : ℕ) → x < ten_to (suc k) → length (digits_within n x) ≤ suc k
unfolding digits_within
digits_within_lem zero k x h = omega arith
digits_within_lem (suc n) k x h = by (dec_lt x 10) (λ j l. digits_within_lem n j (x / 10) l)
  where
    by : Dec (x < 10) → ((j : ℕ) → x / 10 < ten_to (suc j) → length (digits_within n (x / 10)) ≤ suc j) → length (digits_within (suc n) x) ≤ suc k
    by (yes small) more = omega (arith, digits_small n x small)
    by (no large) more = large_within n k x h (omega arith) more

field_within : (k x : ℕ) → x < ten_to (suc k) → Within (suc (suc k)) (field x)
field_within k x h = record { fits = omega (arith, digits_within_lem 20 k x h) }

-- Fields by the largest number in them.
pub field_2 : (x : ℕ) → x ≤ 9 → Within 2 (field x)
unfolding ten_to
field_2 x h = field_within 0 x (omega arith)

pub field_3 : (x : ℕ) → x ≤ 99 → Within 3 (field x)
unfolding ten_to
field_3 x h = field_within 1 x (omega arith)

pub field_4 : (x : ℕ) → x ≤ 999 → Within 4 (field x)
unfolding ten_to
field_4 x h = field_within 2 x (omega arith)

pub field_9 : (x : ℕ) → x ≤ 99999999 → Within 9 (field x)
unfolding ten_to
field_9 x h = field_within 7 x (omega arith)

pub field_11 : (x : ℕ) → x ≤ 9999999999 → Within 11 (field x)
unfolding ten_to
field_11 x h = field_within 9 x (omega arith)

-- A word or a line's end: as many bytes as it has.
exactly : (l : List ℕ) → Within (length l) l
exactly l = record { fits = le_refl (length l) }

-- The lines.
pub scheme_line_within : (s : Scheme) → Accepted s → Within 19 (scheme_line s.classes s.columns s.start s.horizon)
unfolding scheme_line
scheme_line_within s ok =
    within_append
    (within_append
    (within_append
    (within_append
    (within_append (exactly scheme_word) (field_3 s.classes (omega (arith, ok.size.classes))))
    (field_2 s.columns (omega (arith, ok.size.columns))))
    (field_3 s.start (omega (arith, ok.size.classes, ok.start.within))))
    (field_4 s.horizon (omega (arith, ok.horizon.within))))
    (exactly newline)

pub class_line_within : (year j low high : ℕ) → year ≤ 100 → j < 32 → low ≤ 1000000000 → high ≤ 1000000000 → Within 40 (class_line year j low high)
unfolding class_line
class_line_within year j low high y c l h =
    within_append
    (within_append
    (within_append
    (within_append (within_append (within_append (exactly year_word) (field_4 year (omega arith))) (exactly class_word)) (field_3 (suc j) (omega arith)))
    (field_11 low (omega arith)))
    (field_11 high (omega arith)))
    (exactly newline)

pub premium_line_within : (year low high : ℕ) → year ≤ 100 → low ≤ 10000000 → high ≤ 10000000 → Within 35 (premium_line year low high)
unfolding premium_line
premium_line_within year low high y l h =
    within_append
    (within_append
    (within_append (within_append (within_append (exactly year_word) (field_4 year (omega arith))) (exactly premium_word)) (field_9 low (omega arith)))
    (field_9 high (omega arith)))
    (exactly newline)

-- "every line, REFUSED too, ends in byte 0A".
pub total_ends : (low high : ℕ) → total_line low high ≡ total_word ++ field low ++ field high ++ (10 ∷ [])
unfolding total_line
total_ends low high = refl

pub refused_ends : (number : ℕ) → refused_line number ≡ refused_word ++ field number ++ (10 ∷ [])
unfolding refused_line
refused_ends number = refl

pub total_line_within : (low high : ℕ) → low ≤ 1000000000 → high ≤ 1000000000 → Within 28 (total_line low high)
total_line_within low high l h =
    rw (total_ends low high)
    (within_append (within_append (within_append (exactly total_word) (field_11 low (omega arith))) (field_11 high (omega arith))) (exactly newline))

pub refused_line_within : (number : ℕ) → number ≤ 99 → Within 11 (refused_line number)
refused_line_within number h =
    rw (refused_ends number) (within_append (within_append (exactly refused_word) (field_3 number h)) (exactly newline))
