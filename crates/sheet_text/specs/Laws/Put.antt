-- Texts put one after another.
use Rattle.std.specs.Prelude.{ℕ, zero, suc, ◌+◌, ◌-◌, ◌*◌, ◌/◌, ◌%◌, ◌≤◌, ◌<◌, ◌≡◌, refl, List, [], ◌∷◌, ◌++◌, length, get_or, take, set}
use Rattle.std.proofs.Common.{ap, ap₂, ◌∙◌, append_assoc, arith, add-one, ⊎_elim, le_refl, eq-or-lt_of_le, lt-ltb, le-ltb, length-append, length-take-le, take-suc}
use Rattle.std.proofs.lemmas.List.Edits.{sets}
use Rattle.std.proofs.Math.Seq.{length-sets, take-length}
use Rattle.record_spec.specs.Joined.{joined}
use Rattle.big_endian_spec.proofs.Laws.{sets_append, sets_more}
use Rattle.sheet_spec.specs.Text.{digits_within, two_digits}
use Rattle.sheet_text.specs.Put.{Space, Put}

-- The slice keeps its length.
pub put_kept : {l : List ℕ} {at : ℕ} {a m : List ℕ} {k : ℕ} → Put l at a m k → length m ≡ length l
put_kept {l} {at} {a} p = rw p.holds (length-sets l at a)

-- No text.
pub put_none : (l : List ℕ) (at : ℕ) → Put l at [] l at
put_none l at = record { holds = refl; place = omega arith }

-- One byte.
pub put_one : (l : List ℕ) (at x : ℕ) → Put l at (x ∷ []) (set l at x) (at + 1)
put_one l at x = record { holds = refl; place = omega arith }

-- Two digits, the tens' first.
pub two_put : {l : List ℕ} {at a b : ℕ} (x : ℕ) → a ≡ 48 + x / 10 → b ≡ 48 + x % 10 → Put l at (two_digits x) (set (set l at a) (at + 1) b) (at + 2)
two_put {l} {at} x e f = rw (e, f) (record { holds = simp add-one; place = omega arith })

-- One text and then the next.
pub put_then : {l : List ℕ} {at : ℕ} {a m : List ℕ} {k : ℕ} {b n : List ℕ} {to : ℕ} → Put l at a m k → Put m k b n to → Put l at (a ++ b) n to
put_then {l} {at} {a} {m} {k} {b} {n} {to} p q =
    record {
      holds = q.holds ∙ rw (p.holds, p.place) (sets_append l at a b);
      place = omega (arith, p.place, q.place, length-append a b);
    }

-- Space for the first of two texts, and after it for the second.
pub space_first : {l : List ℕ} {at : ℕ} {a : List ℕ} (b : List ℕ) → Space l at (a ++ b) → Space l at a
space_first {l} {at} {a} b r = record { fits = omega (arith, r.fits, length-append a b) }

pub space_next : {l : List ℕ} {at : ℕ} {a m : List ℕ} {k : ℕ} {b : List ℕ} → Put l at a m k → Space l at (a ++ b) → Space m k b
space_next {l} {at} {a} {m} {k} {b} p r = record { fits = omega (arith, r.fits, p.place, put_kept p, length-append a b) }

-- A word byte by byte: k bytes stand, one more, all.
pub word_more : (word l : List ℕ) (at k : ℕ) → k < length word → set (sets l at (take k word)) (at + k) (get_or word k 0) ≡ sets l at (take (k + 1) word)
word_more word l at k h =
    let size : at + k ≡ at + length (take k word) = omega (arith, length-take-le k word (omega arith)) in
    rw (add-one, take-suc word k 0 h, size) (sets_more l at (take k word) (get_or word k 0))

pub word_all : {l : List ℕ} {at : ℕ} {word m : List ℕ} {k : ℕ} → m ≡ sets l at (take k word) → k ≡ length word → Put l at word m (at + k)
word_all {l} {at} {word} {m} {k} e end =
    let all : take k word ≡ word = ap (λ n. take n word) end ∙ take-length word in
    record { holds = rw all at e; place = omega (arith, end) }

-- The digits of a number, by cases.
digits_one : (most x : ℕ) → 0 < most → x < 10 → digits_within most x ≡ (48 + x) ∷ []
unfolding digits_within
digits_one zero x h l = elim h [ ]
digits_one (suc most) x h l = simp (lt-ltb x 10 l)

digits_more : (most x : ℕ) → 0 < most → 10 ≤ x → digits_within most x ≡ digits_within (most - 1) (x / 10) ++ ((48 + x % 10) ∷ [])
unfolding digits_within
digits_more zero x h l = elim h [ ]
digits_more (suc most) x h l = let e : suc most - 1 ≡ most = omega arith in rw e (simp (le-ltb x 10 l))

-- Two digits, and two after the others.
digits_two : (pairs x : ℕ) → 0 < pairs → 10 ≤ x → x < 100 → digits_within (pairs * 2) x ≡ two_digits x
digits_two pairs x h k l =
    let one : digits_within (pairs * 2 - 1) (x / 10) ≡ (48 + x / 10) ∷ [] = digits_one (pairs * 2 - 1) (x / 10) (omega arith) (omega arith) in
    digits_more (pairs * 2) x (omega arith) k ∙ ap (λ d. d ++ ((48 + x % 10) ∷ [])) one

digits_pair : (pairs x : ℕ) → 0 < pairs → 100 ≤ x → digits_within (pairs * 2) x ≡ digits_within ((pairs - 1) * 2) (x / 100) ++ two_digits (x % 100)
digits_pair pairs x h k =
    let rest : digits_within (pairs * 2 - 1 - 1) (x / 10 / 10) ≡ digits_within ((pairs - 1) * 2) (x / 100) = ap₂ digits_within (omega arith) (omega arith) in
    let two : (48 + x / 10 % 10) ∷ (48 + x % 10) ∷ [] ≡ two_digits (x % 100) = ap₂ (λ a b. a ∷ b ∷ []) (omega arith) (omega arith) in
    digits_more (pairs * 2) x (omega arith) (omega arith)
    ∙ ap (λ d. d ++ ((48 + x % 10) ∷ [])) (digits_more (pairs * 2 - 1) (x / 10) (omega arith) (omega arith))
    ∙ append_assoc (digits_within (pairs * 2 - 1 - 1) (x / 10 / 10)) ((48 + x / 10 % 10) ∷ []) ((48 + x % 10) ∷ [])
    ∙ ap₂ ◌++◌ rest two

-- No digit, one digit, two digits, and two after the others.
module _ {l : List ℕ} {at : ℕ} (pairs x : ℕ) where
  pub digits_put_none : pairs ≡ 0 → Put l at (digits_within (pairs * 2) x) l at
  unfolding digits_within
  digits_put_none e = rw e (put_none l at)

  pub digits_put_one : {d : ℕ} → 0 < pairs → x < 10 → d ≡ 48 + x → Put l at (digits_within (pairs * 2) x) (set l at d) (at + 1)
  digits_put_one h k e = rw (digits_one (pairs * 2) x (omega arith) k, e) (put_one l at (48 + x))

  pub digits_space_one : 0 < pairs → x < 10 → Space l at (digits_within (pairs * 2) x) → at < length l
  digits_space_one h k r = let size : length (digits_within (pairs * 2) x) ≡ 1 = ap length (digits_one (pairs * 2) x (omega arith) k) in omega (arith, size, r.fits)

  pub digits_put_two : {m : List ℕ} {to : ℕ} → 0 < pairs → 10 ≤ x → x < 100 → Put l at (two_digits x) m to → Put l at (digits_within (pairs * 2) x) m to
  digits_put_two h k b p = rw (digits_two pairs x h k b) p

  pub digits_space_two : 0 < pairs → 10 ≤ x → x < 100 → Space l at (digits_within (pairs * 2) x) → at + 2 ≤ length l
  digits_space_two h k b r = let size : length (digits_within (pairs * 2) x) ≡ 2 = ap length (digits_two pairs x h k b) in omega (arith, size, r.fits)

  pub digits_space : 0 < pairs → 100 ≤ x → Space l at (digits_within (pairs * 2) x) → Space l at (digits_within ((pairs - 1) * 2) (x / 100))
  digits_space h k r = space_first (two_digits (x % 100)) (rw (digits_pair pairs x h k) at r)

  pub digits_space_more : {m : List ℕ} {to : ℕ} → 0 < pairs → 100 ≤ x → Space l at (digits_within (pairs * 2) x)
      → Put l at (digits_within ((pairs - 1) * 2) (x / 100)) m to → to + 2 ≤ length m
  digits_space_more h k r p =
      let last : Space _ _ (two_digits (x % 100)) = space_next p (rw (digits_pair pairs x h k) at r) in omega (arith, last.fits)

  pub digits_put_more : {m n : List ℕ} {to end : ℕ} → 0 < pairs → 100 ≤ x → Put l at (digits_within ((pairs - 1) * 2) (x / 100)) m to
      → Put m to (two_digits (x % 100)) n end → Put l at (digits_within (pairs * 2) x) n end
  digits_put_more h k p q = rw (digits_pair pairs x h k) (put_then p q)

-- Lists one after another: none, one more, and space for it.
pub joined_none : (f : ℕ → List ℕ) (l : List ℕ) (at : ℕ) → Put l at (joined 0 f) l at
unfolding joined
joined_none f l at = put_none l at

pub joined_more : {l : List ℕ} {at : ℕ} {m : List ℕ} {k : ℕ} {n : List ℕ} {to : ℕ} (f : ℕ → List ℕ) (i : ℕ)
    → Put l at (joined i f) m k → Put m k (f i) n to → Put l at (joined (i + 1) f) n to
unfolding joined
joined_more f i p q = rw add-one (put_then p q)

pub joined_longer : (f : ℕ → List ℕ) (i n : ℕ) → i ≤ n → length (joined i f) ≤ length (joined n f)
unfolding joined
joined_longer f i zero h = let e : i ≡ 0 = omega arith in rw e (le_refl 0)
joined_longer f i (suc n) h =
    ⊎_elim
    (λ e. rw e (le_refl (length (joined n f ++ f n))))
    (λ less. omega (arith, joined_longer f i n (omega arith), length-append (joined n f) (f n)))
    (eq-or-lt_of_le h)

pub joined_space : {l : List ℕ} {at : ℕ} {m : List ℕ} {k : ℕ} (f : ℕ → List ℕ) (i n : ℕ) → i < n
    → Put l at (joined i f) m k → Space l at (joined n f) → Space m k (f i)
unfolding joined
joined_space f i n h p r =
    record { fits = omega (arith, r.fits, p.place, put_kept p, joined_longer f (suc i) n h, length-append (joined i f) (f i)) }

pub joined_all : {l : List ℕ} {at : ℕ} {m : List ℕ} {k i n : ℕ} (f : ℕ → List ℕ) → i ≡ n → Put l at (joined i f) m k → Put l at (joined n f) m k
joined_all f e p = rw e at p
