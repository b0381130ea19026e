-- The loop of `entries_above_zero`: the bits of the entries passed, the last entry first.
use Rattle.std.specs.Prelude.{ℕ, ◌+◌, ◌-◌, ◌*◌, ◌≤◌, ◌<◌, ◌≡◌, List, length, reverse, get_or, ltb}
use Rattle.std.proofs.Common.{ap, ◌∙◌, subst, arith}
use Rattle.std.proofs.lemmas.List.{get_or-reverse, length-reverse}
use Rattle.std.proofs.lemmas.Grind.{get_or_default_zero}
use Rattle.setchain.specs.Sums.{at}
use Rattle.mixing.specs.Bits.{bits_of, digit}
use Rattle.mixing.specs.Laws.Bits.{digit_small, bits_start, bits_more, bits_end, bits_fit}

-- The bits of the entries from place j on.
pub record BitsFrom (entries : List ℕ) (j bits : ℕ) : Type 0 where
  pub are : bits ≡ bits_of (length entries - j) (λ k. ltb 0 (at entries (j + k)))

-- Where none is passed.
pub bits_from_end : (entries : List ℕ) → BitsFrom entries (length entries - 0) 0
bits_from_end entries = let all : length entries - 0 ≡ length entries = omega arith in rw all (record { are = bits_start (length entries) _ })

module _ {entries : List ℕ} {passed bits : ℕ} (w : BitsFrom entries (length entries - passed) bits) where
  -- One entry more, as the list read from its end has it.
  module _ {entry bit : ℕ} (few : length entries ≤ 32) (inside : passed < length (reverse entries)) (is : entry ≡ get_or (reverse entries) passed entry)
      (told : bit ≡ digit (ltb 0 entry)) where
    within : passed < length entries
    within = omega (arith, inside, length-reverse entries)

    -- The bits so far leave room for it.
    pub bits_room : (bits < 2147483648) × (bit < 2)
    bits_room =
        omega (
          arith,
          bits_fit (length entries) (length entries - passed) bits _ few (omega (arith, within)) (omega arith) w.are,
          told,
          digit_small (ltb 0 entry),
        )

    entry_at : entry ≡ at entries (length entries - passed - 1)
    entry_at =
        is ∙ get_or-reverse entries passed entry within
        ∙ get_or_default_zero entries (length entries - 1 - passed) entry (omega (arith, within))
        ∙ ap (at entries) (omega arith)

    pub bits_from_more : BitsFrom entries (length entries - (passed + 1)) (bits * 2 + bit)
    bits_from_more =
        let next : length entries - passed - 1 ≡ length entries - (passed + 1) = omega arith in
        subst (λ j. BitsFrom entries j (bits * 2 + bit)) next
        (record {
          are = bits_more (length entries) (length entries - passed) bits bit (λ k. ltb 0 (at entries k)) (omega (arith, within)) (omega arith)
              w.are (told ∙ ap (λ x. digit (ltb 0 x)) entry_at);
        })

  -- All of them.
  pub bits_from_all : passed ≡ length (reverse entries) → bits ≡ bits_of (length entries) (λ j. ltb 0 (at entries j))
  bits_from_all e = bits_end (length entries) (length entries - passed) bits (λ j. ltb 0 (at entries j)) (omega (arith, e, length-reverse entries)) w.are
