-- The record at a place of the input, and a checksum with one number more.
-- Assumes nothing.
use Prim.Native.Nat.{ℕ, suc, ◌+◌, ◌-◌, ◌≤◌, ◌<◌}
use mathlib.Core.Path.{◌≡◌, ap}
use mathlib.Core.Bool.{false}
use mathlib.Core.List.{List, []}
use native.Mathlib.Omega.{arith}
use native.Mathlib.Numerals.{add-one}
use lib.ListN.{length, get_or, take, drop, length-take, length-drop, drop_of_length-le}
use lib.Seq.{drop-cons, take_all}
use Rattle.big_endian_spec.specs.Numbers.{holds, number_at}
use Rattle.big_endian_spec.proofs.Laws.{read_none}
use Rattle.console.specs.Records.{record_at}
use Rattle.console.specs.Checksum.{added, checksum_from}

-- A record within what the input has behind its length.
abbrev pub Within : (input : List ℕ) (at : ℕ) (part : List ℕ) → Type 0
Within input at part = (part ≡ record_at input at) × (length part ≤ length input - at - 2)

-- The input does not hold the length: an empty part.
pub record_none : (input : List ℕ) (at : ℕ) → holds 2 input at ≡ false → Within input at []
unfolding record_at
record_none input at out = (ap (λ n. take n (drop (at + 2) input)) (read_none 2 input at out), omega arith)

-- It does: the front of what stands behind it.
pub record_held : (input : List ℕ) (at : ℕ) {n : ℕ} {part : List ℕ} → n ≡ number_at 2 input at
    → part ≡ take n (take (length input - (at + 2)) (drop (at + 2) input)) → Within input at part
unfolding record_at
record_held input at {n} {part} size front =
    let room : length (drop (at + 2) input) ≤ length input - (at + 2) = omega (arith, length-drop (at + 2) input) in
    let rest : take (length input - (at + 2)) (drop (at + 2) input) ≡ drop (at + 2) input = take_all _ _ room in
    (rw (front, rest, size), rw (front, rest, length-take n (drop (at + 2) input), length-drop (at + 2) input) (omega arith))

-- One number more of the list.
pub checksum_more : (text : List ℕ) (i sum : ℕ) {next total : ℕ} → i < length text → next ≡ added sum (get_or text i 0)
    → checksum_from sum (drop i text) ≡ total → checksum_from next (drop (i + 1) text) ≡ total
unfolding checksum_from
checksum_more text i sum {next} {total} inside is so_far =
    let place : i + 1 ≡ suc i = add-one i in
    let all : checksum_from (added sum (get_or text i 0)) (drop (suc i) text) ≡ total = rw (drop-cons text i 0 inside) at so_far in
    rw (is, place) all

-- None left.
pub checksum_all : (text : List ℕ) (i sum : ℕ) {total : ℕ} → length text ≤ i → checksum_from sum (drop i text) ≡ total → sum ≡ total
unfolding checksum_from
checksum_all text i sum ended so_far = rw (drop_of_length-le text {i = i} ended) at so_far
