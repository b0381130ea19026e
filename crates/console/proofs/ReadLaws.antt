-- Bytes copied behind those that are there: one read, and one read more.
-- Assumes nothing.
use Prim.Native.Nat.{ℕ, ◌+◌, ◌-◌, ◌≤◌}
use mathlib.Core.Path.{◌≡◌, refl, ap, sym, ◌∙◌, subst}
use mathlib.Core.List.{List, ◌++◌, append_assoc}
use native.Mathlib.Omega.{arith}
use native.Mathlib.Decide.{dec_le}
use native.Mathlib.Nat.{zero-add}
use borrow.Author.Tests.{lt-leb}
use lib.ListN.{length, take, drop, length-append}
use lib.Seq.{sets, length-sets, sets-eq, length-take-le, take_at, drop_at, drop-drop}
use Rattle.big_endian_spec.specs.Numbers.{part_put}
use Rattle.big_endian_spec.proofs.Laws.{part_held}
use Rattle.console.specs.Input.{ReadInto}

-- Nothing read.
pub read_none : (done : ℕ) (buffer : List ℕ) → ReadInto done buffer buffer 0
read_none done buffer = record { size = refl; within = omega arith; front = refl; rest = refl }

-- A list laid behind the first `done` bytes.
laid : (buffer : List ℕ) (done : ℕ) (text : List ℕ) → done + length text ≤ length buffer → ReadInto done buffer (sets buffer done text) (length text)
laid buffer done text fits =
    let first : length (take done buffer) ≡ done = length-take-le done buffer (omega arith) in
    let is : sets buffer done text ≡ take done buffer ++ text ++ drop (done + length text) buffer = sets-eq text buffer done fits in
    record {
      size = length-sets buffer done text;
      within = omega arith;
      front = rw (is, append_assoc) (take_at (take done buffer) (text ++ drop (done + length text) buffer) done first);
      rest = rw is (drop_at (take done buffer ++ text) (drop (done + length text) buffer) (done + length text) (omega (arith, length-append (take done buffer) text)));
    }

-- A chunk's first bytes copied there.
pub read_copied : (buffer : List ℕ) (done : ℕ) (chunk : List ℕ) (count : ℕ) → done ≤ length buffer → count ≤ length buffer - done
    → ReadInto done buffer (part_put count chunk 0 buffer done) count
unfolding part_put
read_copied buffer done chunk count inside fits = by (dec_le count (length chunk))
  where
    by : Dec (count ≤ length chunk) → ReadInto done buffer (part_put count chunk 0 buffer done) count
    by (yes held) = subst (λ n. ReadInto done buffer (part_put count chunk 0 buffer done) n) (length-take-le count chunk held)
        (rw (part_held count chunk 0 buffer done (omega arith) (omega arith)) (laid buffer done (take count chunk) (omega (arith, length-take-le count chunk held))))
    by (no out) = rw (lt-leb (0 + count) (length chunk) (omega arith)) (record { size = refl; within = fits; front = refl; rest = refl })

-- One read more, after `done` bytes from the front on.
pub read_more : {before buffer after : List ℕ} {done count sum : ℕ} → ReadInto 0 before buffer done → ReadInto done buffer after count → done + count ≡ sum → ReadInto 0 before after sum
read_more {before} {buffer} {after} {done} {count} w v is =
    subst (ReadInto 0 before after) is
    (let behind : drop done buffer ≡ drop done before = rw zero-add at w.rest in
    record {
      size = v.size ∙ w.size;
      within = omega (arith, w.within, v.within, w.size);
      front = refl;
      rest = rw zero-add (v.rest ∙ sym (drop-drop count done buffer) ∙ ap (drop count) behind ∙ drop-drop count done before);
    })
