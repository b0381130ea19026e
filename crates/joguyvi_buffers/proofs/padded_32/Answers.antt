-- `padded_32` meets its contract: the list's front, and the other value in what is left of 32 places.
-- Assumes nothing.
use Rattle.std.specs.Prelude.{ℕ, ◌≡◌, min, ◌-◌, List, ◌++◌, length, take, drop, replicate}
use Rattle.std.proofs.Common.{ap, ap₂, ◌∙◌, arith}
use Rattle.std.proofs.lemmas.List.{drop-replicate, take_min}
use Rattle.joguyvi_spec.specs.Buffers.{padded32}
use Rattle.joguyvi_buffers.proofs.padded_32.Goals as goal

-- The front over 32 places of one value.
front : {A : Type 0} (missing : A) (l : List A) {many : ℕ} {part : List A} → many ≡ min (length l) 32 → part ≡ take many l
    → part ++ drop many (replicate 32 missing) ≡ padded32 missing l
front missing l {many} {part} few is =
    let same : many ≡ min 32 (length l) = omega (arith, few) in
    let left : 32 - many ≡ 32 - length l = omega (arith, few) in
    ap₂ (λ a b. a ++ b) (is ∙ ap (λ n. take n l) same ∙ take_min 32 l) (drop-replicate many 32 missing ∙ ap (λ n. replicate n missing) left)

pub returns : goal.returns
returns g c = front c.args.missing c.args.numbers.now {many = c.min-length.result} (omega (arith, c.min-length.ensures)) c.copy_from_slice.ensures.after
