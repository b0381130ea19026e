-- What joguyvi_mixing tells: where it answers 0 the shortest count that mixes, and so what item 3 promised; where it answers 16 that no count mixes.
-- Assumes nothing.
use Rattle.std.specs.Prelude.{ℕ, ◌≤◌, ◌≡◌, false, List, [], ◌∷◌, ◌⊎◌, length, get_or}
use Rattle.std.proofs.Common.{ap, sym, ◌∙◌, subst, inl, inr, ⊎_elim, arith}
use Rattle.std.proofs.Math.Decide.{ℕ_discrete}
use Rattle.scheme.specs.declared.Scheme.{Scheme}
use Rattle.scheme.specs.FirstCause.{or_else}
use Rattle.scheme.proofs.Laws.FirstCause.{first_none, second_none, cause_either, answered}
use Rattle.record_spec.specs.Layout.{scheme_in}
use Rattle.record_spec.specs.Read.{read_cause}
use Rattle.mixing_spec.specs.MixingAnswer.{mixes_scheme, first_count, mixing_number}
use Rattle.mixing_spec.proofs.Theorems.{ShortestCount, first_shortest, answer_some, never_mixes}
use Rattle.sheet_spec.proofs.Laws.Space.{read_number}
use Rattle.joguyvi_spec.specs.Buffers.{buffer_cause}
use Rattle.joguyvi_spec.specs.Mixing.{MixingCall}
use Rattle.joguyvi_spec.proofs.Laws.Buffers.{buffer_out, buffer_fits}

pub mixing_shortest : (bytes out : List ℕ) {number : ℕ} {out' : List ℕ} → MixingCall bytes out number out' → number ≡ 0 → ShortestCount (scheme_in bytes) (get_or out' 0 0)
mixing_shortest bytes out {number} w z =
    let s = scheme_in bytes in
    let none = first_none (mixing_number s) (buffer_cause 1 out) (second_none (read_cause bytes) (or_else (mixing_number s) (buffer_cause 1 out)) (sym w.answer ∙ z)) in
    let held = ap (λ l. get_or l 0 0) (w.filled ∙ answered number (first_count s ∷ []) out z) in
    subst (ShortestCount s) (sym held) (first_shortest s (answer_some s none))

-- 16 is neither a cause of reading nor one of the scheme, nor that of the buffer.
pub mixing_never : (bytes out : List ℕ) {number : ℕ} {out' : List ℕ} → MixingCall bytes out number out' → number ≡ 16 → (t : ℕ) → 1 ≤ t → mixes_scheme (scheme_in bytes) t ≡ false
mixing_never bytes out {number} w e =
    ⊎_elim (λ early. absurd (⊎_elim (λ l. omega (arith, early)) (λ other. omega (arith, early)) (read_number bytes)))
    (λ late. by (cause_either (mixing_number s) (buffer_cause 1 out) late.1))
    (cause_either (read_cause bytes) (or_else (mixing_number s) (buffer_cause 1 out)) (sym w.answer ∙ e))
  where
    s : Scheme
    s = scheme_in bytes

    no_buffer : Dec (length out ≡ 1) → buffer_cause 1 out ≡ 16 → ⊥
    no_buffer (yes fits) b = omega (arith, b, buffer_fits 1 out fits)
    no_buffer (no other) b = omega (arith, b, buffer_out 1 out other)

    by : (mixing_number s ≡ 16) ⊎ ((mixing_number s ≡ 0) × (buffer_cause 1 out ≡ 16)) → (t : ℕ) → 1 ≤ t → mixes_scheme s t ≡ false
    by (inl none) = never_mixes s none
    by (inr (z, b)) = absurd (no_buffer (ℕ_discrete (length out) 1) b)
