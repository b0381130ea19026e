-- Texts and records put into a lent buffer, with their length in a buffer of 1 number, by cases.
-- Assumes nothing.
use Rattle.std.specs.Prelude.{ℕ, ◌≡◌, List, [], ◌∷◌, length, set}
use Rattle.std.proofs.Common.{ap, sym, ◌∙◌, subst}
use Rattle.std.proofs.Math.Decide.{ℕ_discrete}
use Rattle.scheme.specs.FirstCause.{or_else}
use Rattle.joguyvi_spec.specs.Buffers.{buffer_cause, BuffersPost}
use Rattle.joguyvi_spec.proofs.Laws.Buffers.{buffer_out, buffer_fits, thirteen, unfilled, one}
use Rattle.scheme.proofs.Laws.FirstCause.{cause_first, cause_second}

-- What is answered and left for a text of length v with the cause n, where `out` is then to hold `full`.
abbrev pub TextPost : (n v : ℕ) (full out size : List ℕ) (number : ℕ) (out' size' : List ℕ) → Type 0
TextPost n v full out size = BuffersPost (or_else n (buffer_cause 1 size)) full (v ∷ []) out size

thirteen_whole : (n : ℕ) (size : List ℕ) → ((n ≡ 0 → ⊥) → n ≡ 13) → buffer_cause 1 size ≡ 13 → Dec (n ≡ 0) → 13 ≡ or_else n (buffer_cause 1 size)
thirteen_whole n size only e (yes z) = cause_second z (sym e)
thirteen_whole n size only e (no h) = cause_first (buffer_cause 1 size) (sym (only h)) thirteen

-- A cause that is 13 where it is not 0, and `out` is then left as it was.
module _ {n v : ℕ} {full out size : List ℕ} (only : (n ≡ 0 → ⊥) → n ≡ 13) (left : (n ≡ 0 → ⊥) → full ≡ out) where
  pub text_out : (length size ≡ 1 → ⊥) → TextPost n v full out size 13 out size
  text_out wrong =
      record {
        answer = thirteen_whole n size only (buffer_out 1 size wrong) (ℕ_discrete n 0);
        filled = unfilled full out thirteen;
        other_filled = unfilled (v ∷ []) size thirteen;
      }

  -- The same where the number is that of the buffer's test.
  pub text_slice : {m : ℕ} → m ≡ buffer_cause 1 size → (m ≡ 0 → ⊥) → TextPost n v full out size m out size
  text_slice {m} e some = by (ℕ_discrete (length size) 1)
    where
      by : Dec (length size ≡ 1) → TextPost n v full out size m out size
      by (yes z) = absurd (some (e ∙ buffer_fits 1 size z))
      by (no h) = subst (λ k. TextPost n v full out size k out size) (sym (e ∙ buffer_out 1 size h)) (text_out h)

  pub text_declined : {m : ℕ} {out' : List ℕ} → m ≡ n → (m ≡ 0 → ⊥) → out' ≡ full → TextPost n v full out size m out' size
  text_declined e some f =
      record {
        answer = cause_first (buffer_cause 1 size) e some;
        filled = f ∙ left (λ z. some (e ∙ z)) ∙ unfilled full out some;
        other_filled = unfilled (v ∷ []) size some;
      }

  pub text_written : {m w : ℕ} {out' : List ℕ} → m ≡ n → m ≡ 0 → length size ≡ 1 → w ≡ v → out' ≡ full → TextPost n v full out size 0 out' (set size 0 w)
  text_written e none fits g f =
      record {
        answer = cause_second (sym e ∙ none) (sym (buffer_fits 1 size fits));
        filled = f;
        other_filled = ap (set size 0) g ∙ one size v fits;
      }
