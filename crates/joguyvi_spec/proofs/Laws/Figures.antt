-- Low and high in a lent buffer keep what the answers promise.
-- Assumes nothing.
use Rattle.std.specs.Prelude.{ℕ, ◌≡◌, List}
use Rattle.std.proofs.Common.{sym, ◌∙◌}
use Rattle.scheme.specs.declared.Scheme.{Scheme}
use Rattle.scheme.proofs.Laws.FirstCause.{answered, first_none, second_none}
use Rattle.record_spec.specs.Layout.{scheme_in}
use Rattle.record_spec.specs.Read.{read_cause}
use Rattle.bounds_spec.specs.Answers.{BoundsAnswer, number_of, low_of, high_of, share_answer, mean_answer, total_answer}
use Rattle.bounds_spec.specs.Reached.{reached_answer}
use Rattle.bounds_spec.proofs.Laws.Kept.{share_kept, mean_kept, total_kept}
use Rattle.bounds_spec.proofs.Laws.Reached.{reached_kept}
use Rattle.joguyvi_spec.specs.Buffers.{buffer_cause, BufferPost}
use Rattle.joguyvi_spec.specs.Figures.{put_number, low_and_high, bounds_number, BoundsCall, ShareCall, ReachedCall, MeanCall, TotalCall}

-- What is answered and left for low and high of a record: the cause of reading comes first.
abbrev pub RecordBoundsPost : (query : Scheme → BoundsAnswer) (bytes out : List ℕ) (number : ℕ) (out' : List ℕ) → Type 0
RecordBoundsPost query bytes out = BufferPost (bounds_number bytes (query (scheme_in bytes)) out) (low_and_high (query (scheme_in bytes))) out

-- What low and high promise where they are answered.
abbrev pub BoundsPromise : (kept : (low high : ℕ) → Type 0) → BoundsAnswer → Type 0
BoundsPromise kept b = number_of b ≡ 0 → kept (low_of b) (high_of b)

-- The buffer keeps it where the number is 0.
pub bounds_call : {query : Scheme → BoundsAnswer} {kept : Scheme → (low high : ℕ) → Type 0} (bytes out : List ℕ) {number : ℕ} {out' : List ℕ}
    → BoundsPromise (kept (scheme_in bytes)) (query (scheme_in bytes)) → RecordBoundsPost query bytes out number out'
    → BoundsCall query kept bytes out number out'
unfolding put_number
bounds_call {query} bytes out {number} {out'} promise put =
    let b = query (scheme_in bytes) in
    record {
      answer = put.answer;
      figures = put.filled;
      promise = λ z.
          let none : put_number b out ≡ 0 = second_none (read_cause bytes) (put_number b out) (sym put.answer ∙ z) in
          let full : out' ≡ low_and_high b = put.filled ∙ answered number (low_and_high b) out z in
          rw full (promise (first_none (number_of b) (buffer_cause 2 out) none));
    }

-- The share of a class, the chance of having reached it, the mean premium of a year, and the total.
module _ (bytes : List ℕ) (year : ℕ) (out : List ℕ) {number : ℕ} {out' : List ℕ} where
  pub share_call : (class : ℕ) → RecordBoundsPost (λ s. share_answer s class year) bytes out number out' → ShareCall bytes class year out number out'
  share_call class = bounds_call bytes out (share_kept (scheme_in bytes) class year)

  pub reached_call : (class : ℕ) → RecordBoundsPost (λ s. reached_answer s class year) bytes out number out' → ReachedCall bytes class year out number out'
  reached_call class = bounds_call bytes out (reached_kept (scheme_in bytes) class year)

  pub mean_call : RecordBoundsPost (λ s. mean_answer s year) bytes out number out' → MeanCall bytes year out number out'
  mean_call = bounds_call bytes out (mean_kept (scheme_in bytes) year)

  pub total_call : RecordBoundsPost (λ s. total_answer s year) bytes out number out' → TotalCall bytes year out number out'
  total_call = bounds_call bytes out (total_kept (scheme_in bytes) year)
