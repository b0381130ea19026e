-- `joguyvi_poisson` meets its contract: the bands' cause or the buffers', or the bands with their promise.
-- Assumes nothing.
use Rattle.std.proofs.Common.{true, false, ◌≡◌, ℕ, List, ap, sym, subst, ◌∙◌}
use Rattle.setchain.specs.Sums.{at}
use Rattle.scheme.specs.Access.{BAND_PLACES}
use Rattle.scheme.specs.FirstCause.{or_else}
use Rattle.scheme.proofs.Laws.FirstCause.{answered, first_none}
use Rattle.poisson_spec.specs.Answer.{BandsAnswer, bands_answer, BandsPromise}
use Rattle.poisson_spec.specs.Series.{Bounds}
use Rattle.joguyvi_spec.specs.Buffers.{buffers_cause, filled_where}
use Rattle.joguyvi_spec.specs.Poisson.{poisson_number, PoissonCall, PutBandsPost}
use Rattle.joguyvi_poisson.proofs.joguyvi_poisson.Goals as goal

module _ (first second columns : ℕ) (lower upper : List ℕ) {answer : BandsAnswer} {number : ℕ} {lower' upper' : List ℕ} (is : answer ≡ bands_answer first second columns)
    (kept : BandsPromise first second columns answer.number answer.lower answer.upper) (put : PutBandsPost answer lower upper number lower' upper') where
  told : number ≡ poisson_number first second columns lower upper
  unfolding bands_answer
  told = put.answer ∙ ap (λ a. or_else a.number (buffers_cause BAND_PLACES lower upper)) is

  none : number ≡ 0 → answer.number ≡ 0
  none z = first_none answer.number (buffers_cause BAND_PLACES lower upper) (sym put.answer ∙ z)

  call : PoissonCall first second columns lower upper number lower' upper'
  call =
      record {
        answer = told;
        lowers = put.filled ∙ ap (λ a. filled_where number a.lower lower) is;
        uppers = put.other_filled ∙ ap (λ a. filled_where number a.upper upper) is;
        promise =
            record {
              lowers = λ z f n k a b c d. subst (λ l. Bounds false f n k (at l k)) (sym (put.filled ∙ answered number answer.lower lower z)) (kept.lowers (none z) f n k a b c d);
              uppers = λ z f n k a b c d. subst (λ l. Bounds true f n k (at l k)) (sym (put.other_filled ∙ answered number answer.upper upper z)) (kept.uppers (none z) f n k a b c d);
            };
      }

pub returns : goal.returns
returns c =
    rw c.number_in.ensures
    (call c.args.first c.args.second c.args.columns c.args.lower.now c.args.upper.now c.bands.ensures.answer c.bands.ensures.promise c.put_bands.ensures)
