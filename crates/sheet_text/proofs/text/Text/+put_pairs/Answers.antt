-- What a number needs of space, and what is put, by how many pairs of digits there may be: none, one digit, two, or the pairs before and two more.
use mathlib.Core.Path.{refl}
use Rattle.std.proofs.Common.{arith}
use Rattle.sheet_text.specs.Laws.Put.{digits_put_none, digits_put_one, digits_put_two, digits_put_more, digits_space, digits_space_one, digits_space_two, digits_space_more}
use Rattle.sheet_text.specs.Laws.Text.{wrote_as, wrote_both}
use Rattle.sheet_text.proofs.text.Text.+put_pairs.Goals as goal

pub returns-then-pairs-eq0 : goal.returns-then-pairs-eq0
returns-then-pairs-eq0 t c = record { same_slice = refl; put = digits_put_none _ _ c.if-pairs-eq0.true }

pub put_word-requires : goal.put_word-requires
put_word-requires t c = record { fits = omega (arith, digits_space_one _ _ (omega arith) (omega arith) c.requires) }

pub returns-then-x-lt10 : goal.returns-then-x-lt10
returns-then-x-lt10 t c =
    wrote_as (λ p. rw (p.holds, p.place) (digits_put_one _ _ (omega arith) (omega arith) c.digit.ensures)) c.put_word.ensures

pub put_two-requires : goal.put_two-requires
put_two-requires t c = (omega arith, record { fits = digits_space_two _ _ (omega arith) (omega arith) (omega arith) c.requires })

pub returns-then-x-lt100 : goal.returns-then-x-lt100
returns-then-x-lt100 t c = wrote_as (digits_put_two _ _ (omega arith) (omega arith) (omega arith)) c.put_two.ensures

pub put_pairs-requires : goal.put_pairs-requires
put_pairs-requires t c = (omega arith, digits_space _ _ (omega arith) (omega arith) c.requires)

pub put_two-requires-else-x-lt100 : goal.put_two-requires-else-x-lt100
put_two-requires-else-x-lt100 t c = (omega arith, record { fits = digits_space_more _ _ (omega arith) (omega arith) c.requires c.put_pairs.ensures.put })

pub returns-else-x-lt100 : goal.returns-else-x-lt100
returns-else-x-lt100 t c = wrote_both (digits_put_more _ _ (omega arith) (omega arith)) c.put_pairs.ensures c.put_two-else-x-lt100.ensures
