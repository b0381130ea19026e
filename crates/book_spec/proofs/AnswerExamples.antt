-- Worked cases of what joining answers, as the code's Result says it.
use Rattle.std.specs.Prelude.{◌≡◌, refl, replicate, Ok, Err}
use Rattle.scheme.specs.declared.Cause.TheVariants.{Count}
use Rattle.book_spec.specs.Book.{join_answer_of}

-- A joined book stands beside 0, and counts of 0 beside a cause.
joined : join_answer_of (Ok (replicate 32 3)) ≡ record { number = 0; book = replicate 32 3 }
joined = refl

not_joined : join_answer_of (Err Count) ≡ record { number = 18; book = replicate 32 0 }
not_joined = refl
