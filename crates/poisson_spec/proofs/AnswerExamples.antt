-- Worked cases of what asking for bands answers.
use Rattle.std.specs.Prelude.{◌≡◌, refl, replicate, Ok, Err}
use Rattle.scheme.specs.declared.Cause.TheVariants.{Frequency}
use Rattle.poisson_spec.specs.declared.Bands.{Bands}
use Rattle.poisson_spec.specs.Answer.{bands_answer_of}

-- Bands are answered with their ends, and a cause with its number and zeros.
abbrev bands : Bands
bands = record { lower = replicate 8 3; upper = replicate 8 5 }

pub bands_are : bands_answer_of (Ok bands) ≡ record { number = 0; lower = replicate 8 3; upper = replicate 8 5 }
bands_are = refl

pub no_bands : bands_answer_of (Err Frequency) ≡ record { number = 21; lower = replicate 8 0; upper = replicate 8 0 }
no_bands = refl
