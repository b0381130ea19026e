-- `years` calls itself for the year before.
use Rattle.bounds.proofs.years.+years.Given as goal

abbrev pub decreases-years : goal.decreases-years
decreases-years l = l.t
