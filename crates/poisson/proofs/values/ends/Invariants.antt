-- `ends` meets its contract: column by column its value, and in the last what the other kind's values leave.
-- Assumes nothing.
use Rattle.poisson.proofs.ValuesLaws.{Run}
use Rattle.poisson.proofs.values.ends.Given as goal

abbrev pub invariant-loop-k : goal.invariant-loop-k
invariant-loop-k l = Run l.high l.claimed l.free l.columns l.out l.own l.other l.sum l.k
