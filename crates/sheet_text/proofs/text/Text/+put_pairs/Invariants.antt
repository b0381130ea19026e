-- `put_pairs` calls itself with one pair of digits less.
use Rattle.sheet_text.proofs.text.Text.+put_pairs.Given as goal

abbrev pub decreases-put_pairs : goal.decreases-put_pairs
decreases-put_pairs l = l.pairs
