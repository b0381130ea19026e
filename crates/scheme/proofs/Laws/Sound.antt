-- An accepted scheme's interval rows are sound, so demand 3 holds of its chain.
use Rattle.std.specs.Prelude.{ℕ, ◌<◌}
use Rattle.std.proofs.Common.{arith}
use Rattle.setchain.specs.Rows.{SoundChain}
use Rattle.setchain.specs.Cells.{SoundCells}
use Rattle.setchain.proofs.Laws.Cells.{cells_sound}
use Rattle.scheme.specs.declared.Scheme.{Scheme}
use Rattle.scheme.specs.Accepted.{Accepted}
use Rattle.scheme.specs.Rows.{cells_of, chain_of}

module _ (s : Scheme) (ok : Accepted s) where
  pub accepted_cells : (i : ℕ) → i < s.classes → SoundCells s.classes (cells_of s i)
  accepted_cells i l =
      record {
        leads = λ k g. omega (arith, ok.rules.positive i k l g, ok.rules.within i k l g);
        ordered = λ k g. ok.bands.ordered i k l g;
        lowers = ok.sums.lowers i l;
        uppers = ok.sums.uppers i l;
      }

  pub accepted_sound : SoundChain (chain_of s)
  accepted_sound i l = cells_sound s.classes (cells_of s i) (accepted_cells i l)
