-- A scheme whose bands lie inside another's: its interval rows lie inside the other's, and the same calls are answered for both.
use Rattle.std.specs.Prelude.{ℕ, ◌-◌, ◌<◌}
use Rattle.std.proofs.Common.{ap, sym, ◌∙◌}
use Rattle.setchain.specs.Rows.{CoversChain}
use Rattle.setchain.specs.Cells.{BandsWithin}
use Rattle.setchain.proofs.Laws.Cells.{bands_cover}
use Rattle.scheme.specs.declared.Scheme.{Scheme}
use Rattle.scheme.specs.Accepted.{Accepted}
use Rattle.scheme.specs.Rows.{cells_of, chain_of}
use Rattle.scheme.specs.Values.{Trimmed}
use Rattle.scheme.proofs.Laws.Judged.{cause_accepted}
use Rattle.scheme.proofs.Laws.Values.{SameCause}

module _ {wide narrow : Scheme} (trimmed : Trimmed wide narrow) where
  cells_within : (i : ℕ) → i < wide.classes → BandsWithin (cells_of wide i) (cells_of narrow i)
  cells_within i l =
      record {
        count = trimmed.others.columns;
        targets = λ k g. ap (λ rule. rule - 1) (trimmed.others.rules i k l g);
        lowers = λ k g. trimmed.lowers i k l g;
        uppers = λ k g. trimmed.uppers i k l g;
      }

  pub trimmed_covers : CoversChain (chain_of wide) (chain_of narrow)
  trimmed_covers = record { states = trimmed.others.classes; rows = λ i l. bands_cover wide.classes (cells_within i l) }

  pub trimmed_cause : Accepted wide → Accepted narrow → SameCause wide narrow
  trimmed_cause okWide okNarrow =
      record { cause = cause_accepted wide okWide ∙ sym (cause_accepted narrow okNarrow); others = λ z. trimmed.others }
