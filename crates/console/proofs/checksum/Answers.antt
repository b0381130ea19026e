-- `checksum` meets its contract: the bytes folded are the checksum's recursion.
-- Assumes nothing.
use Prim.Native.Nat.{ℕ}
use mathlib.Core.Path.{◌≡◌, refl, ◌∙◌}
use mathlib.Core.List.{List, [], ◌∷◌}
use Rattle.std.specs.Prelude.{fold}
use Rattle.std.proofs.Common.{rules}
use Rattle.console.specs.Checksum.{added, checksum_from}
use Rattle.console.proofs.checksum.Goals as goal

folded : (sum : ℕ) (bytes : List ℕ) → fold added sum bytes ≡ checksum_from sum bytes
unfolding checksum_from
folded sum [] = refl
folded sum (byte ∷ bytes) = folded (added sum byte) bytes

pub returns : goal.returns
returns c =
    let ran : c.fold.result ≡ fold added 0 c.args.text.now = search rules in
    ran ∙ folded 0 c.args.text.now
