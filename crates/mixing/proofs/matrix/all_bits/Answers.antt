-- `all_bits` meets its contract: 2 ^ n less 1.
use Prim.Native.Nat.{◌*◌, ◌%◌, ◌^◌}
use mathlib.Core.Path.{◌≡◌}
use native.Mathlib.Omega.{arith}
use Rattle.mixing.specs.Laws.Bits.{one_shifted, bits_all}
use Rattle.mixing.proofs.matrix.all_bits.Goals as goal

pub returns : goal.returns
returns c =
    let shifted : (1 * 2 ^ c.args.n) % 18446744073709551616 ≡ 2 ^ c.args.n = one_shifted c.args.n c.requires in
    omega (arith, shifted, bits_all c.args.n)
