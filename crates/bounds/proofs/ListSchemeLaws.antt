-- The lists of a scheme's entries: from its stored parts to its chain.
-- Assumes nothing.
use Prim.Native.Nat.{ℕ, ◌+◌, ◌<◌}
use mathlib.Core.Path.{◌≡◌, ◌∙◌}
use mathlib.Core.List.{List}
use native.Mathlib.Omega.{arith}
use lib.ListN.{length, replicate, length-replicate, get_or-replicate}
use Rattle.scheme.specs.Access.{CELL_PLACES, cell_count}
use Rattle.setchain.specs.Rows.{IntervalRow, SetChain}
use Rattle.scheme.specs.declared.Scheme.{Scheme}
use Rattle.scheme.specs.Accepted.{Accepted}
use Rattle.scheme.specs.Rows.{chain_of}
use Rattle.scheme.proofs.Laws.Sound.{accepted_sound}
use Rattle.bounds.specs.Entries.{counts, rules_chain, EmptyLists, ListRowsPre, ListRowsPost}
use Rattle.rows.specs.Laws.SumByTarget.{lower_is, upper_is}
use Rattle.setchain.proofs.Laws.Agreeing.{Agree, agree_sym, sound_agrees}

-- Arrays of zeros hold lists with no entry.
pub lists_empty : EmptyLists (replicate 3104 0) (replicate 32 0)
lists_empty =
    record {
      size = length-replicate {A = ℕ} 3104 0;
      slack_size = length-replicate {A = ℕ} 32 0;
      rows = λ e l. get_or-replicate 3104 e 0 0 (omega arith);
      none = λ j l. get_or-replicate 3104 (counts + j) 0 0 (omega arith);
    }

-- From a scheme's parts to its chain.
module _ (s : Scheme) (accepted : Accepted s) (rulesStored : length s.rules ≡ CELL_PLACES) where
  abbrev parts : SetChain
  parts = rules_chain s.classes (cell_count s) s.rules s.lowers s.uppers

  agree : (i : ℕ) → i < s.classes → Agree s.classes (parts.row i) ((chain_of s).row i)
  agree i l = record { lower = λ j g. lower_is s accepted i l j; upper = λ j g. upper_is s accepted i l j }

  pub scheme_lists : {entries slack : List ℕ} → EmptyLists entries slack → ListRowsPre s.classes (cell_count s) s.rules s.lowers s.uppers entries slack
  scheme_lists empty =
      record {
        positive = accepted.size.some_class;
        states = accepted.size.classes;
        cells = accepted.size.columns;
        stored = omega (arith, accepted.size.classes);
        sound = λ i l. sound_agrees (agree_sym (agree i l)) (accepted_sound s accepted i l);
        empty = empty;
      }

  pub scheme_listed : {entries slack : List ℕ} → ListRowsPost parts entries slack → ListRowsPost (chain_of s) entries slack
  scheme_listed w = record { lists = w.lists; agrees = λ i l. agree_trans (w.agrees i l) (agree i l) }
    where
      agree_trans : {n : ℕ} {r q p : IntervalRow} → Agree n r q → Agree n q p → Agree n r p
      agree_trans a b = record { lower = λ j h. a.lower j h ∙ b.lower j h; upper = λ j h. a.upper j h ∙ b.upper j h }
