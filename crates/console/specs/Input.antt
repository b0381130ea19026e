-- What reading leaves in a lent buffer, as far as a contract can tell: which bytes come from standard input is the operating system's.
use Rattle.std.specs.Prelude.{ℕ, ◌+◌, ◌-◌, ◌≤◌, ◌≡◌, List, length, take, drop, Result, Ok, Err}
use Rattle.console.specs.declared.ReadFailed.{ReadFailed}

-- A buffer into which `count` bytes were read behind the first `done`: they fit, and all others are as they were.
pub record ReadInto (done : ℕ) (before after : List ℕ) (count : ℕ) : Type 0 where
  pub size : length after ≡ length before
  pub within : count ≤ length before - done
  pub front : take done after ≡ take done before
  pub rest : drop (done + count) after ≡ drop (done + count) before

-- How many bytes of the input a buffer has, from its front on: all that came, or those that came before a read failed.
abbrev pub length_read : Result ℕ ReadFailed → ℕ
length_read (Ok length) = length
length_read (Err failed) = failed.length
