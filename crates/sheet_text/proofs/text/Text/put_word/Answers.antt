-- `Text::put_word` meets its contract: the word stands from the place on, and all else is as it was.
use mathlib.Core.Path.{refl}
use borrow.Author.Rules.{rules}
use Rattle.std.proofs.lemmas.Slice.{overwrites}
use Rattle.std.proofs.lemmas.List.Edits.{sets-eq}
use Rattle.sheet_text.proofs.text.Text.put_word.Goals as goal

pub returns : goal.returns
returns c = record {
  same_slice = refl;
  put = record { holds = rw (sets-eq c.args.word.now c.args.self.now.out.now c.args.self.now.at c.requires.fits) (search (rules, overwrites)); place = refl };
}
