-- Texts put one after another into the same slice.
use Rattle.std.specs.Prelude.{ℕ, ◌+◌, refl, List, ◌++◌}
use Rattle.std.proofs.Common.{◌∙◌}
use Rattle.record_spec.specs.Joined.{joined}
use Rattle.sheet_text.specs.declared.text.Text.{Text}
use Rattle.sheet_text.specs.Put.{Put}
use Rattle.sheet_text.specs.Text.{Fits, Wrote}
use Rattle.sheet_text.specs.Laws.Put.{put_then, space_next, joined_none, joined_more}

-- What a law says of one text put, or of two, it says of the same written.
pub wrote_as : {a b : Text} {x y : List ℕ} → (Put a.out.now a.at x b.out.now b.at → Put a.out.now a.at y b.out.now b.at) → Wrote a x b → Wrote a y b
wrote_as law w = record { same_slice = w.same_slice; put = law w.put }

pub wrote_both : {a b c : Text} {x y z : List ℕ}
    → (Put a.out.now a.at x b.out.now b.at → Put b.out.now b.at y c.out.now c.at → Put a.out.now a.at z c.out.now c.at) → Wrote a x b → Wrote b y c → Wrote a z c
wrote_both law w v = record { same_slice = v.same_slice ∙ w.same_slice; put = law w.put v.put }

-- One text and then the next.
pub wrote_then : {a b c : Text} {x y : List ℕ} → Wrote a x b → Wrote b y c → Wrote a (x ++ y) c
wrote_then w v = wrote_both put_then w v

-- Space for the second of two texts, after the first.
pub fits_next : {a b : Text} {x y : List ℕ} → Wrote a x b → Fits a (x ++ y) → Fits b y
fits_next w f = space_next w.put f

-- Lists one after another: none, and one more.
pub wrote_none : (f : ℕ → List ℕ) (a : Text) → Wrote a (joined 0 f) a
wrote_none f a = record { same_slice = refl; put = joined_none f a.out.now a.at }

pub wrote_more : {a b c : Text} (f : ℕ → List ℕ) (i : ℕ) → Wrote a (joined i f) b → Wrote b (f i) c → Wrote a (joined (i + 1) f) c
wrote_more f i w v = wrote_both (joined_more f i) w v
