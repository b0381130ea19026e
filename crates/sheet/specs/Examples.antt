-- What the core may not leave: a text of another length, and the sheet of a cut input.
use Rattle.std.specs.Prelude.{ℕ, zero, suc, ◌≡◌, refl, List, [], ◌∷◌, get_or}
use Rattle.std.proofs.Common.{ap, arith}
use Rattle.big_endian_spec.specs.Numbers.{Bytes, be_at}
use Rattle.record_spec.specs.Layout.{layout_of}
use Rattle.record_spec.specs.Read.{frame_cause}
use Rattle.sheet_spec.specs.Text.{digits_within}
use Rattle.sheet_spec.specs.Sheet.{refused_line, sheet_text}
use Rattle.sheet.specs.Program.{ComposePost}

-- Seven bytes with a right length field and no class: cause 3.
abbrev seven : List ℕ
seven = 1 ∷ 0 ∷ 7 ∷ 0 ∷ 0 ∷ 0 ∷ 0 ∷ []

seven_bytes : Bytes seven
seven_bytes zero = omega arith
seven_bytes (suc zero) = omega arith
seven_bytes (suc (suc zero)) = omega arith
seven_bytes (suc (suc (suc zero))) = omega arith
seven_bytes (suc (suc (suc (suc zero)))) = omega arith
seven_bytes (suc (suc (suc (suc (suc zero))))) = omega arith
seven_bytes (suc (suc (suc (suc (suc (suc zero)))))) = omega arith
seven_bytes (suc (suc (suc (suc (suc (suc (suc k))))))) = omega arith

-- Of an input that begins with byte 1, in a buffer of one byte: REFUSED 2 is the sheet of that byte and not of these seven.
pub record Forbidden : Type 0 where
  pub cut : ComposePost (1 ∷ []) 1 (refused_line 2) 10 → ⊥
  pub nothing : ComposePost (1 ∷ []) 1 (refused_line 2) 0 → ⊥
  pub past : ComposePost (1 ∷ []) 1 (refused_line 2) 11 → ⊥

pub forbidden : Forbidden
unfolding sheet_text refused_line digits_within layout_of frame_cause be_at
forbidden =
    record {
      cut = λ h. let e : ◌≡◌ {A = ℕ} 50 51 = ap (λ l. get_or l 8 0) (h.whole seven seven_bytes refl) in omega arith;
      nothing = λ h. let e : ◌≡◌ {A = ℕ} 0 82 = ap (λ l. get_or l 0 0) h.text in omega arith;
      past = λ h. omega (arith, h.within);
    }
