-- The contract of `wal_btor2` determines its number and every lent place; 255 is told exactly where `out` is too short; and of a text of fewer
-- than 2^56 bytes every line is told as it is.
use Rattle.std.specs.Prelude.{◌≡◌, refl, ◌↔◌, List, ℕ, ◌-◌, ◌^◌, ◌<◌, min, length, set}
use Rattle.std.proofs.Common.{ap, arith}
use Rattle.btor2.specs.Answer.{Converted, Converts, number_of, line_of, length_of}
use Rattle.btor2.specs.promises.Determined.{convert_determined}
use Rattle.btor2.specs.promises.Numbers.{convert_numbered}
use Rattle.search.specs.Answers.{refusal_code}
use Rattle.walumpeh.specs.Codes.{last_place, converted_code, too_short}
use Rattle.walumpeh.specs.Conversions.{ConversionCode, ConversionCode.no_room, ConversionCode.told}

pub wal_btor2_determined :
    (text bytes out : List ℕ) {b b' o o' : List ℕ} {r r' : ℕ}
    → ConversionCode text bytes out b o r
    → ConversionCode text bytes out b' o' r'
    → (b ≡ b') × (o ≡ o') × (r ≡ r')
wal_btor2_determined text bytes out (no_room h) (no_room h') = (refl, refl, refl)
wal_btor2_determined text bytes out (no_room h) (told h' c) = absurd (omega arith)
wal_btor2_determined text bytes out (told h c) (no_room h') = absurd (omega arith)
wal_btor2_determined text bytes out (told h c) (told h' c') =
    let d = convert_determined text bytes _ _ _ _ c c' in
    (d.1, ap (λ (x : Converted). set out 0 (length_of x)) d.0, ap converted_code d.0)

pub conversion_short_told : {text bytes out b o : List ℕ} {r : ℕ} → ConversionCode text bytes out b o r → (r ≡ too_short) ↔ (length out < 1)
conversion_short_told (no_room h) = (λ e. h, λ l. refl)
conversion_short_told {text} {bytes} (told h c) = let n = (convert_numbered text bytes _ c).most in (λ e. absurd (omega arith), λ l. absurd (omega arith))

short : (p : ℕ) → p < 2 ^ 56 → min p last_place ≡ p
short p h = omega arith

pub line_told :
    (text bytes after : List ℕ) {r : Converted}
    → Converts text bytes after r
    → length text < 2 ^ 56 - 1
    → converted_code r ≡ refusal_code (number_of r) (line_of r)
line_told text bytes after {r} c h =
    let p = (convert_numbered text bytes after c).at_line in
    ap (refusal_code (number_of r)) (short (line_of r) (omega arith))
