-- The bytes of simple symbols, as ranges.
use Rattle.std.specs.Prelude.{◌≡◌, refl, Bool, true, false, not, ◌&&◌, ◌||◌, ℕ, zero, suc, ◌<◌, leb, eqb}
use Rattle.std.proofs.Common.{sym, arith, not-suc-le-zero}
use Rattle.std.proofs.lemmas.Bool.{false≢true}
use Rattle.std.proofs.Math.Decide.{ℕ_discrete}
use Rattle.texts.specs.Runs.{ascii, is_lower, is_one_of, is_symbol_byte}
use Rattle.texts.specs.laws.Runs.{both_true}

abbrev same_bool : Bool → Bool → Bool
same_bool true b = b
same_bool false b = not b

-- two tests give the same of every number below n
unfoldable alike : (ℕ → Bool) → (ℕ → Bool) → ℕ → Bool
alike f g zero = true
alike f g (suc n) = alike f g n && same_bool (f n) (g n)

same_is : (a b : Bool) → same_bool a b ≡ true → a ≡ b
same_is true b h = sym h
same_is false true h = absurd (false≢true h)
same_is false false h = refl

alike_at : (f g : ℕ → Bool) (n b : ℕ) → alike f g n ≡ true → b < n → f b ≡ g b
unfolding alike
alike_at f g zero b h l = absurd (not-suc-le-zero l)
alike_at f g (suc n) b h l =
    let e = both_true (alike f g n) (same_bool (f n) (g n)) h in
    elim (ℕ_discrete b n) [
      | yes q ↦ rw q (same_is (f n) (g n) e.1)
      | no q ↦ alike_at f g n b e.0 (omega arith)
    ]

abbrev pub ranges : ℕ → Bool
ranges b =
    eqb b 33
    || leb 36 b && leb b 38
    || eqb b 42
    || eqb b 43
    || leb 45 b && leb b 57
    || leb 60 b && leb b 90
    || eqb b 94
    || eqb b 95
    || leb 97 b && leb b 122
    || eqb b 126

ranges_alike : alike ranges is_symbol_byte 256 ≡ true
unfolding alike is_symbol_byte is_one_of ascii is_lower
ranges_alike = refl

pub symbol_ranges : (b : ℕ) → b < 256 → ranges b ≡ is_symbol_byte b
symbol_ranges b h = alike_at ranges is_symbol_byte 256 b ranges_alike h
