-- That the kinds of the search give what the proofs rely on: signed below, arithmetic shift and sign extension as the format's page has them.
use Rattle.std.specs.Prelude.{◌≡◌, refl, cond, ℕ, ◌+◌, ◌-◌, ◌/◌, ◌^◌, ◌≤◌, ◌<◌}
use Rattle.std.proofs.Common.{ap, ◌∙◌, ⊎_elim, arith, lt-ltb, le-ltb}
use Rattle.words.specs.laws.Bits.{lt_or_ge}
use Rattle.operators.specs.Meaning.{flag, meaning, signed_shift, extended}
use Rattle.operators.specs.Table.{kind_of}
use Rattle.operators.specs.laws.Signed.{signed_order, ashr_low, ashr_high, extended_low, extended_high}
use Rattle.btor2.specs.Meaning.{is_minus, moved, flipped}
use Rattle.btor2.specs.inner.Values.{Gives, Kinds}

-- what the search evaluates a node of a kind to
abbrev pub search_gives : Gives
search_gives k w wa wb low x y z = meaning (kind_of k) w wa wb low x y z

shift_is : (w x y : ℕ) → 1 ≤ w → x < 2 ^ w → signed_shift w x y ≡ cond (is_minus w x) (flipped w (flipped w x / 2 ^ y)) (x / 2 ^ y)
unfolding is_minus
shift_is w x y l h =
    ⊎_elim (λ (g : x < 2 ^ (w - 1)). ashr_low w y g ∙ rw (lt-ltb x (2 ^ (w - 1)) g)) (λ (g : 2 ^ (w - 1) ≤ x). ashr_high w y l g h ∙ rw (le-ltb x (2 ^ (w - 1)) g))
    (lt_or_ge x (2 ^ (w - 1)))

extended_is : (w wa x : ℕ) → 1 ≤ wa → wa < w → x < 2 ^ wa → extended wa w x ≡ cond (is_minus wa x) (x + (2 ^ w - 2 ^ wa)) x
unfolding is_minus
extended_is w wa x l g h =
    ⊎_elim (λ (s : x < 2 ^ (wa - 1)). extended_low wa w s ∙ rw (lt-ltb x (2 ^ (wa - 1)) s))
    (λ (s : 2 ^ (wa - 1) ≤ x). extended_high wa w l (omega arith) s h ∙ rw (le-ltb x (2 ^ (wa - 1)) s)) (lt_or_ge x (2 ^ (wa - 1)))

pub search_kinds : Kinds search_gives
unfolding moved
search_kinds =
    record {
      known = λ k w wa wb low x y z h. refl;
      signed_below = λ w wa wb low x y z l hx hy. ap flag (signed_order wa x y l hx hy);
      arithmetic_right = λ w wa wb low x y z l h. shift_is w x y l h;
      sign_extension = λ w wa wb low x y z l g h. extended_is w wa x l g h;
    }
