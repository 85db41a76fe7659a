-- Add and mul: what solves their equations.
use Rattle.std.proofs.Common.{◌≡◌, ℕ, ◌+◌, ◌-◌, ◌*◌, ◌/◌, ◌%◌, ◌^◌, ◌<◌, sym, ap, ◌∙◌, lt_of_lt_of_le, mod-eq_of_lt, mul_comm, add_comm, add-one, pow_pos, pow_mono}
use native.Mathlib.Nat.{mod-mod}
use Rattle.words.specs.Agree.{Agrees}
use Rattle.words.specs.laws.Agree.{within_refl, agrees_of_within}
use Rattle.words.specs.inner.Words.{WordInverse, Tail}
use Rattle.words.specs.laws.Modular.{same_sub, same_add, same_fewer}
use Rattle.words.specs.laws.Mul.{MulInverse, mul_to, mul_back, mul_none}
use Rattle.words.specs.laws.Consist.{reach_some, some_reach}
use Rattle.boxes.specs.declared.Set.{Set}
use Rattle.boxes.specs.declared.Set.TheVariants.{Empty, Many}
use Rattle.boxes.specs.declared.unions.Union.TheVariants.{Low}
use Rattle.boxes.specs.inner.Boxes.{Solves, SomeWord}
use Rattle.picking.specs.inner.Asks.{Sized}
use Rattle.boxes.specs.laws.Solves.{solves_by, solves_none}

-- ---- sums and products do not mind the order
pub sum_comm : (w x y : ℕ) → (x + y) % 2 ^ w ≡ (y + x) % 2 ^ w
sum_comm w x y = ap (λ (n : ℕ). n % 2 ^ w) (add_comm x y)

pub product_comm : (w x y : ℕ) → (x * y) % 2 ^ w ≡ (y * x) % 2 ^ w
product_comm w x y = ap (λ (n : ℕ). n % 2 ^ w) (mul_comm x y)

-- ---- add: the difference, cut
pub add_by : {w t c : ℕ} {r : Set} (s d : ℕ) → Sized w t → (d + s) % 2 ^ 64 ≡ t → c ≡ d % 2 ^ w → Solves 64 (λ v. v ≡ c) r → Solves w (λ v. (v + s) % 2 ^ w ≡ t) r
add_by {w} {t} s d z ed ec m =
    solves_by z.wide m
    (λ v l e. ap (λ (n : ℕ). (n + s) % 2 ^ w) (e ∙ ec) ∙ same_add (2 ^ w) s (d % 2 ^ w) d (mod-mod d (2 ^ w)) ∙ sum)
    (λ v l e. sym (mod-eq_of_lt l) ∙ same_sub (2 ^ w) s v d (pow_pos w) (e ∙ sym sum) ∙ sym ec)
  where
    sum : (d + s) % 2 ^ w ≡ t
    sum = same_fewer (d + s) t z.wide (ed ∙ sym (mod-eq_of_lt (lt_of_lt_of_le z.fits (pow_mono z.wide)))) ∙ mod-eq_of_lt z.fits

-- ---- mul

itself : (v : ℕ) → Agrees v v v
itself v = agrees_of_within (within_refl v) (within_refl v)

module _ {w s t k : ℕ} (z : Sized w t) (hs : s < 2 ^ w) (tail : Tail 64 s k) where
  member : (v : ℕ) → v * s % 2 ^ w ≡ t → MulInverse w s t v v v
  member v e = record { agrees = itself v; gives = e }

  -- by 2^k times an odd number: t has to be a multiple of 2^k
  pub mul_no : {c : ℕ} → c ≡ t % 2 ^ k → (c ≡ 0 → ⊥) → (v : ℕ) → v * s % 2 ^ w ≡ t → ⊥
  mul_no {c} e f v m = mul_none w s t v v k c hs tail e f v (member v m)

  pub mul_nothing : {c : ℕ} → c ≡ t % 2 ^ k → (c ≡ 0 → ⊥) → Solves w (λ v. v * s % 2 ^ w ≡ t) Empty
  mul_nothing e f = solves_none (λ v l m. mul_no e f v m)

  -- and then the low bits are settled
  pub mul_by : {i y n c : ℕ} {r : Set} → WordInverse 64 (s / 2 ^ k) i → y ≡ t / 2 ^ k * i % 2 ^ 64 → n ≡ t % 2 ^ k → n ≡ 0 → c ≡ y % 2 ^ (w - k)
      → Solves 64 (λ v. v % 2 ^ (w - k) ≡ c) r → Solves w (λ v. v * s % 2 ^ w ≡ t) r
  mul_by {i} {y} {n} {c} inv ey en en0 ec m =
      solves_by z.wide m
      (λ v l e. (mul_back w s t v v k i y z.wide z.fits hs tail inv.inverse ey n en en0 c ec v (record { agrees = itself v; ends = e })).gives)
      (λ v l e. (mul_to w s t v v k i y z.wide z.fits hs tail inv.inverse ey c ec v (member v e)).ends)

-- ---- some factor

pub some_mul : {w t k : ℕ} → Sized w t → Tail 64 t k → Solves w (λ v. SomeWord w (λ s. v * s % 2 ^ w ≡ t)) (Many (Low (k + 1)))
some_mul {w} {t} {k} z tail = rw (add-one k) record {
  fine = tail.short;
  to = λ v l m. let r = some_reach w 64 t k z.fits tail v l m in record { by = r.by; fits = r.fits; gives = r.gives };
  back = λ v l m. reach_some w 64 t k z.fits tail v (record { by = m.by; fits = m.fits; gives = m.gives });
}
