-- What an arm of a match on the kind knows of its operands, and what it gives.
use Rattle.std.specs.Prelude.{◌≡◌, ℕ, zero, suc, ◌+◌, ◌-◌, ◌^◌, ◌<◌, ◌≤◌, Bool, true, false, ◌||◌, T, ◌≢◌, nat_lt, refl}
use Rattle.std.proofs.Common.{lt_of_lt_of_le, arith, pow_mono}
use mir.Val.{bool_byte}
use Rattle.words.specs.laws.Cases.{every}
use Rattle.operators.specs.Meaning.{flag, choose}
use Rattle.operators.specs.Table.{kind_count}
use Rattle.operators.specs.laws.Table.{Without, keyed, singles, left_over}

pub flagged : (t : Bool) → bool_byte t ≡ flag t
flagged true = refl
flagged false = refl

pub chosen : (x y z : ℕ) → (x ≢ 0) → y ≡ choose x y z
chosen zero y z h = absurd (h refl)
chosen (suc x) y z h = refl

-- the second operand of a concat has the width that the first leaves
pub rest : (w wa wb : ℕ) → wa + wb ≡ w → w - wa ≡ wb
rest w wa wb e = omega arith

-- what joining and taking a part ask, from the width rule
pub join_asks : (w wa wb x y : ℕ) → w ≤ 64 → (wa + wb ≡ w) × (1 ≤ wa) × (x < 2 ^ wa) × (y < 2 ^ wb) → (wb < 64) × (y < 2 ^ wb) × (x < 2 ^ (64 - wb))
join_asks w wa wb x y h f = (omega (arith, f.0, f.1), f.3, lt_of_lt_of_le f.2 (pow_mono (omega (arith, f.0))))

pub part_asks : (w wa low x : ℕ) → 1 ≤ w → (low + w ≤ wa) × (wa ≤ 64) × (x < 2 ^ wa) → low < 64
part_asks w wa low x h f = omega (arith, f.0, f.1)

-- no kind from m on is left beside those that have an arm of their own
pub none_left : (m n : ℕ) → m ≤ n → n < kind_count → T (every kind_count (λ x. nat_lt x m || (keyed (singles m (kind_count - m)) x || false))) → Without (singles m (kind_count - m)) n → ⊥
none_left m n l k t w = left_over m kind_count (singles m (kind_count - m)) (λ x. false) t n l k w
