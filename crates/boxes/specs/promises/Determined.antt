-- The contract of each public function determines its result: any two results that it allows are equal.
use Rattle.std.specs.Prelude.{◌≡◌, Bool, ℕ, Option}
use Rattle.std.proofs.Common.{sym, ◌∙◌}
use Rattle.words.specs.Pick.{Picked}
use Rattle.words.specs.laws.Pick.{picked_unique}
use Rattle.boxes.specs.declared.Box.{Box}
use Rattle.boxes.specs.declared.Set.{Set}
use Rattle.boxes.specs.declared.Set.TheVariants.{Only}
use Rattle.boxes.specs.inner.Boxes.{span, word, low_are, shifted_to, mirrored, Chosen}

-- where the contract is an equation
equal : {A : Type 0} {v r s : A} → r ≡ v → s ≡ v → r ≡ s
equal p q = p ∙ sym q

-- ---- boxes
pub between_determined : (a b : ℕ) (r s : Box) → r ≡ span a b → s ≡ span a b → r ≡ s
between_determined a b r s = equal

pub ternary_determined : (lo hi : ℕ) (r s : Box) → r ≡ word lo hi → s ≡ word lo hi → r ≡ s
ternary_determined lo hi r s = equal

pub low_are_determined : (n c : ℕ) (r s : Box) → r ≡ low_are n c → s ≡ low_are n c → r ≡ s
low_are_determined n c r s = equal

pub shifted_determined : (t j : ℕ) (r s : Box) → r ≡ shifted_to t j → s ≡ shifted_to t j → r ≡ s
shifted_determined t j r s = equal

pub mirror_determined : (b : Box) (w : ℕ) (r s : Box) → r ≡ mirrored w b → s ≡ mirrored w b → r ≡ s
mirror_determined b w r s = equal

-- ---- picks
pub pick_only_determined : (c : ℕ) (there : Bool) (lo hi : ℕ) (r s : Option ℕ) → ((p : ℕ) → Picked (Chosen (Only c there) lo hi) p r) → ((p : ℕ) → Picked (Chosen (Only c there) lo hi) p s) → r ≡ s
pick_only_determined c there lo hi r s f g = picked_unique (Chosen (Only c there) lo hi) 0 r s (f 0) (g 0)

pub pick_in_determined : (S : Set) (lo hi p : ℕ) (r s : Option ℕ) → Picked (Chosen S lo hi) p r → Picked (Chosen S lo hi) p s → r ≡ s
pick_in_determined S lo hi = picked_unique (Chosen S lo hi)
