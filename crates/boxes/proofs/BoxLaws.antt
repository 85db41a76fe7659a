-- Laws of boxes that only the proofs of this crate cite: the pick from a set, and boxes as code makes them.
use Rattle.std.specs.Prelude.{Option}
use mathlib.Core.Path.{◌≡◌, refl, sym, subst}
use mathlib.Core.Bool.{Bool, true, false}
use mathlib.Core.Logic.{◌⊎◌, inl, inr}
use Prim.Native.Nat.{ℕ, ◌≤◌, ◌<◌, zero-le}
use native.Mathlib.Nat.{le_of_eq}
use native.Mathlib.Omega.{arith}
use lib.Bits.{bit_and}
use lib.Dec.{T}
use Rattle.words.specs.laws.Bits.{lt_or_ge}
use Rattle.words.specs.Agree.{Agrees}
use Rattle.words.specs.laws.Agree.{lo_within, within_hi, within_trans}
use Rattle.words.specs.inner.Decides.{Decides}
use Rattle.words.specs.laws.Meet.{both_to, both_back}
use Rattle.words.specs.Pick.{Empty as NoMember, Least, Pick, above, around, Picked}
use Rattle.words.specs.laws.Pick.{picked_same}
use Rattle.boxes.specs.declared.Box.{Box}
use Rattle.boxes.specs.declared.Set.TheVariants.{Only, One}
use Rattle.boxes.specs.inner.Boxes.{In, met, Chosen}

-- ---- the pick from a set

-- a box whose ternary word has a bit fixed both ways is empty
pub no_word : (b : Box) → (bit_and b.lo b.hi ≡ b.lo → ⊥) → NoMember (In b)
no_word b f v m = f (within_trans (lo_within m.inside) (within_hi m.inside)).is

module _ (b : Box) (lo hi v : ℕ) where
  pub met_to : In (met b lo hi) v → Agrees lo hi v × In b v
  met_to m =
      let k = both_back lo hi b.lo b.hi v m.inside in
      (k.one, record { inside = k.other; after = m.after; upto = m.upto })

  pub met_back : Agrees lo hi v → In b v → In (met b lo hi) v
  met_back g m = record { inside = both_to lo hi b.lo b.hi v (record { one = g; other = m.inside }); after = m.after; upto = m.upto }

-- a box is picked from as one that is met with the pair
pub one_picked : (b : Box) (lo hi p : ℕ) (r : Option ℕ) → Picked (In (met b lo hi)) p r → Picked (Chosen (One b) lo hi) p r
one_picked b lo hi p r =
    picked_same (In (met b lo hi)) (Chosen (One b) lo hi) (λ v m. let k = met_to b lo hi v m in record { agrees = k.0; has = k.1 })
    (λ v m. met_back b lo hi v m.agrees m.has) p r

-- a single value that is there and agrees is the pick, on which side of the proposal it may lie
module _ (c : ℕ) (there : Bool) (lo hi : ℕ) where
  pub only_at : Agrees lo hi c → there ≡ true → (p : ℕ) → Pick (Chosen (Only c there) lo hi) p c
  only_at g e p = go (lt_or_ge c p)
    where
      first : (q : ℕ) → q ≤ c → Least (Chosen (Only c there) lo hi) q c
      first q h = record { member = record { agrees = g; has = (refl, e) }; from = h; least = λ u m _. le_of_eq (sym m.has.0) }

      go : (c < p) ⊎ (p ≤ c) → Pick (Chosen (Only c there) lo hi) p c
      go (inl l) = around (λ u m h. let d = m.has.0 in omega arith) (first 0 zero-le)
      go (inr h) = above (first p h)

-- ---- tests
pub decides_is : (a : Bool) → Decides (a ≡ true) a
decides_is true = refl
decides_is false = λ e. subst T (sym e) tt
