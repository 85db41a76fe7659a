-- Document 01, "A run": one step of a move, at one node.
use Rattle.std.specs.Prelude.{◌≡◌, ◌⊎◌, List, [], ℕ, ◌^◌, ◌/◌, ◌%◌, ◌<◌, length, get_or}
use Rattle.words.specs.Pick.{Pick, Empty}
use Rattle.picking.specs.declared.spot.Spot.{Spot}
use Rattle.picking.specs.Spot.{at, positions, Inverse, Consistent, Candidate}
use Rattle.evaluation.specs.Lists.{Lists}

-- what a step comes to: it goes to position i with the picked value v as the next target, or the move ends blocked
pub data Out : Type 0 where
  goes : ℕ → ℕ → Out
  blocked : Out

-- "If e is even and the inverse set has members, pick there with p; otherwise pick in the consistent set. Where the picking
-- finds nothing, the move ends blocked": at position i, the proposal taken modulo 2^w of the operand
pub data Follows (S : Spot) (t e p i : ℕ) : Out → Type 0 where
  inverse : {v : ℕ} → e % 2 ≡ 0 → Pick (Inverse S t i) (p % 2 ^ at S.widths i) v → Follows S t e p i (goes i v)
  consistent : {v : ℕ} → (e % 2 ≡ 1) ⊎ Empty (Inverse S t i) → Pick (Consistent S t i) (p % 2 ^ at S.widths i) v → Follows S t e p i (goes i v)
  nothing : (e % 2 ≡ 1) ⊎ Empty (Inverse S t i) → Empty (Consistent S t i) → Follows S t e p i blocked

-- "None left: the move ends blocked. Else the candidate numbered (e div 2) modulo their count, in order a, b, c, is followed."
pub data Step (S : Spot) (t e p : ℕ) (o : Out) : Type 0 where
  none_left : Lists (Candidate S t) (positions S) [] → o ≡ blocked → Step S t e p o
  followed : (l : List ℕ) → Lists (Candidate S t) (positions S) l → 0 < length l → Follows S t e p (get_or l (e / 2 % length l) 0) o → Step S t e p o
